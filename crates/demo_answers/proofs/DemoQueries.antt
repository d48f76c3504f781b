-- The demo's queries as they are bound.
use Rattle.std.specs.Prelude.{pos, negsuc, true, false, [], ◌∷◌, Some, None}
use Rattle.sql_bound.specs.Trees.{cond_of}
use Rattle.sql_bound.specs.declared.area.AreaTest.TheVariants.{Band}
use Rattle.sql_bound.specs.declared.cond.BoundPred.TheVariants as pred
use Rattle.sql_tree.specs.declared.cond.Cmp.TheVariants.{AtLeast}
use Rattle.sql_bound.specs.declared.query.Bound.{Bound}
use Rattle.sql_bound.specs.declared.query.BoundItem.TheVariants as item
use Rattle.sql_bound.specs.declared.query.BoundKey.TheVariants.{Column as ByColumn}
use Rattle.sql_bound.specs.declared.query.Shape.TheVariants.{Rows, Pairs}
use Rattle.value_rules.specs.Examples.{number}
use Rattle.answer_rules.specs.Examples.{column, first_col, second_col, grouped}
use Rattle.answer_rules.specs.Queries.{once}

-- SELECT COUNT(*),SUM(flux),AVG(flux),MIN(z),MAX(z) FROM Object
abbrev pub demo_totals : Bound
demo_totals =
    grouped [] (item.Count ∷ item.Sum (column (first_col 4)) ∷ item.Avg (column (first_col 4))
    ∷ item.Min (column (first_col 3)) ∷ item.Max (column (first_col 3)) ∷ []) []

-- SELECT kind,COUNT(*),MAX(flux) FROM Object WHERE z>=0 GROUP BY kind
abbrev pub demo_kinds : Bound
demo_kinds =
    grouped (first_col 5 ∷ [])
    (item.Plain (column (first_col 5)) ∷ item.Count ∷ item.Max (column (first_col 4)) ∷ [])
    (cond_of false (pred.Compare (column (first_col 3)) AtLeast (number 0)) ∷ [])

-- SELECT objectId,flux FROM Object WHERE area_band(-1000000,1000000) ORDER BY flux DESC LIMIT 5
abbrev pub demo_belt : Bound
demo_belt = record {
  shape = Rows;
  items = item.Plain (column (first_col 0)) ∷ item.Plain (column (first_col 4)) ∷ [];
  conds = cond_of false (pred.Area (Band (negsuc 999999) (pos 1000000))) ∷ [];
  areas = Band (negsuc 999999) (pos 1000000) ∷ [];
  ids = [];
  order = Some (record { key = ByColumn (first_col 4); down = true });
  limit = Some (pos 5);
}

-- SELECT a.objectId,b.objectId FROM Object a,Object b WHERE chord2(a,b)<=4294967296 AND a.objectId<b.objectId LIMIT 5
abbrev pub demo_pairs : Bound
demo_pairs = record {
  shape = Pairs (pos 4294967296);
  items = item.Plain (column (first_col 0)) ∷ item.Plain (column (second_col 0)) ∷ [];
  conds = once ∷ [];
  areas = [];
  ids = [];
  order = None;
  limit = Some (pos 5);
}
