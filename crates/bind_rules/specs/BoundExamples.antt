-- The bound queries of the texts of worked examples, over a schema of two extra columns.
use Rattle.std.specs.Prelude.{ℕ, pos, negsuc, true, false, List, [], ◌∷◌, Option, None, Some, Result, Ok, Err, codes}
use Rattle.sky_vector.specs.declared.position.Pos.{Pos}
use Rattle.sql_bound.specs.declared.area.AreaTest.TheVariants.{Band, Cap}
use Rattle.sql_bound.specs.declared.cond.BoundCond.{BoundCond, roll-BoundCond}
use Rattle.sql_bound.specs.declared.cond.BoundPred.{BoundPred}
use Rattle.sql_bound.specs.declared.cond.BoundPred.TheVariants as bound
use Rattle.sql_tree.specs.declared.cond.Cmp.TheVariants as op
use Rattle.sql_bound.specs.declared.expr.BoundAtom.TheVariants as batom
use Rattle.sql_bound.specs.declared.expr.BoundExpr.{BoundExpr, roll-BoundExpr}
use Rattle.sql_bound.specs.declared.expr.BoundFactor.{roll-BoundFactor}
use Rattle.sql_bound.specs.declared.expr.BoundProd.{roll-BoundProd}
use Rattle.sql_bound.specs.declared.query.Bound.{Bound}
use Rattle.sql_bound.specs.declared.query.BoundItem.TheVariants as item
use Rattle.sql_bound.specs.declared.query.BoundKey.TheVariants as bkey
use Rattle.sql_bound.specs.declared.query.Shape.TheVariants as shape
use Rattle.sql_tree.specs.declared.query.Query.{Query}
use Rattle.bind_rules.specs.declared.fault.BindFault.{BindFault}
use Rattle.sql_rules.specs.declared.fault.SqlFault.{SqlFault}
use Rattle.sql_rules.specs.Trees.{tree_of}
use Rattle.bind_rules.specs.Binding.{bound_of, just_column}
use Rattle.bind_rules.specs.Examples.{two_columns}

-- the query, if it binds
abbrev pub if_bound : Result Bound BindFault → Option Bound
if_bound (Ok b) = Some b
if_bound (Err f) = None

-- the bound query, if there is one
abbrev pub if_query : Result Query SqlFault → Option Bound
if_query (Ok q) = if_bound (bound_of two_columns q)
if_query (Err f) = None

-- the bound query of the text
abbrev pub bound_text : List ℕ → Option Bound
bound_text text = if_query (tree_of text)

-- the expression that is one integer
abbrev pub just_int : ℕ → BoundExpr
just_int n = roll-BoundExpr (record {
  first = roll-BoundProd (record {
    first = roll-BoundFactor (record { minus = false; atom = batom.Int (pos n) });
    rest = [];
  });
  rest = [];
})

-- a predicate without NOT
abbrev pub holds : BoundPred → BoundCond
holds p = roll-BoundCond (record { not = false; pred = p })

-- a query of one row by its id
abbrev pub one_id_text : List ℕ
one_id_text = codes "SELECT x AS d FROM Object WHERE (objectId=4) AND x<3 ORDER BY d DESC LIMIT 5"

-- the bound query of that text
abbrev pub one_id : Bound
one_id = record {
  shape = shape.Rows;
  items = item.Plain (just_column false 1) ∷ [];
  conds = holds (bound.Compare (just_column false 0) op.Equal (just_int 4))
      ∷ holds (bound.Compare (just_column false 1) op.Less (just_int 3)) ∷ [];
  areas = [];
  ids = (pos 4 ∷ []) ∷ [];
  order = Some (record { key = bkey.Item 0; down = true });
  limit = Some (pos 5);
}

-- a join
abbrev pub strict_pairs_text : List ℕ
strict_pairs_text = codes "SELECT a.x FROM Object a,Object b WHERE chord2(b,a)<9 AND b.objectId=4 ORDER BY b.z"

-- the bound query of the join
abbrev pub strict_pairs : Bound
strict_pairs = record {
  shape = shape.Pairs (pos 8);
  items = item.Plain (just_column false 1) ∷ [];
  conds = holds (bound.Compare (just_column true 0) op.Equal (just_int 4)) ∷ [];
  areas = [];
  ids = [];
  order = Some (record { key = bkey.Column (record { second = true; col = 3 }); down = false });
  limit = None;
}

-- a grouped query
abbrev pub groups_text : List ℕ
groups_text = codes "SELECT g,AVG(flux) FROM Object WHERE objectId IN (3,-1) AND area_band(1,2) GROUP BY g"

-- the bound query of that grouped query
abbrev pub groups_of_two : Bound
groups_of_two = record {
  shape = shape.Groups (record { second = false; col = 5 } ∷ []);
  items = item.Plain (just_column false 5) ∷ item.Avg (just_column false 4) ∷ [];
  conds = holds (bound.Among false (just_column false 0) (pos 3 ∷ negsuc 0 ∷ []))
      ∷ holds (bound.Area (Band (pos 1) (pos 2))) ∷ [];
  areas = Band (pos 1) (pos 2) ∷ [];
  ids = (pos 3 ∷ negsuc 0 ∷ []) ∷ [];
  order = None;
  limit = None;
}

-- the position (3, 0, -4)
abbrev pub three_four : Pos
three_four = record {
  x = pos 3;
  y = pos 0;
  z = negsuc 3;
  x_within = (record { le = tt }, record { le = tt });
  y_within = (record { le = tt }, record { le = tt });
  z_within = (record { le = tt }, record { le = tt });
}

-- a query of all columns, in a cap
abbrev pub cap_text : List ℕ
cap_text = codes "SELECT * FROM Object WHERE area_cap(3,0,-4,16)"

-- the bound query of that text
abbrev pub all_in_a_cap : Bound
all_in_a_cap = record {
  shape = shape.Rows;
  items = item.Plain (just_column false 0) ∷ item.Plain (just_column false 1) ∷ item.Plain (just_column false 2)
      ∷ item.Plain (just_column false 3) ∷ item.Plain (just_column false 4) ∷ item.Plain (just_column false 5) ∷ [];
  conds = holds (bound.Area (Cap three_four (pos 16))) ∷ [];
  areas = Cap three_four (pos 16) ∷ [];
  ids = [];
  order = None;
  limit = None;
}
