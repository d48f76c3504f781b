-- Sources and child queries of worked examples.
use Rattle.std.specs.Prelude.{ℕ, ℤ, pos, true, false, List, [], ◌∷◌, map, None, Some}
use Rattle.source_rules.specs.Sources.{Source}
use Rattle.sql_bound.specs.Trees.{factor, product, signed, sum, cond_of}
use Rattle.sql_bound.specs.declared.area.AreaTest.{AreaTest}
use Rattle.sql_bound.specs.declared.cond.BoundCond.{BoundCond}
use Rattle.sql_bound.specs.declared.cond.BoundPred.TheVariants as pred
use Rattle.sql_bound.specs.declared.expr.BoundAtom.TheVariants as atom
use Rattle.sql_bound.specs.declared.expr.BoundExpr.{BoundExpr}
use Rattle.sql_bound.specs.declared.query.Bound.{Bound}
use Rattle.sql_bound.specs.declared.query.BoundItem.TheVariants as item
use Rattle.sql_bound.specs.declared.query.BoundKey.TheVariants.{Item}
use Rattle.sql_bound.specs.declared.query.Shape.TheVariants.{Pairs}
use Rattle.sql_tree.specs.declared.cond.Cmp.TheVariants.{Equal}
use Rattle.answer_rules.specs.declared.value.Value.{Value}
use Rattle.answer_rules.specs.declared.value.Value.TheVariants.{Null, Whole}
use Rattle.answer_rules.specs.Examples.{column}
use Rattle.child_rules.specs.Columns.{object_col, source_col}

-- a source with a flux and a time
abbrev pub source : ℕ → ℕ → ℕ → ℕ → Source
source id object flux t = record { id = pos id; object = pos object; further = Some (pos flux) ∷ Some (pos t) ∷ [] }

-- five sources: two of object 1, one each of objects 4 and 5, and one with an objectId that no object has
abbrev pub five_sources : List Source
five_sources = source 101 1 11 1 ∷ source 102 4 41 1 ∷ source 103 1 12 2 ∷ source 104 99 5 2 ∷ source 105 5 51 2 ∷ []

-- two sources of object 1: the flux of one is NULL, and so is the time of the other
abbrev pub two_with_null : List Source
two_with_null =
    record { id = pos 201; object = pos 1; further = None ∷ Some (pos 2) ∷ [] }
    ∷ record { id = pos 202; object = pos 1; further = Some (pos 15) ∷ None ∷ [] } ∷ []

-- a number as an expression
abbrev pub number : ℕ → BoundExpr
number n = sum (product (factor false (atom.Int (pos n))) []) []

-- the condition that two expressions are equal
abbrev pub equals : BoundExpr → BoundExpr → BoundCond
equals a b = cond_of false (pred.Compare a Equal b)

-- o.objectId=s.objectId
abbrev pub link : BoundCond
link = equals (column (object_col 0)) (column (source_col 1))

-- s.flux-o.flux
abbrev pub gain : BoundExpr
gain =
    sum (product (factor false (atom.Col (source_col 2))) [])
    (signed true (product (factor false (atom.Col (object_col 4))) []) ∷ [])

-- SELECT o.objectId,s.sourceId,s.flux-o.flux FROM Object o,Source s WHERE o.objectId=s.objectId, and these conditions,
-- area tests and id tests
abbrev pub gains : List BoundCond → List AreaTest → List (List ℤ) → Bound
gains conds areas ids = record {
  shape = Pairs (pos 0);
  items = item.Plain (column (object_col 0)) ∷ item.Plain (column (source_col 0)) ∷ item.Plain gain ∷ [];
  conds = link ∷ conds;
  areas = areas;
  ids = ids;
  order = None;
  limit = None;
}

-- the query without further conditions
abbrev pub all_gains : Bound
all_gains = gains [] [] []

-- AND this area
abbrev pub gains_in : AreaTest → Bound
gains_in area = gains (cond_of false (pred.Area area) ∷ []) (area ∷ []) []

-- AND o.objectId=4
abbrev pub gains_of_4 : Bound
gains_of_4 = gains (equals (column (object_col 0)) (number 4) ∷ []) [] ((pos 4 ∷ []) ∷ [])

-- AND s.objectId=4, which is no id test, since it names the column of the source
abbrev pub gains_of_4_by_source : Bound
gains_of_4_by_source = gains (equals (column (source_col 1)) (number 4) ∷ []) [] []

-- AND s.t=2
abbrev pub gains_at_2 : Bound
gains_at_2 = gains (equals (column (source_col 3)) (number 2) ∷ []) [] []

-- ORDER BY the third item DESC LIMIT 3
abbrev pub largest_gains : Bound
largest_gains = record {
  shape = all_gains.shape;
  items = all_gains.items;
  conds = all_gains.conds;
  areas = [];
  ids = [];
  order = Some (record { key = Item 2; down = true });
  limit = Some (pos 3);
}

-- LIMIT n
abbrev pub first_gains : ℕ → Bound
first_gains n = record {
  shape = all_gains.shape;
  items = all_gains.items;
  conds = all_gains.conds;
  areas = [];
  ids = [];
  order = None;
  limit = Some (pos n);
}

-- an answer row whose gain is NULL
abbrev pub gain_is_null : ℕ → ℕ → List Value
gain_is_null object source = Whole (pos object) ∷ Whole (pos source) ∷ Null ∷ []

-- answer rows of three numbers
abbrev pub gains_shown : List (ℕ × ℕ × ℕ) → List (List Value)
gains_shown = map (λ r. Whole (pos r.0) ∷ Whole (pos r.1) ∷ Whole (pos r.2) ∷ [])
