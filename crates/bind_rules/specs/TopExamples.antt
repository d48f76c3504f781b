-- The bound queries of more texts of worked examples: top-level tests, aliases, and a star in a join.
use Rattle.std.specs.Prelude.{ℕ, pos, true, false, List, [], ◌∷◌, None, Some, codes}
use Rattle.sql_bound.specs.declared.cond.BoundCond.{roll-BoundCond}
use Rattle.sql_bound.specs.declared.cond.BoundPred.{BoundPred}
use Rattle.sql_bound.specs.declared.cond.BoundPred.TheVariants as bound
use Rattle.sql_bound.specs.declared.expr.BoundAtom.TheVariants as batom
use Rattle.sql_bound.specs.declared.expr.BoundExpr.{BoundExpr, roll-BoundExpr}
use Rattle.sql_bound.specs.declared.expr.BoundFactor.{roll-BoundFactor}
use Rattle.sql_bound.specs.declared.expr.BoundProd.{roll-BoundProd}
use Rattle.sql_bound.specs.declared.query.Bound.{Bound}
use Rattle.sql_bound.specs.declared.query.BoundItem.TheVariants as item
use Rattle.sql_bound.specs.declared.query.BoundKey.TheVariants as bkey
use Rattle.sql_bound.specs.declared.query.Shape.TheVariants as shape
use Rattle.sql_tree.specs.declared.cond.Cmp.TheVariants as op
use Rattle.bind_rules.specs.Binding.{just_column}
use Rattle.bind_rules.specs.BoundExamples.{just_int}

-- a join with its chord test twice
abbrev pub chord_twice : List ℕ
chord_twice = codes "SELECT a.x FROM Object a,Object b WHERE chord2(a,b)<4 AND chord2(a,b)<4"

-- a join with its chord test under OR
abbrev pub chord_or_other : List ℕ
chord_or_other = codes "SELECT a.x FROM Object a,Object b WHERE chord2(a,b)<4 OR a.x<0"

-- a query of all rows but one
abbrev pub not_four_text : List ℕ
not_four_text = codes "SELECT x FROM Object WHERE NOT objectId=4"

-- the bound query of that text
abbrev pub not_four : Bound
not_four = record {
  shape = shape.Rows;
  items = item.Plain (just_column false 1) ∷ [];
  conds = roll-BoundCond (record { not = true; pred = bound.Compare (just_column false 0) op.Equal (just_int 4) }) ∷ [];
  areas = [];
  ids = [];
  order = None;
  limit = None;
}

-- an expression in brackets
abbrev pub bracketed : BoundExpr → BoundExpr
bracketed e = roll-BoundExpr (record {
  first = roll-BoundProd (record {
    first = roll-BoundFactor (record { minus = false; atom = batom.Bracket e });
    rest = [];
  });
  rest = [];
})

-- the x of the rows that meet the condition, which is no id test
abbrev pub x_where : BoundPred → Bound
x_where p = record {
  shape = shape.Rows;
  items = item.Plain (just_column false 1) ∷ [];
  conds = roll-BoundCond (record { not = false; pred = p }) ∷ [];
  areas = [];
  ids = [];
  order = None;
  limit = None;
}

-- a query with the id in brackets
abbrev pub bracketed_id_text : List ℕ
bracketed_id_text = codes "SELECT x FROM Object WHERE (objectId)=4"

-- the bound query of that text
abbrev pub four_by_filter : Bound
four_by_filter = x_where (bound.Compare (bracketed (just_column false 0)) op.Equal (just_int 4))

-- a query with the id on the right
abbrev pub turned_id_text : List ℕ
turned_id_text = codes "SELECT x FROM Object WHERE 4=objectId"

-- the bound query of that text
abbrev pub four_turned : Bound
four_turned = x_where (bound.Compare (just_int 4) op.Equal (just_column false 0))

-- a query of two items with one alias, which is also a column's name
abbrev pub aliases_text : List ℕ
aliases_text = codes "SELECT x AS z,y AS z FROM Object ORDER BY z"

-- the bound query of that text
abbrev pub first_alias : Bound
first_alias = record {
  shape = shape.Rows;
  items = item.Plain (just_column false 1) ∷ item.Plain (just_column false 2) ∷ [];
  conds = [];
  areas = [];
  ids = [];
  order = Some (record { key = bkey.Item 0; down = false });
  limit = None;
}

-- a query of all columns of both tables
abbrev pub star_text : List ℕ
star_text = codes "SELECT * FROM Object a,Object b WHERE chord2(a,b)<=9"

-- the bound query of that text
abbrev pub star_of_both : Bound
star_of_both = record {
  shape = shape.Pairs (pos 9);
  items = item.Plain (just_column false 0) ∷ item.Plain (just_column false 1) ∷ item.Plain (just_column false 2)
      ∷ item.Plain (just_column false 3) ∷ item.Plain (just_column false 4) ∷ item.Plain (just_column false 5)
      ∷ item.Plain (just_column true 0) ∷ item.Plain (just_column true 1) ∷ item.Plain (just_column true 2)
      ∷ item.Plain (just_column true 3) ∷ item.Plain (just_column true 4) ∷ item.Plain (just_column true 5) ∷ [];
  conds = [];
  areas = [];
  ids = [];
  order = None;
  limit = None;
}
