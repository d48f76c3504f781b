-- The numbers that the items and the conditions of a query compute on a row or on a pair, intermediate results
-- included.
use Rattle.std.specs.Prelude.{ℤ, List, [], ◌∷◌, ◌++◌, All, Option}
use Rattle.std.specs.List.{flat_map}
use Rattle.sql_bound.specs.declared.expr.BoundCol.{BoundCol}
use Rattle.sql_bound.specs.declared.query.Bound.{Bound}
use Rattle.sql_bound.specs.declared.query.BoundItem.{BoundItem}
use Rattle.sql_bound.specs.declared.query.BoundItem.TheVariants as item
use Rattle.value_rules.specs.Formulas.{Formula, Compares, Among, IsNull, LiesIn, Not, And, Or, formula_of}
use Rattle.value_rules.specs.Terms.{Term, Number, Column, Minus, Plus, Less, Times, term_of}
use Rattle.value_rules.specs.Values.{Pick, cell_of, value_at}
use Rattle.value_rules.specs.Widths.{IsOfSize, most}

-- the term and all of its subterms
abbrev pub subterms_of : Term → List Term
subterms_of (Number n) = Number n ∷ []
subterms_of (Column c) = Column c ∷ []
subterms_of (Minus t) = Minus t ∷ subterms_of t
subterms_of (Plus t u) = Plus t u ∷ (subterms_of t ++ subterms_of u)
subterms_of (Less t u) = Less t u ∷ (subterms_of t ++ subterms_of u)
subterms_of (Times t u) = Times t u ∷ (subterms_of t ++ subterms_of u)

-- the terms whose values a formula tests
abbrev pub tested_terms : Formula → List Term
tested_terms (Compares op t u) = t ∷ u ∷ []
tested_terms (Among t list) = t ∷ []
tested_terms (IsNull t) = t ∷ []
tested_terms (LiesIn area) = []
tested_terms (Not f) = tested_terms f
tested_terms (And f g) = tested_terms f ++ tested_terms g
tested_terms (Or f g) = tested_terms f ++ tested_terms g

-- the term of an item, plain or in an aggregate
abbrev pub item_terms : BoundItem → List Term
item_terms (item.Plain e) = term_of e ∷ []
item_terms item.Count = []
item_terms (item.CountOf e) = term_of e ∷ []
item_terms (item.Sum e) = term_of e ∷ []
item_terms (item.Min e) = term_of e ∷ []
item_terms (item.Max e) = term_of e ∷ []
item_terms (item.Avg e) = term_of e ∷ []

-- the terms of a query's items and of its conditions; an order key is an item or a column
abbrev pub terms_of : Bound → List Term
terms_of q = flat_map item_terms q.items ++ flat_map (λ c. tested_terms (formula_of c)) q.conds

-- if the columns have these values, the term's value is NULL or within ±2^100, and so is that of each of its subterms
abbrev pub IsInRangeAt : (BoundCol → Option ℤ) → Term → Type 0
IsInRangeAt cells t = All (λ u. IsOfSize most (value_at cells u)) (subterms_of t)

-- on the row or pair, the term's value is NULL or within ±2^100, and so is that of each of its subterms
abbrev pub IsTermInRange : Pick → Term → Type 0
IsTermInRange p t = IsInRangeAt (cell_of p) t

-- each number that an item or a condition of the query computes on the row or pair is within ±2^100
abbrev pub IsInRange : Bound → Pick → Type 0
IsInRange q p = All (IsTermInRange p) (terms_of q)
