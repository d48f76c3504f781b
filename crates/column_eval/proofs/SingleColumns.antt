-- Expressions that are a column alone, and the numbers of such a column.
use Rattle.std.proofs.Common.{◌≡◌, ◌≢◌, ◌∙◌, ℕ, ◌<◌, ◌≤◌, ℤ, nat_abs, false, sym, ap, subst, arith, List, [], length, get_or, map, Option, Some, None, All}
use Rattle.std.specs.Prelude.{IfNone, IfSome, if◌then◌else◌}
use Rattle.std.proofs.lemmas.List.{get_or-map, length-map}
use Rattle.expr_eval.proofs.Layers.{factor_parts, product_parts, sum_parts}
use Rattle.sky_row.specs.Columns.{column_in, no_row}
use Rattle.sql_bound.specs.Trees.{factor, just, product, sum}
use Rattle.sql_bound.specs.declared.expr.BoundAtom.TheVariants.{Col}
use Rattle.sql_bound.specs.declared.expr.BoundCol.{BoundCol}
use Rattle.sql_bound.specs.declared.expr.BoundExpr.{BoundExpr, out-BoundExpr, out-roll-BoundExpr}
use Rattle.sql_bound.specs.declared.expr.BoundFactor.{out-BoundFactor, out-roll-BoundFactor}
use Rattle.sql_bound.specs.declared.expr.BoundProd.{out-BoundProd, out-roll-BoundProd}
use Rattle.table_rules.specs.Objects.{Obj, IsRow, cell, column_bound}
use Rattle.table_rules.specs.declared.limits.TheConstants.{FURTHER_MOST}
use Rattle.value_rules.specs.Terms.{Term, Column, Minus, product_from, sum_from, term_of, term_of_atom, term_of_factor, term_of_prod, term_of_signed}
use Rattle.value_rules.specs.Values.{cell_of, row, value_at, value_of}
use Rattle.value_rules.specs.Widths.{IsOfSize}
use Rattle.value_rules.proofs.Parts.{term_col}
use Rattle.value_rules.proofs.Ranges.{row_is_within}
use Rattle.column_vectors.specs.PickedColumns.{first_col}

-- its values are those of the expression
pub column_values : (e : BoundExpr) (col : ℕ) (objects : List Obj) (values : List ℤ) → term_of e ≡ Column (first_col col)
    → map Some values ≡ column_in objects col → map Some values ≡ map (λ o. value_of e (row o)) objects
column_values e col objects values is are = are ∙ sym (ap (λ t. map (λ o. value_at (cell_of (row o)) t) objects) is)

pub further_bound : (col : ℕ) → 4 ≤ col → nat_abs (column_bound col) ≡ FURTHER_MOST
further_bound col first = grind (arith, first)

-- the numbers of a further column are within its limit
pub column_fits : (objects : List Obj) (values : List ℤ) (col : ℕ) → All IsRow objects → nat_abs (column_bound col) ≡ FURTHER_MOST
    → map Some values ≡ column_in objects col → All (λ z. nat_abs z ≤ FURTHER_MOST) values
column_fits objects values col rows bound are = λ k d low.
    let there : k < length objects = omega (arith, low, ap length are, length-map values Some, length-map objects (λ o. cell o col)) in
    let o = get_or objects k no_row in
    subst (IsOfSize FURTHER_MOST)
    (sym (get_or-map (λ o. cell o col) objects k no_row None there) ∙ (ap (λ l. get_or l k None) (sym are) ∙ get_or-map Some values k d None low))
    (subst (λ n. IsOfSize n (cell o col)) bound (row_is_within o (rows k no_row there) (first_col col)))

-- what an expression that is a column and nothing else is made of
pub record IsColumn (e : BoundExpr) (col : ℕ) : Type 0 where
  pub alone : (out-BoundExpr e).rest ≡ []
  pub single : (out-BoundProd (out-BoundExpr e).first).rest ≡ []
  pub plus : (out-BoundFactor (out-BoundProd (out-BoundExpr e).first).first).minus ≡ false
  pub atom : (out-BoundFactor (out-BoundProd (out-BoundExpr e).first).first).atom ≡ Col (first_col col)

just_parts : (col : ℕ) → IsColumn (just (Col (first_col col))) col
unfolding sum product factor
just_parts col =
    let at_expr = out-roll-BoundExpr (record { first = product (factor false (Col (first_col col))) []; rest = [] }) in
    let at_prod = out-roll-BoundProd (record { first = factor false (Col (first_col col)); rest = [] }) in
    let at_factor = out-roll-BoundFactor (record { minus = false; atom = Col (first_col col) }) in
    record {
      alone = ap (λ e. e.rest) at_expr;
      single = ap (λ e. (out-BoundProd e.first).rest) at_expr ∙ ap (λ p. p.rest) at_prod;
      plus = ap (λ e. (out-BoundFactor (out-BoundProd e.first).first).minus) at_expr ∙ (ap (λ p. (out-BoundFactor p.first).minus) at_prod ∙ ap (λ f. f.minus) at_factor);
      atom = ap (λ e. (out-BoundFactor (out-BoundProd e.first).first).atom) at_expr ∙ (ap (λ p. (out-BoundFactor p.first).atom) at_prod ∙ ap (λ f. f.atom) at_factor);
    }

pub column_parts : (e : BoundExpr) (col : ℕ) → e ≡ just (Col (first_col col)) → IsColumn e col
column_parts e col is = subst (λ e. IsColumn e col) (sym is) (just_parts col)

-- and what it is worth
pub column_term : (e : BoundExpr) (col : ℕ) → IsColumn e col → term_of e ≡ Column (first_col col)
column_term e col h =
    sum_parts e
    ∙ (ap (λ l. sum_from (term_of_prod (out-BoundExpr e).first) (map term_of_signed l)) h.alone
    ∙ (product_parts (out-BoundExpr e).first
    ∙ (ap (λ l. product_from (term_of_factor (out-BoundProd (out-BoundExpr e).first).first) (map term_of_factor l)) h.single
    ∙ (factor_parts (out-BoundProd (out-BoundExpr e).first).first
    ∙ (ap (λ b. if b then Minus (term_of_atom (out-BoundFactor (out-BoundProd (out-BoundExpr e).first).first).atom) else term_of_atom (out-BoundFactor (out-BoundProd (out-BoundExpr e).first).first).atom) h.plus
    ∙ (ap term_of_atom h.atom ∙ term_col (first_col col)))))))

-- the column that is found
pub column_is : (e : BoundExpr) (found : Option ℕ) (c : BoundCol) → (out-BoundExpr e).rest ≡ [] → (out-BoundProd (out-BoundExpr e).first).rest ≡ []
    → (out-BoundFactor (out-BoundProd (out-BoundExpr e).first).first).minus ≡ false
    → (out-BoundFactor (out-BoundProd (out-BoundExpr e).first).first).atom ≡ Col c
    → IfSome found (λ found. first_col found ≡ c) → IfSome found (λ col. term_of e ≡ Column (first_col col))
column_is e None c alone single plus atom h = tt
column_is e (Some col) c alone single plus atom h = column_term e col (record { alone = alone; single = single; plus = plus; atom = atom ∙ ap Col (sym h) })

-- the column that a term is
column_in_term : Term → BoundCol
column_in_term (Column c) = c
column_in_term t = first_col 0

same_atom : (c d : BoundCol) → Col c ≡ Col d → c ≡ d
unfolding column_in_term
same_atom c d is = ap column_in_term (sym (term_col c) ∙ (ap term_of_atom is ∙ term_col d))

-- where the atom is a column of another row, no column of the first row is all of it
pub column_none : (e : BoundExpr) (found : Option ℕ) (c : BoundCol) → (out-BoundFactor (out-BoundProd (out-BoundExpr e).first).first).atom ≡ Col c
    → IfNone found ((found : ℕ) → first_col found ≢ c) → IfNone found ((col : ℕ) → e ≢ just (Col (first_col col)))
column_none e (Some col) c is h = tt
column_none e None c is h = λ col same. h col (same_atom (first_col col) c (sym (column_parts e col same).atom ∙ is))
