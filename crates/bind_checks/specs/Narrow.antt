-- Widths of expressions within the bound that all numbers of a query have, given the largest size of a value of each
-- column.
use Rattle.std.specs.Prelude.{ℕ, nat_lt, if◌then◌else◌, List, [], ◌∷◌, Option, None, Some}
use Rattle.sky_vector.specs.declared.limits.TheConstants.{NUMBER_MOST}
use Rattle.sql_tree.specs.declared.expr.Atom.{Atom}
use Rattle.sql_tree.specs.declared.expr.Atom.TheFolds.{fold-Atom, fold-Factor, fold-Prod, fold-Signed}
use Rattle.sql_tree.specs.declared.expr.Factor.{Factor}
use Rattle.sql_tree.specs.declared.expr.Prod.{Prod}
use Rattle.sql_tree.specs.declared.expr.Signed.{Signed}
use Rattle.sql_tree.specs.declared.name.Col.{Col}
use Rattle.bind_rules.specs.Widths.{Width, width_at_atom, width_at_expr, width_at_factor, width_at_prod}
use Rattle.bind_rules.specs.Widths.{width_at_signed}

-- the number, if it is at most 2^100
unfoldable pub capped : ℕ → Option ℕ
capped n = if nat_lt NUMBER_MOST n then None else Some n

-- the size, if no intermediate number is above 2^100
unfoldable pub narrow : Width → Option ℕ
narrow w = if nat_lt NUMBER_MOST w.widest then None else Some w.size

-- two such sizes combined
unfoldable pub narrow_both : (ℕ → ℕ → ℕ) → Option ℕ → Option ℕ → Option ℕ
narrow_both op (Some a) (Some b) = capped (op a b)
narrow_both op _ _ = None

-- several such sizes combined from the left
unfoldable pub narrow_from_left : (ℕ → ℕ → ℕ) → Option ℕ → List (Option ℕ) → Option ℕ
narrow_from_left op n [] = n
narrow_from_left op n (m ∷ ms) = narrow_from_left op (narrow_both op n m) ms

-- the width of an atom
unfoldable pub atom_width : (Col → ℕ) → Atom → Width
atom_width size =
    fold-Atom Width Width Width Width Width (width_at_atom size) width_at_expr width_at_factor width_at_prod
    width_at_signed

-- the width of a factor
unfoldable pub factor_width : (Col → ℕ) → Factor → Width
factor_width size =
    fold-Factor Width Width Width Width Width (width_at_atom size) width_at_expr width_at_factor width_at_prod
    width_at_signed

-- the width of a product
unfoldable pub prod_width : (Col → ℕ) → Prod → Width
prod_width size =
    fold-Prod Width Width Width Width Width (width_at_atom size) width_at_expr width_at_factor width_at_prod
    width_at_signed

-- the width of a product with its sign
unfoldable pub signed_width : (Col → ℕ) → Signed → Width
signed_width size =
    fold-Signed Width Width Width Width Width (width_at_atom size) width_at_expr width_at_factor width_at_prod
    width_at_signed

-- the width of a factor within the bound
abbrev pub narrow_factor : (Col → ℕ) → Factor → Option ℕ
narrow_factor size f = narrow (factor_width size f)

-- the width of a product with its sign, within the bound
abbrev pub narrow_signed : (Col → ℕ) → Signed → Option ℕ
narrow_signed size s = narrow (signed_width size s)
