-- The parts of an expression that is a single column or int.
use Rattle.sql_tree.specs.declared.expr.Atom.{Atom}
use Rattle.sql_tree.specs.declared.expr.Atom.TheFolds.{fold-Atom, fold-Factor, fold-Prod}
use Rattle.sql_tree.specs.declared.expr.Factor.{Factor}
use Rattle.sql_tree.specs.declared.expr.Prod.{Prod}
use Rattle.bind_rules.specs.IdTests.{Alone, first_alone, lone_at_atom, lone_at_factor}

-- the column or the int, if the atom is one
unfoldable pub lone_of_atom : Atom → Alone
lone_of_atom =
    fold-Atom Alone Alone Alone Alone Alone lone_at_atom (λ e. first_alone e.first e.rest) lone_at_factor
    (λ p. first_alone p.first p.rest) (λ s. s.prod)

-- the column or the int, if the factor is one
unfoldable pub lone_of_factor : Factor → Alone
lone_of_factor =
    fold-Factor Alone Alone Alone Alone Alone lone_at_atom (λ e. first_alone e.first e.rest) lone_at_factor
    (λ p. first_alone p.first p.rest) (λ s. s.prod)

-- the column or the int, if the product is one
unfoldable pub lone_of_prod : Prod → Alone
lone_of_prod =
    fold-Prod Alone Alone Alone Alone Alone lone_at_atom (λ e. first_alone e.first e.rest) lone_at_factor
    (λ p. first_alone p.first p.rest) (λ s. s.prod)
