-- The area tests and the id tests of WHERE.
use Rattle.std.specs.Prelude.{ℤ, Bool, true, false, ◌&&◌, not, if◌then◌else◌, List, [], ◌∷◌}
use Rattle.std.specs.Prelude.{Option, None, Some, nat_eq, option_to_list}
use Rattle.sql_bound.specs.declared.area.AreaTest.{AreaTest}
use Rattle.sql_tree.specs.declared.expr.Atom.TheFolds.{fold-Expr}
use Rattle.sql_tree.specs.declared.expr.Atom.TheOpen.{Atom-F, Factor-F}
use Rattle.sql_tree.specs.declared.expr.Expr.{Expr}
use Rattle.sql_tree.specs.declared.name.Col.{Col}
use Rattle.bind_rules.specs.Areas.{area_test}
use Rattle.bind_rules.specs.Bounds.{Meaning}
use Rattle.bind_rules.specs.Forms.{values_of}
use Rattle.bind_rules.specs.Tops.{Test, Area, Equals, Listed}

-- ---- an expression that is a single column or integer

-- A column or an integer.
pub data Lone : Type 0 where
  LoneCol : Col → Lone
  LoneInt : ℤ → Lone

-- a column or an integer, if an expression is one
abbrev pub Alone : Type 0
Alone = Option Lone

-- the first part, if nothing follows it
abbrev pub first_alone : {A : Type 0} → Alone → List A → Alone
first_alone x [] = x
first_alone x (y ∷ ys) = None

-- the column or integer of an atom that is not a bracket
abbrev pub lone_at_atom : Atom-F Alone Alone Alone Alone Alone → Alone
lone_at_atom (Atom-F.Int n) = Some (LoneInt n)
lone_at_atom (Atom-F.Col c) = Some (LoneCol c)
lone_at_atom (Atom-F.Bracket e) = None

-- the column or integer of a factor without a minus
abbrev pub lone_at_factor : Factor-F Alone Alone Alone Alone Alone → Alone
lone_at_factor f = if f.minus then None else f.atom

-- the column or the integer that an expression is, without brackets and minus
unfoldable pub lone_of : Expr → Alone
lone_of =
    fold-Expr Alone Alone Alone Alone Alone lone_at_atom (λ e. first_alone e.first e.rest) lone_at_factor
    (λ p. first_alone p.first p.rest) (λ s. s.prod)

-- ---- id tests and area tests

-- the column means the id of the first table
abbrev pub first_id : Meaning → Col → Bool
first_id means c = not (means c).second && nat_eq (means c).col 0

-- the expression is a single column, and one of these
abbrev pub is_lone_column : (Col → Bool) → Alone → Bool
is_lone_column these (Some (LoneCol c)) = these c
is_lone_column these _ = false

-- the integer, if the expression is one
abbrev pub int_of : Alone → List ℤ
int_of (Some (LoneInt n)) = n ∷ []
int_of _ = []

-- the ids, if the left side is the id of the first table
abbrev pub ids_if : Bool → List ℤ → List (List ℤ)
ids_if true (n ∷ ns) = (n ∷ ns) ∷ []
ids_if _ _ = []

-- the ids of a test that is a conjunct, given which columns are the id of the first table
abbrev pub ids_by : (Col → Bool) → Test → List (List ℤ)
ids_by id (Equals left right) = ids_if (is_lone_column id (lone_of left)) (int_of (lone_of right))
ids_by id (Listed value list) = ids_if (is_lone_column id (lone_of value)) (values_of list)
ids_by id _ = []

-- the area test
abbrev pub areas_by : Test → List AreaTest
areas_by (Area kind span args) = option_to_list (area_test kind (values_of args))
areas_by _ = []
