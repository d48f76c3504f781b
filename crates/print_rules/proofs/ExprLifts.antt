-- Expressions and ints at other places.
use Rattle.std.proofs.Common.{◌≡◌, refl, sym, ap, ◌∙◌, true, List, [], ◌∷◌, ◌++◌, map, ℤ, Option, None, Some, option_map}
use Rattle.std.specs.List.{flat_map}
use Rattle.sql_token.specs.declared.sign.Sign.TheVariants as sign
use Rattle.sql_tree.specs.Bare.{bare_name, bare_col, bare_atom, bare_expr, bare_factor, bare_prod, bare_signed}
use Rattle.sql_tree.specs.declared.expr.Atom.{Atom}
use Rattle.sql_tree.specs.declared.expr.Atom.TheOpen.{Expr-F, Factor-F, Prod-F, Signed-F}
use Rattle.sql_tree.specs.declared.expr.Atom.TheVariants as atom
use Rattle.sql_tree.specs.declared.expr.Expr.{Expr, roll-Expr}
use Rattle.sql_tree.specs.declared.expr.Factor.{Factor, roll-Factor}
use Rattle.sql_tree.specs.declared.expr.Prod.{Prod, roll-Prod}
use Rattle.sql_tree.specs.declared.expr.Signed.{Signed, roll-Signed}
use Rattle.sql_tree.specs.declared.name.Col.{Col}
use Rattle.sql_tree.specs.declared.name.Name.{Name}
use Rattle.sql_rules.proofs.Opened.{starred, spell_int_atom, spell_col_atom, spell_bracket_atom, spell_factor_roll}
use Rattle.sql_rules.proofs.Opened.{spell_prod_roll, spell_signed_roll, spell_expr_roll}
use Rattle.sql_rules.specs.Symbols.{Named, Number, Adds, of_sign}
use Rattle.sql_rules.specs.Spelling.{optional, bracketed, spell_col, spell_atom, spell_expr, spell_factor, spell_prod}
use Rattle.sql_rules.specs.Spelling.{spell_signed}
use Rattle.print_rules.proofs.Bared.{bare_col_atom, bare_bracket_atom, bare_factor_roll, bare_prod_roll, bare_signed_roll}
use Rattle.print_rules.proofs.Bared.{bare_expr_roll, shown_atom, shown_factor, shown_prod, shown_signed, shown_expr, shown_int_atom}
use Rattle.print_rules.proofs.Bared.{shown_col_atom, shown_bracket_atom, shown_factor_roll, shown_prod_roll, shown_signed_roll, shown_expr_roll}
use Rattle.print_rules.proofs.Lifted.{Lifts, split, append_both, last_symbol, headed, optional_front, worded, inside, each_lifts, led_lifts}
use Rattle.print_rules.proofs.Lifted.{nothing_left}
use Rattle.print_rules.proofs.Walks.{Each, each_map, every_expr}

-- a column of its parts
made_col : (t u : Option Name) (m n : Name) → option_map bare_name t ≡ option_map bare_name u → bare_name m ≡ bare_name n → bare_col (record { table = t; name = m }) ≡ bare_col (record { table = u; name = n })
made_col t u m n e f = rw (e, f) refl

-- a column, with or without its qualifier
lift_col_parts : (t : Option Name) (n : Name) → Lifts spell_col bare_col (record { table = t; name = n })
lift_col_parts None n ps e =
    let w = worded n [] ps e in
    record { value = record { table = None; name = w.name }; spelled = w.whole ∙ ap (λ r. Named w.name ∷ r) (nothing_left w.tail w.rest); same = made_col None None w.name n refl w.same }
lift_col_parts (Some t) n ps e =
    let q = worded t _ ps e in
    let dot = headed (of_sign sign.Dot) _ q.tail refl q.rest in
    let w = worded n [] dot.tail dot.rest in
    record {
      value = record { table = Some q.name; name = w.name };
      spelled = q.whole ∙ ap (λ r. Named q.name ∷ r) (dot.whole ∙ ap (λ r. of_sign sign.Dot ∷ r) (w.whole ∙ ap (λ r. Named w.name ∷ r) (nothing_left w.tail w.rest)));
      same = made_col (Some q.name) (Some t) w.name n (ap (λ r. Some r) q.same) w.same;
    }

pub lift_col : (c : Col) → Lifts spell_col bare_col c
lift_col c = lift_col_parts c.table c.name

-- ---- expressions

-- what is proved of each part
abbrev pub AtomLifts : Atom → Type 0
AtomLifts = Lifts spell_atom bare_atom

abbrev pub FactorLifts : Factor → Type 0
FactorLifts = Lifts spell_factor bare_factor

abbrev pub ProdLifts : Prod → Type 0
ProdLifts = Lifts spell_prod bare_prod

abbrev pub SignedLifts : Signed → Type 0
SignedLifts = Lifts spell_signed bare_signed

abbrev pub ExprLifts : Expr → Type 0
ExprLifts = Lifts spell_expr bare_expr

lift_int_atom : (n : ℤ) → AtomLifts (atom.Int n)
lift_int_atom n ps e = record { value = atom.Int n; spelled = last_symbol (Number n) ps refl (e ∙ shown_int_atom n) ∙ sym (spell_int_atom n); same = refl }

lift_col_atom : (c : Col) → AtomLifts (atom.Col c)
lift_col_atom c ps e =
    let one = lift_col c ps (e ∙ shown_col_atom c) in
    record { value = atom.Col one.value; spelled = one.spelled ∙ sym (spell_col_atom one.value); same = bare_col_atom one.value ∙ ap atom.Col one.same ∙ sym (bare_col_atom c) }

lift_bracket_atom : (x : Expr) → ExprLifts x → AtomLifts (atom.Bracket x)
lift_bracket_atom x h ps e =
    let i = inside (shown_expr x) ps (e ∙ shown_bracket_atom x) in
    let one = h i.inner i.is in
    record { value = atom.Bracket one.value; spelled = i.whole ∙ ap bracketed one.spelled ∙ sym (spell_bracket_atom one.value); same = bare_bracket_atom one.value ∙ ap atom.Bracket one.same ∙ sym (bare_bracket_atom x) }

lift_factor : (x : Factor-F Atom Expr Factor Prod Signed) → AtomLifts x.atom → FactorLifts (roll-Factor x)
lift_factor x h ps e =
    let front = optional_front x.minus (Adds true) (shown_atom x.atom) ps refl (e ∙ shown_factor_roll x) in
    let one = h front.tail front.rest in
    record {
      value = roll-Factor (record { minus = x.minus; atom = one.value });
      spelled = front.whole ∙ ap (λ t. optional x.minus (Adds true) ++ t) one.spelled ∙ sym (spell_factor_roll (record { minus = x.minus; atom = one.value }));
      same = bare_factor_roll (record { minus = x.minus; atom = one.value }) ∙ ap (λ t. roll-Factor (record { minus = x.minus; atom = t })) one.same ∙ sym (bare_factor_roll x);
    }

made_prod : (f g : Factor) (fs gs : List Factor) → f ≡ g → fs ≡ gs → roll-Prod (record { first = f; rest = fs }) ≡ roll-Prod (record { first = g; rest = gs })
made_prod f g fs gs e h = rw (e, h) refl

lift_prod : (x : Prod-F Atom Expr Factor Prod Signed) → FactorLifts x.first → Each FactorLifts x.rest → ProdLifts (roll-Prod x)
lift_prod x first rest ps e =
    let two = split (shown_factor x.first) (flat_map (λ f. of_sign sign.Star ∷ shown_factor f) x.rest) ps (e ∙ shown_prod_roll x) in
    let one = first two.front two.first in
    let more = each_lifts starred bare_factor x.rest (each_map FactorLifts (Lifts starred bare_factor) (λ f h. led_lifts (of_sign sign.Star) spell_factor bare_factor f refl h) x.rest rest) two.back two.rest in
    record {
      value = roll-Prod (record { first = one.value; rest = more.value });
      spelled = two.whole ∙ append_both two.front two.back (spell_factor one.value) (flat_map starred more.value) one.spelled more.spelled ∙ sym (spell_prod_roll (record { first = one.value; rest = more.value }));
      same = bare_prod_roll (record { first = one.value; rest = more.value }) ∙ made_prod (bare_factor one.value) (bare_factor x.first) (map bare_factor more.value) (map bare_factor x.rest) one.same more.same ∙ sym (bare_prod_roll x);
    }

lift_signed : (x : Signed-F Atom Expr Factor Prod Signed) → ProdLifts x.prod → SignedLifts (roll-Signed x)
lift_signed x h ps e =
    let front = headed (Adds x.minus) (shown_prod x.prod) ps refl (e ∙ shown_signed_roll x) in
    let one = h front.tail front.rest in
    record {
      value = roll-Signed (record { minus = x.minus; prod = one.value });
      spelled = front.whole ∙ ap (λ t. Adds x.minus ∷ t) one.spelled ∙ sym (spell_signed_roll (record { minus = x.minus; prod = one.value }));
      same = bare_signed_roll (record { minus = x.minus; prod = one.value }) ∙ ap (λ t. roll-Signed (record { minus = x.minus; prod = t })) one.same ∙ sym (bare_signed_roll x);
    }

made_expr : (f g : Prod) (fs gs : List Signed) → f ≡ g → fs ≡ gs → roll-Expr (record { first = f; rest = fs }) ≡ roll-Expr (record { first = g; rest = gs })
made_expr f g fs gs e h = rw (e, h) refl

lift_sum : (x : Expr-F Atom Expr Factor Prod Signed) → ProdLifts x.first → Each SignedLifts x.rest → ExprLifts (roll-Expr x)
lift_sum x first rest ps e =
    let two = split (shown_prod x.first) (flat_map shown_signed x.rest) ps (e ∙ shown_expr_roll x) in
    let one = first two.front two.first in
    let more = each_lifts spell_signed bare_signed x.rest rest two.back two.rest in
    record {
      value = roll-Expr (record { first = one.value; rest = more.value });
      spelled = two.whole ∙ append_both two.front two.back (spell_prod one.value) (flat_map spell_signed more.value) one.spelled more.spelled ∙ sym (spell_expr_roll (record { first = one.value; rest = more.value }));
      same = bare_expr_roll (record { first = one.value; rest = more.value }) ∙ made_expr (bare_prod one.value) (bare_prod x.first) (map bare_signed more.value) (map bare_signed x.rest) one.same more.same ∙ sym (bare_expr_roll x);
    }

-- every expression
pub lift_expr : (e : Expr) → ExprLifts e
lift_expr = every_expr (record { int = lift_int_atom; col = lift_col_atom; bracket = lift_bracket_atom; factor = lift_factor; prod = lift_prod; signed = lift_signed; expr = lift_sum })
