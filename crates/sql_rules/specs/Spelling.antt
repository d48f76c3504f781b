-- The symbols that spell an expression: one equation for each rule of the grammar.
use Rattle.std.specs.Prelude.{List, [], ◌∷◌, ◌++◌, Bool, if◌then◌else◌, Option, None, Some, true}
use Rattle.std.specs.List.{flat_map}
use Rattle.text_rules.specs.Readings.{joined}
use Rattle.sql_token.specs.declared.sign.Sign.TheVariants as sign
use Rattle.sql_tree.specs.declared.expr.Atom.{Atom}
use Rattle.sql_tree.specs.declared.expr.Atom.TheFolds.{fold-Atom, fold-Expr, fold-Factor, fold-Prod, fold-Signed}
use Rattle.sql_tree.specs.declared.expr.Atom.TheOpen.{Atom-F, Expr-F, Factor-F, Prod-F, Signed-F}
use Rattle.sql_tree.specs.declared.expr.Expr.{Expr}
use Rattle.sql_tree.specs.declared.expr.Factor.{Factor}
use Rattle.sql_tree.specs.declared.expr.Prod.{Prod}
use Rattle.sql_tree.specs.declared.expr.Signed.{Signed}
use Rattle.sql_tree.specs.declared.name.Col.{Col}
use Rattle.sql_tree.specs.declared.name.Name.{Name}
use Rattle.sql_rules.specs.Symbols.{Symbol, Named, Number, Adds, of_sign}

-- the symbols of a text
abbrev pub Symbols : Type 0
Symbols = List Symbol

-- the symbol if the test is true, and else none
abbrev pub optional : Bool → Symbol → Symbols
optional there p = if there then p ∷ [] else []

-- each part after the given symbol: {p part}
abbrev pub led_by : Symbol → List Symbols → Symbols
led_by p = flat_map (λ part. p ∷ part)

-- ( part )
abbrev pub bracketed : Symbols → Symbols
bracketed part = of_sign sign.Open ∷ (part ++ (of_sign sign.Close ∷ []))

-- [name .]
abbrev pub spell_qualifier : Option Name → Symbols
spell_qualifier None = []
spell_qualifier (Some t) = Named t ∷ of_sign sign.Dot ∷ []

-- col = name [. name]
abbrev pub spell_col : Col → Symbols
spell_col c = spell_qualifier c.table ++ (Named c.name ∷ [])

-- atom = int | col | ( expr )
abbrev pub at_atom : Atom-F Symbols Symbols Symbols Symbols Symbols → Symbols
at_atom (Atom-F.Int n) = Number n ∷ []
at_atom (Atom-F.Col c) = spell_col c
at_atom (Atom-F.Bracket e) = bracketed e

-- factor = [-] atom
abbrev pub at_factor : Factor-F Symbols Symbols Symbols Symbols Symbols → Symbols
at_factor f = optional f.minus (Adds true) ++ f.atom

-- prod = factor {* factor}
abbrev pub at_prod : Prod-F Symbols Symbols Symbols Symbols Symbols → Symbols
at_prod p = p.first ++ led_by (of_sign sign.Star) p.rest

-- (+ | -) prod
abbrev pub at_signed : Signed-F Symbols Symbols Symbols Symbols Symbols → Symbols
at_signed s = Adds s.minus ∷ s.prod

-- expr = prod {(+ | -) prod}
abbrev pub at_expr : Expr-F Symbols Symbols Symbols Symbols Symbols → Symbols
at_expr e = e.first ++ joined e.rest

-- the symbols of an atom
abbrev pub spell_atom : Atom → Symbols
spell_atom = fold-Atom Symbols Symbols Symbols Symbols Symbols at_atom at_expr at_factor at_prod at_signed

-- the symbols of an expression
abbrev pub spell_expr : Expr → Symbols
spell_expr = fold-Expr Symbols Symbols Symbols Symbols Symbols at_atom at_expr at_factor at_prod at_signed

-- the symbols of a factor
abbrev pub spell_factor : Factor → Symbols
spell_factor = fold-Factor Symbols Symbols Symbols Symbols Symbols at_atom at_expr at_factor at_prod at_signed

-- the symbols of a product
abbrev pub spell_prod : Prod → Symbols
spell_prod = fold-Prod Symbols Symbols Symbols Symbols Symbols at_atom at_expr at_factor at_prod at_signed

-- the symbols of a later product of a sum, with its sign
abbrev pub spell_signed : Signed → Symbols
spell_signed = fold-Signed Symbols Symbols Symbols Symbols Symbols at_atom at_expr at_factor at_prod at_signed
