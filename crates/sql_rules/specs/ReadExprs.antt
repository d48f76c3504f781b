-- Parsers of expressions: one function for each rule of the grammar.
use Rattle.std.specs.Prelude.{ℕ, zero, suc, Bool, None, Some}
use Rattle.sql_token.specs.declared.sign.Sign.TheVariants as sign
use Rattle.sql_tree.specs.declared.cond.IntList.{IntList}
use Rattle.sql_tree.specs.declared.cond.SignedInt.{SignedInt}
use Rattle.sql_tree.specs.declared.expr.Atom.{Atom}
use Rattle.sql_tree.specs.declared.expr.Atom.TheVariants as atom
use Rattle.sql_tree.specs.declared.expr.Expr.{Expr, roll-Expr}
use Rattle.sql_tree.specs.declared.expr.Factor.{Factor, roll-Factor}
use Rattle.sql_tree.specs.declared.expr.Prod.{Prod, roll-Prod}
use Rattle.sql_tree.specs.declared.expr.Signed.{Signed, roll-Signed}
use Rattle.sql_tree.specs.declared.name.Col.{Col}
use Rattle.sql_rules.specs.Symbols.{OfSign}
use Rattle.sql_rules.specs.Readers.{Reader, Got, Stuck, ◌>>=◌, either, mark_at, name_at, number_at, adds_at}
use Rattle.sql_rules.specs.Readers.{minus_at, each}

-- col = name [. name]
unfoldable pub col_at : Reader Col
col_at ts =
    name_at ts >>= λ first us.
    either (mark_at (OfSign sign.Dot) us)
    (λ _ vs. name_at vs >>= λ second rest. Got (record { table = Some first; name = second }) rest)
    (Got (record { table = None; name = first }) us)

-- an expression after its opening bracket, and the closing one; `inner` reads the expression
unfoldable pub bracket_with : Reader Expr → Reader Atom
bracket_with inner ts = inner ts >>= λ e us. mark_at (OfSign sign.Close) us >>= λ _ rest. Got (atom.Bracket e) rest

-- atom = int | col | ( expr )
unfoldable pub atom_with : Reader Expr → Reader Atom
atom_with inner ts =
    either (mark_at (OfSign sign.Open) ts) (λ _ us. bracket_with inner us)
    (either (number_at ts) (λ n rest. Got (atom.Int n) rest) (col_at ts >>= λ c rest. Got (atom.Col c) rest))

-- factor = [-] atom
unfoldable pub factor_with : Reader Expr → Reader Factor
factor_with inner ts =
    atom_with inner (minus_at ts).1 >>= λ a rest. Got (roll-Factor (record { minus = (minus_at ts).0; atom = a })) rest

-- prod = factor {* factor}
unfoldable pub prod_with : Reader Expr → Reader Prod
prod_with inner ts =
    factor_with inner ts >>= λ f us.
    each (mark_at (OfSign sign.Star)) (λ _. factor_with inner) us >>= λ fs rest.
    Got (roll-Prod (record { first = f; rest = fs })) rest

-- a product after a plus or a minus
unfoldable pub signed_with : Reader Expr → Bool → Reader Signed
signed_with inner minus ts =
    prod_with inner ts >>= λ p rest. Got (roll-Signed (record { minus = minus; prod = p })) rest

-- expr = prod {(+ | -) prod}
unfoldable pub sum_with : Reader Expr → Reader Expr
sum_with inner ts =
    prod_with inner ts >>= λ p us.
    each adds_at (signed_with inner) us >>= λ ps rest.
    Got (roll-Expr (record { first = p; rest = ps })) rest

-- an expression with at most the given number of levels of nesting
unfoldable pub expr_at : ℕ → Reader Expr
expr_at zero ts = Stuck
expr_at (suc n) ts = sum_with (expr_at n) ts

-- sint = [-] int
unfoldable pub int_at : Reader SignedInt
int_at ts = number_at (minus_at ts).1 >>= λ n rest. Got (record { minus = (minus_at ts).0; size = n }) rest

-- sint {, sint} )
unfoldable pub more_ints_at : SignedInt → Reader IntList
more_ints_at first ts =
    each (mark_at (OfSign sign.Comma)) (λ _. int_at) ts >>= λ more us.
    mark_at (OfSign sign.Close) us >>= λ _ rest.
    Got (record { first = first; rest = more }) rest

-- ( sint {, sint} )
unfoldable pub ints_at : Reader IntList
ints_at ts = mark_at (OfSign sign.Open) ts >>= λ _ us. int_at us >>= λ first vs. more_ints_at first vs
