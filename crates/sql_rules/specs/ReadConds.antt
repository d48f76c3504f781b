-- Parsers of conditions: one function for each rule of the grammar. A bracket opens a condition if no expression begins
-- there.
use Rattle.std.specs.Prelude.{ℕ, zero, suc, Bool, true, false}
use Rattle.sql_token.specs.declared.keyword.Keyword.TheVariants as keyword
use Rattle.sql_token.specs.declared.sign.Sign.TheVariants as sign
use Rattle.sql_tree.specs.declared.cond.Cmp.{Cmp}
use Rattle.sql_tree.specs.declared.cond.Cmp.TheVariants as cmp
use Rattle.sql_tree.specs.declared.cond.Cond.{Cond, roll-Cond}
use Rattle.sql_tree.specs.declared.cond.Conj.{Conj, roll-Conj}
use Rattle.sql_tree.specs.declared.cond.Neg.{Neg, roll-Neg}
use Rattle.sql_tree.specs.declared.cond.Pred.{Pred}
use Rattle.sql_tree.specs.declared.cond.Pred.TheVariants as pred
use Rattle.sql_tree.specs.declared.expr.Expr.{Expr}
use Rattle.sql_tree.specs.declared.name.Name.{Name}
use Rattle.sql_rules.specs.Symbols.{OfKeyword, OfSign}
use Rattle.sql_rules.specs.Readers.{Reader, Got, Stuck, ◌>>=◌, either, AreaWord, mark_at, name_at, number_at}
use Rattle.sql_rules.specs.Readers.{cmp_at, area_at, maybe_at, each}
use Rattle.sql_rules.specs.ReadExprs.{expr_at, ints_at}

-- after BETWEEN: expr AND expr
unfoldable pub between_with : Reader Expr → Expr → Bool → Reader Pred
between_with expr value without ts =
    expr ts >>= λ low us.
    mark_at (OfKeyword keyword.And) us >>= λ _ vs.
    expr vs >>= λ high rest.
    Got (pred.Between without value low high) rest

-- after [NOT]: BETWEEN expr AND expr | IN ( sint {, sint} )
unfoldable pub range_with : Reader Expr → Expr → Bool → Reader Pred
range_with expr value without ts =
    either (mark_at (OfKeyword keyword.Between) ts) (λ _ us. between_with expr value without us)
    (mark_at (OfKeyword keyword.In) ts >>= λ _ us. ints_at us >>= λ list rest. Got (pred.Among without value list) rest)

-- after IS: [NOT] NULL
unfoldable pub null_at : Expr → Reader Pred
null_at value ts =
    mark_at (OfKeyword keyword.Null) (maybe_at (OfKeyword keyword.Not) ts).1 >>= λ _ rest.
    Got (pred.IsNull (maybe_at (OfKeyword keyword.Not) ts).0 value) rest

-- the rest of a predicate after its first expression
unfoldable pub said_with : Reader Expr → Expr → Reader Pred
said_with expr value ts =
    either (cmp_at ts) (λ op us. expr us >>= λ right rest. Got (pred.Compare value op right) rest)
    (either (mark_at (OfKeyword keyword.Is) ts) (λ _ us. null_at value us)
    (range_with expr value (maybe_at (OfKeyword keyword.Not) ts).0 (maybe_at (OfKeyword keyword.Not) ts).1))

-- the chord test with the given comparison operator
abbrev pub chord_by : Name → Name → Cmp → Reader Pred
chord_by left right cmp.AtMost ts = number_at ts >>= λ n rest. Got (pred.Chord left right false n) rest
chord_by left right cmp.Less ts = number_at ts >>= λ n rest. Got (pred.Chord left right true n) rest
chord_by left right _ ts = Stuck

-- after CHORD2 ( name: , name ) (<= | <) int
unfoldable pub chord_behind : Name → Reader Pred
chord_behind left ts =
    mark_at (OfSign sign.Comma) ts >>= λ _ us.
    name_at us >>= λ right vs.
    mark_at (OfSign sign.Close) vs >>= λ _ ws.
    cmp_at ws >>= λ op rest.
    chord_by left right op rest

-- after CHORD2: ( name , name ) (<= | <) int
unfoldable pub chord_at : Reader Pred
chord_at ts = mark_at (OfSign sign.Open) ts >>= λ _ us. name_at us >>= λ left vs. chord_behind left vs

-- after the name of an area function: ( sint {, sint} )
unfoldable pub area_with : AreaWord → Reader Pred
area_with word ts = ints_at ts >>= λ args rest. Got (pred.Area word.kind word.span args) rest

-- a condition after its opening bracket, and the closing one
unfoldable pub group_with : Reader Cond → Reader Pred
group_with inner ts = inner ts >>= λ c us. mark_at (OfSign sign.Close) us >>= λ _ rest. Got (pred.Bracket c) rest

-- a predicate that begins with no expression: an area test, a chord test, a condition in brackets
unfoldable pub other_with : Reader Cond → Reader Pred
other_with inner ts =
    either (area_at ts) (λ word us. area_with word us)
    (either (mark_at (OfKeyword keyword.Chord2) ts) (λ _ us. chord_at us)
    (mark_at (OfSign sign.Open) ts >>= λ _ us. group_with inner us))

-- an expression and the rest of its predicate; if no expression begins there, another predicate
unfoldable pub pred_with : Reader Expr → Reader Cond → Reader Pred
pred_with expr inner ts = either (expr ts) (λ value us. said_with expr value us) (other_with inner ts)

-- neg = [NOT] pred
unfoldable pub neg_with : Reader Expr → Reader Cond → Reader Neg
neg_with expr inner ts =
    pred_with expr inner (maybe_at (OfKeyword keyword.Not) ts).1 >>= λ p rest.
    Got (roll-Neg (record { not = (maybe_at (OfKeyword keyword.Not) ts).0; pred = p })) rest

-- conj = neg {AND neg}
unfoldable pub conj_with : Reader Expr → Reader Cond → Reader Conj
conj_with expr inner ts =
    neg_with expr inner ts >>= λ n us.
    each (mark_at (OfKeyword keyword.And)) (λ _. neg_with expr inner) us >>= λ ns rest.
    Got (roll-Conj (record { first = n; rest = ns })) rest

-- cond = conj {OR conj}
unfoldable pub any_with : Reader Expr → Reader Cond → Reader Cond
any_with expr inner ts =
    conj_with expr inner ts >>= λ c us.
    each (mark_at (OfKeyword keyword.Or)) (λ _. conj_with expr inner) us >>= λ cs rest.
    Got (roll-Cond (record { first = c; rest = cs })) rest

-- a condition with at most the given number of levels of nesting
unfoldable pub cond_at : ℕ → Reader Cond
cond_at zero ts = Stuck
cond_at (suc n) ts = any_with (expr_at (suc n)) (cond_at n) ts
