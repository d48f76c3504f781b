-- What comes behind an expression, rule by rule, whatever was read before it.
use Rattle.std.proofs.Common.{◌≡◌, ℕ, ℤ, suc, ◌+◌, ◌-◌, ◌<◌, ◌≤◌, List, Option, None, Some, refl, arith, Bool}
use Rattle.sql_token.specs.declared.sign.Sign.TheVariants as sign
use Rattle.sql_tree.specs.declared.expr.Expr.{Expr}
use Rattle.sql_rules.specs.Symbols.{Symbol, OfSign, Mark}
use Rattle.sql_rules.specs.Readers.{Reader, Answer, Got, Stuck, ◌>>=◌, either, each, many, adds_at, mark_at, minus_at, name_at, number_at}
use Rattle.sql_rules.specs.ReadExprs.{atom_with, bracket_with, col_at, factor_with, prod_with, signed_with, sum_with}
use Rattle.sql_rules.specs.ReadConds.{pred_with, other_with}
use Rattle.sql_tree.specs.declared.cond.Cond.{Cond}
use Rattle.sql_reader.specs.Answers.{Passes, rest_of}
use Rattle.sql_reader.specs.Preds.{valued_at}

-- where none stands, what would follow it doesn't matter
then_none : {A B : Type 0} (a : Answer A) (f : A → Reader B) → rest_of a ≡ None → rest_of (a >>= f) ≡ None
then_none (Got x us) f e = absurd (cc e)
then_none Stuck f e = refl

-- what follows depends on what comes behind alone
then_some : {A B : Type 0} (a : Answer A) (f : A → Reader B) (us : List Symbol) (x : Option (List Symbol)) → ((v : A) → rest_of (f v us) ≡ x) → rest_of a ≡ Some us → rest_of (a >>= f) ≡ x
then_some (Got v ws) f us x all e = let same : ws ≡ us = cc e in rw same (all v)
then_some Stuck f us x all e = absurd (cc e)

-- a value that is made of what was read takes nothing more
last : {A B : Type 0} (a : Answer A) (g : A → B) → rest_of (a >>= λ v rest. Got (g v) rest) ≡ rest_of a
last (Got v us) g = refl
last Stuck g = refl

-- a mark that is known, passed or not
pub passed : (m : Mark) (a : Answer Mark) (r : Option (List Symbol)) → Passes m a r → rest_of a ≡ r
passed m a (Some rest) e = rw e refl
passed m a None e = rw e refl

-- where something stands, the other does not matter
value_stands : {A B : Type 0} (a : Answer A) (f : A → Reader B) (other : Answer B) (us : List Symbol) → rest_of a ≡ Some us → either a f other ≡ (a >>= f)
value_stands (Got x vs) f other us e = refl
value_stands Stuck f other us e = absurd (cc e)

-- where nothing stands, the other does
none_stands : {A B : Type 0} (a : Answer A) (f : A → Reader B) (other : Answer B) → rest_of a ≡ None → either a f other ≡ other
none_stands (Got x vs) f other e = absurd (cc e)
none_stands Stuck f other e = refl

-- no turn is left
pub skip_end : {S A : Type 0} (lead : Reader S) (item : S → Reader A) (n i : ℕ) (ts : List Symbol) → n ≤ i → rest_of (many lead item (n - i) ts) ≡ Some ts
unfolding many
skip_end lead item n i ts le = let e : n - i ≡ 0 = omega arith in rw e refl

-- the leading symbol does not stand there
pub skip_stuck : {S A : Type 0} (lead : Reader S) (item : S → Reader A) (n i : ℕ) (ts : List Symbol) → i < n → lead ts ≡ Stuck → rest_of (many lead item (n - i) ts) ≡ Some ts
unfolding many
skip_stuck lead item n i ts lt stuck = let e : n - i ≡ suc (n - (i + 1)) = omega arith in rw (e, stuck) refl

-- the leading symbol stands there, and not the item that has to follow
pub skip_fails : {S A : Type 0} (lead : Reader S) (item : S → Reader A) (n i : ℕ) (ts : List Symbol) (s : S) (us : List Symbol) → i < n → lead ts ≡ Got s us → rest_of (item s us) ≡ None → rest_of (many lead item (n - i) ts) ≡ None
unfolding many
skip_fails lead item n i ts s us lt led none = let e : n - i ≡ suc (n - (i + 1)) = omega arith in rw (e, led) (then_none (item s us) _ none)

-- an item more was passed
pub skip_more : {S A : Type 0} (lead : Reader S) (item : S → Reader A) (n i : ℕ) (ts : List Symbol) (s : S) (us vs : List Symbol) → i < n → lead ts ≡ Got s us → rest_of (item s us) ≡ Some vs → rest_of (many lead item (n - i) ts) ≡ rest_of (many lead item (n - (i + 1)) vs)
unfolding many
skip_more lead item n i ts s us vs lt led is =
    let e : n - i ≡ suc (n - (i + 1)) = omega arith in
    rw (e, led) (then_some (item s us) _ vs _ (λ x. last (many lead item (n - (i + 1)) vs) _) is)

-- a column begins with a name
pub col_none : (ts : List Symbol) → rest_of (name_at ts) ≡ None → rest_of (col_at ts) ≡ None
unfolding col_at
col_none ts e = then_none (name_at ts) _ e

-- a column of one name
pub col_plain : (ts us : List Symbol) → rest_of (name_at ts) ≡ Some us → mark_at (OfSign sign.Dot) us ≡ Stuck → rest_of (col_at ts) ≡ Some us
unfolding col_at
col_plain ts us e none = then_some (name_at ts) _ us (Some us) (λ v. rw none refl) e

-- a column with its qualifier
pub col_of_table : (ts us vs : List Symbol) (m : Mark) → rest_of (name_at ts) ≡ Some us → mark_at (OfSign sign.Dot) us ≡ Got m vs → rest_of (col_at ts) ≡ rest_of (name_at vs)
unfolding col_at
col_of_table ts us vs m e dot = then_some (name_at ts) _ us (rest_of (name_at vs)) (λ v. rw dot (last (name_at vs) _)) e

-- no expression stands in the bracket
pub bracket_none : (inner : Reader Expr) (ts : List Symbol) → rest_of (inner ts) ≡ None → rest_of (bracket_with inner ts) ≡ None
unfolding bracket_with
bracket_none inner ts e = then_none (inner ts) _ e

-- an expression stands in the bracket, and then its end has to
pub bracket_some : (inner : Reader Expr) (ts us : List Symbol) → rest_of (inner ts) ≡ Some us → rest_of (bracket_with inner ts) ≡ rest_of (mark_at (OfSign sign.Close) us)
unfolding bracket_with
bracket_some inner ts us e = then_some (inner ts) _ us (rest_of (mark_at (OfSign sign.Close) us)) (λ v. last (mark_at (OfSign sign.Close) us) _) e

-- an atom that is a bracket
pub atom_open : (inner : Reader Expr) (ts us : List Symbol) (m : Mark) → mark_at (OfSign sign.Open) ts ≡ Got m us → rest_of (atom_with inner ts) ≡ rest_of (bracket_with inner us)
unfolding atom_with
atom_open inner ts us m e = rw e refl

-- an atom that is an int
pub atom_int : (inner : Reader Expr) (ts us : List Symbol) (n : ℤ) → mark_at (OfSign sign.Open) ts ≡ Stuck → number_at ts ≡ Got n us → rest_of (atom_with inner ts) ≡ Some us
unfolding atom_with
atom_int inner ts us n closed e = rw (closed, e) refl

-- any other atom is a column
pub atom_col : (inner : Reader Expr) (ts : List Symbol) → mark_at (OfSign sign.Open) ts ≡ Stuck → number_at ts ≡ Stuck → rest_of (atom_with inner ts) ≡ rest_of (col_at ts)
unfolding atom_with
atom_col inner ts closed e = rw (closed, e) (last (col_at ts) _)

-- a minus may stand before an atom
pub factor_rest : (inner : Reader Expr) (ts us : List Symbol) (minus : Bool) → minus_at ts ≡ (minus, us) → rest_of (factor_with inner ts) ≡ rest_of (atom_with inner us)
unfolding factor_with
factor_rest inner ts us minus e = rw e (last (atom_with inner us) _)

-- no factor stands at the front
pub prod_none : (inner : Reader Expr) (ts : List Symbol) → rest_of (factor_with inner ts) ≡ None → rest_of (prod_with inner ts) ≡ None
unfolding prod_with
prod_none inner ts e = then_none (factor_with inner ts) _ e

-- a factor stands at the front, and further ones may follow
pub prod_some : (inner : Reader Expr) (ts us : List Symbol) → rest_of (factor_with inner ts) ≡ Some us → rest_of (prod_with inner ts) ≡ rest_of (each (mark_at (OfSign sign.Star)) (λ _. factor_with inner) us)
unfolding prod_with
prod_some inner ts us e = then_some (factor_with inner ts) _ us _ (λ v. last (each (mark_at (OfSign sign.Star)) (λ _. factor_with inner) us) _) e

-- the product behind a plus or a minus
pub signed_rest : (inner : Reader Expr) (minus : Bool) (ts : List Symbol) → rest_of (signed_with inner minus ts) ≡ rest_of (prod_with inner ts)
unfolding signed_with
signed_rest inner minus ts = last (prod_with inner ts) _

-- no product stands at the front
pub sum_none : (inner : Reader Expr) (ts : List Symbol) → rest_of (prod_with inner ts) ≡ None → rest_of (sum_with inner ts) ≡ None
unfolding sum_with
sum_none inner ts e = then_none (prod_with inner ts) _ e

-- a product stands at the front, and further ones may follow
pub sum_some : (inner : Reader Expr) (ts us : List Symbol) → rest_of (prod_with inner ts) ≡ Some us → rest_of (sum_with inner ts) ≡ rest_of (each adds_at (signed_with inner) us)
unfolding sum_with
sum_some inner ts us e = then_some (prod_with inner ts) _ us _ (λ v. last (each adds_at (signed_with inner) us) _) e

-- where an expression stands, the predicate is what is said of it
pub pred_valued : (expr : Reader Expr) (inner : Reader Cond) (ts us : List Symbol) → rest_of (expr ts) ≡ Some us → pred_with expr inner ts ≡ valued_at expr ts
unfolding pred_with
pred_valued expr inner ts us e = value_stands (expr ts) _ _ us e

-- where none stands, the predicate is another
pub pred_other : (expr : Reader Expr) (inner : Reader Cond) (ts : List Symbol) → rest_of (expr ts) ≡ None → pred_with expr inner ts ≡ other_with inner ts
unfolding pred_with
pred_other expr inner ts e = none_stands (expr ts) _ _ e
