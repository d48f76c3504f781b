-- Loops over several: what was read so far, and the reading of the rest. And levels of brackets.
use Rattle.std.proofs.Common.{◌≡◌, ℕ, suc, zero, ◌+◌, ◌-◌, ◌<◌, ◌≤◌, List, [], ◌∷◌, ◌++◌, refl, sym, ap, append_assoc, arith}
use Rattle.std.proofs.lemmas.List.{append-nil}
use Rattle.sql_rules.specs.Symbols.{Symbol}
use Rattle.sql_rules.specs.Readers.{Reader, Answer, Got, Stuck, ◌>>=◌, many}
use Rattle.sql_rules.specs.ReadExprs.{expr_at, sum_with}
use Rattle.sql_rules.specs.ReadConds.{cond_at, any_with}
use Rattle.sql_reader.specs.Answers.{Fails}
use Rattle.sql_reader.specs.declared.ahead.ReadStop.{ReadStop}
use Rattle.sql_reader.specs.declared.ahead.ReadStop.TheVariants.{Memory, Syntax}

-- an answer behind values that were read before
abbrev pub with_front : {A : Type 0} → List A → Answer (List A) → Answer (List A)
with_front xs a = a >>= λ ys rest. Got (xs ++ ys) rest

front_more : {A : Type 0} (xs : List A) (x : A) (a : Answer (List A)) → with_front xs (a >>= λ ys r. Got (x ∷ ys) r) ≡ with_front (xs ++ (x ∷ [])) a
front_more xs x (Got ys r) = ap (λ t. Got t r) (sym (append_assoc xs (x ∷ []) ys))
front_more xs x Stuck = refl

-- before anything was read
pub front_none : {A : Type 0} (a : Answer (List A)) → a ≡ with_front [] a
front_none (Got xs rest) = refl
front_none Stuck = refl

-- no turn is left
pub loop_end : {S A : Type 0} (lead : Reader S) (item : S → Reader A) (xs : List A) (n i : ℕ) (ts : List Symbol) → n ≤ i → with_front xs (many lead item (n - i) ts) ≡ Got xs ts
unfolding many
loop_end lead item xs n i ts le = let e : n - i ≡ 0 = omega arith in rw e (ap (λ t. Got t ts) (append-nil xs))

-- the leading symbol does not stand there
pub loop_stuck : {S A : Type 0} (lead : Reader S) (item : S → Reader A) (xs : List A) (n i : ℕ) (ts : List Symbol) → i < n → lead ts ≡ Stuck → with_front xs (many lead item (n - i) ts) ≡ Got xs ts
unfolding many
loop_stuck lead item xs n i ts lt stuck = let e : n - i ≡ suc (n - (i + 1)) = omega arith in rw (e, stuck) (ap (λ t. Got t ts) (append-nil xs))

-- the leading symbol stands there, and not the item that has to follow
pub loop_fails : {S A : Type 0} (lead : Reader S) (item : S → Reader A) (xs : List A) (n i : ℕ) (ts : List Symbol) (s : S) (us : List Symbol) → i < n → lead ts ≡ Got s us → item s us ≡ Stuck → with_front xs (many lead item (n - i) ts) ≡ Stuck
unfolding many
loop_fails lead item xs n i ts s us lt led stuck = let e : n - i ≡ suc (n - (i + 1)) = omega arith in rw (e, led, stuck) refl

-- an item more was read
pub loop_more : {S A : Type 0} (lead : Reader S) (item : S → Reader A) (xs : List A) (n i : ℕ) (ts : List Symbol) (s : S) (us : List Symbol) (x : A) (vs : List Symbol) → i < n → lead ts ≡ Got s us → item s us ≡ Got x vs → with_front xs (many lead item (n - i) ts) ≡ with_front (xs ++ (x ∷ [])) (many lead item (n - (i + 1)) vs)
unfolding many
loop_more lead item xs n i ts s us x vs lt led is = let e : n - i ≡ suc (n - (i + 1)) = omega arith in rw (e, led, is) (front_more xs x (many lead item (n - (i + 1)) vs))

-- where a part fails, so does the whole
pub fails_with : {A B : Type 0} (why : ReadStop) (part : Answer A) (all : Answer B) → Fails part why → (part ≡ Stuck → all ≡ Stuck) → Fails all why
fails_with Memory part all h f = tt
fails_with Syntax part all h f = f h

-- one level of brackets opened
pub expr_level : (n : ℕ) (ts : List Symbol) → 0 < n → expr_at n ts ≡ sum_with (expr_at (n - 1)) ts
unfolding expr_at
expr_level zero ts lt = absurd (omega arith)
expr_level (suc n) ts lt = let e : suc n - 1 ≡ n = omega arith in rw e refl

-- no level is left
pub expr_none : (n : ℕ) (ts : List Symbol) → n ≡ 0 → expr_at n ts ≡ Stuck
unfolding expr_at
expr_none n ts e = rw e refl

-- the same of a condition
pub cond_level : (n : ℕ) (ts : List Symbol) → 0 < n → cond_at n ts ≡ any_with (expr_at n) (cond_at (n - 1)) ts
unfolding cond_at
cond_level zero ts lt = absurd (omega arith)
cond_level (suc n) ts lt = let e : suc n - 1 ≡ n = omega arith in rw e refl

-- the same of a condition
pub cond_none : (n : ℕ) (ts : List Symbol) → n ≡ 0 → cond_at n ts ≡ Stuck
unfolding cond_at
cond_none n ts e = rw e refl
