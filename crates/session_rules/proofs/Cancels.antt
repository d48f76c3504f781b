-- Cancels among the steps of a script.
use Rattle.std.proofs.Common.{◌≡◌, refl, sym, ap, ◌∙◌, subst, ℕ, suc, ◌+◌, ◌<◌, arith, Bool, true, false, not, ◌&&◌, ◌||◌, cond, List, [], ◌∷◌, ◌++◌, take, nat_eq}
use Rattle.std.specs.List.{list_any, prefix_len, take_while}
use Rattle.std.proofs.lemmas.Bool.{eq-eqb, eqb-true}
use Rattle.sql_token.specs.declared.token.Span.{Span}
use Rattle.session_script.specs.Laws.{NumberedFrom}
use Rattle.session_script.specs.declared.step.Step.{Step}
use Rattle.session_script.specs.declared.step.Step.TheVariants.{Query, Wait, Cancel}
use Rattle.session_rules.specs.Ends.{asks, behind_query, cancels, has_prompt_cancel, is_wait, waits_for}
use Rattle.session_rules.specs.Laws.{CancelStands, PromptIsASplit}

same_number : (k : ℕ) → nat_eq k k ≡ true
same_number k = eq-eqb k k refl

-- a number differs from every lower one
other_number : (n k : ℕ) (b : Bool) → n < k → nat_eq n k ≡ b → b ≡ false
other_number n k true less is = absurd (omega (arith, eqb-true n k is, less))
other_number n k false less is = refl

-- behind so many queries the next ones have higher numbers
above : (queries : ℕ) (a rest : List Step) (k : ℕ) (span : Span) → NumberedFrom queries (a ++ Query k span ∷ rest) → queries < k
above queries [] rest k span numbered = omega (arith, numbered.0)
above queries (Query n other ∷ a) rest k span numbered = omega (arith, above (queries + 1) a rest k span numbered.1)
above queries (Wait n ∷ a) rest k span numbered = above queries a rest k span numbered.1
above queries (Cancel n ∷ a) rest k span numbered = above queries a rest k span numbered.1

-- what stands behind a query
behind_is : (queries : ℕ) (a rest : List Step) (k : ℕ) (span : Span) → NumberedFrom queries (a ++ Query k span ∷ rest)
    → behind_query k (a ++ Query k span ∷ rest) ≡ rest
behind_is queries [] rest k span numbered = ap (λ b. cond b rest (behind_query k rest)) (same_number k)
behind_is queries (Query n other ∷ a) rest k span numbered =
    let less : n < k = omega (arith, numbered.0, above (queries + 1) a rest k span numbered.1) in
    ap (λ b. cond b (a ++ Query k span ∷ rest) (behind_query k (a ++ Query k span ∷ rest))) (other_number n k (nat_eq n k) less refl)
    ∙ behind_is (queries + 1) a rest k span numbered.1
behind_is queries (Wait n ∷ a) rest k span numbered = behind_is queries a rest k span numbered.1
behind_is queries (Cancel n ∷ a) rest k span numbered = behind_is queries a rest k span numbered.1

neither : (a b : Bool) → (a || b) ≡ false → (a ≡ false) × (b ≡ false)
neither true b h = absurd (cc h)
neither false b h = (refl, h)

either : (a b : Bool) → b ≡ true → (a || b) ≡ true
either true b h = refl
either false b h = h

one_more : (n : ℕ) (s : Step) (ss : List Step) → take (1 + n) (s ∷ ss) ≡ s ∷ take n ss
one_more n s ss =
    let next : 1 + n ≡ suc n = omega arith in
    ap (λ m. take m (s ∷ ss)) next

-- a step that passes a test is kept, and those behind it that are kept without it
kept : (test : Step → Bool) (s : Step) (ss : List Step) → test s ≡ true → take_while test (s ∷ ss) ≡ s ∷ take_while test ss
kept test s ss is = ap (λ b. take (cond b (1 + prefix_len test ss) 0) (s ∷ ss)) is ∙ one_more (prefix_len test ss) s ss

-- a cancel among the steps that are kept
abbrev any_cancel : ℕ → (Step → Bool) → List Step → Bool
any_cancel k test ss = list_any (cancels k) (take_while test ss)

-- whether a cancel is kept, by its first step, which is
cancel_kept : (k : ℕ) (test : Step → Bool) (s : Step) (ss : List Step) → test s ≡ true → any_cancel k test (s ∷ ss) ≡ (cancels k s || any_cancel k test ss)
cancel_kept k test s ss is = ap (list_any (cancels k)) (kept test s ss is)

-- a cancel is found behind steps that do not wait for its query
found : (k : ℕ) (b c : List Step) → list_any (waits_for k) b ≡ false → any_cancel k (λ s. not (waits_for k s)) (b ++ Cancel k ∷ c) ≡ true
found k [] c none =
    cancel_kept k (λ s. not (waits_for k s)) (Cancel k) c refl ∙ ap (λ t. t || any_cancel k (λ s. not (waits_for k s)) c) (same_number k)
found k (Query n span ∷ b) c none =
    cancel_kept k (λ s. not (waits_for k s)) (Query n span) (b ++ Cancel k ∷ c) refl ∙ found k b c none
found k (Wait n ∷ b) c none =
    let no = neither (nat_eq n k) (list_any (waits_for k) b) none in
    cancel_kept k (λ s. not (waits_for k s)) (Wait n) (b ++ Cancel k ∷ c) (ap not no.0) ∙ found k b c no.1
found k (Cancel n ∷ b) c none =
    cancel_kept k (λ s. not (waits_for k s)) (Cancel n) (b ++ Cancel k ∷ c) refl ∙ either (nat_eq n k) _ (found k b c none)

pub cancel_stands : CancelStands
cancel_stands a b c k span numbered none =
    ap (λ ss. list_any (cancels k) (take_while (λ s. not (waits_for k s)) ss)) (behind_is 0 a (b ++ Cancel k ∷ c) k span numbered)
    ∙ found k b c none

-- The steps are those between, of which none is a wait, a cancel of a query, and those behind it.
record Prompt (k : ℕ) (ss : List Step) : Type 0 where
  between : List Step
  behind : List Step
  parted : ss ≡ between ++ Cancel k ∷ behind
  calm : list_any is_wait between ≡ false

-- a further step between
prompt_behind : (k : ℕ) (s : Step) (ss : List Step) → is_wait s ≡ false → Prompt k ss → Prompt k (s ∷ ss)
prompt_behind k s ss calm p = record {
  between = s ∷ p.between;
  behind = p.behind;
  parted = ap (λ all. s ∷ all) p.parted;
  calm = ap (λ b. b || list_any is_wait p.between) calm ∙ p.calm;
}

prompt_cancel : (k n : ℕ) (ss : List Step) (b : Bool) → nat_eq n k ≡ b → (b ≡ false → Prompt k ss) → Prompt k (Cancel n ∷ ss)
prompt_cancel k n ss true is more = record {
  between = [];
  behind = ss;
  parted = ap (λ m. Cancel m ∷ ss) (eqb-true n k is);
  calm = refl;
}
prompt_cancel k n ss false is more = prompt_behind k (Cancel n) ss refl (more refl)

-- where one of two holds and the one does not, the other does
other_holds : (a b : Bool) → a ≡ false → (a || b) ≡ true → b ≡ true
other_holds true b one h = absurd (cc one)
other_holds false b one h = h

prompt_of : (k : ℕ) (ss : List Step) → any_cancel k (λ s. not (is_wait s)) ss ≡ true → Prompt k ss
prompt_of k [] has = absurd (cc has)
prompt_of k (Query n span ∷ ss) has =
    prompt_behind k (Query n span) ss refl (prompt_of k ss (sym (cancel_kept k (λ s. not (is_wait s)) (Query n span) ss refl) ∙ has))
prompt_of k (Wait n ∷ ss) has = absurd (cc has)
prompt_of k (Cancel n ∷ ss) has =
    let more = sym (cancel_kept k (λ s. not (is_wait s)) (Cancel n) ss refl) ∙ has in
    prompt_cancel k n ss (nat_eq n k) refl (λ other. prompt_of k ss (other_holds (nat_eq n k) _ other more))

-- The steps are those before a query, the query, and what stands behind it, where a prompt cancel is.
record Asked (k : ℕ) (steps : List Step) : Type 0 where
  before : List Step
  span : Span
  rest : List Step
  parted : steps ≡ before ++ Query k span ∷ rest
  prompt : Prompt k rest

asked_behind : (k : ℕ) (s : Step) (ss : List Step) → Asked k ss → Asked k (s ∷ ss)
asked_behind k s ss a = record {
  before = s ∷ a.before;
  span = a.span;
  rest = a.rest;
  parted = ap (λ all. s ∷ all) a.parted;
  prompt = a.prompt;
}

asked_query : (k n : ℕ) (span : Span) (ss : List Step) (b : Bool) → nat_eq n k ≡ b
    → list_any (cancels k) (take_while (λ s. not (is_wait s)) (cond b ss (behind_query k ss))) ≡ true
    → (has_prompt_cancel ss k ≡ true → Asked k ss) → Asked k (Query n span ∷ ss)
asked_query k n span ss true is has more = record {
  before = [];
  span = span;
  rest = ss;
  parted = ap (λ m. Query m span ∷ ss) (eqb-true n k is);
  prompt = prompt_of k ss has;
}
asked_query k n span ss false is has more = asked_behind k (Query n span) ss (more has)

asked_of : (k : ℕ) (steps : List Step) → has_prompt_cancel steps k ≡ true → Asked k steps
asked_of k [] has = absurd (cc has)
asked_of k (Query n span ∷ ss) has = asked_query k n span ss (nat_eq n k) refl has (λ more. asked_of k ss more)
asked_of k (Wait n ∷ ss) has = asked_behind k (Wait n) ss (asked_of k ss has)
asked_of k (Cancel n ∷ ss) has = asked_behind k (Cancel n) ss (asked_of k ss has)

pub prompt_is_a_split : PromptIsASplit
prompt_is_a_split steps k has =
    let a = asked_of k steps has in (
      a.before,
      a.prompt.between,
      a.prompt.behind,
      a.span,
      a.parted ∙ ap (λ rest. a.before ++ Query k a.span ∷ rest) a.prompt.parted,
      a.prompt.calm,
    )
