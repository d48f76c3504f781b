-- The ends of a session fit its script.
use Rattle.std.proofs.Common.{◌≡◌, ℕ, ◌+◌, ◌<◌, List, [], ◌∷◌, length, Bool, true, false, not, ◌&&◌, ◌||◌, nat_eq, nat_le, Option, Some, None, is_some, refl, sym, ◌∙◌, ap, subst, arith, eqb-true, leb-true}
use Rattle.std.specs.Prelude.{if◌then◌else◌}
use Rattle.std.specs.List.{list_any, list_all}
use Rattle.std.proofs.lemmas.Bool.{and_from, both_ways, cond-true, cond-false, false_from_ne_true, false≢true, true≢false, not_from_false, not_from_true}
use Rattle.scan_rules.specs.declared.limits.TheConstants.{RUNNING_MOST}
use Rattle.scan_rules.specs.Queries.{Journal, QueryState, Fresh, Running, Done, Cancelled as CancelledState, Spent as SpentState, state_of, wanted, is_attached, is_cancelled, is_lost, is_complete, is_given}
use Rattle.scan_rules.specs.Runs.{IsRun}
use Rattle.scan_rules.proofs.Wishes.{no_wish_no_loss}
use Rattle.session_script.specs.declared.step.Step.{Step}
use Rattle.session_script.specs.Laws.{NumberedFrom}
use Rattle.session_script.specs.Scripts.{query_count}
use Rattle.session_rules.specs.Ends.{Judged, asks, has_work, has_prompt_cancel, must_be_cancelled, may_end}
use Rattle.session_rules.specs.declared.end.EndKind.{EndKind}
use Rattle.session_rules.specs.declared.end.EndKind.TheVariants.{Answered, Refused, Cancelled, Spent}
use Rattle.session_rules.proofs.Fitting.{fits_by_each}
use Rattle.scan_session.specs.Plans.{Plans}
use Rattle.scan_session.specs.Drove.{Drove}
use Rattle.scan_session.specs.Laws.{is_empty, IsJudgedBy, ShowsKind, DroveFits, EmptyIsDone}
use Rattle.scan_session.proofs.Quiet.{planned_attached}
use Rattle.scan_session.proofs.Numbering.{numbered_is_script}
use Rattle.scan_session.proofs.Wanting.{drove_wants_plans}
use Rattle.scan_session.proofs.Showing.{place_low}

-- the state by what is attached, cancelled, lost and complete
abbrev state_for : Bool → Bool → Bool → Bool → QueryState
state_for a c l k = if not a then Fresh else (if c then CancelledState else (if l then SpentState else (if k then Done else Running)))

tells_cancelled : (a c l k : Bool) → state_for a c l k ≡ CancelledState → c ≡ true
tells_cancelled a true l k e = refl
tells_cancelled false false l k e = absurd (cc e)
tells_cancelled true false true k e = absurd (cc e)
tells_cancelled true false false true e = absurd (cc e)
tells_cancelled true false false false e = absurd (cc e)

tells_lost : (a c l k : Bool) → state_for a c l k ≡ SpentState → l ≡ true
tells_lost a c true k e = refl
tells_lost false c false k e = absurd (cc e)
tells_lost true true false k e = absurd (cc e)
tells_lost true false false true e = absurd (cc e)
tells_lost true false false false e = absurd (cc e)

-- where the third of four fails, not all hold
third_fails : (a b c d : Bool) → c ≡ false → (a && b && c && d) ≡ false
third_fails false b c d h = refl
third_fails true false c d h = refl
third_fails true true false d h = refl
third_fails true true true d h = absurd (true≢false h)

-- what holds where all four do
pub record AllFour (a b c d : Bool) : Type 0 where
  one : a ≡ true
  two : b ≡ true
  three : c ≡ true
  four : d ≡ true

all_four : (a b c d : Bool) → (a && b && c && d) ≡ true → AllFour a b c d
all_four true true true true h = record { one = refl; two = refl; three = refl; four = refl }
all_four false b c d h = absurd (false≢true h)
all_four true false c d h = absurd (false≢true h)
all_four true true false d h = absurd (false≢true h)
all_four true true true false h = absurd (false≢true h)

both_fail : (a b : Bool) → a ≡ false → b ≡ false → (not a && not b) ≡ true
both_fail false false h k = refl
both_fail true b h k = absurd (true≢false h)
both_fail false true h k = absurd (true≢false k)

first_fails : (a b : Bool) → a ≡ true → (not a && b) ≡ false
first_fails true b h = refl
first_fails false b h = absurd (false≢true h)

first_holds : (a b : Bool) → a ≡ true → (a || b) ≡ true
first_holds true b h = refl
first_holds false b h = absurd (false≢true h)

second_of : (a b : Bool) → (not a && not b) ≡ true → b ≡ false
second_of a false h = refl
second_of true true h = absurd (false≢true h)
second_of false true h = absurd (false≢true h)

-- a list that is not empty has a first chunk
first_chunk : (chunks : List ℕ) → is_empty chunks ≡ false → (chunk : ℕ) × (rest : List ℕ) × (chunks ≡ chunk ∷ rest)
first_chunk [] h = absurd (true≢false h)
first_chunk (chunk ∷ rest) h = (chunk, rest, refl)

module _ (workers : ℕ) (plan : Plans) (steps : List Step) (ring : ℕ) (S : Journal) (numbered : NumberedFrom 0 steps) (run : IsRun ring S) (d : Drove workers plan steps S) where
  -- of a planned query that the script asks: its state, and what it wants
  attached : (q : ℕ) (chunks : List ℕ) → list_any (asks q) steps ≡ true → plan q ≡ Some chunks → is_attached S q ≡ true
  attached q chunks asked p = planned_attached plan steps S q d.attached asked (ap is_some p)

  wants : (q : ℕ) (chunks : List ℕ) → list_any (asks q) steps ≡ true → plan q ≡ Some chunks → wanted S q ≡ chunks
  wants q chunks asked p = drove_wants_plans (query_count steps) workers plan steps S q chunks (numbered_is_script steps numbered) d asked p

  empty_stands : (q : ℕ) → list_any (asks q) steps ≡ true → plan q ≡ Some [] → (is_cancelled S q ≡ false) × (is_lost S q ≡ false)
  empty_stands q asked p = no_wish_no_loss ring S q run (wants q [] asked p)

  empty_done : (q : ℕ) → list_any (asks q) steps ≡ true → plan q ≡ Some [] → state_of S q ≡ Done
  empty_done q asked p =
      let none = empty_stands q asked p in
      let complete : is_complete S q ≡ true = ap (list_all (is_given S q)) (wants q [] asked p) in
      cond-false (not (is_attached S q)) _ _ (not_from_true _ (attached q [] asked p))
      ∙ (cond-false (is_cancelled S q) _ _ none.0 ∙ (cond-false (is_lost S q) _ _ none.1 ∙ cond-true (is_complete S q) _ _ complete))

  cancelled_state : (q : ℕ) (chunks : List ℕ) → list_any (asks q) steps ≡ true → plan q ≡ Some chunks → is_cancelled S q ≡ true → state_of S q ≡ CancelledState
  cancelled_state q chunks asked p off =
      cond-false (not (is_attached S q)) _ _ (not_from_true _ (attached q chunks asked p)) ∙ cond-true (is_cancelled S q) _ _ off

  -- a query that did not end cancelled did not have to
  need_not : (q : ℕ) (chunks : List ℕ) (j : Judged) (s : QueryState) → list_any (asks q) steps ≡ true → plan q ≡ Some chunks → IsJudgedBy (Some chunks) j → state_of S q ≡ s → (s ≡ CancelledState → ⊥) → must_be_cancelled workers steps q j ≡ false
  need_not q chunks j s asked p judges is other = false_from_ne_true _ (λ must.
      let h = all_four (nat_eq workers 0) (nat_le (query_count steps) RUNNING_MOST) (has_work j) (has_prompt_cancel steps q) must in
      let f = first_chunk chunks (sym judges.1 ∙ second_of j.early j.idle h.three) in
      let off = d.pinned (eqb-true workers 0 h.one) (leb-true (query_count steps) RUNNING_MOST h.two) q f.0 f.1 (p ∙ ap Some f.2) h.four in
      other (sym is ∙ cancelled_state q chunks asked p off))

  -- a query that was cancelled or lost has chunks
  has_chunks : (q : ℕ) (chunks : List ℕ) (j : Judged) → IsJudgedBy (Some chunks) j → ((chunks ≡ [] → ⊥)) → has_work j ≡ true
  has_chunks q [] j judges some = absurd (some refl)
  has_chunks q (chunk ∷ chunks) j judges some = both_fail j.early j.idle judges.0 judges.1

  cancelled_has : (q : ℕ) (chunks : List ℕ) (j : Judged) → list_any (asks q) steps ≡ true → plan q ≡ Some chunks → IsJudgedBy (Some chunks) j → is_cancelled S q ≡ true → has_work j ≡ true
  cancelled_has q chunks j asked p judges off = has_chunks q chunks j judges (λ none. both_ways _ (empty_stands q asked (p ∙ ap Some none)).0 off)

  lost_has : (q : ℕ) (chunks : List ℕ) (j : Judged) → list_any (asks q) steps ≡ true → plan q ≡ Some chunks → IsJudgedBy (Some chunks) j → is_lost S q ≡ true → has_work j ≡ true
  lost_has q chunks j asked p judges off = has_chunks q chunks j judges (λ none. both_ways _ (empty_stands q asked (p ∙ ap Some none)).1 off)

  pub may : (q : ℕ) (j : Judged) (kind : EndKind) → list_any (asks q) steps ≡ true → (o : Option (List ℕ)) → plan q ≡ o → IsJudgedBy o j → ShowsKind S q o j kind → may_end workers steps q j kind ≡ true
  may q j kind asked None p judges shows =
      subst (λ (k : EndKind). may_end workers steps q j k ≡ true) (sym shows)
      (and_from _ _ (first_holds j.early j.total judges) (not_from_false _ (third_fails (nat_eq workers 0) (nat_le (query_count steps) RUNNING_MOST) (has_work j) (has_prompt_cancel steps q) (first_fails j.early (not j.idle) judges))))
  may q j Answered asked (Some chunks) p judges shows =
      and_from _ _ (not_from_false _ shows.1) (not_from_false _ (need_not q chunks j Done asked p judges shows.0 (λ e. cc e)))
  may q j Refused asked (Some chunks) p judges shows =
      and_from _ _ shows.1 (not_from_false _ (need_not q chunks j Done asked p judges shows.0 (λ e. cc e)))
  may q j Cancelled asked (Some chunks) p judges shows =
      let off = tells_cancelled (is_attached S q) (is_cancelled S q) (is_lost S q) (is_complete S q) shows in
      and_from _ _ (cancelled_has q chunks j asked p judges off) (d.cancelled q off)
  may q j Spent asked (Some chunks) p judges shows =
      let lost = tells_lost (is_attached S q) (is_cancelled S q) (is_lost S q) (is_complete S q) shows in
      and_from _ _ (lost_has q chunks j asked p judges lost) (not_from_false _ (need_not q chunks j SpentState asked p judges shows (λ e. cc e)))

pub drove_fits : DroveFits
drove_fits workers plan steps ring plans S judged kinds numbered d count same judges shows =
    fits_by_each workers steps judged kinds count same (λ i j kind at_j at_kind.
    let low : i < length judged = place_low judged i j at_j in
    let asked : list_any (asks (i + 1)) steps ≡ true = (numbered_is_script steps numbered).all (i + 1) (omega arith) (omega (arith, low, count)) in
    may workers (plans (i + 1)) steps ring (S (i + 1)) numbered (d.run (i + 1)) (d.drove (i + 1)) (i + 1) j kind asked (plan (i + 1)) (d.here (i + 1)) (judges i j at_j) (shows i j kind at_j at_kind))

pub empty_is_done : EmptyIsDone
empty_is_done workers plan steps ring S q numbered run d asked p = empty_done workers plan steps ring S numbered run d q asked p
