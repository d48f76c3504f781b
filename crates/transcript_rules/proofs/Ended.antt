-- What the end of a query says of it, where the ends fit.
use Rattle.std.proofs.Common.{◌≡◌, refl, sym, ap, ◌∙◌, subst, ℕ, ◌+◌, Bool, true, false, ◌&&◌, ◌||◌}
use Rattle.std.proofs.Common.{List, Option, None, Some}
use Rattle.std.specs.Option.{is_some, option_or}
use Rattle.table_rules.specs.Objects.{Catalogue}
use Rattle.sky_rules.specs.Partition.{Partition}
use Rattle.sql_rules.specs.PrintedExprs.{Bytes}
use Rattle.session_script.specs.declared.step.Step.{Step}
use Rattle.session_rules.specs.Ends.{has_cancel, has_work, may_end}
use Rattle.session_rules.specs.declared.end.EndKind.{EndKind}
use Rattle.session_rules.specs.declared.end.EndKind.TheVariants.{Answered, Refused, Cancelled, Spent}
use Rattle.transcript_rules.specs.declared.refusal.Refusal.{Refusal}
use Rattle.transcript_rules.specs.Refusals.{early_refusal, total_refusal, refusal_of}
use Rattle.transcript_rules.specs.Blocks.{block, end_lines}
use Rattle.transcript_rules.specs.Transcripts.{judged_of}
use Rattle.transcript_rules.specs.Laws.{AnsweredUnlessCancelledOrSpent, CancelledIsAskedFor}
use Rattle.transcript_rules.specs.Laws.{EqualQueriesAreAlike, IsRefusal, RefusedHasItsReason}
use Rattle.transcript_rules.proofs.Blocks.{from_one, split_and}
use Rattle.transcript_rules.proofs.Shown.{is_block, is_allowed}
use Rattle.transcript_rules.proofs.Steps.{refused_early, refused_by}

-- the reason of a query that is refused early, or else for a total
reason : (g : Partition) (c : Catalogue) (k : ℕ) (text : Bytes) (a b : Option Refusal)
    → early_refusal g c text ≡ a → total_refusal c text ≡ b → (is_some a || is_some b) ≡ true
    → IsRefusal g c k text (block g c k text Refused)
unfolding refusal_of
reason g c k text (Some why) b early total any = record {
  why = why;
  refused = refused_early g c text why early;
  shows = refused_by g c k text why (refused_early g c text why early);
}
reason g c k text None (Some why) early total any =
    let is : refusal_of g c text ≡ Some why = ap (λ r. option_or r (total_refusal c text)) early ∙ total in
    record { why = why; refused = is; shows = refused_by g c k text why is }
reason g c k text None None early total any = absurd (cc any)

-- the reason of a query that may end refused
reason_of : (w : ℕ) (g : Partition) (c : Catalogue) (steps : List Step) (k n : ℕ) (text : Bytes)
    → may_end w steps n (judged_of g c text) Refused ≡ true → IsRefusal g c k text (block g c k text Refused)
unfolding judged_of
reason_of w g c steps k n text allowed =
    reason g c k text (early_refusal g c text) (total_refusal c text) refl refl (split_and _ _ allowed).0

-- a query that ends refused has its reason
pub refused_has_its_reason : RefusedHasItsReason
refused_has_its_reason w g c s ends i text block_text h =
    subst (IsRefusal g c (i + 1) text) (sym (is_block w g c s ends i text Refused block_text h))
    (reason_of w g c s.steps (i + 1) (1 + i) text (is_allowed w g c s ends i text Refused block_text h))

-- a query that ends cancelled is cancelled by the script, and has work
pub cancelled_is_asked_for : CancelledIsAskedFor
cancelled_is_asked_for w g c s ends i text block_text h =
    let both = split_and (has_work (judged_of g c text)) (has_cancel s.steps (1 + i))
    (is_allowed w g c s ends i text Cancelled block_text h) in
    (sym (ap (λ n. has_cancel s.steps n) (from_one i)) ∙ both.1, both.0)

-- what has no refusal is not refused
not_refused : (a b : Option Refusal) (rest : Bool) → option_or a b ≡ None → ((is_some a || is_some b) && rest) ≡ true → ⊥
not_refused (Some r) b rest none any = cc none
not_refused None (Some r) rest none any = cc none
not_refused None None rest none any = cc any

-- what is not asked for does not hold
not_both : (a b : Bool) → b ≡ false → (a && b) ≡ true → ⊥
not_both true b no_b h = cc (no_b, h)
not_both false b no_b h = cc h

-- the end of a query that may end so, has no refusal and is not cancelled
answered_or_spent : (w : ℕ) (g : Partition) (c : Catalogue) (steps : List Step) (n : ℕ) (text : Bytes) (end : EndKind)
    → may_end w steps n (judged_of g c text) end ≡ true → refusal_of g c text ≡ None → has_cancel steps n ≡ false
    → (end ≡ Spent → ⊥) → end ≡ Answered
unfolding judged_of refusal_of
answered_or_spent w g c steps n text Answered allowed none kept fit = refl
answered_or_spent w g c steps n text Refused allowed none kept fit =
    absurd (not_refused (early_refusal g c text) (total_refusal c text) _ none allowed)
answered_or_spent w g c steps n text Cancelled allowed none kept fit =
    absurd (not_both _ (has_cancel steps n) kept allowed)
answered_or_spent w g c steps n text Spent allowed none kept fit = absurd (fit refl)

-- a query without a refusal and a cancel ends answered, unless it wants for memory
pub answered_unless_cancelled_or_spent : AnsweredUnlessCancelledOrSpent
answered_unless_cancelled_or_spent w g c s ends i text end block_text h none kept fit =
    answered_or_spent w g c s.steps (1 + i) text end (is_allowed w g c s ends i text end block_text h) none
    (ap (λ n. has_cancel s.steps n) (from_one i) ∙ kept) fit

-- equal queries that end alike have the same block, but for its number
pub equal_queries_are_alike : EqualQueriesAreAlike
unfolding block
equal_queries_are_alike w g c s ends i j text end first second h k = record {
  rest = end_lines g c text end;
  one = is_block w g c s ends i text end first h;
  other = is_block w g c s ends j text end second k;
}
