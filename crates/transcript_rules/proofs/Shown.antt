-- What the block of a query shows, where the ends fit.
use Rattle.std.proofs.Common.{◌≡◌, inl, inr, refl, sym, ap, ◌∙◌, subst, ℕ, ◌+◌, Bool, true, false, not, ◌&&◌, ◌||◌}
use Rattle.std.proofs.Common.{List, ◌++◌, length, Option, None, Some, Result, Ok, Err}
use Rattle.std.specs.Option.{is_some, option_or}
use Rattle.table_rules.specs.Objects.{Catalogue}
use Rattle.sky_rules.specs.Partition.{Partition}
use Rattle.sql_rules.specs.PrintedExprs.{Bytes}
use Rattle.answer_rules.specs.Answers.{Answer, flat_answer}
use Rattle.answer_rules.specs.Plans.{plan_of}
use Rattle.session_script.specs.Views.{ScriptView}
use Rattle.session_script.specs.declared.step.Step.{Step}
use Rattle.session_rules.specs.Ends.{may_end}
use Rattle.session_rules.specs.declared.end.EndKind.{EndKind}
use Rattle.session_rules.specs.declared.end.EndKind.TheVariants.{Answered, Refused, Cancelled, Spent}
use Rattle.transcript_rules.specs.declared.refusal.Refusal.{Refusal}
use Rattle.transcript_rules.specs.Refusals.{Understood, understood, early_by, early_refusal, total_by, total_refusal_by}
use Rattle.transcript_rules.specs.Refusals.{total_refusal, refusal_of}
use Rattle.transcript_rules.specs.RefusalLines.{refusal_line}
use Rattle.transcript_rules.specs.Tables.{headings}
use Rattle.transcript_rules.specs.Blocks.{number_line, answer_lines, answered_lines, block}
use Rattle.transcript_rules.specs.Transcripts.{judged_of}
use Rattle.transcript_rules.specs.Laws.{AnsweredShowsItsTable, EarlyIsTold, HasNoRows, IsBlock, IsTable}
use Rattle.transcript_rules.specs.Laws.{RefusedShowsNoRows}
use Rattle.transcript_rules.proofs.Blocks.{blocks_in_order, may_be}
use Rattle.transcript_rules.proofs.Steps.{refused_early, refused_by}

-- what stands at a place of the transcript is the block of its query
pub is_block : (w : ℕ) (g : Partition) (c : Catalogue) (s : ScriptView) (ends : List EndKind) (i : ℕ) (text : Bytes)
    (end : EndKind) (written : Bytes) → IsBlock w g c s ends i text end written → written ≡ block g c (i + 1) text end
is_block w g c s ends i text end written h =
    same written (block g c (i + 1) text end) (sym h.stands ∙ blocks_in_order g c s ends i text end h.asked h.ended)
  where
    same : (a b : Bytes) → ◌≡◌ {A = Option Bytes} (Some a) (Some b) → a ≡ b
    same a b e = cc e

-- its end is one that may be
pub is_allowed : (w : ℕ) (g : Partition) (c : Catalogue) (s : ScriptView) (ends : List EndKind) (i : ℕ) (text : Bytes)
    (end : EndKind) (written : Bytes) → IsBlock w g c s ends i text end written
    → may_end w s.steps (1 + i) (judged_of g c text) end ≡ true
is_allowed w g c s ends i text end written h = may_be w g c s ends i text end h.fits h.asked h.ended

-- a refusal is an early one or one for a total
either_refusal : (a b : Option Refusal) (why : Refusal) → option_or a b ≡ Some why → (is_some a || is_some b) ≡ true
either_refusal (Some r) b why h = refl
either_refusal None (Some r) why h = refl
either_refusal None None why h = absurd (cc h)

-- what is refused does not end answered
not_answered : (refused pinned : Bool) → refused ≡ true → (not refused && pinned) ≡ true → ⊥
not_answered true pinned h k = cc k
not_answered false pinned h k = cc h

-- the blocks of a refused query
no_rows : (w : ℕ) (g : Partition) (c : Catalogue) (steps : List Step) (k n : ℕ) (text : Bytes) (end : EndKind)
    (why : Refusal)
    → may_end w steps n (judged_of g c text) end ≡ true → refusal_of g c text ≡ Some why
    → HasNoRows k text why (block g c k text end)
unfolding judged_of block refusal_of
no_rows w g c steps k n text Answered why allowed is =
    absurd (not_answered (is_some (early_refusal g c text) || is_some (total_refusal c text)) _
    (either_refusal (early_refusal g c text) (total_refusal c text) why is) allowed)
no_rows w g c steps k n text Refused why allowed is = inl (refused_by g c k text why is)
no_rows w g c steps k n text Cancelled why allowed is = inr (inl refl)
no_rows w g c steps k n text Spent why allowed is = inr (inr refl)

-- a refused query shows no rows
pub refused_shows_no_rows : RefusedShowsNoRows
refused_shows_no_rows w g c s ends i text end written why h is =
    subst (HasNoRows (i + 1) text why) (sym (is_block w g c s ends i text end written h))
    (no_rows w g c s.steps (i + 1) (1 + i) text end why (is_allowed w g c s ends i text end written h) is)

-- what is refused early is refused
early_or : (a : Option Refusal) (b : Bool) (why : Refusal) → a ≡ Some why → (is_some a || b) ≡ true
early_or (Some r) b why h = refl
early_or None b why h = absurd (cc h)

-- what is refused early has no work
no_work : (a : Option Refusal) (b d : Bool) (why : Refusal) → a ≡ Some why → ((not (is_some a) && b) && d) ≡ true → ⊥
no_work (Some r) b d why h k = cc k
no_work None b d why h k = cc h

-- the block of a query that is refused early
told : (w : ℕ) (g : Partition) (c : Catalogue) (steps : List Step) (k n : ℕ) (text : Bytes) (end : EndKind)
    (why : Refusal)
    → may_end w steps n (judged_of g c text) end ≡ true → early_refusal g c text ≡ Some why
    → block g c k text end ≡ number_line k ++ refusal_line text why
unfolding judged_of
told w g c steps k n text Answered why allowed is =
    absurd (not_answered (is_some (early_refusal g c text) || is_some (total_refusal c text)) _
    (early_or (early_refusal g c text) (is_some (total_refusal c text)) why is) allowed)
told w g c steps k n text Refused why allowed is =
    refused_by g c k text why (refused_early g c text why is)
told w g c steps k n text Cancelled why allowed is =
    absurd (no_work (early_refusal g c text) _ _ why is allowed)
told w g c steps k n text Spent why allowed is =
    absurd (no_work (early_refusal g c text) _ _ why is allowed)

-- a query that is refused early shows its refusal
pub early_is_told : EarlyIsTold
early_is_told w g c s ends i text end written why h is =
    is_block w g c s ends i text end written h
    ∙ told w g c s.steps (i + 1) (1 + i) text end why (is_allowed w g c s ends i text end written h) is

-- what is answered is not refused
none_refused : (a b : Bool) (pinned : Bool) → (not (a || b) && pinned) ≡ true → (a ≡ false) × (b ≡ false)
none_refused true b pinned h = absurd (cc h)
none_refused false true pinned h = absurd (cc h)
none_refused false false pinned h = (refl, refl)

-- the table of an answer, where there is one
shown_rows : (g : Partition) (c : Catalogue) (k : ℕ) (text : Bytes) (u : Understood) (a : Answer)
    → understood c.names text ≡ Ok u → flat_answer c.objects u.bound ≡ a → is_some (total_by a) ≡ false
    → IsTable g c k text (block g c k text Answered)
unfolding block
shown_rows g c k text u (Err t) known answered none = absurd (cc none)
shown_rows g c k text u (Ok rows) known answered none = record {
  query = u;
  known = known;
  rows = rows;
  answer = answered;
  shows =
      ap (λ r. number_line k ++ answered_lines g c r) known
      ∙ ap (λ a. number_line k ++ answer_lines (headings c.names u.tree) a
      (length (plan_of g c.objects u.bound))) answered;
}

-- the table of what is understood
shown_by : (g : Partition) (c : Catalogue) (k : ℕ) (text : Bytes) (r : Result Understood Refusal)
    → understood c.names text ≡ r → is_some (early_by g c.objects r) ≡ false → is_some (total_refusal_by c.objects r)
    ≡ false
    → IsTable g c k text (block g c k text Answered)
shown_by g c k text (Err why) known early total = absurd (cc early)
shown_by g c k text (Ok u) known early total =
    shown_rows g c k text u (flat_answer c.objects u.bound) known refl total

-- the block of a query that ends answered
shown : (w : ℕ) (g : Partition) (c : Catalogue) (steps : List Step) (k n : ℕ) (text : Bytes)
    → may_end w steps n (judged_of g c text) Answered ≡ true → IsTable g c k text (block g c k text Answered)
unfolding judged_of early_refusal total_refusal
shown w g c steps k n text allowed =
    let none = none_refused (is_some (early_refusal g c text)) (is_some (total_refusal c text)) _ allowed in
    shown_by g c k text (understood c.names text) refl none.0 none.1

-- a query that ends answered shows its answer
pub answered_shows_its_table : AnsweredShowsItsTable
answered_shows_its_table w g c s ends i text written h =
    subst (IsTable g c (i + 1) text) (sym (is_block w g c s ends i text Answered written h))
    (shown w g c s.steps (i + 1) (1 + i) text (is_allowed w g c s ends i text Answered written h))
