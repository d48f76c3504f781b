-- What participant 0 of a board reads once all others have ended in it.
use Rattle.std.proofs.Common.{◌≡◌, ℕ, List, [], ◌++◌, sym, ap, ◌∙◌, subst, append-nil, IfOk}
use Rattle.scan_rules.specs.Lines.{seat_of}
use Rattle.scan_rules.specs.Queries.{Journal}
use Rattle.scan_core.specs.Boards.{BoardState}
use Rattle.scan_core.specs.declared.board_root.BoardRoot.{BoardRoot}
use Rattle.turn_lock.specs.Ends.{AllHaveEnded}
use Rattle.turn_lock.specs.Pasts.{fresh}
use Rattle.turn_lock.specs.Seats.{Knows, having_seen}
use Rattle.turn_lock.proofs.Ends.{nothing_is_added}
use Rattle.turn_lock.proofs.PastLemmas.{fresh-append}
use Rattle.scan_board.specs.Calls.{BoardSeat, Called}
use Rattle.scan_board.specs.Ends.{ReadsWhatWasSeen}

fresh_nothing : {E : Type 0} (xs : List E) → fresh xs xs ≡ []
fresh_nothing {E} xs = ap (λ (l : List E). fresh xs l) (sym (append-nil xs)) ∙ fresh-append xs []

module _ {R : Type 0} (asks : R → ℕ → ℕ → Type 0) where
  -- a call that adds no line leaves the participant as one that has looked at the journal
  looked : {answers : BoardState R → BoardState R → Type 0} (old new : BoardSeat R) (call : Called asks answers old new)
      → new.seen ≡ call.past → new ≡ having_seen call.past old
  looked old new call same =
      call.same
      ∙ (ap (λ (l : Journal). record old { seen = l; mine = old.mine ++ fresh call.past l }) same
      ∙ (ap (λ (l : Journal). record old { seen = call.past; mine = old.mine ++ l }) (fresh_nothing call.past)
      ∙ ap (λ (l : Journal). record old { seen = call.past; mine = l }) (append-nil old.mine)))

  -- and finds what the participant had seen
  found : {answers : BoardState R → BoardState R → Type 0} (old new : BoardSeat R) (call : Called asks answers old new)
      → new.seen ≡ call.past → old.number ≡ 0 → Knows seat_of old → AllHaveEnded old → call.past ≡ old.seen
  found old new call same zero_is knows all =
      nothing_is_added (BoardRoot R) seat_of old call.past zero_is knows all call.later
      (subst (λ (s : BoardSeat R). Knows seat_of s) (looked old new call same) call.known)

  pub reads_what_was_seen : ReadsWhatWasSeen asks
  reads_what_was_seen answer old new call zero_is knows all =
      let same : new.seen ≡ call.past = ap (λ (b : BoardState R). b.past) call.answer.same in
      subst (λ (l : Journal). IfOk answer (λ journal. journal ≡ record { ring = old.root.ring; lines = l }))
      (found old new call same zero_is knows all) call.answer.journal
