-- Reads of a source whose bytes are not observable.
use Rattle.std.proofs.Common.{◌≡◌, sym, ap, ◌∙◌, ℕ, List, [], ◌∷◌, ◌++◌, None, option_map}
use Rattle.byte_source.specs.Sources.{SourceState, Gave, IsAtEnd}

-- a byte was given
pub byte_unseen : (old new : SourceState) (b : ℕ) → old.left ≡ None → new ≡ old → Gave old.left (b ∷ []) new.left × (new.faults ≡ old.faults)
byte_unseen old new b unseen same =
    (unseen ∙ sym (ap (option_map (λ rest. (b ∷ []) ++ rest)) (ap (λ s. s.left) same ∙ unseen)), ap (λ s. s.faults) same)

-- no byte is left
pub end_unseen : (old new : SourceState) → old.left ≡ None → new ≡ old → IsAtEnd old.left × (new ≡ old)
end_unseen old new unseen same = (unseen ∙ sym (ap (option_map {T = List ℕ} {U = List ℕ} (λ rest. [])) unseen), same)
