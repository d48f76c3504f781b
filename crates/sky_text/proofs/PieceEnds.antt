-- Where the first piece of a text ends.
use Rattle.std.proofs.Common.{◌≡◌, ℕ, ◌+◌, ◌<◌, ◌≤◌, Bool, List, [], ◌∷◌, length, take, drop, None, Some, arith, refl}
use Rattle.std.proofs.Common.{ap, ◌==◌, ◌-◌, length-drop}
use Rattle.std.specs.List.{position, position_or_len, slice_split}
use Rattle.std.proofs.lemmas.List.Splits.{slice_split_first, length-slice_split}
use Rattle.std.proofs.lemmas.List.{take_all}
use Rattle.text_rules.specs.Lines.{pieces}
use Rattle.sky_text.proofs.Places.{first_place, no_place, none_passes}

-- where the byte is found, the first piece ends there and the others are those of the rest
pub piece_found : (by : ℕ) (text : List ℕ) (at : ℕ) → position (λ x. x == by) text ≡ Some at
    → pieces by text ≡ take at text ∷ pieces by (take (length text - (at + 1)) (drop (at + 1) text))
piece_found by text at h =
    let place = first_place (λ x. x == by) text at h in
    let first = slice_split_first (λ x. x == by) text 0 place.1 in
    let rest : take (length text - (at + 1)) (drop (at + 1) text) ≡ drop (at + 1) text = take_all (length text - (at + 1)) (drop (at + 1) text) (simp length-drop (omega arith)) in
    rw (rest, place.0) first

-- where it is not found, the text is the last piece
pub piece_last : (by : ℕ) (text : List ℕ) → position (λ x. x == by) text ≡ None → pieces by text ≡ text ∷ []
piece_last by text h = none_passes (λ x. x == by) text (no_place (λ x. x == by) text h)

-- a text has a piece, though it may be empty
pub some_piece : (by : ℕ) (text : List ℕ) → pieces by text ≡ [] → ⊥
some_piece by text h = let n = length-slice_split (λ x. x == by) text in omega (arith, n, ap length h)
