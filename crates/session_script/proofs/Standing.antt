-- The bytes of a line stand at its place.
use Rattle.std.proofs.Common.{◌≡◌, refl, sym, ap, ◌∙◌, subst, ℕ, ◌+◌, ◌-◌, arith, List, [], ◌∷◌, length, take, drop, All}
use Rattle.std.specs.Str.Lines.{lines}
use Rattle.std.proofs.lemmas.List.{drop-drop}
use Rattle.std.proofs.lemmas.List.Elements.{All-cons, All-nil}
use Rattle.text_rules.specs.Lines.{Line, lines_of, numbered}
use Rattle.session_script.specs.Answers.{after_end}
use Rattle.session_script.specs.Laws.{StandsAt}
use Rattle.session_script.specs.Places.{placed_lines}
use Rattle.session_script.proofs.ReadSoFar.{no_pair}
use Rattle.session_script.proofs.LinePlaces.{first_left, placed_from}

-- the lines that are left stand at their places
left_stand : (text : List ℕ) (place number : ℕ) (ls : List Line) → numbered number (lines (drop place text)) ≡ ls
    → All (StandsAt text) (placed_from place number (drop place text))
left_stand text place number [] is = subst (All (StandsAt text)) (sym (no_pair _ _ is)) (All-nil (StandsAt text))
left_stand text place number (first ∷ ls) is =
    let next = first_left (drop place text) place number first ls is in
    let n = after_end (drop place text) (length first.text) in
    let rest : drop n (drop place text) ≡ drop (place + n) text = drop-drop n place text in
    let others : numbered (number + 1) (lines (drop (place + n) text)) ≡ ls = ap (λ bs. numbered (number + 1) (lines bs)) (sym rest) ∙ sym next.others in
    let behind : All (StandsAt text) (placed_from (place + n) (number + 1) (drop n (drop place text))) =
    subst (λ bs. All (StandsAt text) (placed_from (place + n) (number + 1) bs)) (sym rest) (left_stand text (place + n) (number + 1) ls others) in
    let size : place + length first.text - place ≡ length first.text = omega arith in
    let here : StandsAt text (place, first) = ap (λ k. take k (drop place text)) size ∙ next.text in
    subst (All (StandsAt text)) (sym next.placed) (All-cons (StandsAt text) (place, first) _ here behind)

pub lines_stand : (text : List ℕ) → All (StandsAt text) (placed_lines text)
lines_stand text = left_stand text 0 1 (lines_of text) refl
