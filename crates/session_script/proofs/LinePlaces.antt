-- Where the first of the lines that are left begins, and where the next one does.
use Rattle.std.proofs.Common.{◌≡◌, refl, sym, ap, ◌∙◌, subst, ℕ, ◌+◌, ◌-◌, ◌<◌, ◌≤◌, arith, ◌==◌, Bool, true, false, cond, List, [], ◌∷◌, length, take, drop, get_or, Option, None, Some, zip}
use Rattle.std.specs.List.{position, slice_index, slice_split}
use Rattle.std.specs.Str.Lines.{lines, strip_carriage_return}
use Rattle.std.proofs.lemmas.Grind.{common_steps}
use Rattle.std.proofs.lemmas.List.{drop_all, get_or_past, get_or-take, length-take-le, take-take, take_all, take_rest}
use Rattle.text_rules.specs.Lines.{Line, numbered}
use Rattle.sky_text.proofs.LineEnds.{found_feed, found_within, line_found, line_last, split_found, split_last}
use Rattle.session_script.specs.Answers.{after_end}
use Rattle.session_script.specs.Places.{starts_from}

-- the lines of what is left of a text, which begins at a place, with their places
abbrev pub placed_from : ℕ → ℕ → List ℕ → List (ℕ × Line)
placed_from place number rest = zip (starts_from place (slice_split (λ b. b == 10) rest)) (numbered number (lines rest))

-- What is left of a text begins with this line, and behind its end with the others.
pub record FirstLeft (rest : List ℕ) (place number : ℕ) (first : Line) (left : List Line) : Type 0 where
  pub fits : length first.text ≤ length rest
  pub some : 0 < length rest
  pub text : take (length first.text) rest ≡ first.text
  pub others : left ≡ numbered (number + 1) (lines (drop (after_end rest (length first.text)) rest))
  pub placed : placed_from place number rest
      ≡ (place, first) ∷ placed_from (place + after_end rest (length first.text)) (number + 1) (drop (after_end rest (length first.text)) rest)

-- a carriage return and a line feed are passed over, or one byte is
return_passed : (rest : List ℕ) (end : ℕ) → get_or rest end 0 ≡ 13 → after_end rest end ≡ end + 2
return_passed rest end is = rw is refl

feed_passed : (rest : List ℕ) (end : ℕ) → get_or rest end 0 ≡ 10 → after_end rest end ≡ end + 1
feed_passed rest end is = rw is refl

end_passed : (rest : List ℕ) → after_end rest (length rest) ≡ length rest + 1
end_passed rest = rw (get_or_past rest (length rest) 0 (omega arith)) refl

-- a byte of the first part that is a carriage return
return_here : (rest : List ℕ) (at n : ℕ) → length (take at rest) ≡ at → (slice_index (take at rest) n == 13) ≡ true → n < at → get_or rest n 0 ≡ 13
return_here rest at n size is below =
    let same : get_or (take at rest) n 0 ≡ get_or rest n 0 = get_or-take at rest n 0 below in
    let thirteen : get_or (take at rest) n 0 ≡ 13 = grind (arith, common_steps) in
    sym same ∙ thirteen

-- a part that ends with a carriage return is not empty
some_part : (part : List ℕ) → (slice_index part (length part - 1) == 13) ≡ true → 0 < length part
some_part [] is = absurd (cc is)
some_part (b ∷ bs) is = omega arith

-- behind a line that ends with a line feed, the line without its carriage return
end_by : (rest : List ℕ) (at : ℕ) (return : Bool) → (slice_index (take at rest) (length (take at rest) - 1) == 13) ≡ return → at < length rest → get_or rest at 0 ≡ 10
    → let text = cond return (take (length (take at rest) - 1) (take at rest)) (take at rest) in (after_end rest (length text) ≡ at + 1) × (length text ≤ at) × (take (length text) rest ≡ text)
end_by rest at false is within feed =
    let size : length (take at rest) ≡ at = length-take-le at rest (omega arith) in
    (ap (after_end rest) size ∙ feed_passed rest at feed, omega (arith, size), ap (λ n. take n rest) size)
end_by rest at true is within feed =
    let size : length (take at rest) ≡ at = length-take-le at rest (omega arith) in
    let some : 0 < at = omega (arith, some_part (take at rest) is, size) in
    let last : length (take at rest) - 1 ≡ at - 1 = omega (arith, size) in
    let line : length (take (length (take at rest) - 1) (take at rest)) ≡ at - 1 = length-take-le (length (take at rest) - 1) (take at rest) (omega arith) ∙ last in
    let here : get_or rest (at - 1) 0 ≡ 13 = return_here rest at (at - 1) size (subst (λ n. (slice_index (take at rest) n == 13) ≡ true) last is) (omega arith) in
    let passed : at - 1 + 2 ≡ at + 1 = omega arith in
    let front : take (at - 1) (take at rest) ≡ take (at - 1) rest = take-take (at - 1) at rest (omega arith) in
    let text : take (length (take at rest) - 1) (take at rest) ≡ take (at - 1) rest = ap (λ n. take n (take at rest)) last ∙ front in
    (ap (after_end rest) line ∙ (return_passed rest (at - 1) here ∙ passed), omega (arith, line), ap (λ n. take n rest) line ∙ sym text)

same_first : (first line : Line) (left more : List Line) → ◌≡◌ {A = List Line} (line ∷ more) (first ∷ left) → line ≡ first
same_first first line left more e = cc e

same_left : (first line : Line) (left more : List Line) → ◌≡◌ {A = List Line} (line ∷ more) (first ∷ left) → more ≡ left
same_left first line left more e = cc e

-- the first line ends with a line feed
left_found : (rest : List ℕ) (place number at : ℕ) (first : Line) (left : List Line) → position (λ b. b == 10) rest ≡ Some at
    → numbered number (lines rest) ≡ first ∷ left → FirstLeft rest place number first left
left_found rest place number at first left found is =
    let within = found_within rest at found in
    let more = drop (at + 1) rest in
    let text = strip_carriage_return (take at rest) in
    let lines_are : lines rest ≡ text ∷ lines more = rw (take_rest rest (at + 1)) at (line_found rest at found) in
    let cut : (record { number = number; text = text }) ∷ numbered (number + 1) (lines more) ≡ first ∷ left = ap (numbered number) (sym lines_are) ∙ is in
    let line = same_first first _ left _ cut in
    let passed = end_by rest at (slice_index (take at rest) (length (take at rest) - 1) == 13) refl within (found_feed rest at found) in
    let end : after_end rest (length first.text) ≡ at + 1 = ap (λ (l : Line). after_end rest (length l.text)) (sym line) ∙ passed.0 in
    let size : length (take at rest) ≡ at = length-take-le at rest (omega arith) in
    let next : place + length (take at rest) + 1 ≡ place + (at + 1) = omega (arith, size) in
    let fits : length text ≤ at = passed.1 in
    record {
      fits = omega (arith, ap (λ (l : Line). length l.text) line);
      some = omega arith;
      text = ap (λ (l : Line). take (length l.text) rest) (sym line) ∙ (passed.2 ∙ ap (λ (l : Line). l.text) line);
      others = sym (same_left first _ left _ cut) ∙ ap (λ n. numbered (number + 1) (lines (drop n rest))) (sym end);
      placed = ap (λ parts. zip (starts_from place parts) (numbered number (lines rest))) (split_found rest at found)
          ∙ (ap (λ ls. zip (starts_from place (take at rest ∷ slice_split (λ b. b == 10) more)) (numbered number ls)) lines_are
          ∙ (ap (λ (l : Line). (place, l) ∷ placed_from (place + length (take at rest) + 1) (number + 1) more) line
          ∙ (ap (λ p. (place, first) ∷ placed_from p (number + 1) more) next
          ∙ ap (λ n. (place, first) ∷ placed_from (place + n) (number + 1) (drop n rest)) (sym end))));
    }

no_lines : (number : ℕ) (first : Line) (left : List Line) → numbered number (lines []) ≡ first ∷ left → ⊥
no_lines number first left is = cc is

some_left : (rest : List ℕ) (number : ℕ) (first : Line) (left : List Line) → numbered number (lines rest) ≡ first ∷ left → 0 < length rest
some_left [] number first left is = absurd (no_lines number first left is)
some_left (b ∷ bs) number first left is = omega arith

-- the first line is the last, and has no line feed
left_last : (rest : List ℕ) (place number : ℕ) (first : Line) (left : List Line) → position (λ b. b == 10) rest ≡ None
    → numbered number (lines rest) ≡ first ∷ left → FirstLeft rest place number first left
left_last rest place number first left none is =
    let some = some_left rest number first left is in
    let lines_are : lines rest ≡ rest ∷ [] = line_last rest some none in
    let cut : (record { number = number; text = rest }) ∷ [] ≡ first ∷ left = ap (numbered number) (sym lines_are) ∙ is in
    let line = same_first first _ left _ cut in
    let end : after_end rest (length first.text) ≡ length rest + 1 = ap (λ (l : Line). after_end rest (length l.text)) (sym line) ∙ end_passed rest in
    let past : drop (after_end rest (length first.text)) rest ≡ [] = drop_all (after_end rest (length first.text)) rest (omega (arith, end)) in
    record {
      fits = omega (arith, ap (λ (l : Line). length l.text) line);
      some = some;
      text = ap (λ (l : Line). take (length l.text) rest) (sym line) ∙ (take_all (length rest) rest (omega arith) ∙ ap (λ (l : Line). l.text) line);
      others = sym (same_left first _ left _ cut) ∙ ap (λ bs. numbered (number + 1) (lines bs)) (sym past);
      placed = ap (λ parts. zip (starts_from place parts) (numbered number (lines rest))) (split_last rest none)
          ∙ (ap (λ ls. zip (starts_from place (rest ∷ [])) (numbered number ls)) lines_are
          ∙ (ap (λ (l : Line). (place, l) ∷ []) line
          ∙ ap (λ bs. (place, first) ∷ placed_from (place + after_end rest (length first.text)) (number + 1) bs) (sym past)));
    }

left_by : (rest : List ℕ) (place number : ℕ) (first : Line) (left : List Line) (found : Option ℕ) → position (λ b. b == 10) rest ≡ found
    → numbered number (lines rest) ≡ first ∷ left → FirstLeft rest place number first left
left_by rest place number first left (Some at) found is = left_found rest place number at first left found is
left_by rest place number first left None none is = left_last rest place number first left none is

pub first_left : (rest : List ℕ) (place number : ℕ) (first : Line) (left : List Line) → numbered number (lines rest) ≡ first ∷ left
    → FirstLeft rest place number first left
first_left rest place number first left is = left_by rest place number first left (position (λ b. b == 10) rest) refl is
