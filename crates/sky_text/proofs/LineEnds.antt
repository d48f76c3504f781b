-- Where the first line of a text ends.
use Rattle.std.proofs.Common.{◌≡◌, ℕ, ◌+◌, ◌<◌, ◌≤◌, Bool, false, cond, not, List, [], ◌∷◌, length, take, drop, None, Some, arith, refl, ◌∙◌, ap, get_or, ◌==◌, ◌-◌}
use Rattle.std.specs.List.{position, position_or_len, slice_split}
use Rattle.std.specs.Str.Lines.{lines, lines_of_parts, strip_carriage_return}
use Rattle.std.proofs.lemmas.List.Splits.{slice_split_first, length-slice_split}
use Rattle.std.proofs.lemmas.Grind.{common_steps}
use Rattle.std.proofs.lemmas.List.{take_rest}
use Rattle.std.proofs.lemmas.List.Sums.{prefix_len_stops}
use Rattle.sky_text.proofs.Places.{first_place, no_place, none_passes}

-- a part before others is a line without its carriage return
ended : (x : List ℕ) (parts : List (List ℕ)) → 0 < length parts → lines_of_parts (x ∷ parts) ≡ strip_carriage_return x ∷ lines_of_parts parts
ended x [] some = absurd (omega arith)
ended x (y ∷ more) some = refl

-- the part before the first line feed, and the parts behind it
pub split_found : (text : List ℕ) (at : ℕ) → position (λ b. b == 10) text ≡ Some at
    → slice_split (λ b. b == 10) text ≡ take at text ∷ slice_split (λ b. b == 10) (drop (at + 1) text)
split_found text at h =
    let place = first_place (λ b. b == 10) text at h in
    rw place.0 (slice_split_first (λ b. b == 10) text 0 place.1)

-- the first line feed lies within the text
pub found_within : (text : List ℕ) (at : ℕ) → position (λ b. b == 10) text ≡ Some at → at < length text
found_within text at h = let place = first_place (λ b. b == 10) text at h in omega (arith, place.0, place.1)

feed_by : (b : ℕ) → not (b == 10) ≡ false → b ≡ 10
feed_by b h = grind (arith, common_steps)

-- and is a line feed
pub found_feed : (text : List ℕ) (at : ℕ) → position (λ b. b == 10) text ≡ Some at → get_or text at 0 ≡ 10
found_feed text at h =
    let place = first_place (λ b. b == 10) text at h in
    ap (λ n. get_or text n 0) place.0 ∙ feed_by _ (prefix_len_stops (λ b. not (b == 10)) text 0 place.1)

-- a line feed ends the first line
pub line_found : (text : List ℕ) (at : ℕ) → position (λ b. b == 10) text ≡ Some at
    → lines text ≡ strip_carriage_return (take at text) ∷ lines (take (length text - (at + 1)) (drop (at + 1) text))
line_found text at h =
    let parts = slice_split (λ b. b == 10) (drop (at + 1) text) in
    let some : 0 < length parts = omega (arith, length-slice_split (λ b. b == 10) (drop (at + 1) text)) in
    rw (take_rest text (at + 1)) (ap lines_of_parts (split_found text at h) ∙ ended (take at text) parts some)

-- a part alone that is not empty is a line
alone_by : (x : List ℕ) (empty : Bool) → empty ≡ false → cond empty [] (x ∷ []) ≡ x ∷ []
alone_by x empty e = rw e refl

alone : (x : List ℕ) → 0 < length x → lines_of_parts (x ∷ []) ≡ x ∷ []
alone x some = alone_by x (length x == 0) (grind arith)

-- without a line feed the text is one part
pub split_last : (text : List ℕ) → position (λ b. b == 10) text ≡ None → slice_split (λ b. b == 10) text ≡ text ∷ []
split_last text h = none_passes (λ b. b == 10) text (no_place (λ b. b == 10) text h)

-- and one line
pub line_last : (text : List ℕ) → 0 < length text → position (λ b. b == 10) text ≡ None → lines text ≡ text ∷ []
line_last text some h = ap lines_of_parts (split_last text h) ∙ alone text some
