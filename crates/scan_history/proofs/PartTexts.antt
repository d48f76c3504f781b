-- Parts without spaces and line ends, and the lines of such parts.
use Rattle.std.proofs.Common.{◌≡◌, ℕ, ◌-◌, ◌<◌, ◌≤◌, ◌==◌, List, [], ◌∷◌, ◌++◌, length, All, Bool, false, refl, ◌∙◌, ap, arith, append-nil, ne_eqb, cond, get_or, take, zero, suc}
use Rattle.std.specs.List.{slice_split}
use Rattle.std.specs.Str.Lines.{lines, lines_of_parts, strip_carriage_return}
use Rattle.std.proofs.lemmas.List.Elements.{All-append, All-cons, All-nil, All-head, All-tail}
use Rattle.std.proofs.lemmas.List.Splits.{slice_split_at, slice_split_none, length-slice_split}
use Rattle.text_rules.specs.Lines.{pieces}
use Rattle.scan_history.specs.Printed.{spaced}

-- each byte is above the space, and so above the bytes that end a line
abbrev pub Unspaced : List ℕ → Type 0
Unspaced part = All (λ b. 33 ≤ b) part

-- none of them is one of the lower bytes
not_among : (low : ℕ) → low < 33 → (part : List ℕ) → Unspaced part → All (λ b. (b == low) ≡ false) part
not_among low small [] h = All-nil (λ b. (b == low) ≡ false)
not_among low small (b ∷ bs) h =
    let high : 33 ≤ b = All-head (λ b. 33 ≤ b) b bs h in
    All-cons (λ b. (b == low) ≡ false) b bs (ne_eqb b low (λ e. omega (arith, e, high))) (not_among low small bs (All-tail (λ b. 33 ≤ b) b bs h))

-- parts with a space before each are split into the same parts
pub cut_spaced : (first : List ℕ) (parts : List (List ℕ)) → Unspaced first → All Unspaced parts → pieces 32 (first ++ spaced parts) ≡ first ∷ parts
cut_spaced first [] unspaced all = ap (slice_split (λ b. b == 32)) (append-nil first) ∙ slice_split_none (λ b. b == 32) first (not_among 32 (omega arith) first unspaced)
cut_spaced first (part ∷ parts) unspaced all =
    slice_split_at (λ b. b == 32) first 32 (part ++ spaced parts) (not_among 32 (omega arith) first unspaced) refl
    ∙ ap (λ (rest : List (List ℕ)). first ∷ rest) (cut_spaced part parts (All-head Unspaced part parts all) (All-tail Unspaced part parts all))

-- no byte ends a line; spaces are allowed
abbrev pub InLine : List ℕ → Type 0
InLine text = All (λ b. 32 ≤ b) text

unspaced_in_line : (part : List ℕ) → Unspaced part → InLine part
unspaced_in_line [] h = All-nil (λ b. 32 ≤ b)
unspaced_in_line (b ∷ bs) h =
    let high : 33 ≤ b = All-head (λ b. 33 ≤ b) b bs h in
    All-cons (λ b. 32 ≤ b) b bs (omega (arith, high)) (unspaced_in_line bs (All-tail (λ b. 33 ≤ b) b bs h))

spaced_in_line : (parts : List (List ℕ)) → All Unspaced parts → InLine (spaced parts)
spaced_in_line [] h = All-nil (λ b. 32 ≤ b)
spaced_in_line (part ∷ parts) h =
    All-cons (λ b. 32 ≤ b) 32 (part ++ spaced parts) (omega arith)
    (All-append (λ b. 32 ≤ b) part (spaced parts) (unspaced_in_line part (All-head Unspaced part parts h)) (spaced_in_line parts (All-tail Unspaced part parts h)))

pub parts_in_line : (first : List ℕ) (parts : List (List ℕ)) → Unspaced first → All Unspaced parts → InLine (first ++ spaced parts)
parts_in_line first parts unspaced all = All-append (λ b. 32 ≤ b) first (spaced parts) (unspaced_in_line first unspaced) (spaced_in_line parts all)

-- no byte of a line ends one
no_end : (low : ℕ) → low < 32 → (text : List ℕ) → InLine text → All (λ b. (b == low) ≡ false) text
no_end low small [] h = All-nil (λ b. (b == low) ≡ false)
no_end low small (b ∷ bs) h =
    let high : 32 ≤ b = All-head (λ b. 32 ≤ b) b bs h in
    All-cons (λ b. (b == low) ≡ false) b bs (ne_eqb b low (λ e. omega (arith, e, high))) (no_end low small bs (All-tail (λ b. 32 ≤ b) b bs h))

-- a part before others is a line without its carriage return
ended : (x : List ℕ) (parts : List (List ℕ)) → 0 < length parts → lines_of_parts (x ∷ parts) ≡ strip_carriage_return x ∷ lines_of_parts parts
ended x [] some = absurd (omega arith)
ended x (y ∷ more) some = refl

-- no byte of a line is a carriage return, nor is the default after its end
no_return : (text : List ℕ) → InLine text → (k : ℕ) → (get_or text k 0 == 13) ≡ false
no_return [] h k = refl
no_return (b ∷ bs) h zero = let high : 32 ≤ b = All-head (λ b. 32 ≤ b) b bs h in ne_eqb b 13 (λ e. omega (arith, e, high))
no_return (b ∷ bs) h (suc k) = no_return bs (All-tail (λ b. 32 ≤ b) b bs h) k

-- a line loses no carriage return
nothing_stripped : (text : List ℕ) → InLine text → strip_carriage_return text ≡ text
nothing_stripped text h = ap (λ (b : Bool). cond b (take (length text - 1) text) text) (no_return text h (length text - 1))

-- a line, its end and the lines after it
pub line_first : (text rest : List ℕ) → InLine text → lines (text ++ 10 ∷ rest) ≡ text ∷ lines rest
line_first text rest h =
    let cut : slice_split (λ b. b == 10) (text ++ 10 ∷ rest) ≡ text ∷ slice_split (λ b. b == 10) rest = slice_split_at (λ b. b == 10) text 10 rest (no_end 10 (omega arith) text h) refl in
    let some : 0 < length (slice_split (λ b. b == 10) rest) = omega (arith, length-slice_split (λ b. b == 10) rest) in
    ap lines_of_parts cut ∙ (ended text (slice_split (λ b. b == 10) rest) some ∙ ap (λ (t : List ℕ). t ∷ lines rest) (nothing_stripped text h))
