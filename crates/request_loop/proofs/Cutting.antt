-- An input that is cut line by line.
use Rattle.std.proofs.Common.{◌≡◌, refl, sym, ap, ◌∙◌, ℕ, ◌==◌, Bool, true, false, ◌&&◌, ◌||◌, if◌then◌else◌}
use Rattle.std.proofs.Common.{List, [], ◌∷◌, ◌++◌, length, codes, append_assoc, append-nil, bytes_eq}
use Rattle.std.proofs.lemmas.Slice.Eq.{bytes_eq-Decides}
use Rattle.request_loop.specs.Requests.{Cut, after_requests, begun_by, begun_with, cut_lines, cut_of, ends_request, lines_in, with_byte}
use Rattle.request_loop.specs.Drafts.{IsOpen, IsRequest, IsRest, bytes_in, has_feed, may_end, start_from, start_in}
use Rattle.request_loop.specs.declared.line_start.LineStart.TheVariants.{Empty, Plus, PlusReturn, Other}

-- neither of two is true
pub or_false : (a b : Bool) → (a || b) ≡ false → (a ≡ false) × (b ≡ false)
or_false false b h = (refl, h)
or_false true b h = absurd (cc h)

-- a line and its line feed are the first line
lines_step : (line later : List ℕ) → has_feed line ≡ false → lines_in (line ++ 10 ∷ later) ≡ (line ++ 10 ∷ []) ∷ lines_in later
lines_step [] later flat = refl
lines_step (b ∷ bs) later flat =
    let both = or_false (b == 10) (has_feed bs) flat in
    ap {B = List (List ℕ)} (λ t. if t then (b ∷ []) ∷ lines_in (bs ++ 10 ∷ later) else with_byte b (lines_in (bs ++ 10 ∷ later))) both.0
    ∙ ap (with_byte b) (lines_step bs later both.1)

-- bytes without a line feed are one line
lines_last : (b : ℕ) (bs : List ℕ) → has_feed (b ∷ bs) ≡ false → lines_in (b ∷ bs) ≡ (b ∷ bs) ∷ []
lines_last b [] flat =
    let both = or_false (b == 10) false flat in
    ap {B = List (List ℕ)} (λ t. if t then (b ∷ []) ∷ [] else with_byte b []) both.0
lines_last b (c ∷ cs) flat =
    let both = or_false (b == 10) (has_feed (c ∷ cs)) flat in
    ap {B = List (List ℕ)} (λ t. if t then (b ∷ []) ∷ lines_in (c ∷ cs) else with_byte b (lines_in (c ∷ cs))) both.0
    ∙ ap (with_byte b) (lines_last c cs both.1)

-- a cut without requests
abbrev with_rest : List ℕ → Cut
with_rest rest = record { requests = []; rest = rest }

-- a cut with a first request
abbrev with_first : List (List ℕ) → List ℕ → List ℕ → Cut
with_first texts rest first = record { requests = first ∷ texts; rest = rest }

begun_with_two : (a b : List ℕ) (texts : List (List ℕ)) (rest : List ℕ) → begun_with (a ++ b) texts rest ≡ begun_by a (begun_with b texts rest)
begun_with_two a b [] rest = ap with_rest (append_assoc a b rest)
begun_with_two a b (text ∷ texts) rest = ap (with_first texts rest) (append_assoc a b text)

-- two beginnings are one
begun_two : (a b : List ℕ) (cut : Cut) → begun_by (a ++ b) cut ≡ begun_by a (begun_by b cut)
begun_two a b cut = begun_with_two a b cut.requests cut.rest

begun_with_none : (texts : List (List ℕ)) (rest : List ℕ) → begun_with [] texts rest ≡ record { requests = texts; rest = rest }
begun_with_none [] rest = refl
begun_with_none (text ∷ texts) rest = refl

-- nothing begins what follows it
pub open_none : IsOpen []
open_none later = sym (begun_with_none (cut_of later).requests (cut_of later).rest)

-- a line that ends no request begins what follows it
goes_on : (line later : List ℕ) → has_feed line ≡ false → ends_request (line ++ 10 ∷ []) ≡ false
    → cut_of (line ++ 10 ∷ later) ≡ begun_by (line ++ 10 ∷ []) (cut_of later)
unfolding cut_of
goes_on line later flat goes =
    ap cut_lines (lines_step line later flat)
    ∙ ap {B = Cut} (λ t. if t then after_requests ([] ∷ []) (cut_lines (lines_in later)) else begun_by (line ++ 10 ∷ []) (cut_lines (lines_in later))) goes

-- a line that ends a request
stops : (line later : List ℕ) → has_feed line ≡ false → ends_request (line ++ 10 ∷ []) ≡ true
    → cut_of (line ++ 10 ∷ later) ≡ after_requests ([] ∷ []) (cut_of later)
unfolding cut_of
stops line later flat ends =
    ap cut_lines (lines_step line later flat)
    ∙ ap {B = Cut} (λ t. if t then after_requests ([] ∷ []) (cut_lines (lines_in later)) else begun_by (line ++ 10 ∷ []) (cut_lines (lines_in later))) ends

regroup : (lines line later : List ℕ) → (lines ++ (line ++ 10 ∷ [])) ++ later ≡ lines ++ (line ++ 10 ∷ later)
regroup lines line later = append_assoc lines (line ++ 10 ∷ []) later ∙ ap (λ t. lines ++ t) (append_assoc line (10 ∷ []) later)

-- lines of which none ends a request, and one more
pub open_more : (lines line : List ℕ) → IsOpen lines → has_feed line ≡ false → ends_request (line ++ 10 ∷ []) ≡ false
    → IsOpen (lines ++ (line ++ 10 ∷ []))
open_more lines line begins flat goes later =
    ap cut_of (regroup lines line later) ∙ begins (line ++ 10 ∷ later) ∙ ap (begun_by lines) (goes_on line later flat goes)
    ∙ sym (begun_two lines (line ++ 10 ∷ []) (cut_of later))

-- lines of which none ends a request, and one that does
pub open_ended : (lines line : List ℕ) → IsOpen lines → has_feed line ≡ false → ends_request (line ++ 10 ∷ []) ≡ true
    → IsRequest lines (lines ++ (line ++ 10 ∷ []))
open_ended lines line begins flat ends later =
    ap cut_of (regroup lines line later) ∙ begins (line ++ 10 ∷ later) ∙ ap (begun_by lines) (stops line later flat ends)
    ∙ ap (with_first (cut_of later).requests (cut_of later).rest) (append-nil lines)

not_equal_by : (xs ys : List ℕ) (t : Bool) → bytes_eq xs ys ≡ t → has_feed xs ≡ false → has_feed ys ≡ true → t ≡ false
not_equal_by xs ys false is flat feed = refl
not_equal_by xs ys true is flat feed =
    let same : xs ≡ ys = (bytes_eq-Decides xs ys).0 is in
    absurd (cc (ap has_feed same, flat, feed))

-- bytes without a line feed are no text with one
not_equal : (xs ys : List ℕ) → has_feed xs ≡ false → has_feed ys ≡ true → bytes_eq xs ys ≡ false
not_equal xs ys flat feed = not_equal_by xs ys (bytes_eq xs ys) refl flat feed

-- bytes without a line feed end no request
flat_goes_on : (line : List ℕ) → has_feed line ≡ false → ends_request line ≡ false
flat_goes_on line flat =
    ap (λ t. t || bytes_eq line (codes "+\r\n")) (not_equal line (codes "+\n") flat refl) ∙ not_equal line (codes "+\r\n") flat refl

-- bytes without a line feed are no request
rest_alone : (b : ℕ) (bs : List ℕ) → has_feed (b ∷ bs) ≡ false → cut_of (b ∷ bs) ≡ record { requests = []; rest = b ∷ bs }
unfolding cut_of
rest_alone b bs flat =
    ap cut_lines (lines_last b bs flat)
    ∙ ap {B = Cut} (λ t. if t then after_requests ([] ∷ []) (cut_lines []) else begun_by (b ∷ bs) (cut_lines [])) (flat_goes_on (b ∷ bs) flat)
    ∙ ap with_rest (append-nil (b ∷ bs))

cut_none : (lines : List ℕ) → begun_by lines (cut_of []) ≡ record { requests = []; rest = lines ++ [] }
unfolding cut_of
cut_none lines = refl

-- lines of which none ends a request, and the beginning of one, are no request
pub open_rest : (lines line : List ℕ) → IsOpen lines → has_feed line ≡ false → IsRest (lines ++ line)
open_rest lines [] begins flat = begins [] ∙ cut_none lines
open_rest lines (b ∷ bs) begins flat = begins (b ∷ bs) ∙ ap (begun_by lines) (rest_alone b bs flat)

one_ends : (t : Bool) → ((t && true) || (t && false)) ≡ may_end (if t then Plus else Other)
one_ends true = refl
one_ends false = refl

second_ends : (u v : Bool) → ((u && false) || (v && true)) ≡ may_end (if v then PlusReturn else Other)
second_ends true true = refl
second_ends true false = refl
second_ends false true = refl
second_ends false false = refl

two_end : (t : Bool) (c : ℕ) → ((t && ((c == 10) && false)) || (t && ((c == 13) && true))) ≡ may_end (start_in (if t then Plus else Other) c)
two_end false c = refl
two_end true c = second_ends (c == 10) (c == 13)

third_in : (v : Bool) (d : ℕ) → start_in (if v then PlusReturn else Other) d ≡ Other
third_in true d = refl
third_in false d = refl

third : (t : Bool) (c d : ℕ) → start_in (start_in (if t then Plus else Other) c) d ≡ Other
third false c d = refl
third true c d = third_in (c == 13) d

others : (bs : List ℕ) → start_from Other bs ≡ Other
others [] = refl
others (b ∷ bs) = others bs

-- more than two bytes begin no line that ends a request
long_start : (a c d : ℕ) (ds : List ℕ) → start_from Empty (a ∷ c ∷ d ∷ ds) ≡ Other
long_start a c d ds = ap (λ s. start_from s ds) (third (a == 43) c d) ∙ others ds

no_and : (t u v : Bool) → ((t && (u && false)) || (t && (v && false))) ≡ false
no_and true true true = refl
no_and true true false = refl
no_and true false true = refl
no_and true false false = refl
no_and false u v = refl

-- a line ends a request exactly if it begins so
pub ends_by_start : (line : List ℕ) → has_feed line ≡ false → ends_request (line ++ 10 ∷ []) ≡ may_end (start_from Empty line)
ends_by_start [] flat = refl
ends_by_start (a ∷ []) flat = one_ends (a == 43)
ends_by_start (a ∷ c ∷ []) flat = two_end (a == 43) c
ends_by_start (a ∷ c ∷ d ∷ ds) flat =
    let first = or_false (a == 10) (has_feed (c ∷ d ∷ ds)) flat in
    let second = or_false (c == 10) (has_feed (d ∷ ds)) first.1 in
    let last = or_false (d == 10) (has_feed ds) second.1 in
    ap (λ t. ((a == 43) && ((c == 10) && false)) || ((a == 43) && ((c == 13) && (t && bytes_eq (ds ++ 10 ∷ []) [])))) last.0
    ∙ no_and (a == 43) (c == 10) (c == 13)
    ∙ sym (ap may_end (long_start a c d ds))

one_byte : (t : Bool) → may_end (if t then Plus else Other) ≡ true → 1 ≡ bytes_in (if t then Plus else Other)
one_byte true h = refl
one_byte false h = absurd (cc h)

second_byte : (v : Bool) → may_end (if v then PlusReturn else Other) ≡ true → 2 ≡ bytes_in (if v then PlusReturn else Other)
second_byte true h = refl
second_byte false h = absurd (cc h)

two_bytes : (t : Bool) (c : ℕ) → may_end (start_in (if t then Plus else Other) c) ≡ true → 2 ≡ bytes_in (start_in (if t then Plus else Other) c)
two_bytes false c h = absurd (cc h)
two_bytes true c h = second_byte (c == 13) h

-- the number of bytes of a line that ends a request, without its line feed
pub bytes_by_start : (line : List ℕ) → may_end (start_from Empty line) ≡ true → length line ≡ bytes_in (start_from Empty line)
bytes_by_start [] h = absurd (cc h)
bytes_by_start (a ∷ []) h = one_byte (a == 43) h
bytes_by_start (a ∷ c ∷ []) h = two_bytes (a == 43) c h
bytes_by_start (a ∷ c ∷ d ∷ ds) h = absurd (cc (h, ap may_end (long_start a c d ds)))
