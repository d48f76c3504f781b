-- A fault of a text stands where tokens stand up to it, and there alone.
use Rattle.std.proofs.Common.{◌≡◌, ◌↔◌, refl, sym, ap, ◌∙◌, subst, ℕ, zero, suc, ◌+◌, ◌-◌, ◌<◌, ◌≤◌, arith, Bool, true, false, cond, List, [], ◌∷◌, length, take, drop, get_or, Option, None, Some, Result, Ok, Err, add-zero, nat_lt}
use Rattle.std.specs.List.{list_all, slice_range}
use Rattle.std.proofs.lemmas.Bool.{ltb-true, lt-ltb}
use Rattle.std.proofs.lemmas.List.{drop-drop, drop_more, length-drop}
use Rattle.sql_token.specs.declared.limits.TheConstants.{INT_MOST}
use Rattle.text_rules.specs.Numbers.{is_digit, value_after}
use Rattle.sql_token.specs.declared.token.Token.{Token}
use Rattle.sql_token.specs.Answers.{behind}
use Rattle.sql_token.specs.Bytes.{is_blank}
use Rattle.sql_token.specs.Faults.{TokenFault, BadByte, Literal, TooMany}
use Rattle.sql_token.specs.Faulty.{IsBadByte, IsLargeInt, IsTooMany, NoneBehind, StandUpTo}
use Rattle.sql_token.specs.Laws.{IsShaped}
use Rattle.text_rules.specs.Readings.{put_before}
use Rattle.sql_token.specs.Tokens.{and_behind, and_then, begins, if_flat, token_at, tokens_from, tokens_of, too_deep, within_limits}
use Rattle.sql_token.proofs.Fronts.{both}
use Rattle.sql_token.proofs.Longest.{Longest}
use Rattle.sql_token.proofs.Only.{first_read, only_tokens, some_blanks}
use Rattle.sql_token.proofs.Stand.{At, at_place, end_here, first_before, first_here, stand_from}
use Rattle.sql_token.proofs.Steps.{behind_blank, behind_token, in_token, no_byte}
use Rattle.sql_token.proofs.Unread.{Told, bad_read, large_read, told}

-- ---- the fault of a text stands behind tokens

-- Tokens stand from the place up to another, at which the fault is met.
pub record Meets (text : List ℕ) (place : ℕ) (fault : TokenFault) : Type 0 where
  pub tokens : List Token
  pub at : ℕ
  pub before : StandUpTo text place tokens at
  pub within : at < length text
  pub no_blank : is_blank (get_or text at 0) ≡ false
  pub read : token_at at (get_or text at 0 ∷ drop (at + 1) text) ≡ Err fault

-- one blank more in front
up_blank : (text : List ℕ) (place b : ℕ) (bs : List ℕ) (ts : List Token) (to : ℕ) → At text place b bs → is_blank b ≡ true
    → StandUpTo text (place + 1) ts to → StandUpTo text place ts to
up_blank text place b bs [] to here blank stand =
    let more : to - place ≡ suc (to - (place + 1)) = omega (arith, stand.0) in
    let split = drop_more text place 0 here.within in
    let range : slice_range text place to ≡ get_or text place 0 ∷ slice_range text (place + 1) to =
    ap (λ n. take n (drop place text)) more ∙ ap (take (suc (to - (place + 1)))) split in
    let front : is_blank (get_or text place 0) ≡ true = ap is_blank (sym here.here) ∙ blank in
    (omega (arith, stand.0), rw (range, front) stand.1)
up_blank text place b bs (t ∷ ts) to here blank stand = (first_before text place b bs t here blank stand.0, stand.1)

meets_blank : (text : List ℕ) (place b : ℕ) (bs : List ℕ) (fault : TokenFault) → At text place b bs → is_blank b ≡ true
    → Meets text (place + 1) fault → Meets text place fault
meets_blank text place b bs fault here blank m = record {
  tokens = m.tokens;
  at = m.at;
  before = up_blank text place b bs m.tokens m.at here blank m.before;
  within = m.within;
  no_blank = m.no_blank;
  read = m.read;
}

meets_token : (text : List ℕ) (place b : ℕ) (bs : List ℕ) (fault : TokenFault) (t : Token) → At text place b bs → b ∷ bs ≡ drop place text
    → token_at place (b ∷ bs) ≡ Ok t → Meets text (place + 1 + (t.span.to - t.span.from - 1)) fault → Meets text place fault
meets_token text place b bs fault t here same read m = record {
  tokens = t ∷ m.tokens;
  at = m.at;
  before = (
    first_here text place b bs t here same read,
    subst (λ p. StandUpTo text p m.tokens m.at) (end_here place b bs t read) m.before,
  );
  within = m.within;
  no_blank = m.no_blank;
  read = m.read;
}

-- it is met at once
meets_here : (text : List ℕ) (place b : ℕ) (bs : List ℕ) (fault : TokenFault) → At text place b bs → is_blank b ≡ false
    → token_at place (b ∷ bs) ≡ Err fault → Meets text place fault
meets_here text place b bs fault here blank read =
    let none : place - place ≡ 0 = omega arith in
    let empty : slice_range text place place ≡ [] = ap (λ n. take n (drop place text)) none in
    let same : b ∷ bs ≡ get_or text place 0 ∷ drop (place + 1) text = cc (here.here, here.rest) in
    record {
      tokens = [];
      at = place;
      before = (omega arith, rw empty refl);
      within = here.within;
      no_blank = ap is_blank (sym here.here) ∙ blank;
      read = subst (λ l. token_at place l ≡ Err fault) same read;
    }

-- what is known of the text behind a byte
abbrev MeetsBehind : List ℕ → ℕ → List ℕ → TokenFault → Type 0
MeetsBehind text place bs fault = (inside : ℕ) → tokens_from (place + 1) inside bs ≡ Err fault → Meets text (place + 1 + inside) fault

put_by : (t : Token) (fault : TokenFault) (more : Result (List Token) TokenFault) → put_before t more ≡ Err fault → more ≡ Err fault
put_by t fault (Ok rest) e = absurd (cc e)
put_by t fault (Err other) e = e

begins_by : (text : List ℕ) (place b : ℕ) (bs : List ℕ) (fault : TokenFault) (read : Result Token TokenFault) → token_at place (b ∷ bs) ≡ read
    → At text place b bs → b ∷ bs ≡ drop place text → is_blank b ≡ false → MeetsBehind text place bs fault
    → and_behind (begins read) (λ inside. tokens_from (place + 1) inside bs) ≡ Err fault → Meets text place fault
begins_by text place b bs fault (Ok t) is here same blank behind e =
    meets_token text place b bs fault t here same is
    (behind (t.span.to - t.span.from - 1) (put_by t fault (tokens_from (place + 1) (t.span.to - t.span.from - 1) bs) e))
begins_by text place b bs fault (Err other) is here same blank behind e =
    let equal : other ≡ fault = cc e in
    meets_here text place b bs fault here blank (is ∙ ap {B = Result Token TokenFault} (λ f. Err f) equal)

front_by : (text : List ℕ) (place b : ℕ) (bs : List ℕ) (fault : TokenFault) (blank : Bool) → is_blank b ≡ blank → b ∷ bs ≡ drop place text
    → MeetsBehind text place bs fault → tokens_from place 0 (b ∷ bs) ≡ Err fault → Meets text place fault
front_by text place b bs fault true is same behind e =
    let met = behind 0 (sym (behind_blank place b bs is) ∙ e) in
    meets_blank text place b bs fault (at_place text place b bs same) is (subst (λ p. Meets text p fault) (add-zero (place + 1)) met)
front_by text place b bs fault false is same behind e =
    begins_by text place b bs fault (token_at place (b ∷ bs)) refl (at_place text place b bs same) same is behind (sym (behind_token place b bs is) ∙ e)

no_fault : (fault : TokenFault) → ◌≡◌ {A = Result (List Token) TokenFault} (Ok []) (Err fault) → ⊥
no_fault fault e = cc e

meets_from : (text : List ℕ) (place inside : ℕ) (bs : List ℕ) (fault : TokenFault) → bs ≡ drop place text → tokens_from place inside bs ≡ Err fault
    → Meets text (place + inside) fault
meets_from text place inside [] fault same e = absurd (no_fault fault (sym (no_byte place inside) ∙ e))
meets_from text place (suc inside) (b ∷ bs) fault same e =
    let here = at_place text place b bs same in
    let one : place + 1 + inside ≡ place + suc inside = omega arith in
    subst (λ p. Meets text p fault) one (meets_from text (place + 1) inside bs fault here.rest (sym (in_token place inside b bs) ∙ e))
meets_from text place zero (b ∷ bs) fault same e =
    let here = at_place text place b bs same in
    subst (λ p. Meets text p fault) (sym (add-zero place))
    (front_by text place b bs fault (is_blank b) refl same (λ inside f. meets_from text (place + 1) inside bs fault here.rest f) e)

pub meets : (text : List ℕ) (fault : TokenFault) → tokens_from 0 0 text ≡ Err fault → Meets text 0 fault
meets text fault e = meets_from text 0 0 text fault refl e

-- ---- what the fault is

-- no more bytes have a shape, seen from the place on
none_behind : (text : List ℕ) (place n : ℕ) → place < length text → Longest (get_or text place 0 ∷ drop (place + 1) text) n → NoneBehind text place (place + n)
none_behind text place n within longest end more fits k shaped =
    let split = drop_more text place 0 within in
    let left : length (get_or text place 0 ∷ drop (place + 1) text) ≡ length text - place = ap length (sym split) ∙ length-drop place text in
    longest (end - place) (omega (arith, more)) (omega (arith, fits, left)) k (subst (λ l. IsShaped k (take (end - place) l)) split shaped)

-- so many bytes from the place on
bytes_behind : (text : List ℕ) (place n : ℕ) → place < length text → take n (get_or text place 0 ∷ drop (place + 1) text) ≡ slice_range text place (place + n)
bytes_behind text place n within =
    let split = drop_more text place 0 within in
    let same : n ≡ place + n - place = omega arith in
    ap (take n) (sym split) ∙ ap (λ m. take m (drop place text)) same

bad_of : (text : List ℕ) (place : ℕ) → Meets text 0 (BadByte place) → IsBadByte text place
bad_of text place m =
    let why : Told m.at (get_or text m.at 0 ∷ drop (m.at + 1) text) (Err (BadByte place)) =
    subst (Told m.at (get_or text m.at 0 ∷ drop (m.at + 1) text)) m.read (told m.at (get_or text m.at 0) (drop (m.at + 1) text)) in
    subst (IsBadByte text) (sym why.0) (record {
      tokens = m.tokens;
      before = m.before;
      within = m.within;
      no_blank = m.no_blank;
      none = subst (NoneBehind text m.at) (add-zero m.at) (none_behind text m.at 0 m.within why.1);
    })

large_of : (text : List ℕ) (place : ℕ) → Meets text 0 (Literal place) → IsLargeInt text place
large_of text place m =
    let why : Told m.at (get_or text m.at 0 ∷ drop (m.at + 1) text) (Err (Literal place)) =
    subst (Told m.at (get_or text m.at 0 ∷ drop (m.at + 1) text)) m.read (told m.at (get_or text m.at 0) (drop (m.at + 1) text)) in
    let l = why.1 in
    let split = drop_more text m.at 0 m.within in
    let left : length (get_or text m.at 0 ∷ drop (m.at + 1) text) ≡ length text - m.at = ap length (sym split) ∙ length-drop m.at text in
    let range = bytes_behind text m.at l.bytes m.within in
    subst (IsLargeInt text) (sym why.0) (record {
      tokens = m.tokens;
      before = m.before;
      to = m.at + l.bytes;
      some = omega (arith, l.some);
      within = omega (arith, l.fits, left, m.within);
      digits = subst (λ bytes. list_all is_digit bytes ≡ true) range l.digits;
      longest = none_behind text m.at l.bytes m.within l.longest;
      large = subst (λ bytes. INT_MOST < value_after 0 bytes) range l.large;
    })

no_many : (text : List ℕ) → Meets text 0 TooMany → ⊥
no_many text m = subst (Told m.at (get_or text m.at 0 ∷ drop (m.at + 1) text)) m.read (told m.at (get_or text m.at 0) (drop (m.at + 1) text))

-- ---- and what stands so has the fault

-- the bytes that stand there, no longer than some, have the shape of no token
longest_here : (text : List ℕ) (place n : ℕ) → place < length text → NoneBehind text place (place + n) → Longest (get_or text place 0 ∷ drop (place + 1) text) n
longest_here text place n within none m more fits k shaped =
    let split = drop_more text place 0 within in
    let left : length (get_or text place 0 ∷ drop (place + 1) text) ≡ length text - place = ap length (sym split) ∙ length-drop place text in
    none (place + m) (omega (arith, more)) (omega (arith, fits, left, within)) k (subst (IsShaped k) (bytes_behind text place m within) shaped)

-- the fault that is met at a place
fault_at : (text : List ℕ) (place : ℕ) (fault : TokenFault) → place < length text → is_blank (get_or text place 0) ≡ false
    → token_at place (get_or text place 0 ∷ drop (place + 1) text) ≡ Err fault → behind text place ≡ Err fault
fault_at text place fault within blank read =
    ap (tokens_from place 0) (drop_more text place 0 within)
    ∙ (behind_token place (get_or text place 0) (drop (place + 1) text) blank
    ∙ ap (λ r. and_behind (begins r) (λ inside. tokens_from (place + 1) inside (drop (place + 1) text))) read)

-- is that of the text from each place on from which tokens stand up to it
up_to : (text : List ℕ) (place : ℕ) (ts : List Token) (to : ℕ) (fault : TokenFault) → to ≤ length text → StandUpTo text place ts to
    → behind text to ≡ Err fault → behind text place ≡ Err fault
up_to text place [] to fault within stand e =
    let n = to - place in
    let fits : n ≤ length (drop place text) = omega (arith, within, length-drop place text) in
    let same : place + n ≡ to = omega (arith, stand.0) in
    some_blanks place n (drop place text) fits stand.1
    ∙ (ap (tokens_from (place + n) 0) (drop-drop n place text) ∙ (ap (behind text) same ∙ e))
up_to text place (t ∷ ts) to fault within stand e =
    first_read text place t stand.0 ∙ ap (put_before t) (up_to text t.span.to ts to fault within stand.1 e)

bad_is : (text : List ℕ) (place : ℕ) → IsBadByte text place → tokens_from 0 0 text ≡ Err (BadByte place)
bad_is text place bad =
    let none = subst (NoneBehind text place) (sym (add-zero place)) bad.none in
    let read = bad_read place (get_or text place 0) (drop (place + 1) text) (longest_here text place 0 bad.within none) in
    up_to text 0 bad.tokens place (BadByte place) (omega (arith, bad.within)) bad.before
    (fault_at text place (BadByte place) bad.within bad.no_blank read)

-- a digit is no blank
no_blank_digit : (b : ℕ) → is_digit b ≡ true → is_blank b ≡ false
no_blank_digit b digit = grind (arith, digit)

large_is : (text : List ℕ) (place : ℕ) → IsLargeInt text place → tokens_from 0 0 text ≡ Err (Literal place)
large_is text place large =
    let b = get_or text place 0 in
    let bs = drop (place + 1) text in
    let here : place < length text = omega (arith, large.some, large.within) in
    let m = large.to - place - 1 in
    let end : place + suc m ≡ large.to = omega (arith, large.some) in
    let left : length (b ∷ bs) ≡ length text - place = ap length (sym (drop_more text place 0 here)) ∙ length-drop place text in
    let fits : suc m ≤ length (b ∷ bs) = omega (arith, large.some, large.within, left) in
    let range : b ∷ take m bs ≡ slice_range text place large.to = bytes_behind text place (suc m) here ∙ ap (slice_range text place) end in
    let digits : list_all is_digit (b ∷ take m bs) ≡ true = subst (λ bytes. list_all is_digit bytes ≡ true) (sym range) large.digits in
    let most : INT_MOST < value_after 0 (b ∷ take m bs) = subst (λ bytes. INT_MOST < value_after 0 bytes) (sym range) large.large in
    let longest = longest_here text place (suc m) here (subst (NoneBehind text place) (sym end) large.longest) in
    let blank = no_blank_digit b (both (is_digit b) (list_all is_digit (take m bs)) digits).0 in
    up_to text 0 large.tokens place (Literal place) (omega (arith, here)) large.before
    (fault_at text place (Literal place) here blank (large_read place m b bs fits digits longest most))

-- ---- the limits come behind

-- a fault of bytes is not one of the limits
flat_no_bad : (ts : List Token) (deep : Option ℕ) (place : ℕ) → if_flat ts deep ≡ Err (BadByte place) → ⊥
flat_no_bad ts None place e = cc e
flat_no_bad ts (Some other) place e = cc e

flat_no_large : (ts : List Token) (deep : Option ℕ) (place : ℕ) → if_flat ts deep ≡ Err (Literal place) → ⊥
flat_no_large ts None place e = cc e
flat_no_large ts (Some other) place e = cc e

flat_no_many : (ts : List Token) (deep : Option ℕ) → if_flat ts deep ≡ Err TooMany → ⊥
flat_no_many ts None e = cc e
flat_no_many ts (Some other) e = cc e

limits_no_bad : (ts : List Token) (many : Bool) (place : ℕ) → cond many (Err TooMany) (if_flat ts (too_deep 0 ts)) ≡ Err (BadByte place) → ⊥
limits_no_bad ts true place e = cc e
limits_no_bad ts false place e = flat_no_bad ts (too_deep 0 ts) place e

limits_no_large : (ts : List Token) (many : Bool) (place : ℕ) → cond many (Err TooMany) (if_flat ts (too_deep 0 ts)) ≡ Err (Literal place) → ⊥
limits_no_large ts true place e = cc e
limits_no_large ts false place e = flat_no_large ts (too_deep 0 ts) place e

limits_many : (ts : List Token) (many : Bool) → nat_lt 2048 (length ts) ≡ many → cond many (Err TooMany) (if_flat ts (too_deep 0 ts)) ≡ Err TooMany
    → 2048 < length ts
limits_many ts true is e = ltb-true 2048 (length ts) is
limits_many ts false is e = absurd (flat_no_many ts (too_deep 0 ts) e)

bad_limits : (text : List ℕ) (place : ℕ) (r : Result (List Token) TokenFault) → tokens_from 0 0 text ≡ r → and_then r within_limits ≡ Err (BadByte place)
    → tokens_from 0 0 text ≡ Err (BadByte place)
bad_limits text place (Ok ts) is e = absurd (limits_no_bad ts (nat_lt 2048 (length ts)) place e)
bad_limits text place (Err fault) is e = is ∙ e

large_limits : (text : List ℕ) (place : ℕ) (r : Result (List Token) TokenFault) → tokens_from 0 0 text ≡ r → and_then r within_limits ≡ Err (Literal place)
    → tokens_from 0 0 text ≡ Err (Literal place)
large_limits text place (Ok ts) is e = absurd (limits_no_large ts (nat_lt 2048 (length ts)) place e)
large_limits text place (Err fault) is e = is ∙ e

many_limits : (text : List ℕ) (r : Result (List Token) TokenFault) → tokens_from 0 0 text ≡ r → and_then r within_limits ≡ Err TooMany → IsTooMany text
many_limits text (Ok ts) is e = record {
  tokens = ts;
  stand = stand_from text 0 0 text ts refl is;
  many = limits_many ts (nat_lt 2048 (length ts)) refl e;
}
many_limits text (Err fault) is e = absurd (no_many text (meets text TooMany (is ∙ e)))

-- ---- the three laws

pub bad_byte : (text : List ℕ) (place : ℕ) → (tokens_of text ≡ Err (BadByte place)) ↔ IsBadByte text place
bad_byte text place = (
  λ e. bad_of text place (meets text (BadByte place) (bad_limits text place (tokens_from 0 0 text) refl e)),
  λ bad. ap (λ all. and_then all within_limits) (bad_is text place bad),
)

pub large_int : (text : List ℕ) (place : ℕ) → (tokens_of text ≡ Err (Literal place)) ↔ IsLargeInt text place
large_int text place = (
  λ e. large_of text place (meets text (Literal place) (large_limits text place (tokens_from 0 0 text) refl e)),
  λ large. ap (λ all. and_then all within_limits) (large_is text place large),
)

pub too_many : (text : List ℕ) → (tokens_of text ≡ Err TooMany) ↔ IsTooMany text
too_many text = (
  λ e. many_limits text (tokens_from 0 0 text) refl e,
  λ m. ap (λ all. and_then all within_limits) (only_tokens text m.tokens m.stand)
      ∙ ap (λ b. cond b (Err TooMany) (if_flat m.tokens (too_deep 0 m.tokens))) (lt-ltb 2048 (length m.tokens) m.many),
)
