-- A text is its tokens one behind another, and blanks.
use Rattle.std.proofs.Common.{◌≡◌, refl, sym, ap, ◌∙◌, subst, ℕ, zero, suc, ◌+◌, ◌-◌, ◌<◌, ◌≤◌, arith, Bool, true, false, cond, List, [], ◌∷◌, length, take, drop, get_or, Option, None, Some, Result, Ok, Err, add-zero, nat_lt}
use Rattle.std.specs.List.{list_all, slice_range}
use Rattle.std.proofs.lemmas.List.{drop_all, drop_more, length-drop}
use Rattle.sql_token.specs.declared.token.Token.{Token}
use Rattle.sql_token.specs.Bytes.{is_blank}
use Rattle.sql_token.specs.Faults.{TokenFault, TooMany}
use Rattle.sql_token.specs.Laws.{IsFirst, IsWritten, StandFrom}
use Rattle.text_rules.specs.Readings.{put_before}
use Rattle.sql_token.specs.Tokens.{and_behind, and_then, begins, if_flat, token_at, tokens_from, tokens_of, too_deep, within_limits}
use Rattle.sql_token.proofs.Longest.{Longest, longest_in}
use Rattle.sql_token.proofs.Spans.{stands_in}
use Rattle.sql_token.proofs.Steps.{behind_blank, behind_token, in_token, no_byte}
use Rattle.sql_token.proofs.Written.{written_in}

-- The bytes stand in the text from a place on.
pub record At (text : List ℕ) (place b : ℕ) (bs : List ℕ) : Type 0 where
  pub within : place < length text
  pub here : b ≡ get_or text place 0
  pub rest : bs ≡ drop (place + 1) text

none_left : (text : List ℕ) (place : ℕ) → [] ≡ drop place text → length text ≤ place
none_left text place e = omega (arith, length-drop place text, ap length e)

pub at_place : (text : List ℕ) (place b : ℕ) (bs : List ℕ) → b ∷ bs ≡ drop place text → At text place b bs
at_place text place b bs e =
    let within : place < length text = omega (arith, length-drop place text, ap length e) in
    let split = drop_more text place 0 within in
    let same : b ∷ bs ≡ get_or text place 0 ∷ drop (place + 1) text = e ∙ split in
    record { within = within; here = cc same; rest = cc same }

-- one blank more in front of a token
pub first_before : (text : List ℕ) (place b : ℕ) (bs : List ℕ) (t : Token) → At text place b bs → is_blank b ≡ true → IsFirst text (place + 1) t
    → IsFirst text place t
first_before text place b bs t here blank first =
    let split = drop_more text place 0 here.within in
    let more : t.span.from - place ≡ suc (t.span.from - (place + 1)) = omega (arith, first.after) in
    let range : slice_range text place t.span.from ≡ get_or text place 0 ∷ slice_range text (place + 1) t.span.from =
    ap (λ n. take n (drop place text)) more ∙ ap (take (suc (t.span.from - (place + 1)))) split in
    let front : is_blank (get_or text place 0) ≡ true = ap is_blank (sym here.here) ∙ blank in
    record {
      after = omega (arith, first.after);
      blanks = rw (range, front) first.blanks;
      some = first.some;
      within = first.within;
      written = first.written;
      longest = first.longest;
    }

-- one blank more in front
blank_before : (text : List ℕ) (place b : ℕ) (bs : List ℕ) (ts : List Token) → At text place b bs → b ∷ bs ≡ drop place text → is_blank b ≡ true
    → StandFrom text (place + 1) ts → StandFrom text place ts
blank_before text place b bs [] here same blank stand =
    subst (λ rest. list_all is_blank rest ≡ true) same (rw (blank, here.rest, stand) refl)
blank_before text place b bs (t ∷ ts) here same blank stand = (first_before text place b bs t here blank stand.0, stand.1)

-- the token that is read is the first one there
pub first_here : (text : List ℕ) (place b : ℕ) (bs : List ℕ) (t : Token) → At text place b bs → b ∷ bs ≡ drop place text → token_at place (b ∷ bs) ≡ Ok t
    → IsFirst text place t
first_here text place b bs t here same read =
    let stands = stands_in place (b ∷ bs) t read in
    let size : length (b ∷ bs) ≡ length text - place = ap length same ∙ length-drop place text in
    let none : t.span.from - place ≡ 0 = omega (arith, stands.from) in
    let empty : slice_range text place t.span.from ≡ [] = ap (λ n. take n (drop place text)) none in
    let bytes : b ∷ bs ≡ drop t.span.from text = same ∙ ap (λ p. drop p text) (sym stands.from) in
    let most = subst (λ bs. Longest bs (t.span.to - t.span.from)) bytes (longest_in place (b ∷ bs) t read) in
    let left : length (drop t.span.from text) ≡ length text - t.span.from = length-drop t.span.from text in
    record {
      after = omega (arith, stands.from);
      blanks = rw empty refl;
      some = omega (arith, stands.from, stands.some);
      within = omega (arith, stands.ends, size, here.within);
      written = subst (λ bs. IsWritten t.kind (take (t.span.to - t.span.from) bs)) bytes (written_in place (b ∷ bs) t read);
      longest = λ to more fits k shaped. most (to - t.span.from)
          (omega (arith, stands.from, stands.some, more)) (omega (arith, fits, left)) k shaped;
    }

-- the place behind its bytes is its end
pub end_here : (place b : ℕ) (bs : List ℕ) (t : Token) → token_at place (b ∷ bs) ≡ Ok t → place + 1 + (t.span.to - t.span.from - 1) ≡ t.span.to
end_here place b bs t read =
    let stands = stands_in place (b ∷ bs) t read in
    omega (arith, stands.from, stands.some)

-- a token in front of the tokens behind it
token_before : (text : List ℕ) (place b : ℕ) (bs : List ℕ) (ts rest : List Token) (t : Token) → At text place b bs → b ∷ bs ≡ drop place text
    → token_at place (b ∷ bs) ≡ Ok t → StandFrom text (place + 1 + (t.span.to - t.span.from - 1)) rest → t ∷ rest ≡ ts → StandFrom text place ts
token_before text place b bs ts rest t here same read stand is =
    subst (StandFrom text place) is
    (first_here text place b bs t here same read, subst (λ p. StandFrom text p rest) (end_here place b bs t read) stand)

-- what is known of the text behind a byte
abbrev Behind : List ℕ → ℕ → List ℕ → Type 0
Behind text place bs = (inside : ℕ) (ts : List Token) → tokens_from (place + 1) inside bs ≡ Ok ts → StandFrom text (place + 1 + inside) ts

put_by : (text : List ℕ) (place b : ℕ) (bs : List ℕ) (ts : List Token) (t : Token) (more : Result (List Token) TokenFault)
    → tokens_from (place + 1) (t.span.to - t.span.from - 1) bs ≡ more → At text place b bs → b ∷ bs ≡ drop place text → Behind text place bs
    → token_at place (b ∷ bs) ≡ Ok t → put_before t more ≡ Ok ts → StandFrom text place ts
put_by text place b bs ts t (Err fault) is here same behind read e = absurd (cc e)
put_by text place b bs ts t (Ok rest) is here same behind read e =
    token_before text place b bs ts rest t here same read (behind (t.span.to - t.span.from - 1) rest is) (cc e)

token_by : (text : List ℕ) (place b : ℕ) (bs : List ℕ) (ts : List Token) (read : Result Token TokenFault) → token_at place (b ∷ bs) ≡ read
    → At text place b bs → b ∷ bs ≡ drop place text → Behind text place bs
    → and_behind (begins read) (λ inside. tokens_from (place + 1) inside bs) ≡ Ok ts → StandFrom text place ts
token_by text place b bs ts (Err fault) is here same behind e = absurd (cc e)
token_by text place b bs ts (Ok t) is here same behind e =
    put_by text place b bs ts t (tokens_from (place + 1) (t.span.to - t.span.from - 1) bs) refl here same behind is e

front_by : (text : List ℕ) (place b : ℕ) (bs : List ℕ) (ts : List Token) (blank : Bool) → is_blank b ≡ blank → b ∷ bs ≡ drop place text → Behind text place bs
    → tokens_from place 0 (b ∷ bs) ≡ Ok ts → StandFrom text place ts
front_by text place b bs ts true is same behind e =
    let stand = behind 0 ts (sym (behind_blank place b bs is) ∙ e) in
    blank_before text place b bs ts (at_place text place b bs same) same is (subst (λ p. StandFrom text p ts) (add-zero (place + 1)) stand)
front_by text place b bs ts false is same behind e =
    token_by text place b bs ts (token_at place (b ∷ bs)) refl (at_place text place b bs same) same behind (sym (behind_token place b bs is) ∙ e)

same_tokens : (ts us : List Token) → ◌≡◌ {A = Result (List Token) TokenFault} (Ok ts) (Ok us) → ts ≡ us
same_tokens ts us e = cc e

pub stand_from : (text : List ℕ) (place inside : ℕ) (bs : List ℕ) (ts : List Token) → bs ≡ drop place text → tokens_from place inside bs ≡ Ok ts
    → StandFrom text (place + inside) ts
stand_from text place inside [] ts same e =
    let end : length text ≤ place + inside = omega (arith, none_left text place same) in
    let none : [] ≡ ts = same_tokens [] ts (sym (no_byte place inside) ∙ e) in
    subst (StandFrom text (place + inside)) none (rw (drop_all (place + inside) text end) refl)
stand_from text place (suc inside) (b ∷ bs) ts same e =
    let here = at_place text place b bs same in
    let one : place + 1 + inside ≡ place + suc inside = omega arith in
    subst (λ p. StandFrom text p ts) one (stand_from text (place + 1) inside bs ts here.rest (sym (in_token place inside b bs) ∙ e))
stand_from text place zero (b ∷ bs) ts same e =
    let here = at_place text place b bs same in
    subst (λ p. StandFrom text p ts) (sym (add-zero place))
    (front_by text place b bs ts (is_blank b) refl same (λ inside us f. stand_from text (place + 1) inside bs us here.rest f) e)

-- the limits take away no token
flat_same : (ts us : List Token) (deep : Option ℕ) → if_flat ts deep ≡ Ok us → ts ≡ us
flat_same ts us None e = cc e
flat_same ts us (Some place) e = absurd (cc e)

limits_by : (ts us : List Token) (many : Bool) → cond many (Err TooMany) (if_flat ts (too_deep 0 ts)) ≡ Ok us → ts ≡ us
limits_by ts us true e = absurd (cc e)
limits_by ts us false e = flat_same ts us (too_deep 0 ts) e

limits_same : (ts us : List Token) → within_limits ts ≡ Ok us → ts ≡ us
limits_same ts us e = limits_by ts us (nat_lt 2048 (length ts)) e

of_text : (text : List ℕ) (ts : List Token) (all : Result (List Token) TokenFault) → tokens_from 0 0 text ≡ all → and_then all within_limits ≡ Ok ts → StandFrom text 0 ts
of_text text ts (Err fault) is e = absurd (cc e)
of_text text ts (Ok us) is e = stand_from text 0 0 text ts refl (is ∙ ap {B = Result (List Token) TokenFault} (λ all. Ok all) (limits_same us ts e))

pub tokens_stand : (text : List ℕ) (ts : List Token) → tokens_of text ≡ Ok ts → StandFrom text 0 ts
tokens_stand text ts e = of_text text ts (tokens_from 0 0 text) refl e
