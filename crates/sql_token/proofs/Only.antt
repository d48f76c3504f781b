-- A text is read as the only tokens that stand in it.
use Rattle.std.proofs.Common.{◌≡◌, refl, ap, sym, ◌∙◌, subst, ℕ, zero, suc, ◌+◌, ◌-◌, ◌<◌, ◌≤◌, arith, true, List, [], ◌∷◌, length, take, drop, get_or, Result, Ok, add-zero}
use Rattle.std.specs.List.{list_all}
use Rattle.std.proofs.lemmas.List.{drop-drop, drop_all, drop_more, length-drop, take_all, take_rest}
use Rattle.sql_token.specs.declared.token.Token.{Token}
use Rattle.sql_token.specs.Answers.{behind}
use Rattle.sql_token.specs.Bytes.{is_blank}
use Rattle.sql_token.specs.Faults.{TokenFault}
use Rattle.sql_token.specs.Laws.{IsFirst, IsShaped, IsWritten, StandFrom}
use Rattle.text_rules.specs.Readings.{put_before}
use Rattle.sql_token.specs.Tokens.{and_then, tokens_of, within_limits, token, token_at, tokens_from}
use Rattle.sql_token.proofs.Fronts.{both}
use Rattle.sql_token.proofs.Longest.{Longest}
use Rattle.sql_token.proofs.FrontTokens.{front_read, no_blank}
use Rattle.sql_token.proofs.Scans.{token_next}
use Rattle.sql_token.proofs.Steps.{behind_blank, no_byte}

-- so many blanks are passed over
pub some_blanks : (place n : ℕ) (bs : List ℕ) → n ≤ length bs → list_all is_blank (take n bs) ≡ true → tokens_from place 0 bs ≡ tokens_from (place + n) 0 (drop n bs)
some_blanks place zero bs fits all = ap (λ p. tokens_from p 0 bs) (sym (add-zero place))
some_blanks place (suc n) [] fits all = absurd (omega arith)
some_blanks place (suc n) (b ∷ bs) fits all =
    let each = both (is_blank b) (list_all is_blank (take n bs)) all in
    let same : place + 1 + n ≡ place + suc n = omega arith in
    behind_blank place b bs each.0 ∙ (some_blanks (place + 1) n bs (omega (arith, fits)) each.1 ∙ ap (λ p. tokens_from p 0 (drop n bs)) same)

-- the blanks before a token are passed over
blanks_before : (text : List ℕ) (place : ℕ) (t : Token) → IsFirst text place t → behind text place ≡ behind text t.span.from
blanks_before text place t first =
    let n = t.span.from - place in
    let fits : n ≤ length (drop place text) = omega (arith, first.after, first.some, first.within, length-drop place text) in
    let same : place + n ≡ t.span.from = omega (arith, first.after) in
    some_blanks place n (drop place text) fits first.blanks ∙ (ap (tokens_from (place + n) 0) (drop-drop n place text) ∙ ap (behind text) same)

-- the token that stands there is read
read_here : (text : List ℕ) (from size b : ℕ) (bs : List ℕ) (t : Token) → b ∷ bs ≡ drop from text → t.span.from ≡ from → t.span.to ≡ from + suc size
    → suc size ≤ length (b ∷ bs) → IsWritten t.kind (take (suc size) (b ∷ bs)) → Longest (b ∷ bs) (suc size) → token_at from (b ∷ bs) ≡ Ok t
read_here text from size b bs t same at end fits written longest =
    let is : token t.kind from (suc size) ≡ t =
    ap (λ n. token t.kind n (suc size)) (sym at) ∙ ap (λ n. record { kind = t.kind; span = record { from = t.span.from; to = n } }) (ap (λ n. n + suc size) at ∙ sym end) in
    front_read from size b bs t.kind fits written longest ∙ ap {B = Result Token TokenFault} (λ u. Ok u) is

-- the first token is read, and then the rest
pub first_read : (text : List ℕ) (place : ℕ) (t : Token) → IsFirst text place t → behind text place ≡ put_before t (behind text t.span.to)
first_read text place t first =
    let from = t.span.from in
    let size = t.span.to - from - 1 in
    let within : from < length text = omega (arith, first.some, first.within) in
    let split = drop_more text from 0 within in
    let b = get_or text from 0 in
    let bs = drop (from + 1) text in
    let more : t.span.to - from ≡ suc size = omega (arith, first.some) in
    let left : length (b ∷ bs) ≡ length text - from = ap length (sym split) ∙ length-drop from text in
    let fits : suc size ≤ length (b ∷ bs) = omega (arith, first.some, first.within, left) in
    let written : IsWritten t.kind (take (suc size) (b ∷ bs)) =
    subst (λ l. IsWritten t.kind (take (suc size) l)) split (subst (λ n. IsWritten t.kind (take n (drop from text))) more first.written) in
    let longest : Longest (b ∷ bs) (suc size) = λ n longer short k shaped.
    let to = from + n in
    let same : n ≡ to - from = omega arith in
    first.longest to (omega (arith, first.some, longer)) (omega (arith, short, left, within)) k
    (subst (λ l. IsShaped k (take (to - from) l)) (sym split) (subst (λ i. IsShaped k (take i (b ∷ bs))) same shaped)) in
    let read : token_at from (b ∷ bs) ≡ Ok t = read_here text from size b bs t (sym split) refl (omega (arith, first.some)) fits written longest in
    let part : b ∷ bs ≡ take (length text - from) (drop from text) = sym split ∙ sym (take_rest text from) in
    (token_next text place from t (blanks_before text place t first) first.after within (no_blank t.kind b (take size bs) written)
    (subst (λ l. token_at from l ≡ Ok t) part read)).tokens

-- the tokens that stand in a text from a place on are those that are read
pub only_from : (text : List ℕ) (place : ℕ) (ts : List Token) → StandFrom text place ts → behind text place ≡ Ok ts
only_from text place [] stand =
    let rest = drop place text in
    let all : list_all is_blank (take (length rest) rest) ≡ true = rw (take_all (length rest) rest (omega arith)) stand in
    some_blanks place (length rest) rest (omega arith) all
    ∙ (ap (tokens_from (place + length rest) 0) (drop_all (length rest) rest (omega arith)) ∙ no_byte (place + length rest) 0)
only_from text place (t ∷ ts) stand =
    first_read text place t stand.0 ∙ ap (put_before t) (only_from text t.span.to ts stand.1)

pub only_tokens : (text : List ℕ) (ts : List Token) → StandFrom text 0 ts → tokens_from 0 0 text ≡ Ok ts
only_tokens text ts stand = only_from text 0 ts stand

-- and where they are within the limits they are the tokens of the text
pub only_within : (text : List ℕ) (ts : List Token) → StandFrom text 0 ts → within_limits ts ≡ Ok ts → tokens_of text ≡ Ok ts
only_within text ts stand within = ap (λ all. and_then all within_limits) (only_tokens text ts stand) ∙ within
