-- One step of the reading of a text: blanks are passed, then a token is read or a fault is met.
use Rattle.std.proofs.Common.{◌≡◌, sym, ap, ◌∙◌, ℕ, ◌+◌, ◌-◌, ◌<◌, ◌≤◌, arith, false, List, [], ◌∷◌, ◌++◌, length, take, drop, get_or, Result, Ok, Err}
use Rattle.std.specs.List.{prefix_len}
use Rattle.std.proofs.lemmas.List.{drop-drop, drop_all, drop_more, get_or-drop, length-drop, take_rest}
use Rattle.std.proofs.lemmas.List.Sums.{prefix_len_stops}
use Rattle.sql_token.specs.declared.token.Token.{Token}
use Rattle.sql_token.specs.declared.token.TokenStop.{TokenStop}
use Rattle.sql_token.specs.declared.token.TokenStop.TheVariants as stop
use Rattle.sql_token.specs.Answers.{StopsBy, IsNext, behind}
use Rattle.sql_token.specs.Bytes.{is_blank}
use Rattle.sql_token.specs.Faults.{TokenFault, BadByte, Literal, TooMany, Depth}
use Rattle.text_rules.specs.Readings.{put_before}
use Rattle.sql_token.specs.Tokens.{and_behind, begins, token_at, tokens_from}
use Rattle.sql_token.proofs.Spans.{stands_in}
use Rattle.sql_token.proofs.Steps.{behind_blanks, behind_inside, behind_token, no_byte}

-- the part of a text from a place on
abbrev part : List ℕ → ℕ → List ℕ
part text place = take (length text - place) (drop place text)

-- the blanks at a place are passed over
pub blanks_passed : (text : List ℕ) (place n : ℕ) → n ≡ prefix_len is_blank (part text place) → behind text place ≡ behind text (place + n)
blanks_passed text place n is =
    let bytes : n ≡ prefix_len is_blank (drop place text) = is ∙ ap (prefix_len is_blank) (take_rest text place) in
    behind_blanks place (drop place text) ∙ (ap (λ k. tokens_from (place + k) 0 (drop k (drop place text))) (sym bytes)
    ∙ ap (tokens_from (place + n) 0) (drop-drop n place text))

-- and behind them stands no blank
pub blanks_stop : (text : List ℕ) (place n : ℕ) → n ≡ prefix_len is_blank (part text place) → place + n < length text → is_blank (get_or text (place + n) 0) ≡ false
blanks_stop text place n is within =
    let bytes : n ≡ prefix_len is_blank (drop place text) = is ∙ ap (prefix_len is_blank) (take_rest text place) in
    let fits : prefix_len is_blank (drop place text) < length (drop place text) = omega (arith, bytes, length-drop place text) in
    let here : get_or (drop place text) (prefix_len is_blank (drop place text)) 0 ≡ get_or text (place + n) 0 =
    get_or-drop place text (prefix_len is_blank (drop place text)) 0 ∙ ap (λ k. get_or text (place + k) 0) (sym bytes) in
    ap is_blank (sym here) ∙ prefix_len_stops is_blank (drop place text) 0 fits

-- what follows from a place on, by what is read there
from_here : (text : List ℕ) (place : ℕ) → place < length text → is_blank (get_or text place 0) ≡ false
    → behind text place ≡ and_behind (begins (token_at place (part text place))) (λ inside. tokens_from (place + 1) inside (drop (place + 1) text))
from_here text place within blank =
    let split = drop_more text place 0 within in
    let same : get_or text place 0 ∷ drop (place + 1) text ≡ part text place = sym split ∙ sym (take_rest text place) in
    ap (tokens_from place 0) split ∙ (behind_token place (get_or text place 0) (drop (place + 1) text) blank
    ∙ ap (λ bs. and_behind (begins (token_at place bs)) (λ inside. tokens_from (place + 1) inside (drop (place + 1) text))) same)

-- a token is read
pub token_next : (text : List ℕ) (place from : ℕ) (t : Token) → behind text place ≡ behind text from → place ≤ from → from < length text
    → is_blank (get_or text from 0) ≡ false → token_at from (part text from) ≡ Ok t → IsNext text place t
token_next text place from t same le within blank read =
    let stands = stands_in from (part text from) t read in
    let size : length (part text from) ≡ length text - from = ap length (take_rest text from) ∙ length-drop from text in
    let inside : t.span.to - t.span.from - 1 ≤ length (drop (from + 1) text) = omega (arith, stands.from, stands.ends, stands.some, size, length-drop (from + 1) text) in
    let end : from + 1 + (t.span.to - t.span.from - 1) ≡ t.span.to = omega (arith, stands.from, stands.some) in
    let rest = behind_inside (from + 1) (t.span.to - t.span.from - 1) (drop (from + 1) text) inside in
    let joined = drop-drop (t.span.to - t.span.from - 1) (from + 1) text in
    let follows : tokens_from (from + 1) (t.span.to - t.span.from - 1) (drop (from + 1) text) ≡ behind text t.span.to =
    rest ∙ (ap (tokens_from (from + 1 + (t.span.to - t.span.from - 1)) 0) joined ∙ ap (behind text) end) in
    record {
      tokens = same ∙ (from_here text from within blank
          ∙ (ap (λ r. and_behind (begins r) (λ inside. tokens_from (from + 1) inside (drop (from + 1) text))) read ∙ ap (put_before t) follows));
      after = omega (arith, stands.some);
      within = omega (arith, stands.ends, size);
    }

-- no token is left
pub none_next : (text : List ℕ) (place from : ℕ) → behind text place ≡ behind text from → length text ≤ from → behind text place ≡ Ok []
none_next text place from same end = same ∙ (ap (tokens_from from 0) (drop_all from text end) ∙ no_byte from 0)

-- a fault is met
fault_here : (text : List ℕ) (place from : ℕ) (fault : TokenFault) → behind text place ≡ behind text from → from < length text
    → is_blank (get_or text from 0) ≡ false → token_at from (part text from) ≡ Err fault → behind text place ≡ Err fault
fault_here text place from fault same within blank read =
    same ∙ (from_here text from within blank ∙ ap (λ r. and_behind (begins r) (λ inside. tokens_from (from + 1) inside (drop (from + 1) text))) read)

-- the reader stops with it
pub stops_next : (text : List ℕ) (place from : ℕ) (why : TokenStop) → behind text place ≡ behind text from → from < length text
    → is_blank (get_or text from 0) ≡ false → StopsBy (token_at from (part text from)) why → StopsBy (behind text place) why
stops_next text place from (stop.BadByte p) same within blank read = fault_here text place from (BadByte p) same within blank read
stops_next text place from (stop.Literal p) same within blank read = fault_here text place from (Literal p) same within blank read
stops_next text place from stop.TooMany same within blank read = fault_here text place from TooMany same within blank read
stops_next text place from (stop.Depth p) same within blank read = fault_here text place from (Depth p) same within blank read
stops_next text place from stop.Memory same within blank read = tt

-- the tokens read so far, and then those that are still to be read
abbrev pub all_of : List Token → Result (List Token) TokenFault → Result (List Token) TokenFault
all_of done (Ok ts) = Ok (done ++ ts)
all_of done (Err fault) = Err fault
