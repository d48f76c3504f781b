-- Where bytes at the front of a text write a token and no more of them have the shape of one, that token is read.
use Rattle.std.proofs.Common.{◌≡◌, refl, ap, sym, ◌∙◌, ℕ, zero, suc, ◌<◌, ◌≤◌, arith, Bool, true, false, List, [], ◌∷◌, length, take, Option, None, Some, Result, Ok, pos, nat_le}
use Rattle.std.specs.List.{list_all, prefix_len, take_while}
use Rattle.std.proofs.lemmas.Bool.{le-leb, leb-false, leb-true}
use Rattle.std.proofs.lemmas.List.Sums.{prefix_len-le-length}
use Rattle.sql_token.specs.declared.limits.TheConstants.{INT_MOST}
use Rattle.text_rules.specs.Numbers.{is_digit, value_after}
use Rattle.sql_token.specs.declared.keyword.Keyword.{Keyword}
use Rattle.sql_token.specs.declared.sign.Sign.{Sign}
use Rattle.sql_token.specs.declared.token.Token.{Token}
use Rattle.sql_token.specs.declared.token.TokenKind.{TokenKind}
use Rattle.sql_token.specs.declared.token.TokenKind.TheVariants as kind
use Rattle.text_rules.specs.Words.{begins_word, continues_word}
use Rattle.sql_token.specs.Bytes.{is_blank}
use Rattle.sql_token.specs.Faults.{TokenFault}
use Rattle.sql_token.specs.Keywords.{keyword_of}
use Rattle.sql_token.specs.Laws.{IsShaped, IsWritten, is_word, sign_of}
use Rattle.sql_token.specs.Signs.{long_sign, short_sign}
use Rattle.sql_token.specs.Tokens.{token, word_kind, word_at, int_at, int_token, small_int, long_at, short_at, sign_at, token_at}
use Rattle.sql_token.proofs.Fronts.{at_most_front, both, digit_no_sign, letter_no_sign, no_word, sign_shape, word_all}
use Rattle.sql_token.proofs.Ints.{all_digits}
use Rattle.sql_token.proofs.Longest.{Longest}
use Rattle.sql_token.proofs.Spelled.{spelled_is}
use Rattle.sql_token.proofs.Written.{word_bytes, word_shaped}

-- the token of the kind is read, with so many bytes
abbrev pub Reads : ℕ → ℕ → List ℕ → TokenKind → Type 0
Reads place bytes bs k = ◌≡◌ {A = Result Token TokenFault} (token_at place bs) (Ok (token k place bytes))

-- where bytes at the front pass, and more of them do not, so many pass at the front
exact_by : (n m : ℕ) (b : Bool) → nat_le n m ≡ b → m ≤ n → (m < n → ⊥) → n ≡ m
exact_by n m true e least most = omega (arith, leb-true n m e, least)
exact_by n m false e least most = absurd (most (leb-false n m e))

exact_front : (p : ℕ → Bool) (m : ℕ) (bs : List ℕ) → m ≤ length bs → list_all p (take m bs) ≡ true → (m < prefix_len p bs → ⊥) → prefix_len p bs ≡ m
exact_front p m bs fits all most = exact_by (prefix_len p bs) m (nat_le (prefix_len p bs) m) refl (at_most_front p m bs fits all) most

-- a word is read
word_read : (place m b : ℕ) (bs : List ℕ) (k : Option Keyword) → suc m ≤ length (b ∷ bs) → is_word (b ∷ take m bs) ≡ true
    → keyword_of (b ∷ take m bs) ≡ k → Longest (b ∷ bs) (suc m) → Reads place (suc m) (b ∷ bs) (word_kind k)
word_read place m b bs k fits word is longest =
    let each = word_all b (take m bs) word in
    let all_of = take_while continues_word (b ∷ bs) in
    let most : suc m < prefix_len continues_word (b ∷ bs) → ⊥ = λ more. longest (prefix_len continues_word (b ∷ bs)) more
    (prefix_len-le-length continues_word (b ∷ bs)) (word_kind (keyword_of all_of)) (word_shaped all_of (keyword_of all_of) refl (word_bytes b bs each.0)) in
    let exact : prefix_len continues_word (b ∷ bs) ≡ suc m = exact_front continues_word (suc m) (b ∷ bs) fits each.1 most in
    let begins : token_at place (b ∷ bs) ≡ Ok (word_at place (b ∷ bs)) = rw each.0 refl in
    let sized : word_at place (b ∷ bs) ≡ token (word_kind (keyword_of (take (suc m) (b ∷ bs)))) place (suc m) =
    ap (λ n. token (word_kind (keyword_of (take n (b ∷ bs)))) place n) exact in
    begins ∙ ap {B = Result Token TokenFault} (λ t. Ok t) (sized ∙ ap (λ o. token (word_kind o) place (suc m)) is)

-- an int that is small enough is read
small : (n : ℕ) → n ≤ INT_MOST → small_int n ≡ Some (pos n)
small n le = rw (le-leb n INT_MOST le) refl

-- as many digits as stand at the front are an int, or one that is too large
pub int_begins : (place m b : ℕ) (bs : List ℕ) → suc m ≤ length (b ∷ bs) → list_all is_digit (b ∷ take m bs) ≡ true → Longest (b ∷ bs) (suc m)
    → token_at place (b ∷ bs) ≡ int_token place (suc m) (small_int (value_after 0 (b ∷ take m bs)))
int_begins place m b bs fits all longest =
    let digit = (both (is_digit b) (list_all is_digit (take m bs)) all).0 in
    let all_of = take_while is_digit (b ∷ bs) in
    let most : suc m < prefix_len is_digit (b ∷ bs) → ⊥ = λ more. longest (prefix_len is_digit (b ∷ bs)) more
    (prefix_len-le-length is_digit (b ∷ bs)) (kind.Int (pos (value_after 0 all_of))) (all_digits (b ∷ bs), refl) in
    let exact : prefix_len is_digit (b ∷ bs) ≡ suc m = exact_front is_digit (suc m) (b ∷ bs) fits all most in
    let begins : token_at place (b ∷ bs) ≡ int_at place (b ∷ bs) = rw (no_word b digit, digit) refl in
    begins ∙ ap (λ n. int_token place n (small_int (value_after 0 (take n (b ∷ bs))))) exact

int_read : (place m b : ℕ) (bs : List ℕ) → suc m ≤ length (b ∷ bs) → list_all is_digit (b ∷ take m bs) ≡ true
    → value_after 0 (b ∷ take m bs) ≤ INT_MOST → Longest (b ∷ bs) (suc m) → Reads place (suc m) (b ∷ bs) (kind.Int (pos (value_after 0 (b ∷ take m bs))))
int_read place m b bs fits all le longest =
    int_begins place m b bs fits all longest ∙ ap (int_token place (suc m)) (small (value_after 0 (b ∷ take m bs)) le)

-- what begins with a sign is no word and no int
no_letter : (b : ℕ) (bs : List ℕ) (s : Sign) (x : Bool) → sign_of (b ∷ bs) ≡ Some s → begins_word b ≡ x → begins_word b ≡ false
no_letter b bs s false is e = e
no_letter b bs s true is e = absurd (cc (is, letter_no_sign b bs e))

no_digit : (b : ℕ) (bs : List ℕ) (s : Sign) (x : Bool) → sign_of (b ∷ bs) ≡ Some s → is_digit b ≡ x → is_digit b ≡ false
no_digit b bs s false is e = e
no_digit b bs s true is e = absurd (cc (is, digit_no_sign b bs e))

at_sign : (place b : ℕ) (bs rest : List ℕ) (s : Sign) → sign_of (b ∷ bs) ≡ Some s → token_at place (b ∷ rest) ≡ sign_at place (b ∷ rest)
at_sign place b bs rest s is =
    rw (no_letter b bs s (begins_word b) is refl, no_digit b bs s (is_digit b) is refl) refl

-- where one byte is the longest sign, two are none
no_longer : (a b : ℕ) (bs : List ℕ) (o : Option Sign) → long_sign a b ≡ o → Longest (a ∷ b ∷ bs) 1 → long_sign a b ≡ None
no_longer a b bs None is longest = is
no_longer a b bs (Some s) is longest = absurd (longest 2 (omega arith) (omega arith) (kind.Sign s) is)

-- a sign is read
sign_read : (place m b : ℕ) (bs : List ℕ) (s : Sign) → suc m ≤ length (b ∷ bs) → sign_of (b ∷ take m bs) ≡ Some s → Longest (b ∷ bs) (suc m)
    → Reads place (suc m) (b ∷ bs) (kind.Sign s)
sign_read place zero a [] s fits is longest = at_sign place a [] [] s is ∙ ap (short_at place) is
sign_read place zero a (b ∷ bs) s fits is longest =
    at_sign place a [] (b ∷ bs) s is
    ∙ (ap (λ o. long_at place o (short_sign a)) (no_longer a b bs (long_sign a b) refl longest) ∙ ap (short_at place) is)
sign_read place (suc m) a [] s fits is longest = absurd (omega (arith, fits))
sign_read place (suc zero) a (b ∷ bs) s fits is longest =
    at_sign place a (b ∷ []) (b ∷ bs) s is ∙ ap (λ o. long_at place o (short_sign a)) is
sign_read place (suc (suc m)) a (b ∷ []) s fits is longest = absurd (omega (arith, fits))
sign_read place (suc (suc m)) a (b ∷ c ∷ bs) s fits is longest = absurd (cc is)

-- what is written at the front and is the longest is read
pub front_read : (place m b : ℕ) (bs : List ℕ) (k : TokenKind) → suc m ≤ length (b ∷ bs) → IsWritten k (take (suc m) (b ∷ bs)) → Longest (b ∷ bs) (suc m)
    → Reads place (suc m) (b ∷ bs) k
front_read place m b bs (kind.Keyword k) fits written longest =
    let is = spelled_is (b ∷ take m bs) k written in
    word_read place m b bs (Some k) fits is.word is.is longest
front_read place m b bs kind.Name fits written longest = word_read place m b bs None fits written.0 written.1 longest
front_read place m b bs (kind.Int z) fits written longest =
    int_read place m b bs fits written.0.0 written.1 longest
    ∙ ap (λ n. Ok (token (kind.Int n) place (suc m))) (sym written.0.1)
front_read place m b bs (kind.Sign s) fits written longest = sign_read place m b bs s fits written longest

-- what is written has its shape
pub shaped_of : (k : TokenKind) (bytes : List ℕ) → IsWritten k bytes → IsShaped k bytes
shaped_of (kind.Keyword k) bytes written = written
shaped_of kind.Name bytes written = written
shaped_of (kind.Int z) bytes written = written.0
shaped_of (kind.Sign s) bytes written = written

-- a blank begins no word, no int and no sign
blank_low : (b : ℕ) → is_blank b ≡ true → b < 33
blank_low b blank = grind (arith, blank)

low_no_word : (b : ℕ) → b < 33 → begins_word b ≡ false
low_no_word b low = grind (arith, low)

low_no_digit : (b : ℕ) → b < 33 → is_digit b ≡ false
low_no_digit b low = grind (arith, low)

low_alone : (b : ℕ) → b < 33 → short_sign b ≡ None
low_alone b low = grind (arith, low)

low_first : (b c : ℕ) → b < 33 → long_sign b c ≡ None
low_first b c low = grind (arith, low)

low_no_sign : (b : ℕ) (bs : List ℕ) → b < 33 → sign_of (b ∷ bs) ≡ None
low_no_sign b [] low = low_alone b low
low_no_sign b (c ∷ []) low = low_first b c low
low_no_sign b (c ∷ d ∷ bs) low = refl

no_blank_by : (k : TokenKind) (b : ℕ) (bs : List ℕ) (x : Bool) → is_blank b ≡ x → IsShaped k (b ∷ bs) → is_blank b ≡ false
no_blank_by k b bs false e shaped = e
no_blank_by k b bs true e shaped =
    let low = blank_low b e in
    absurd (sign_shape k b bs (low_no_word b low) (low_no_digit b low) (low_no_sign b bs low) shaped)

-- so what is written begins with no blank
pub no_blank : (k : TokenKind) (b : ℕ) (bs : List ℕ) → IsWritten k (b ∷ bs) → is_blank b ≡ false
no_blank k b bs written = no_blank_by k b bs (is_blank b) refl (shaped_of k (b ∷ bs) written)
