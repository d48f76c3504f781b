-- How the tokens of a text go on behind blanks and behind a token.
use Rattle.std.proofs.Common.{◌≡◌, refl, ap, ◌∙◌, sym, ℕ, zero, suc, ◌+◌, ◌≤◌, arith, Bool, true, false, cond, List, [], ◌∷◌, length, drop, Ok, add-zero}
use Rattle.std.specs.List.{prefix_len}
use Rattle.std.proofs.lemmas.Grind.{common_steps}
use Rattle.sql_token.specs.Bytes.{is_blank}
use Rattle.sql_token.specs.Tokens.{Blank, and_behind, begins, standing_at, token_at, tokens_from}

-- what follows a byte where no token reaches over it
at_front : (place b : ℕ) (bs : List ℕ) → tokens_from place 0 (b ∷ bs) ≡ and_behind (standing_at place (b ∷ bs)) (λ inside. tokens_from (place + 1) inside bs)
unfolding tokens_from
at_front place b bs = refl

-- no byte, no token
pub no_byte : (place inside : ℕ) → tokens_from place inside [] ≡ Ok []
unfolding tokens_from
no_byte place inside = refl

-- a byte that belongs to the token before
pub in_token : (place inside b : ℕ) (bs : List ℕ) → tokens_from place (suc inside) (b ∷ bs) ≡ tokens_from (place + 1) inside bs
unfolding tokens_from
in_token place inside b bs = refl

stands_blank : (place b : ℕ) (bs : List ℕ) → is_blank b ≡ true → standing_at place (b ∷ bs) ≡ Blank
stands_blank place b bs blank = rw blank refl

stands_token : (place b : ℕ) (bs : List ℕ) → is_blank b ≡ false → standing_at place (b ∷ bs) ≡ begins (token_at place (b ∷ bs))
stands_token place b bs blank = rw blank refl

-- a blank is passed over
pub behind_blank : (place b : ℕ) (bs : List ℕ) → is_blank b ≡ true → tokens_from place 0 (b ∷ bs) ≡ tokens_from (place + 1) 0 bs
behind_blank place b bs blank =
    at_front place b bs ∙ ap (λ s. and_behind s (λ inside. tokens_from (place + 1) inside bs)) (stands_blank place b bs blank)

-- a byte that is no blank begins a token
pub behind_token : (place b : ℕ) (bs : List ℕ) → is_blank b ≡ false
    → tokens_from place 0 (b ∷ bs) ≡ and_behind (begins (token_at place (b ∷ bs))) (λ inside. tokens_from (place + 1) inside bs)
behind_token place b bs blank =
    at_front place b bs ∙ ap (λ s. and_behind s (λ inside. tokens_from (place + 1) inside bs)) (stands_token place b bs blank)

-- the bytes of a token are passed over
pub behind_inside : (place inside : ℕ) (bs : List ℕ) → inside ≤ length bs
    → tokens_from place inside bs ≡ tokens_from (place + inside) 0 (drop inside bs)
behind_inside place zero bs le = ap (λ p. tokens_from p 0 bs) (sym (add-zero place))
behind_inside place (suc inside) [] le = absurd (omega arith)
behind_inside place (suc inside) (b ∷ bs) le =
    let fits : inside ≤ length bs = omega arith in
    let same : place + 1 + inside ≡ place + suc inside = omega arith in
    in_token place inside b bs ∙ (behind_inside (place + 1) inside bs fits ∙ ap (λ p. tokens_from p 0 (drop inside bs)) same)

-- one blank more, or an end of the blanks
blank_step : (place b : ℕ) (bs : List ℕ) (test : Bool) → is_blank b ≡ test
    → tokens_from (place + 1) 0 bs ≡ tokens_from (place + 1 + prefix_len is_blank bs) 0 (drop (prefix_len is_blank bs) bs)
    → tokens_from place 0 (b ∷ bs) ≡ tokens_from (place + cond test (1 + prefix_len is_blank bs) 0) 0 (drop (cond test (1 + prefix_len is_blank bs) 0) (b ∷ bs))
blank_step place b bs false blank more = ap (λ p. tokens_from p 0 (b ∷ bs)) (sym (add-zero place))
blank_step place b bs true blank more =
    let same : place + 1 + prefix_len is_blank bs ≡ place + (1 + prefix_len is_blank bs) = omega arith in
    let rest : drop (1 + prefix_len is_blank bs) (b ∷ bs) ≡ drop (prefix_len is_blank bs) bs = grind (arith, common_steps) in
    behind_blank place b bs blank ∙ (more ∙ (ap (λ p. tokens_from p 0 (drop (prefix_len is_blank bs) bs)) same
    ∙ ap (tokens_from (place + (1 + prefix_len is_blank bs)) 0) (sym rest)))

-- whatever blanks stand at the front are passed over
pub behind_blanks : (place : ℕ) (bs : List ℕ)
    → tokens_from place 0 bs ≡ tokens_from (place + prefix_len is_blank bs) 0 (drop (prefix_len is_blank bs) bs)
behind_blanks place [] = no_byte place 0 ∙ sym (no_byte (place + 0) 0)
behind_blanks place (b ∷ bs) = blank_step place b bs (is_blank b) refl (behind_blanks (place + 1) bs)
