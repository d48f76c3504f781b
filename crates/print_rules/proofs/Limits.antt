-- The tokens of a text are printable, and fewer symbols of them are within the same limits.
use Rattle.std.proofs.Common.{◌≡◌, refl, sym, ap, ◌∙◌, subst, ℕ, zero, suc, ◌+◌, ◌-◌, ◌≤◌, Bool, true, false, not, ◌&&◌, ◌||◌, cond, nat_lt, nat_le, List, [], ◌∷◌, map, length, Option, None, Some, Result, Ok, Err, pos, arith}
use Rattle.std.specs.List.{slice_range}
use Rattle.sql_token.specs.declared.limits.TheConstants.{INT_MOST}
use Rattle.sql_token.specs.declared.keyword.Keyword.{Keyword}
use Rattle.sql_token.specs.declared.keyword.Keyword.TheVariants as keyword
use Rattle.sql_token.specs.declared.sign.Sign.{Sign}
use Rattle.sql_token.specs.declared.sign.Sign.TheVariants as sign
use Rattle.sql_token.specs.declared.token.Span.{Span}
use Rattle.sql_token.specs.declared.token.Token.{Token}
use Rattle.sql_token.specs.declared.token.TokenKind.{TokenKind}
use Rattle.sql_token.specs.declared.token.TokenKind.TheVariants as kind
use Rattle.text_rules.specs.Words.{begins_word}
use Rattle.sql_token.specs.Bytes.{is_blank}
use Rattle.sql_token.specs.Faults.{TokenFault}
use Rattle.sql_token.specs.Laws.{IsWritten, StandFrom}
use Rattle.sql_token.specs.Signs.{long_sign, short_sign}
use Rattle.sql_token.specs.Tokens.{token, word_kind, word_at, int_token, int_at, short_at, long_at, sign_at, token_at, Standing}
use Rattle.text_rules.specs.Readings.{put_before}
use Rattle.sql_token.specs.Tokens.{Blank, Begins, Faulty, begins, standing_at, and_behind, tokens_from}
use Rattle.text_rules.specs.Numbers.{is_digit}
use Rattle.sql_rules.proofs.Within.{lifts, drops, after, within}
use Rattle.sql_rules.specs.Symbols.{Symbol, Named, Number, Adds, Compares, AreaName, Fixed, kind_symbol, symbols}
use Rattle.sql_rules.specs.Spelling.{Symbols}
use Rattle.print_rules.specs.Spaced.{bare_symbol, is_int, is_printable}
use Rattle.print_rules.proofs.Phrases.{Thin, None_left, Kept, Out}
use Rattle.print_rules.proofs.Walks.{Each}

-- ---- symbols without places, and fewer of them

-- places count for nothing
same_lifts : (p : Symbol) → lifts (bare_symbol p) ≡ lifts p
same_lifts (Named n) = refl
same_lifts (Number n) = refl
same_lifts (Adds m) = refl
same_lifts (Compares op) = refl
same_lifts (AreaName k span) = refl
same_lifts (Fixed m) = refl

same_drops : (p : Symbol) → drops (bare_symbol p) ≡ drops p
same_drops (Named n) = refl
same_drops (Number n) = refl
same_drops (Adds m) = refl
same_drops (Compares op) = refl
same_drops (AreaName k span) = refl
same_drops (Fixed m) = refl

same_printable : (p : Symbol) → is_printable (bare_symbol p) ≡ is_printable p
same_printable (Named n) = refl
same_printable (Number n) = refl
same_printable (Adds m) = refl
same_printable (Compares op) = refl
same_printable (AreaName k span) = refl
same_printable (Fixed m) = refl

pub within_bare : (limit depth : ℕ) (ps : Symbols) → within limit depth (map bare_symbol ps) ≡ within limit depth ps
unfolding within
within_bare limit depth [] = refl
within_bare limit depth (p ∷ ps) = rw (same_lifts p, same_drops p) (ap (λ t. (not (lifts p) || nat_lt depth limit) && t) (within_bare limit (after depth p) ps))

both_true : (a b : Bool) → (a && b) ≡ true → (a ≡ true) × (b ≡ true)
both_true true b e = (refl, e)
both_true false b e = absurd cc

-- where fewer symbols are left, brackets are as deep
pub thin_within : (limit depth : ℕ) (ps qs : Symbols) → Thin ps qs → within limit depth ps ≡ true → within limit depth qs ≡ true
unfolding within
thin_within limit depth ps qs None_left e = refl
thin_within limit depth ps qs (Kept p us vs t) e =
    let two = both_true (not (lifts p) || nat_lt depth limit) (within limit (after depth p) us) e in
    let more = thin_within limit (after depth p) us vs t two.1 in
    rw (same_lifts p, same_drops p, two.0) more
thin_within limit depth ps qs (Out p us vs x y t) e =
    let two = both_true (not (lifts p) || nat_lt depth limit) (within limit (after depth p) us) e in
    let same : after depth p ≡ depth = rw (x, y) refl in
    thin_within limit depth us vs t (rw (← same) two.1)

-- there are no more of them
pub thin_length : (ps qs : Symbols) → Thin ps qs → length qs ≤ length ps
thin_length ps qs None_left = omega arith
thin_length ps qs (Kept p us vs t) = omega (arith, thin_length us vs t)
thin_length ps qs (Out p us vs x y t) = omega (arith, thin_length us vs t)

bare_twice : (p : Symbol) → bare_symbol (bare_symbol p) ≡ bare_symbol p
bare_twice (Named n) = refl
bare_twice (Number n) = refl
bare_twice (Adds m) = refl
bare_twice (Compares op) = refl
bare_twice (AreaName k span) = refl
bare_twice (Fixed m) = refl

-- they have no places
pub thin_bare : (ps qs : Symbols) → Thin ps qs → map bare_symbol qs ≡ qs
thin_bare ps qs None_left = refl
thin_bare ps qs (Kept p us vs t) = rw (bare_twice p, thin_bare us vs t) refl
thin_bare ps qs (Out p us vs x y t) = thin_bare us vs t

-- each has a text that is read as that symbol
abbrev pub Printable : Symbols → Type 0
Printable = Each (λ p. is_printable p ≡ true)

-- where all symbols are printable, so are those that are left
pub thin_printable : (ps qs : Symbols) → Thin ps qs → Printable ps → Printable qs
thin_printable ps qs None_left each = tt
thin_printable ps qs (Kept p us vs t) each = (same_printable p ∙ each.0, thin_printable us vs t each.1)
thin_printable ps qs (Out p us vs x y t) each = thin_printable us vs t each.1

-- ---- the ints of a text are small

-- a number, where the token has one, is at most 2^63 - 1
abbrev small_kind : TokenKind → Bool
small_kind (kind.Int z) = is_int z
small_kind k = true

abbrev Small : List Token → Type 0
Small = Each (λ t. small_kind t.kind ≡ true)

same_kind : (t u : Token) → small_kind t.kind ≡ true → ◌≡◌ {A = Result Token TokenFault} (Ok t) (Ok u) → small_kind u.kind ≡ true
same_kind t u h e = let same : t ≡ u = cc e in ap (λ x. small_kind x.kind) (sym same) ∙ h

small_word : (k : Option Keyword) → small_kind (word_kind k) ≡ true
small_word (Some k) = refl
small_word None = refl

small_by : (n : ℕ) (b : Bool) (place bytes : ℕ) (t : Token) → nat_le n INT_MOST ≡ b → int_token place bytes (cond b (Some (pos n)) None) ≡ Ok t → small_kind t.kind ≡ true
small_by n true place bytes t is e = same_kind (token (kind.Int (pos n)) place bytes) t is e
small_by n false place bytes t is e = absurd (cc e)

small_short : (place : ℕ) (s : Option Sign) (t : Token) → short_at place s ≡ Ok t → small_kind t.kind ≡ true
small_short place (Some s) t e = same_kind (token (kind.Sign s) place 1) t refl e
small_short place None t e = absurd (cc e)

small_long : (place : ℕ) (s short : Option Sign) (t : Token) → long_at place s short ≡ Ok t → small_kind t.kind ≡ true
small_long place (Some s) short t e = same_kind (token (kind.Sign s) place 2) t refl e
small_long place None short t e = small_short place short t e

small_sign : (place : ℕ) (bs : List ℕ) (t : Token) → sign_at place bs ≡ Ok t → small_kind t.kind ≡ true
small_sign place [] t e = absurd (cc e)
small_sign place (a ∷ []) t e = small_short place (short_sign a) t e
small_sign place (a ∷ b ∷ bs) t e = small_long place (long_sign a b) (short_sign a) t e

small_front : (place b : ℕ) (bs : List ℕ) (t : Token) (word digit : Bool) → cond word (Ok (word_at place (b ∷ bs))) (cond digit (int_at place (b ∷ bs)) (sign_at place (b ∷ bs))) ≡ Ok t → small_kind t.kind ≡ true
small_front place b bs t true digit e = same_kind (word_at place (b ∷ bs)) t (small_word _) e
small_front place b bs t false true e = small_by _ _ place _ t refl e
small_front place b bs t false false e = small_sign place (b ∷ bs) t e

small_standing : (place b : ℕ) (bs : List ℕ) (t : Token) (blank : Bool) → cond blank Blank (begins (token_at place (b ∷ bs))) ≡ Begins t → small_kind t.kind ≡ true
small_standing place b bs t true e = absurd (cc e)
small_standing place b bs t false e = go (token_at place (b ∷ bs)) refl e where
  go : (r : Result Token TokenFault) → token_at place (b ∷ bs) ≡ r → begins r ≡ Begins t → small_kind t.kind ≡ true
  go (Err fault) is h = absurd (cc h)
  go (Ok u) is h = let same : u ≡ t = cc h in small_front place b bs t (begins_word b) (is_digit b) (is ∙ ap {B = Result Token TokenFault} (λ x. Ok x) same)

small_put : (t : Token) (r : Result (List Token) TokenFault) (ts : List Token) → small_kind t.kind ≡ true → ((us : List Token) → r ≡ Ok us → Small us) → put_before t r ≡ Ok ts → Small ts
small_put t (Ok us) ts is h e = let same : t ∷ us ≡ ts = cc e in subst Small same (is, h us refl)
small_put t (Err fault) ts is h e = absurd (cc e)

small_step : (s : Standing) (more : ℕ → Result (List Token) TokenFault) (ts : List Token) → ((t : Token) → s ≡ Begins t → small_kind t.kind ≡ true) → ((n : ℕ) (us : List Token) → more n ≡ Ok us → Small us) → and_behind s more ≡ Ok ts → Small ts
small_step Blank more ts is h e = h 0 ts e
small_step (Begins t) more ts is h e = small_put t (more (t.span.to - t.span.from - 1)) ts (is t refl) (h (t.span.to - t.span.from - 1)) e
small_step (Faulty fault) more ts is h e = absurd (cc e)

-- each token of a text is small
pub small_tokens : (place inside : ℕ) (bs : List ℕ) (ts : List Token) → tokens_from place inside bs ≡ Ok ts → Small ts
unfolding tokens_from
small_tokens place inside [] ts e = let same : ◌≡◌ {A = List Token} [] ts = cc e in subst Small same tt
small_tokens place (suc inside) (b ∷ bs) ts e = small_tokens (place + 1) inside bs ts e
small_tokens place zero (b ∷ bs) ts e =
    small_step (standing_at place (b ∷ bs)) (λ n. tokens_from (place + 1) n bs) ts (λ t h. small_standing place b bs t (is_blank b) h) (λ n us h. small_tokens (place + 1) n bs us h) e

-- ---- the tokens of a text are printable

-- a token that its bytes write is printable
printable_kind : (text : List ℕ) (k : TokenKind) (span : Span) → small_kind k ≡ true → IsWritten k (slice_range text span.from span.to) → is_printable (kind_symbol text k span) ≡ true
printable_kind text (kind.Keyword keyword.Select) span small written = refl
printable_kind text (kind.Keyword keyword.From) span small written = refl
printable_kind text (kind.Keyword keyword.Where) span small written = refl
printable_kind text (kind.Keyword keyword.Group) span small written = refl
printable_kind text (kind.Keyword keyword.By) span small written = refl
printable_kind text (kind.Keyword keyword.Order) span small written = refl
printable_kind text (kind.Keyword keyword.Asc) span small written = refl
printable_kind text (kind.Keyword keyword.Desc) span small written = refl
printable_kind text (kind.Keyword keyword.Limit) span small written = refl
printable_kind text (kind.Keyword keyword.As) span small written = refl
printable_kind text (kind.Keyword keyword.And) span small written = refl
printable_kind text (kind.Keyword keyword.Or) span small written = refl
printable_kind text (kind.Keyword keyword.Not) span small written = refl
printable_kind text (kind.Keyword keyword.Between) span small written = refl
printable_kind text (kind.Keyword keyword.In) span small written = refl
printable_kind text (kind.Keyword keyword.Is) span small written = refl
printable_kind text (kind.Keyword keyword.Null) span small written = refl
printable_kind text (kind.Keyword keyword.Count) span small written = refl
printable_kind text (kind.Keyword keyword.Sum) span small written = refl
printable_kind text (kind.Keyword keyword.Min) span small written = refl
printable_kind text (kind.Keyword keyword.Max) span small written = refl
printable_kind text (kind.Keyword keyword.Avg) span small written = refl
printable_kind text (kind.Keyword keyword.Chord2) span small written = refl
printable_kind text (kind.Keyword keyword.AreaBand) span small written = refl
printable_kind text (kind.Keyword keyword.AreaCap) span small written = refl
printable_kind text (kind.Keyword keyword.AreaBox) span small written = refl
printable_kind text kind.Name span small written = rw (written.0, written.1) refl
printable_kind text (kind.Int z) span small written = small
printable_kind text (kind.Sign sign.AtMost) span small written = refl
printable_kind text (kind.Sign sign.AtLeast) span small written = refl
printable_kind text (kind.Sign sign.Differs) span small written = refl
printable_kind text (kind.Sign sign.Less) span small written = refl
printable_kind text (kind.Sign sign.More) span small written = refl
printable_kind text (kind.Sign sign.Equal) span small written = refl
printable_kind text (kind.Sign sign.Comma) span small written = refl
printable_kind text (kind.Sign sign.Open) span small written = refl
printable_kind text (kind.Sign sign.Close) span small written = refl
printable_kind text (kind.Sign sign.Star) span small written = refl
printable_kind text (kind.Sign sign.Plus) span small written = refl
printable_kind text (kind.Sign sign.Minus) span small written = refl
printable_kind text (kind.Sign sign.Dot) span small written = refl
printable_kind text (kind.Sign sign.Semicolon) span small written = refl

printable_from : (text : List ℕ) (place : ℕ) (ts : List Token) → Small ts → StandFrom text place ts → Printable (symbols text ts)
printable_from text place [] small stand = tt
printable_from text place (t ∷ ts) small stand = (printable_kind text t.kind t.span small.0 stand.0.written, printable_from text t.span.to ts small.1 stand.1)

-- all tokens of a text are printable
pub printable_tokens : (text : List ℕ) (ts : List Token) → tokens_from 0 0 text ≡ Ok ts → StandFrom text 0 ts → Printable (symbols text ts)
printable_tokens text ts e stand = printable_from text 0 ts (small_tokens 0 0 text ts e) stand
