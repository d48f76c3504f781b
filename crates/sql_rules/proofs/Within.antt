-- The limit on brackets, counted by symbols as by tokens.
use Rattle.std.proofs.Common.{◌≡◌, ℕ, suc, ◌+◌, ◌-◌, ◌&&◌, ◌||◌, List, [], ◌∷◌, refl, ap, Bool, true, false, Option}
use Rattle.std.proofs.Common.{None, Some, arith, cond, nat_lt, nat_le, not}
use Rattle.sql_token.specs.Tokens.{too_deep, opens, closes, open_behind}
use Rattle.sql_token.specs.declared.token.Span.{Span}
use Rattle.sql_token.specs.declared.token.Token.{Token}
use Rattle.sql_token.specs.declared.token.TokenKind.{TokenKind}
use Rattle.sql_rules.specs.Symbols.{kind_symbol, symbol, symbols, Symbol, OfSign, Fixed}
use Rattle.sql_token.specs.declared.keyword.Keyword.TheVariants as keyword
use Rattle.sql_token.specs.declared.sign.Sign.TheVariants as sign
use Rattle.sql_token.specs.declared.token.TokenKind.TheVariants as kind

-- the symbol is an opening bracket, a closing one
abbrev pub lifts : Symbol → Bool
lifts (Fixed (OfSign sign.Open)) = true
lifts _ = false

abbrev pub drops : Symbol → Bool
drops (Fixed (OfSign sign.Close)) = true
drops _ = false

-- how many brackets are open behind a symbol
abbrev pub after : ℕ → Symbol → ℕ
after depth p = cond (lifts p) (suc depth) (cond (drops p) (depth - 1) depth)

-- no bracket opens where limit are open
unfoldable pub within : ℕ → ℕ → List Symbol → Bool
within limit depth [] = true
within limit depth (p ∷ ts) = (not (lifts p) || nat_lt depth limit) && within limit (after depth p) ts

lifts_as : (text : List ℕ) (k : TokenKind) (span : Span) → lifts (kind_symbol text k span) ≡ opens k
lifts_as text (kind.Keyword keyword.Select) span = refl
lifts_as text (kind.Keyword keyword.From) span = refl
lifts_as text (kind.Keyword keyword.Where) span = refl
lifts_as text (kind.Keyword keyword.Group) span = refl
lifts_as text (kind.Keyword keyword.By) span = refl
lifts_as text (kind.Keyword keyword.Order) span = refl
lifts_as text (kind.Keyword keyword.Asc) span = refl
lifts_as text (kind.Keyword keyword.Desc) span = refl
lifts_as text (kind.Keyword keyword.Limit) span = refl
lifts_as text (kind.Keyword keyword.As) span = refl
lifts_as text (kind.Keyword keyword.And) span = refl
lifts_as text (kind.Keyword keyword.Or) span = refl
lifts_as text (kind.Keyword keyword.Not) span = refl
lifts_as text (kind.Keyword keyword.Between) span = refl
lifts_as text (kind.Keyword keyword.In) span = refl
lifts_as text (kind.Keyword keyword.Is) span = refl
lifts_as text (kind.Keyword keyword.Null) span = refl
lifts_as text (kind.Keyword keyword.Count) span = refl
lifts_as text (kind.Keyword keyword.Sum) span = refl
lifts_as text (kind.Keyword keyword.Min) span = refl
lifts_as text (kind.Keyword keyword.Max) span = refl
lifts_as text (kind.Keyword keyword.Avg) span = refl
lifts_as text (kind.Keyword keyword.Chord2) span = refl
lifts_as text (kind.Keyword keyword.AreaBand) span = refl
lifts_as text (kind.Keyword keyword.AreaCap) span = refl
lifts_as text (kind.Keyword keyword.AreaBox) span = refl
lifts_as text kind.Name span = refl
lifts_as text (kind.Int z) span = refl
lifts_as text (kind.Sign sign.AtMost) span = refl
lifts_as text (kind.Sign sign.AtLeast) span = refl
lifts_as text (kind.Sign sign.Differs) span = refl
lifts_as text (kind.Sign sign.Less) span = refl
lifts_as text (kind.Sign sign.More) span = refl
lifts_as text (kind.Sign sign.Equal) span = refl
lifts_as text (kind.Sign sign.Comma) span = refl
lifts_as text (kind.Sign sign.Open) span = refl
lifts_as text (kind.Sign sign.Close) span = refl
lifts_as text (kind.Sign sign.Star) span = refl
lifts_as text (kind.Sign sign.Plus) span = refl
lifts_as text (kind.Sign sign.Minus) span = refl
lifts_as text (kind.Sign sign.Dot) span = refl
lifts_as text (kind.Sign sign.Semicolon) span = refl

drops_as : (text : List ℕ) (k : TokenKind) (span : Span) → drops (kind_symbol text k span) ≡ closes k
drops_as text (kind.Keyword keyword.Select) span = refl
drops_as text (kind.Keyword keyword.From) span = refl
drops_as text (kind.Keyword keyword.Where) span = refl
drops_as text (kind.Keyword keyword.Group) span = refl
drops_as text (kind.Keyword keyword.By) span = refl
drops_as text (kind.Keyword keyword.Order) span = refl
drops_as text (kind.Keyword keyword.Asc) span = refl
drops_as text (kind.Keyword keyword.Desc) span = refl
drops_as text (kind.Keyword keyword.Limit) span = refl
drops_as text (kind.Keyword keyword.As) span = refl
drops_as text (kind.Keyword keyword.And) span = refl
drops_as text (kind.Keyword keyword.Or) span = refl
drops_as text (kind.Keyword keyword.Not) span = refl
drops_as text (kind.Keyword keyword.Between) span = refl
drops_as text (kind.Keyword keyword.In) span = refl
drops_as text (kind.Keyword keyword.Is) span = refl
drops_as text (kind.Keyword keyword.Null) span = refl
drops_as text (kind.Keyword keyword.Count) span = refl
drops_as text (kind.Keyword keyword.Sum) span = refl
drops_as text (kind.Keyword keyword.Min) span = refl
drops_as text (kind.Keyword keyword.Max) span = refl
drops_as text (kind.Keyword keyword.Avg) span = refl
drops_as text (kind.Keyword keyword.Chord2) span = refl
drops_as text (kind.Keyword keyword.AreaBand) span = refl
drops_as text (kind.Keyword keyword.AreaCap) span = refl
drops_as text (kind.Keyword keyword.AreaBox) span = refl
drops_as text kind.Name span = refl
drops_as text (kind.Int z) span = refl
drops_as text (kind.Sign sign.AtMost) span = refl
drops_as text (kind.Sign sign.AtLeast) span = refl
drops_as text (kind.Sign sign.Differs) span = refl
drops_as text (kind.Sign sign.Less) span = refl
drops_as text (kind.Sign sign.More) span = refl
drops_as text (kind.Sign sign.Equal) span = refl
drops_as text (kind.Sign sign.Comma) span = refl
drops_as text (kind.Sign sign.Open) span = refl
drops_as text (kind.Sign sign.Close) span = refl
drops_as text (kind.Sign sign.Star) span = refl
drops_as text (kind.Sign sign.Plus) span = refl
drops_as text (kind.Sign sign.Minus) span = refl
drops_as text (kind.Sign sign.Dot) span = refl
drops_as text (kind.Sign sign.Semicolon) span = refl

-- one token of a text that is not too deep
step : (b c : Bool) (from : ℕ) (more : Option ℕ) → cond (b && c) (Some from) more ≡ None → ((b && c) ≡ false) × (more ≡ None)
step true true from more e = absurd cc
step true false from more e = (refl, e)
step false c from more e = (refl, e)

fits : (b : Bool) (depth : ℕ) → (b && nat_le 32 depth) ≡ false → (not b || nat_lt depth 32) ≡ true
fits true depth e = grind (arith, e)
fits false depth e = refl

same_after : (text : List ℕ) (t : Token) (depth : ℕ) → open_behind depth t ≡ after depth (symbol text t)
same_after text t depth =
    let one_more : depth + 1 ≡ suc depth = omega arith in
    rw (lifts_as text t.kind t.span, drops_as text t.kind t.span) (ap (λ n. cond (opens t.kind) n (cond (closes t.kind) (depth - 1) depth)) one_more)

-- tokens that are nowhere too deep are symbols within the limit
pub within_tokens : (text : List ℕ) (depth : ℕ) (ts : List Token) → too_deep depth ts ≡ None → within 32 depth (symbols text ts) ≡ true
unfolding within too_deep
within_tokens text depth [] e = refl
within_tokens text depth (t ∷ ts) e =
    let two = step (opens t.kind) (nat_le 32 depth) t.span.from (too_deep (open_behind depth t) ts) e in
    let room = fits (opens t.kind) depth two.0 in
    let more = within_tokens text (open_behind depth t) ts two.1 in
    let room' : (not (lifts (symbol text t)) || nat_lt depth 32) ≡ true = rw (lifts_as text t.kind t.span) room in
    let more' : within 32 (after depth (symbol text t)) (symbols text ts) ≡ true = rw (← same_after text t depth) more in
    rw (room', more') refl

-- and the other way round
fits_back : (b : Bool) (depth : ℕ) → (not b || nat_lt depth 32) ≡ true → (b && nat_le 32 depth) ≡ false
fits_back true depth e = grind (arith, e)
fits_back false depth e = refl

both_true : (a b : Bool) → (a && b) ≡ true → (a ≡ true) × (b ≡ true)
both_true true b e = (refl, e)
both_true false b e = absurd cc

pub tokens_within : (text : List ℕ) (depth : ℕ) (ts : List Token) → within 32 depth (symbols text ts) ≡ true → too_deep depth ts ≡ None
unfolding within too_deep
tokens_within text depth [] e = refl
tokens_within text depth (t ∷ ts) e =
    let two = both_true (not (lifts (symbol text t)) || nat_lt depth 32) (within 32 (after depth (symbol text t)) (symbols text ts)) e in
    let room : (not (opens t.kind) || nat_lt depth 32) ≡ true = rw (← lifts_as text t.kind t.span) two.0 in
    let more = tokens_within text (open_behind depth t) ts (rw (same_after text t depth) two.1) in
    rw (fits_back (opens t.kind) depth room) more
