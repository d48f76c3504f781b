-- A text that is written out of symbols has these tokens.
use Rattle.std.proofs.Common.{◌≡◌, refl, sym, ap, ap₂, ◌∙◌, subst, ℕ, ◌+◌, ◌-◌, ◌≤◌, arith, Bool, true, false, ◌||◌, if◌then◌else◌, List, [], ◌∷◌, ◌++◌, length, map, take, drop, Ok, codes, add-zero, append_assoc, length-append}
use Rattle.std.specs.List.{slice_range}
use Rattle.std.proofs.lemmas.List.{length-map}
use Rattle.sql_token.specs.declared.keyword.Keyword.{Keyword}
use Rattle.sql_token.specs.declared.keyword.Keyword.TheVariants as keyword
use Rattle.sql_token.specs.declared.sign.Sign.{Sign}
use Rattle.sql_token.specs.declared.sign.Sign.TheVariants as sign
use Rattle.sql_token.specs.declared.token.Span.{Span}
use Rattle.sql_token.specs.declared.token.Token.{Token}
use Rattle.sql_token.specs.declared.token.TokenKind.{TokenKind}
use Rattle.sql_token.specs.Bytes.{is_blank}
use Rattle.text_rules.specs.Readings.{put_before}
use Rattle.sql_token.specs.Tokens.{and_behind, begins, token, tokens_from}
use Rattle.sql_token.proofs.Steps.{behind_blank, behind_inside, behind_token, no_byte}
use Rattle.sql_tree.specs.declared.cond.AreaKind.TheVariants as area
use Rattle.sql_tree.specs.declared.cond.Cmp.TheVariants as cmp
use Rattle.sql_tree.specs.Bare.{nowhere}
use Rattle.sql_rules.specs.Symbols.{OfKeyword, OfSign, Symbol, Named, Number, Adds, Compares, AreaName, Fixed, kind_symbol, symbol, symbols}
use Rattle.sql_rules.specs.PrintedExprs.{Bytes}
use Rattle.print_rules.specs.Laws.{HasSymbols, WrittenSymbolsAreRead, all_printable, bare_symbols}
use Rattle.print_rules.specs.Spaced.{Spaced, bare_symbol, is_parted, is_plain, is_printable, may_touch, parted_behind, symbol_text, text_of}
use Rattle.print_rules.proofs.Fronts.{both, dropped, taken}
use Rattle.print_rules.proofs.OneSymbol.{Follows, front, kind_of, may_follow, symbol_reads}
use Rattle.print_rules.proofs.OneToken.{Reads}

-- ---- one symbol, read

-- a token's bytes are passed over, and then the text goes on
token_first : (place b : ℕ) (bs r : Bytes) (k : TokenKind) → is_blank b ≡ false → Reads k (b ∷ bs) r place
    → tokens_from place 0 ((b ∷ bs) ++ r) ≡ put_before (token k place (length (b ∷ bs))) (tokens_from (place + length (b ∷ bs)) 0 r)
token_first place b bs r k solid read =
    let inside : place + length (b ∷ bs) - place - 1 ≡ length bs = omega arith in
    let fits : length bs ≤ length (bs ++ r) = omega (arith, length-append bs r) in
    let end : place + 1 + length bs ≡ place + length (b ∷ bs) = omega arith in
    let goes_on : tokens_from (place + 1) (place + length (b ∷ bs) - place - 1) (bs ++ r) ≡ tokens_from (place + length (b ∷ bs)) 0 r =
    ap (λ n. tokens_from (place + 1) n (bs ++ r)) inside ∙ (behind_inside (place + 1) (length bs) (bs ++ r) fits
    ∙ ap₂ (λ p t. tokens_from p 0 t) end (dropped bs r)) in
    behind_token place b (bs ++ r) solid
    ∙ (ap (λ t. and_behind (begins t) (λ inside. tokens_from (place + 1) inside (bs ++ r))) read
    ∙ ap (put_before (token k place (length (b ∷ bs)))) goes_on)

-- the same of a part whose first byte is known
by_text : (place : ℕ) (w : Bytes) (b : ℕ) (bs r : Bytes) (k : TokenKind) → w ≡ b ∷ bs → is_blank b ≡ false → Reads k w r place
    → tokens_from place 0 (w ++ r) ≡ put_before (token k place (length w)) (tokens_from (place + length w) 0 r)
by_text place w b bs r k is solid read = rw is (token_first place b bs r k solid (subst (λ w. Reads k w r place) is read))

-- a symbol's token is read, and then the text goes on
pub symbol_first : (place : ℕ) (p : Symbol) (r : Bytes) → is_printable p ≡ true → Follows p r
    → tokens_from place 0 (symbol_text p ++ r) ≡ put_before (token (kind_of p) place (length (symbol_text p))) (tokens_from (place + length (symbol_text p)) 0 r)
symbol_first place p r printable follows =
    let f = front p printable in
    by_text place (symbol_text p) f.first f.rest r (kind_of p) f.is f.solid (symbol_reads place p r printable follows)

-- the space before a symbol, or nothing
abbrev gap : Bool → Bytes
gap spaced = if spaced then codes " " else []

-- it is passed over
gap_passed : (place : ℕ) (spaced : Bool) (bs : Bytes) → tokens_from place 0 (gap spaced ++ bs) ≡ tokens_from (place + length (gap spaced)) 0 bs
gap_passed place true bs = behind_blank place 32 bs refl
gap_passed place false bs = ap (λ p. tokens_from p 0 bs) (sym (add-zero place))

-- ---- the symbol of the token

-- the token of a keyword has this keyword as its symbol
key_same : (text : Bytes) (k : Keyword) (span : Span) → is_printable (Fixed (OfKeyword k)) ≡ true
    → bare_symbol (kind_symbol text (kind_of (Fixed (OfKeyword k))) span) ≡ Fixed (OfKeyword k)
key_same text keyword.AreaBand span printable = absurd cc
key_same text keyword.AreaCap span printable = absurd cc
key_same text keyword.AreaBox span printable = absurd cc
key_same text keyword.Select span printable = refl
key_same text keyword.From span printable = refl
key_same text keyword.Where span printable = refl
key_same text keyword.Group span printable = refl
key_same text keyword.By span printable = refl
key_same text keyword.Order span printable = refl
key_same text keyword.Asc span printable = refl
key_same text keyword.Desc span printable = refl
key_same text keyword.Limit span printable = refl
key_same text keyword.As span printable = refl
key_same text keyword.And span printable = refl
key_same text keyword.Or span printable = refl
key_same text keyword.Not span printable = refl
key_same text keyword.Between span printable = refl
key_same text keyword.In span printable = refl
key_same text keyword.Is span printable = refl
key_same text keyword.Null span printable = refl
key_same text keyword.Count span printable = refl
key_same text keyword.Sum span printable = refl
key_same text keyword.Min span printable = refl
key_same text keyword.Max span printable = refl
key_same text keyword.Avg span printable = refl
key_same text keyword.Chord2 span printable = refl

-- the token of a sign has this sign as its symbol
sign_same : (text : Bytes) (s : Sign) (span : Span) → is_plain s ≡ true
    → bare_symbol (kind_symbol text (kind_of (Fixed (OfSign s))) span) ≡ Fixed (OfSign s)
sign_same text sign.Comma span plain = refl
sign_same text sign.Open span plain = refl
sign_same text sign.Close span plain = refl
sign_same text sign.Star span plain = refl
sign_same text sign.Dot span plain = refl
sign_same text sign.Semicolon span plain = refl
sign_same text _ span plain = absurd cc

-- the token of a symbol has this symbol, places aside, where its span has the symbol's text
same_symbol : (text : Bytes) (p : Symbol) (span : Span) → is_printable p ≡ true → slice_range text span.from span.to ≡ symbol_text p
    → bare_symbol (kind_symbol text (kind_of p) span) ≡ bare_symbol p
same_symbol text (Named n) span printable is = ap {B = Symbol} (λ t. Named (record { text = t; span = nowhere })) is
same_symbol text (Number n) span printable is = refl
same_symbol text (Adds true) span printable is = refl
same_symbol text (Adds false) span printable is = refl
same_symbol text (Compares cmp.Equal) span printable is = refl
same_symbol text (Compares cmp.Differs) span printable is = refl
same_symbol text (Compares cmp.Less) span printable is = refl
same_symbol text (Compares cmp.AtMost) span printable is = refl
same_symbol text (Compares cmp.More) span printable is = refl
same_symbol text (Compares cmp.AtLeast) span printable is = refl
same_symbol text (AreaName area.Band s) span printable is = refl
same_symbol text (AreaName area.Cap s) span printable is = refl
same_symbol text (AreaName area.Boxed s) span printable is = refl
same_symbol text (Fixed (OfKeyword k)) span printable is = key_same text k span printable
same_symbol text (Fixed (OfSign s)) span printable is = sign_same text s span printable

-- a part of a text, cut out of it
cut_out : (a w r : Bytes) → slice_range ((a ++ w) ++ r) (length a) (length a + length w) ≡ w
cut_out a w r =
    let size : length a + length w - length a ≡ length w = omega arith in
    let behind : drop (length a) ((a ++ w) ++ r) ≡ w ++ r = ap (drop (length a)) (append_assoc a w r) ∙ dropped a (w ++ r) in
    ap₂ (λ n t. take n t) size behind ∙ taken w r

-- ---- all symbols

-- The bytes from a place on have tokens, and these are the symbols, places aside.
record ReadsAs (text : Bytes) (place : ℕ) (bs : Bytes) (ps : List Symbol) : Type 0 where
  tokens : List Token
  are : tokens_from place 0 bs ≡ Ok tokens
  same : map bare_symbol (symbols text tokens) ≡ ps

-- what follows a symbol does not go on with it
rest_follows : (p : Symbol) (ss : List Spaced) → all_printable ss ≡ true → parted_behind p ss ≡ true → Follows p (text_of ss)
rest_follows p [] printable parted = record { word = λ e. refl; comparison = λ e. refl }
rest_follows p (s ∷ ss) printable parted =
    may_follow p s.spaced s.symbol (text_of ss) (both (is_printable s.symbol) (all_printable ss) printable).0
    (both (s.spaced || may_touch p s.symbol) (parted_behind s.symbol ss) parted).0

-- what follows a symbol is parted
rest_parted : (p : Symbol) (ss : List Spaced) → parted_behind p ss ≡ true → is_parted ss ≡ true
rest_parted p [] parted = refl
rest_parted p (s ∷ ss) parted = (both (s.spaced || may_touch p s.symbol) (parted_behind s.symbol ss) parted).1

-- one symbol before the others
symbol_before : (a : Bytes) (spaced : Bool) (p : Symbol) (r : Bytes) (ps : List Symbol) → is_printable p ≡ true → Follows p r
    → ReadsAs (((a ++ gap spaced) ++ symbol_text p) ++ r) (length ((a ++ gap spaced) ++ symbol_text p)) r ps
    → ReadsAs (((a ++ gap spaced) ++ symbol_text p) ++ r) (length a) ((gap spaced ++ symbol_text p) ++ r) (bare_symbol p ∷ ps)
symbol_before a spaced p r ps printable follows rest =
    let w = symbol_text p in
    let place = length (a ++ gap spaced) in
    let text = ((a ++ gap spaced) ++ w) ++ r in
    let t = token (kind_of p) place (length w) in
    let here : length a + length (gap spaced) ≡ place = sym (length-append a (gap spaced)) in
    let end : place + length w ≡ length ((a ++ gap spaced) ++ w) = sym (length-append (a ++ gap spaced) w) in
    record {
      tokens = t ∷ rest.tokens;
      are = ap (tokens_from (length a) 0) (append_assoc (gap spaced) w r)
          ∙ (gap_passed (length a) spaced (w ++ r) ∙ (ap (λ n. tokens_from n 0 (w ++ r)) here ∙ (symbol_first place p r printable follows
          ∙ (ap (λ n. put_before t (tokens_from n 0 r)) end ∙ ap (put_before t) rest.are))));
      same = ap₂ {C = List Symbol} (λ q qs. q ∷ qs) (same_symbol text p t.span printable (cut_out (a ++ gap spaced) w r)) rest.same;
    }

-- a text with its last part cut off differently
regroup : (a g w r : Bytes) → ((a ++ g) ++ w) ++ r ≡ a ++ ((g ++ w) ++ r)
regroup a g w r = append_assoc (a ++ g) w r ∙ (append_assoc a g (w ++ r) ∙ ap (λ t. a ++ t) (sym (append_assoc g w r)))

-- symbols behind any text
read_from : (a : Bytes) (ss : List Spaced) → all_printable ss ≡ true → is_parted ss ≡ true → ReadsAs (a ++ text_of ss) (length a) (text_of ss) (bare_symbols ss)
read_from a [] printable parted = record { tokens = []; are = no_byte (length a) 0; same = refl }
read_from a (s ∷ ss) printable parted =
    let each = both (is_printable s.symbol) (all_printable ss) printable in
    let rest = read_from ((a ++ gap s.spaced) ++ symbol_text s.symbol) ss each.1 (rest_parted s.symbol ss parted) in
    let whole = symbol_before a s.spaced s.symbol (text_of ss) (bare_symbols ss) each.0 (rest_follows s.symbol ss each.1 parted) rest in
    subst (λ text. ReadsAs text (length a) (text_of (s ∷ ss)) (bare_symbols (s ∷ ss))) (regroup a (gap s.spaced) (symbol_text s.symbol) (text_of ss)) whole

-- the law
pub written_out : WrittenSymbolsAreRead
written_out ss printable parted =
    let all = read_from [] ss printable parted in
    record { tokens = all.tokens; are = all.are; same = all.same }

-- a text that is written out of symbols has as many tokens
pub as_many : (ss : List Spaced) (read : HasSymbols (text_of ss) (bare_symbols ss)) → length read.tokens ≡ length ss
as_many ss read =
    let text = text_of ss in
    sym (length-map read.tokens (symbol text)) ∙ (sym (length-map (symbols text read.tokens) bare_symbol)
    ∙ (ap length read.same ∙ length-map ss (λ s. bare_symbol s.symbol)))
