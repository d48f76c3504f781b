-- In the tree of a text the limit and the n of each chord test are no numbers below 0.
use Rattle.std.proofs.Common.{◌≡◌, ℕ, zero, suc, ◌+◌, ◌-◌, ℤ, pos, Bool, true, false, List, [], ◌∷◌, ◌++◌, map, Option, Some, None, Ok, Err, refl, sym, subst, nat_lt, nat_le, if◌then◌else◌}
use Rattle.std.specs.Prelude.{int_le, not, Result, length, take_while}
use Rattle.std.specs.List.{AllByRecursion as Each, prefix_len}
use Rattle.text_rules.specs.Numbers.{is_digit, value_after}
use Rattle.std.proofs.lemmas.Int.{ints}
use Rattle.std.proofs.Common.{arith}
use Rattle.sql_token.specs.declared.limits.TheConstants.{INT_MOST}
use Rattle.text_rules.specs.Words.{begins_word, continues_word}
use Rattle.sql_token.specs.Bytes.{is_blank}
use Rattle.sql_token.specs.Faults.{TokenFault, TooMany}
use Rattle.sql_token.specs.Keywords.{keyword_of}
use Rattle.sql_token.specs.Signs.{long_sign, short_sign}
use Rattle.text_rules.specs.Readings.{joined, put_before}
use Rattle.sql_token.specs.Tokens.{word_kind, int_token, short_at, long_at, sign_at, token_at, Standing, Blank, Begins, Faulty, begins, standing_at, and_behind, tokens_from, if_flat, within_limits, and_then, tokens_of, too_deep}
use Rattle.sql_token.specs.declared.keyword.Keyword.{Keyword}
use Rattle.sql_token.specs.declared.keyword.Keyword.TheVariants as keyword
use Rattle.sql_token.specs.declared.sign.Sign.{Sign}
use Rattle.sql_token.specs.declared.sign.Sign.TheVariants as sign
use Rattle.sql_token.specs.declared.token.Span.{Span}
use Rattle.sql_token.specs.declared.token.Token.{Token}
use Rattle.sql_token.specs.declared.token.TokenKind.{TokenKind}
use Rattle.sql_token.specs.declared.token.TokenKind.TheVariants as kind
use Rattle.sql_tree.specs.declared.cond.Cmp.{Cmp}
use Rattle.sql_tree.specs.declared.cond.Cmp.TheVariants as cmp
use Rattle.sql_tree.specs.declared.cond.Cond.{Cond}
use Rattle.sql_tree.specs.declared.cond.IntList.{IntList}
use Rattle.sql_tree.specs.declared.cond.Pred.TheFolds.{fold-roll-Cond, fold-roll-Conj, fold-roll-Neg}
use Rattle.sql_tree.specs.declared.cond.Pred.TheOpen.{Pred-F}
use Rattle.sql_tree.specs.declared.expr.Expr.{Expr}
use Rattle.sql_tree.specs.declared.query.Query.{Query}
use Rattle.sql_rules.specs.Laws.{Writes}
use Rattle.sql_rules.specs.Symbols.{Symbol, Named, Number, Compares, of_keyword, of_sign, kind_symbol, symbols}
use Rattle.sql_rules.specs.Queries.{FreeWords, spell_items, spell_table, spell_second, spell_where, spell_group, spell_order, spell_limit, spell_query}
use Rattle.sql_rules.specs.Spelling.{Symbols, optional, led_by, bracketed}
use Rattle.sql_rules.specs.SpellingConds.{chord_op, at_pred, at_neg, at_conj, at_cond, spell_cond, spell_conj}
use Rattle.sql_rules.specs.SpellingConds.{spell_neg, spell_pred}
use Rattle.sql_rules.proofs.Law.{read_is_written}
use Rattle.value_rules.specs.Sound.{is_sound_limit}
use Rattle.bind_rules.specs.Laws.{is_count, HasCounts, WhatIsReadHasCounts}
use Rattle.bind_rules.specs.Conjuncts.{conjuncts}
use Rattle.bind_rules.specs.Tops.{Test, Area, Chord, Tests, found_in, within_pred, within, tests_in}
use Rattle.bind_rules.proofs.Found.{of_found}
use Rattle.bind_rules.proofs.Inside.{from_pred, from_cond, from_conj, from_neg, from_conjuncts}
use Rattle.bind_rules.proofs.Views.{View, views}
use Rattle.bind_rules.proofs.Each.{front, back, both, by_two, in_parts, of_parts, all_pass}
use Rattle.bind_rules.proofs.Folds.{fold_group, fold_compare, fold_between, fold_among, fold_null, fold_area, fold_chord}
use Rattle.bind_rules.proofs.Inductions.{cond_induction}

-- ---- tokens

-- an int of a text is no number below 0
abbrev IsCountKind : TokenKind → Type 0
IsCountKind (kind.Int z) = int_le (pos 0) z ≡ true
IsCountKind k = Unit {0}

abbrev IsCountToken : Token → Type 0
IsCountToken t = IsCountKind t.kind

abbrev IfToken : Result Token TokenFault → Type 0
IfToken (Ok t) = IsCountToken t
IfToken (Err fault) = Unit {0}

abbrev IfStanding : Standing → Type 0
IfStanding (Begins t) = IsCountToken t
IfStanding other = Unit {0}

either : {X : Type 0} (P : X → Type 0) (b : Bool) (x y : X) → P x → P y → P (if b then x else y)
either P true x y h k = h
either P false x y h k = k

word_counts : (k : Option Keyword) → IsCountKind (word_kind k)
word_counts None = tt
word_counts (Some k) = tt

no_less : (n : ℕ) → int_le (pos 0) (pos n) ≡ true
no_less n = grind (arith, ints)

int_counts : (place bytes : ℕ) (b : Bool) (n : ℕ) → IfToken (int_token place bytes (if b then Some (pos n) else None))
int_counts place bytes true n = no_less n
int_counts place bytes false n = tt

short_counts : (place : ℕ) (s : Option Sign) → IfToken (short_at place s)
short_counts place None = tt
short_counts place (Some s) = tt

long_counts : (place : ℕ) (s short : Option Sign) → IfToken (long_at place s short)
long_counts place None short = short_counts place short
long_counts place (Some s) short = tt

sign_counts : (place : ℕ) (text : List ℕ) → IfToken (sign_at place text)
sign_counts place [] = tt
sign_counts place (a ∷ []) = short_counts place (short_sign a)
sign_counts place (a ∷ (b ∷ bs)) = long_counts place (long_sign a b) (short_sign a)

token_counts : (place : ℕ) (b : ℕ) (bs : List ℕ) → IfToken (token_at place (b ∷ bs))
token_counts place b bs =
    either IfToken (begins_word b) _ _ (word_counts (keyword_of (take_while continues_word (b ∷ bs))))
    (either IfToken (is_digit b) _ _ (int_counts place (prefix_len is_digit (b ∷ bs)) (nat_le (value_after 0 (take_while is_digit (b ∷ bs))) INT_MOST) (value_after 0 (take_while is_digit (b ∷ bs))))
    (sign_counts place (b ∷ bs)))

begins_counts : (r : Result Token TokenFault) → IfToken r → IfStanding (begins r)
begins_counts (Ok t) h = h
begins_counts (Err fault) h = tt

standing_counts : (place : ℕ) (text : List ℕ) → IfStanding (standing_at place text)
standing_counts place [] = tt
standing_counts place (b ∷ bs) = either IfStanding (is_blank b) Blank (begins (token_at place (b ∷ bs))) tt (begins_counts (token_at place (b ∷ bs)) (token_counts place b bs))

abbrev IfTokens : Result (List Token) TokenFault → Type 0
IfTokens (Ok ts) = Each IsCountToken ts
IfTokens (Err fault) = Unit {0}

before_counts : (t : Token) (r : Result (List Token) TokenFault) → IsCountToken t → IfTokens r → IfTokens (put_before t r)
before_counts t (Ok ts) h k = (h, k)
before_counts t (Err fault) h k = tt

behind_counts : (st : Standing) (behind : ℕ → Result (List Token) TokenFault) → IfStanding st → ((n : ℕ) → IfTokens (behind n)) → IfTokens (and_behind st behind)
behind_counts Blank behind h k = k 0
behind_counts (Begins t) behind h k = before_counts t (behind (t.span.to - t.span.from - 1)) h (k (t.span.to - t.span.from - 1))
behind_counts (Faulty fault) behind h k = tt

from_counts : (text : List ℕ) (place inside : ℕ) → IfTokens (tokens_from place inside text)
unfolding tokens_from
from_counts [] place inside = tt
from_counts (b ∷ bs) place (suc inside) = from_counts bs (place + 1) inside
from_counts (b ∷ bs) place zero = behind_counts (standing_at place (b ∷ bs)) (λ inside. tokens_from (place + 1) inside bs) (standing_counts place (b ∷ bs)) (λ n. from_counts bs (place + 1) n)

flat_counts : (ts : List Token) (o : Option ℕ) → Each IsCountToken ts → IfTokens (if_flat ts o)
flat_counts ts None h = h
flat_counts ts (Some place) h = tt

within_counts : (r : Result (List Token) TokenFault) → IfTokens r → IfTokens (and_then r within_limits)
within_counts (Ok ts) h = either IfTokens (nat_lt 2048 (length ts)) (Err TooMany) (if_flat ts (too_deep 0 ts)) tt (flat_counts ts (too_deep 0 ts) h)
within_counts (Err fault) h = tt

tokens_count : (text : List ℕ) (ts : List Token) → tokens_of text ≡ Ok ts → Each IsCountToken ts
tokens_count text ts e = subst IfTokens e (within_counts (tokens_from 0 0 text) (from_counts text 0 0))

-- ---- symbols

abbrev IsCountSymbol : Symbol → Type 0
IsCountSymbol (Number n) = int_le (pos 0) n ≡ true
IsCountSymbol p = Unit {0}

kind_counts : (text : List ℕ) (k : TokenKind) (span : Span) → IsCountKind k → IsCountSymbol (kind_symbol text k span)
kind_counts text (kind.Keyword keyword.Select) span h = tt
kind_counts text (kind.Keyword keyword.From) span h = tt
kind_counts text (kind.Keyword keyword.Where) span h = tt
kind_counts text (kind.Keyword keyword.Group) span h = tt
kind_counts text (kind.Keyword keyword.By) span h = tt
kind_counts text (kind.Keyword keyword.Order) span h = tt
kind_counts text (kind.Keyword keyword.Asc) span h = tt
kind_counts text (kind.Keyword keyword.Desc) span h = tt
kind_counts text (kind.Keyword keyword.Limit) span h = tt
kind_counts text (kind.Keyword keyword.As) span h = tt
kind_counts text (kind.Keyword keyword.And) span h = tt
kind_counts text (kind.Keyword keyword.Or) span h = tt
kind_counts text (kind.Keyword keyword.Not) span h = tt
kind_counts text (kind.Keyword keyword.Between) span h = tt
kind_counts text (kind.Keyword keyword.In) span h = tt
kind_counts text (kind.Keyword keyword.Is) span h = tt
kind_counts text (kind.Keyword keyword.Null) span h = tt
kind_counts text (kind.Keyword keyword.Count) span h = tt
kind_counts text (kind.Keyword keyword.Sum) span h = tt
kind_counts text (kind.Keyword keyword.Min) span h = tt
kind_counts text (kind.Keyword keyword.Max) span h = tt
kind_counts text (kind.Keyword keyword.Avg) span h = tt
kind_counts text (kind.Keyword keyword.Chord2) span h = tt
kind_counts text (kind.Keyword keyword.AreaBand) span h = tt
kind_counts text (kind.Keyword keyword.AreaCap) span h = tt
kind_counts text (kind.Keyword keyword.AreaBox) span h = tt
kind_counts text kind.Name span h = tt
kind_counts text (kind.Int z) span h = h
kind_counts text (kind.Sign sign.AtMost) span h = tt
kind_counts text (kind.Sign sign.AtLeast) span h = tt
kind_counts text (kind.Sign sign.Differs) span h = tt
kind_counts text (kind.Sign sign.Less) span h = tt
kind_counts text (kind.Sign sign.More) span h = tt
kind_counts text (kind.Sign sign.Equal) span h = tt
kind_counts text (kind.Sign sign.Comma) span h = tt
kind_counts text (kind.Sign sign.Open) span h = tt
kind_counts text (kind.Sign sign.Close) span h = tt
kind_counts text (kind.Sign sign.Star) span h = tt
kind_counts text (kind.Sign sign.Plus) span h = tt
kind_counts text (kind.Sign sign.Minus) span h = tt
kind_counts text (kind.Sign sign.Dot) span h = tt
kind_counts text (kind.Sign sign.Semicolon) span h = tt

symbols_count : (text : List ℕ) (ts : List Token) → Each IsCountToken ts → Each IsCountSymbol (symbols text ts)
symbols_count text [] h = tt
symbols_count text (t ∷ ts) h = (kind_counts text t.kind t.span h.0, symbols_count text ts h.1)

-- ---- chord tests

abbrev IsCountTest : Test → Type 0
IsCountTest t = is_count t ≡ true

-- where the numbers that spell a part are no numbers below 0, its tests count
abbrev Claim : Symbols → Tests → Type 0
Claim ps ts = Each IsCountSymbol ps → Each IsCountTest ts

claim_as : (ps ps' : Symbols) (ts ts' : Tests) → ps ≡ ps' → ts ≡ ts' → Claim ps' ts' → Claim ps ts
claim_as ps ps' ts ts' p q h = subst (λ x. Claim x ts) (sym p) (subst (λ x. Claim ps' x) (sym q) h)

compare_counts : (left right : Expr) (op : Cmp) → Each IsCountTest (within_pred (Pred-F.Compare left op right))
compare_counts left right cmp.Equal = (refl, tt)
compare_counts left right cmp.Differs = tt
compare_counts left right cmp.Less = tt
compare_counts left right cmp.AtMost = tt
compare_counts left right cmp.More = tt
compare_counts left right cmp.AtLeast = tt

among_counts : (without : Bool) (value : Expr) (list : IntList) → Each IsCountTest (within_pred (Pred-F.Among without value list))
among_counts true value list = tt
among_counts false value list = (refl, tt)

led_counts : {X : Type 0} (p : Symbol) (spell : X → Symbols) (tests : X → Tests) (xs : List X) → Each (λ x. Claim (spell x) (tests x)) xs → Each IsCountSymbol (led_by p (map spell xs)) → Each IsCountTest (joined (map tests xs))
led_counts p spell tests [] h k = tt
led_counts p spell tests (x ∷ xs) h k =
    both IsCountTest (tests x) (joined (map tests xs)) (h.0 (front IsCountSymbol (spell x) (led_by p (map spell xs)) k.1))
    (led_counts p spell tests xs h.1 (back IsCountSymbol (spell x) (led_by p (map spell xs)) k.1))

layer_counts : {X : Type 0} (p : Symbol) (ps : Symbols) (ts : Tests) (spell : X → Symbols) (tests : X → Tests) (xs : List X) → Claim ps ts → Each (λ x. Claim (spell x) (tests x)) xs → Claim (ps ++ led_by p (map spell xs)) (ts ++ joined (map tests xs))
layer_counts p ps ts spell tests xs h k m =
    both IsCountTest ts (joined (map tests xs)) (h (front IsCountSymbol ps (led_by p (map spell xs)) m))
    (led_counts p spell tests xs k (back IsCountSymbol ps (led_by p (map spell xs)) m))

cond_counts : (c : Cond) → Each IsCountSymbol (spell_cond c) → Each IsCountTest (from_cond within_pred c)
cond_counts = cond_induction
    (λ p. Claim (spell_pred p) (from_pred within_pred p))
    (λ c. Claim (spell_cond c) (from_cond within_pred c))
    (λ c. Claim (spell_conj c) (from_conj within_pred c))
    (λ n. Claim (spell_neg n) (from_neg within_pred n))
    (λ c h. claim_as _ (bracketed (spell_cond c)) _ (from_cond within_pred c) (fold_group at_pred at_cond at_conj at_neg c) (fold_group within_pred (λ c. c.first ++ joined c.rest) (λ c. c.first ++ joined c.rest) (λ n. n.pred) c) (λ m. h (front IsCountSymbol (spell_cond c) (of_sign sign.Close ∷ []) m.1)))
    (λ left op right. claim_as _ (at_pred (Pred-F.Compare left op right)) _ (within_pred (Pred-F.Compare left op right)) (fold_compare at_pred at_cond at_conj at_neg left op right) (fold_compare within_pred (λ c. c.first ++ joined c.rest) (λ c. c.first ++ joined c.rest) (λ n. n.pred) left op right) (λ m. compare_counts left right op))
    (λ without value low high. claim_as _ (at_pred (Pred-F.Between without value low high)) _ [] (fold_between at_pred at_cond at_conj at_neg without value low high) (fold_between within_pred (λ c. c.first ++ joined c.rest) (λ c. c.first ++ joined c.rest) (λ n. n.pred) without value low high) (λ m. tt))
    (λ without value list. claim_as _ (at_pred (Pred-F.Among without value list)) _ (within_pred (Pred-F.Among without value list)) (fold_among at_pred at_cond at_conj at_neg without value list) (fold_among within_pred (λ c. c.first ++ joined c.rest) (λ c. c.first ++ joined c.rest) (λ n. n.pred) without value list) (λ m. among_counts without value list))
    (λ without value. claim_as _ (at_pred (Pred-F.IsNull without value)) _ [] (fold_null at_pred at_cond at_conj at_neg without value) (fold_null within_pred (λ c. c.first ++ joined c.rest) (λ c. c.first ++ joined c.rest) (λ n. n.pred) without value) (λ m. tt))
    (λ kind span args. claim_as _ (at_pred (Pred-F.Area kind span args)) _ (Area kind span args ∷ []) (fold_area at_pred at_cond at_conj at_neg kind span args) (fold_area within_pred (λ c. c.first ++ joined c.rest) (λ c. c.first ++ joined c.rest) (λ n. n.pred) kind span args) (λ m. (refl, tt)))
    (λ left right strict n. claim_as _ (at_pred (Pred-F.Chord left right strict n)) _ (Chord left right strict n ∷ []) (fold_chord at_pred at_cond at_conj at_neg left right strict n) (fold_chord within_pred (λ c. c.first ++ joined c.rest) (λ c. c.first ++ joined c.rest) (λ n. n.pred) left right strict n) (λ m. ((back IsCountSymbol (bracketed (Named left ∷ (of_sign sign.Comma ∷ (Named right ∷ [])))) (Compares (chord_op strict) ∷ (Number n ∷ [])) m.1).1.0, tt)))
    (λ x h. claim_as _ (optional x.not (of_keyword keyword.Not) ++ spell_pred x.pred) _ (from_pred within_pred x.pred) (fold-roll-Neg Symbols Symbols Symbols Symbols at_pred at_cond at_conj at_neg x) (fold-roll-Neg Tests Tests Tests Tests within_pred (λ c. c.first ++ joined c.rest) (λ c. c.first ++ joined c.rest) (λ n. n.pred) x) (λ m. (h (back IsCountSymbol (optional x.not (of_keyword keyword.Not)) (spell_pred x.pred) m))))
    (λ x h k. claim_as _ (spell_neg x.first ++ led_by (of_keyword keyword.And) (map spell_neg x.rest)) _ (from_neg within_pred x.first ++ joined (map (from_neg within_pred) x.rest)) (fold-roll-Conj Symbols Symbols Symbols Symbols at_pred at_cond at_conj at_neg x) (fold-roll-Conj Tests Tests Tests Tests within_pred (λ c. c.first ++ joined c.rest) (λ c. c.first ++ joined c.rest) (λ n. n.pred) x) (layer_counts (of_keyword keyword.And) (spell_neg x.first) (from_neg within_pred x.first) spell_neg (from_neg within_pred) x.rest h k))
    (λ x h k. claim_as _ (spell_conj x.first ++ led_by (of_keyword keyword.Or) (map spell_conj x.rest)) _ (from_conj within_pred x.first ++ joined (map (from_conj within_pred) x.rest)) (fold-roll-Cond Symbols Symbols Symbols Symbols at_pred at_cond at_conj at_neg x) (fold-roll-Cond Tests Tests Tests Tests within_pred (λ c. c.first ++ joined c.rest) (λ c. c.first ++ joined c.rest) (λ n. n.pred) x) (layer_counts (of_keyword keyword.Or) (spell_conj x.first) (from_conj within_pred x.first) spell_conj (from_conj within_pred) x.rest h k))

-- ---- the law

found_counts : (c : Cond) → Each IsCountTest (from_cond within_pred c) → Each (λ f. IsCountTest f.test) (tests_in (Some c))
unfolding within
found_counts c h =
    of_parts (λ f. IsCountTest f.test) found_in (conjuncts c)
    (by_two View (λ n. Each IsCountTest (from_neg within_pred n)) (λ n. Each (λ f. IsCountTest f.test) (found_in n)) (of_found IsCountTest) (conjuncts c) (views c)
    (in_parts IsCountTest (from_neg within_pred) (conjuncts c) (subst (Each IsCountTest) (from_conjuncts within_pred (λ ts. refl) c) h)))

where_counts : (c : Option Cond) → Each IsCountSymbol (spell_where c) → Each (λ f. IsCountTest f.test) (tests_in c)
where_counts None h = tt
where_counts (Some c) h = found_counts c (cond_counts c h.1)

limit_counts : (n : Option ℤ) → Each IsCountSymbol (spell_limit n) → is_sound_limit n ≡ true
limit_counts None h = refl
limit_counts (Some n) h = h.1.0

query_counts : (w : FreeWords) (q : Query) → Each IsCountSymbol (spell_query w q) → HasCounts q
unfolding spell_query
query_counts w q h =
    let tables = (back IsCountSymbol (spell_items q.items) _ h.1).1 in
    let second = back IsCountSymbol (spell_table w.first_as q.first) _ tables in
    let tests = back IsCountSymbol (spell_second w.second_as q.second) _ second in
    let group = back IsCountSymbol (spell_where q.cond) _ tests in
    let order = back IsCountSymbol (spell_group q.group) _ group in
    let limit = back IsCountSymbol (spell_order w.asc q.order) _ order in
    record {
      limit = limit_counts q.limit (front IsCountSymbol (spell_limit q.limit) _ limit);
      chords = all_pass (λ f. is_count f.test) (tests_in q.cond) (where_counts q.cond (front IsCountSymbol (spell_where q.cond) _ tests));
    }

written_counts : (text : List ℕ) (q : Query) → Writes text q → HasCounts q
written_counts text q w = query_counts w.spell.words q (subst (Each IsCountSymbol) w.spell.spelled (symbols_count text w.tokens (tokens_count text w.tokens w.are)))

pub what_is_read_has_counts : WhatIsReadHasCounts
what_is_read_has_counts text q e = written_counts text q (read_is_written text q e)
