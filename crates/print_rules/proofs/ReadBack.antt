-- A printed query reads back.
use Rattle.std.proofs.Common.{◌≡◌, refl, sym, ap, ◌∙◌, subst, ℕ, ◌≤◌, Bool, true, false, cond, nat_lt, List, [], ◌∷◌, map, length, Option, None, Some, Result, Ok, Err, arith}
use Rattle.std.proofs.lemmas.List.{length-map}
use Rattle.sql_token.specs.declared.keyword.Keyword.TheVariants as keyword
use Rattle.sql_token.proofs.Stand.{tokens_stand}
use Rattle.sql_token.specs.declared.token.Token.{Token}
use Rattle.sql_token.specs.Faults.{TokenFault, TooMany}
use Rattle.sql_token.specs.Tokens.{tokens_of, tokens_from, too_deep, within_limits, if_flat, and_then}
use Rattle.sql_tree.specs.Bare.{bare, bare_col}
use Rattle.sql_tree.specs.declared.query.Query.{Query}
use Rattle.sql_tree.specs.declared.query.Selection.{Selection}
use Rattle.sql_tree.specs.declared.query.Selection.TheVariants as selection
use Rattle.sql_rules.proofs.FoundQuery.{StarAt}
use Rattle.sql_rules.proofs.Law.{read_is_written, written_is_read}
use Rattle.sql_rules.proofs.Within.{within, within_tokens, tokens_within}
use Rattle.sql_rules.specs.Symbols.{Symbol, of_keyword, symbol, symbols}
use Rattle.sql_rules.specs.Printed.{printed}
use Rattle.sql_rules.specs.Queries.{spell_query, second_span, StarStands}
use Rattle.sql_rules.specs.Spelling.{Symbols}
use Rattle.sql_rules.specs.Trees.{tree_of}
use Rattle.print_rules.specs.Laws.{all_printable, bare_symbols, HasSymbols}
use Rattle.print_rules.specs.ReadBack.{APrintedQueryReadsBack}
use Rattle.print_rules.specs.Spaced.{bare_symbol, is_parted, text_of}
use Rattle.print_rules.specs.Gaps.{plainly, spaced_behind, spaced_query}
use Rattle.print_rules.proofs.Ends.{parted}
use Rattle.print_rules.proofs.Limits.{Printable, thin_length, thin_within, thin_printable, within_bare, thin_bare, printable_tokens}
use Rattle.print_rules.proofs.Phrases.{Thin}
use Rattle.print_rules.proofs.QueryLifts.{lift_query}
use Rattle.print_rules.proofs.QueryTexts.{query_thin, query_text}
use Rattle.print_rules.proofs.Written.{written_out}

-- ---- the limits

-- What tokens within the limits are.
record Limited (text : List ℕ) (ts : List Token) : Type 0 where
  are : tokens_from 0 0 text ≡ Ok ts
  few : length ts ≤ 2048
  flat : too_deep 0 ts ≡ None

flat_by : (text : List ℕ) (us ts : List Token) (deep : Option ℕ) → tokens_from 0 0 text ≡ Ok us → length us ≤ 2048 → too_deep 0 us ≡ deep → if_flat us deep ≡ Ok ts → Limited text ts
flat_by text us ts (Some place) is few deep e = absurd (cc e)
flat_by text us ts None is few deep e = let same : us ≡ ts = cc e in subst (Limited text) same (record { are = is; few = few; flat = deep })

few_by : (text : List ℕ) (us ts : List Token) (many : Bool) → tokens_from 0 0 text ≡ Ok us → nat_lt 2048 (length us) ≡ many → cond many (Err TooMany) (if_flat us (too_deep 0 us)) ≡ Ok ts → Limited text ts
few_by text us ts true is many e = absurd (cc e)
few_by text us ts false is many e = flat_by text us ts (too_deep 0 us) is (grind (arith, many)) refl e

limited_by : (text : List ℕ) (r : Result (List Token) TokenFault) (ts : List Token) → tokens_from 0 0 text ≡ r → and_then r within_limits ≡ Ok ts → Limited text ts
limited_by text (Err fault) ts is e = absurd (cc e)
limited_by text (Ok us) ts is e = few_by text us ts (nat_lt 2048 (length us)) is refl e

-- what the limits let through is within them, and the other way round
limited : (text : List ℕ) (ts : List Token) → tokens_of text ≡ Ok ts → Limited text ts
limited text ts e = limited_by text (tokens_from 0 0 text) ts refl e

not_many : (n : ℕ) → n ≤ 2048 → nat_lt 2048 n ≡ false
not_many n le = grind (arith, le)

within_both : (text : List ℕ) (ts : List Token) → Limited text ts → tokens_of text ≡ Ok ts
within_both text ts l = rw (l.are, not_many (length ts) l.few, l.flat) refl

-- ---- the symbols that are printed

printable_behind : (p : Symbol) (qs : Symbols) → Printable qs → all_printable (spaced_behind p qs) ≡ true
printable_behind p [] each = refl
printable_behind p (q ∷ qs) each = rw (each.0, printable_behind q qs each.1) refl

bare_behind : (p : Symbol) (qs : Symbols) → bare_symbols (spaced_behind p qs) ≡ map bare_symbol qs
bare_behind p [] = refl
bare_behind p (q ∷ qs) = ap (λ t. bare_symbol q ∷ t) (bare_behind q qs)

-- the symbols of a printed query are printable, and parted
printable_query : (q : Query) → Printable (spell_query plainly (bare q)) → all_printable (spaced_query q) ≡ true
unfolding spaced_query spell_query
printable_query q each = printable_behind (of_keyword keyword.Select) _ each.1

parted_query : (q : Query) → is_parted (spaced_query q) ≡ true
unfolding spaced_query spell_query
parted_query q = parted (of_keyword keyword.Select) _

bare_query : (q : Query) → bare_symbols (spaced_query q) ≡ map bare_symbol (spell_query plainly (bare q))
unfolding spaced_query spell_query
bare_query q = ap (λ t. of_keyword keyword.Select ∷ t) (bare_behind (of_keyword keyword.Select) _)

-- ---- reading again

stood : (ts : List Token) (x : Selection) → StarAt (second_span ts) x → StarStands ts x
stood ts (selection.Star span) h = h
stood ts (selection.List l) h = tt

as_many : {A B : Type 0} (f : A → B) (xs ys : List A) → map f xs ≡ map f ys → length xs ≡ length ys
as_many f xs ys e = sym (length-map xs f) ∙ ap length e ∙ length-map ys f

-- the tokens of a printed query are within the limits
limits_kept : (text text' : List ℕ) (ts us : List Token) (ps : Symbols) → Limited text ts → Thin (symbols text ts) ps → map bare_symbol (symbols text' us) ≡ ps → tokens_from 0 0 text' ≡ Ok us → Limited text' us
limits_kept text text' ts us ps l thin same are =
    let shallow : within 32 0 (map bare_symbol (symbols text' us)) ≡ true = rw same (thin_within 32 0 (symbols text ts) ps thin (within_tokens text 0 ts l.flat)) in
    let fewer = thin_length (symbols text ts) ps thin in
    let size : length us ≡ length ps = sym (length-map us (symbol text')) ∙ sym (length-map (symbols text' us) bare_symbol) ∙ ap length same in
    record {
      are = are;
      few = omega (arith, fewer, size, length-map ts (symbol text), l.few);
      flat = tokens_within text' 0 us (sym (within_bare 32 0 (symbols text' us)) ∙ shallow);
    }

-- a text that writes the query up to places
again : (text text' : List ℕ) (q : Query) (us : List Token) → length q.group ≤ 4 → tokens_of text' ≡ Ok us → map bare_symbol (symbols text' us) ≡ spell_query plainly (bare q) → (r : Query) × (tree_of text' ≡ Ok r) × (bare r ≡ bare q)
again text text' q us few are same =
    let r = lift_query (second_span us) q (symbols text' us) same in
    let columns = as_many bare_col r.value.group q.group r.columns in (
      r.value,
      written_is_read text' r.value (record {
        tokens = us;
        are = are;
        spell = record { words = plainly; spelled = r.spelled; columns = omega (arith, columns, few); star = stood us r.value.items r.stands };
      }),
      r.same,
    )

-- the law
pub read_back : APrintedQueryReadsBack
read_back text q e =
    let w = read_is_written text q e in
    let thin : Thin (symbols text w.tokens) (spell_query plainly (bare q)) = subst (λ ps. Thin ps (spell_query plainly (bare q))) (sym w.spell.spelled) (query_thin w.spell.words q) in
    let l = limited text w.tokens w.are in
    let each = thin_printable (symbols text w.tokens) (spell_query plainly (bare q)) thin (printable_tokens text w.tokens l.are (tokens_stand text w.tokens w.are)) in
    let has : HasSymbols (printed q) (spell_query plainly (bare q)) =
    subst (λ t. HasSymbols t (spell_query plainly (bare q))) (query_text q)
    (subst (λ ps. HasSymbols (text_of (spaced_query q)) ps) (bare_query q ∙ thin_bare (symbols text w.tokens) (spell_query plainly (bare q)) thin)
    (written_out (spaced_query q) (printable_query q each) (parted_query q))) in
    let l' = limits_kept text (printed q) w.tokens has.tokens (spell_query plainly (bare q)) l thin has.same has.are in
    again text (printed q) q has.tokens w.spell.columns (within_both (printed q) has.tokens l') has.same
