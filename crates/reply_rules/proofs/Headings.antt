-- The headings of a query that is read: they have no line feed, and do not begin with `+`.
use Rattle.std.proofs.Common.{◌≡◌, refl, ap, subst, ℕ, Bool, true, false, List, [], ◌∷◌, ◌++◌, map, Option, None, Some, is_none, codes, Result, Ok, Err, cond, nat_lt, length}
use Rattle.std.specs.List.{flat_map}
use Rattle.std.specs.Prelude.{if◌then◌else◌}
use Rattle.sql_token.specs.Faults.{TokenFault, TooMany}
use Rattle.sql_token.specs.Keywords.{keyword_of}
use Rattle.sql_token.specs.Laws.{is_word}
use Rattle.sql_token.specs.Tokens.{and_then, if_flat, tokens_from, too_deep, within_limits}
use Rattle.sql_token.specs.declared.keyword.Keyword.TheVariants as keyword
use Rattle.sql_token.specs.declared.sign.Sign.TheVariants as sign
use Rattle.sql_token.specs.declared.token.Token.{Token}
use Rattle.sql_token.proofs.Fronts.{word_all}
use Rattle.sql_token.proofs.Stand.{tokens_stand}
use Rattle.sql_tree.specs.declared.expr.Atom.{Atom}
use Rattle.sql_tree.specs.declared.expr.Expr.{Expr}
use Rattle.sql_tree.specs.declared.expr.Factor.{Factor}
use Rattle.sql_tree.specs.declared.expr.Prod.{Prod}
use Rattle.sql_tree.specs.declared.expr.Signed.{Signed}
use Rattle.sql_tree.specs.declared.name.Name.{Name}
use Rattle.sql_tree.specs.declared.query.Item.{Item}
use Rattle.sql_tree.specs.declared.query.ItemKind.{ItemKind}
use Rattle.sql_tree.specs.declared.query.ItemKind.TheVariants as what
use Rattle.sql_tree.specs.declared.query.Query.{Query}
use Rattle.sql_tree.specs.declared.query.TableRef.{TableRef}
use Rattle.sql_rules.proofs.Law.{read_is_written}
use Rattle.sql_rules.proofs.Opened.{spell_col_atom, spell_bracket_atom, spell_factor_roll, starred}
use Rattle.sql_rules.proofs.Opened.{spell_prod_roll, spell_signed_roll, spell_expr_roll}
use Rattle.sql_rules.proofs.PrintOpened.{print_int_atom, print_col_atom, print_bracket_atom, print_factor_roll, print_signed_roll}
use Rattle.sql_rules.specs.Printed.{heading, heading_by, print_kind}
use Rattle.sql_rules.specs.PrintedExprs.{Bytes, in_brackets, print_atom, print_expr, print_factor, print_prod, print_qualifier, print_signed, text_if}
use Rattle.sql_rules.specs.Queries.{FreeWords, spell_alias, spell_as, spell_item, spell_items, spell_kind, spell_query, spell_second, spell_table}
use Rattle.sql_rules.specs.Spelling.{Symbols, bracketed, led_by, optional, spell_atom, spell_expr, spell_factor, spell_prod, spell_qualifier, spell_signed}
use Rattle.sql_rules.specs.Symbols.{Adds, Named, of_keyword, of_sign}
use Rattle.sql_rules.specs.Trees.{tree_of}
use Rattle.bind_rules.specs.Columns.{qualifier, qualifier_by}
use Rattle.print_rules.specs.Spaced.{is_printable}
use Rattle.print_rules.proofs.Bared.{text_prod_roll, text_expr_roll}
use Rattle.print_rules.proofs.Limits.{Printable, printable_tokens}
use Rattle.print_rules.proofs.Walks.{Each, ExprSteps, every_expr}
use Rattle.transcript_rules.proofs.Blocks.{split_and}
use Rattle.reply_rules.proofs.Bytes.{Solid, flat, flat_both, flat_each, high, high_solid, signed_solid, solid_then}
use Rattle.reply_rules.proofs.Named.{word_high}

-- ---- the symbols of a query that is read

-- the symbols of both parts
pub both_printable : (a b : Symbols) → Printable (a ++ b) → Printable a × Printable b
both_printable [] b each = (tt, each)
both_printable (p ∷ ps) b each = let more = both_printable ps b each.1 in ((each.0, more.0), more.1)

flat_by : (us ts : List Token) (deep : Option ℕ) → if_flat us deep ≡ Ok ts → us ≡ ts
flat_by us ts (Some place) e = absurd (cc e)
flat_by us ts None e = cc e

few_by : (us ts : List Token) (many : Bool) (deep : Option ℕ) → cond many (Err TooMany) (if_flat us deep) ≡ Ok ts → us ≡ ts
few_by us ts true deep e = absurd (cc e)
few_by us ts false deep e = flat_by us ts deep e

-- tokens within the limits are those of the text
all_tokens : (r : Result (List Token) TokenFault) (ts : List Token) → and_then r within_limits ≡ Ok ts → r ≡ Ok ts
all_tokens (Err fault) ts e = absurd (cc e)
all_tokens (Ok us) ts e = ap {B = Result (List Token) TokenFault} (λ x. Ok x) (few_by us ts (nat_lt 2048 (length us)) (too_deep 0 us) e)

-- The symbols of the select list and of the tables are printable.
pub record IsReadWell (q : Query) : Type 0 where
  pub words : FreeWords
  pub items : Printable (spell_items q.items)
  pub first : Printable (spell_table words.first_as q.first)
  pub second : Printable (spell_second words.second_as q.second)

pub read_well : (text : List ℕ) (q : Query) → tree_of text ≡ Ok q → IsReadWell q
unfolding spell_query
read_well text q e =
    let w = read_is_written text q e in
    let all = printable_tokens text w.tokens (all_tokens (tokens_from 0 0 text) w.tokens w.are) (tokens_stand text w.tokens w.are) in
    let each : Printable (spell_query w.spell.words q) = subst Printable w.spell.spelled all in
    let behind = both_printable (spell_items q.items) _ each.1 in
    let first = both_printable (spell_table w.spell.words.first_as q.first) _ behind.1.1 in
    let second = both_printable (spell_second w.spell.words.second_as q.second) _ first.1 in
    record { words = w.spell.words; items = behind.0; first = first.0; second = second.0 }

-- ---- names

named_high : (n : Name) → is_printable (Named n) ≡ true → high n.text ≡ true
named_high n printable = word_bytes n.text (split_and (is_word n.text) (is_none (keyword_of n.text)) printable).0
  where
    word_bytes : (t : List ℕ) → is_word t ≡ true → high t ≡ true
    word_bytes [] word = refl
    word_bytes (b ∷ bs) word = word_high (b ∷ bs) (word_all b bs word).1

named_solid : (n : Name) → is_printable (Named n) ≡ true → Solid n.text
named_solid n printable = word_solid n.text (split_and (is_word n.text) (is_none (keyword_of n.text)) printable).0
  where
    word_solid : (t : List ℕ) → is_word t ≡ true → Solid t
    word_solid [] word = absurd (cc word)
    word_solid (b ∷ bs) word = high_solid b bs (word_high (b ∷ bs) (word_all b bs word).1)

col_solid : (t : Option Name) (n : Name) → Printable (spell_qualifier t ++ (Named n ∷ [])) → Solid (print_qualifier t ++ n.text)
col_solid None n each = named_solid n each.0
col_solid (Some t) n each =
    solid_then (t.text ++ codes ".") n.text (solid_then t.text (codes ".") (named_solid t each.0) refl) (named_solid n each.1.1.0).flat'

-- ---- expressions

abbrev AtomSolid : Atom → Type 0
AtomSolid a = Printable (spell_atom a) → Solid (print_atom a)

abbrev FactorSolid : Factor → Type 0
FactorSolid f = Printable (spell_factor f) → Solid (print_factor f)

abbrev ProdSolid : Prod → Type 0
ProdSolid p = Printable (spell_prod p) → Solid (print_prod p)

abbrev SignedFlat : Signed → Type 0
SignedFlat s = Printable (spell_signed s) → flat (print_signed s) ≡ true

abbrev ExprSolid : Expr → Type 0
ExprSolid e = Printable (spell_expr e) → Solid (print_expr e)

brackets_solid : (t : Bytes) → flat t ≡ true → Solid (in_brackets t)
brackets_solid t h = record { flat' = flat_both (codes "(" ++ t) (codes ")") (flat_both (codes "(") t refl h) refl; first = refl }

-- what is between brackets
inner : (part : Symbols) → Printable (bracketed part) → Printable part
inner part each = (both_printable part (of_sign sign.Close ∷ []) each.1).0

minus_solid : (m : Bool) (a : Symbols) (t : Bytes) → (Printable a → Solid t) → Printable (optional m (Adds true) ++ a) → Solid (text_if m (codes "-") ++ t)
minus_solid true a t h each = solid_then (codes "-") t (record { flat' = refl; first = refl }) (h each.1).flat'
minus_solid false a t h each = h each

factors_flat : (xs : List Factor) → Each FactorSolid xs → Printable (flat_map starred xs) → Each (λ f. flat (codes "*" ++ print_factor f) ≡ true) xs
factors_flat [] each printable = tt
factors_flat (f ∷ fs) each printable =
    let parts = both_printable (spell_factor f) (flat_map starred fs) printable.1 in
    (flat_both (codes "*") (print_factor f) refl (each.0 parts.0).flat', factors_flat fs each.1 parts.1)

prods_flat : (xs : List Signed) → Each SignedFlat xs → Printable (flat_map spell_signed xs) → Each (λ s. flat (print_signed s) ≡ true) xs
prods_flat [] each printable = tt
prods_flat (s ∷ ss) each printable =
    let parts = both_printable (spell_signed s) (flat_map spell_signed ss) printable in
    (each.0 parts.0, prods_flat ss each.1 parts.1)

sign_flat : (m : Bool) → flat (if m then codes "-" else codes "+") ≡ true
sign_flat true = refl
sign_flat false = refl

expr_steps : ExprSteps AtomSolid FactorSolid ProdSolid SignedFlat ExprSolid
expr_steps = record {
  int = λ n each. rw (print_int_atom n) (signed_solid n);
  col = λ c each. rw (print_col_atom c) (col_solid c.table c.name (subst Printable (spell_col_atom c) each));
  bracket = λ e h each.
      let part = inner (spell_expr e) (subst Printable (spell_bracket_atom e) each) in
      rw (print_bracket_atom e) (brackets_solid (print_expr e) (h part).flat');
  factor = λ x h each. rw (print_factor_roll x) (minus_solid x.minus (spell_atom x.atom) (print_atom x.atom) h (subst Printable (spell_factor_roll x) each));
  prod = λ x h more each.
      let parts = both_printable (spell_factor x.first) (flat_map starred x.rest) (subst Printable (spell_prod_roll x) each) in
      rw (text_prod_roll x) (solid_then (print_factor x.first) (flat_map (λ f. codes "*" ++ print_factor f) x.rest) (h parts.0)
      (flat_each (λ f. codes "*" ++ print_factor f) x.rest (factors_flat x.rest more parts.1)));
  signed = λ x h each.
      let part : Printable (spell_prod x.prod) = (subst Printable (spell_signed_roll x) each).1 in
      rw (print_signed_roll x) (flat_both (if x.minus then codes "-" else codes "+") (print_prod x.prod) (sign_flat x.minus) (h part).flat');
  expr = λ x h more each.
      let parts = both_printable (spell_prod x.first) (flat_map spell_signed x.rest) (subst Printable (spell_expr_roll x) each) in
      rw (text_expr_roll x) (solid_then (print_prod x.first) (flat_map print_signed x.rest) (h parts.0)
      (flat_each print_signed x.rest (prods_flat x.rest more parts.1)));
}

expr_solid : (e : Expr) → ExprSolid e
expr_solid = every_expr expr_steps

-- ---- items

-- a function of an expression
call_solid : (word : Bytes) (e : Expr) → Solid word → Printable (bracketed (spell_expr e)) → Solid (word ++ in_brackets (print_expr e))
call_solid word e h each =
    solid_then word (in_brackets (print_expr e)) h (brackets_solid (print_expr e) (expr_solid e (inner (spell_expr e) each)).flat').flat'

kind_solid : (k : ItemKind) → Printable (spell_kind k) → Solid (print_kind k)
kind_solid (what.Plain e) each = expr_solid e each
kind_solid what.Count each = record { flat' = refl; first = refl }
kind_solid (what.CountOf e) each = call_solid (codes "COUNT") e (record { flat' = refl; first = refl }) each.1
kind_solid (what.Sum e) each = call_solid (codes "SUM") e (record { flat' = refl; first = refl }) each.1
kind_solid (what.Min e) each = call_solid (codes "MIN") e (record { flat' = refl; first = refl }) each.1
kind_solid (what.Max e) each = call_solid (codes "MAX") e (record { flat' = refl; first = refl }) each.1
kind_solid (what.Avg e) each = call_solid (codes "AVG") e (record { flat' = refl; first = refl }) each.1

heading_solid : (k : ItemKind) (a : Option Name) → Printable (spell_kind k ++ spell_as a) → Solid (heading_by k a)
heading_solid k None each = kind_solid k (both_printable (spell_kind k) [] each).0
heading_solid k (Some a) each = named_solid a (both_printable (spell_kind k) (of_keyword keyword.As ∷ Named a ∷ []) each).1.1.0

-- the heading of an item
pub item_solid : (i : Item) → Printable (spell_item i) → Solid (heading i)
item_solid i each = heading_solid i.what i.alias each

-- those of the later items
pub items_flat : (xs : List Item) → Printable (led_by (of_sign sign.Comma) (map spell_item xs)) → Each (λ i. flat (heading i) ≡ true) xs
items_flat [] each = tt
items_flat (i ∷ is) each =
    let parts = both_printable (spell_item i) (led_by (of_sign sign.Comma) (map spell_item is)) each.1 in
    ((item_solid i parts.0).flat', items_flat is parts.1)

-- ---- tables

qualifier_high : (with_as : Bool) (n : Name) (a : Option Name) → Printable (Named n ∷ spell_alias with_as a) → high (qualifier_by n a) ≡ true
qualifier_high with_as n None each = named_high n each.0
qualifier_high false n (Some a) each = named_high a each.1.0
qualifier_high true n (Some a) each = named_high a each.1.1.0

pub table_high : (with_as : Bool) (t : TableRef) → Printable (spell_table with_as t) → high (qualifier t) ≡ true
table_high with_as t each = qualifier_high with_as t.name t.alias each
