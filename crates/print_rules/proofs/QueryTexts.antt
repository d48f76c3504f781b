-- The same of a query.
use Rattle.std.proofs.Common.{◌≡◌, refl, sym, ap, ◌∙◌, Bool, true, false, List, [], ◌∷◌, ◌++◌, append_assoc, append-nil, codes, map, ℤ, Option, None, Some, option_map}
use Rattle.sql_token.specs.declared.keyword.Keyword.{Keyword}
use Rattle.sql_token.specs.declared.keyword.Keyword.TheVariants as keyword
use Rattle.sql_token.specs.declared.sign.Sign.TheVariants as sign
use Rattle.sql_tree.specs.Bare.{bare, bare_col, bare_cond, bare_expr, bare_item, bare_items, bare_kind, bare_name, bare_order, bare_table}
use Rattle.sql_tree.specs.declared.cond.Cond.{Cond}
use Rattle.sql_tree.specs.declared.expr.Expr.{Expr}
use Rattle.sql_tree.specs.declared.name.Col.{Col}
use Rattle.sql_tree.specs.declared.name.Name.{Name}
use Rattle.sql_tree.specs.declared.query.Item.{Item}
use Rattle.sql_tree.specs.declared.query.ItemKind.{ItemKind}
use Rattle.sql_tree.specs.declared.query.ItemKind.TheVariants as what
use Rattle.sql_tree.specs.declared.query.OrderBy.{OrderBy}
use Rattle.sql_tree.specs.declared.query.Query.{Query}
use Rattle.sql_tree.specs.declared.query.Selection.{Selection}
use Rattle.sql_tree.specs.declared.query.Selection.TheVariants as selection
use Rattle.sql_tree.specs.declared.query.TableRef.{TableRef}
use Rattle.sql_rules.specs.Symbols.{of_keyword, of_sign}
use Rattle.sql_rules.specs.Printed.{print_kind, print_as, print_item, print_items, print_alias, print_table, print_second, print_where}
use Rattle.sql_rules.specs.Printed.{print_group, print_order, print_limit, printed}
use Rattle.sql_rules.specs.PrintedExprs.{Bytes, text_if, behind_each, in_brackets, print_col, print_expr}
use Rattle.sql_rules.specs.Queries.{FreeWords, spell_call, spell_kind, spell_as, spell_item, spell_items, spell_alias, spell_table, spell_second}
use Rattle.sql_rules.specs.Queries.{spell_where, spell_group, spell_way, spell_order, spell_limit, spell_query}
use Rattle.sql_rules.specs.Spelling.{Symbols, optional, led_by, spell_col}
use Rattle.print_rules.specs.Spaced.{keyword_text}
use Rattle.print_rules.proofs.CondTexts.{cond_text}
use Rattle.print_rules.proofs.ExprTexts.{number_phrase, word_phrase, name_phrase, col_phrase, expr_text}
use Rattle.print_rules.specs.Gaps.{is_lone_key, plainly, spaced_query, APrintedQueryIsItsSymbols}
use Rattle.print_rules.proofs.Ends.{behind, Leads, Ends, EndsCond, EndsName, leads, leads_cond, ends, also_cond}
use Rattle.print_rules.proofs.Phrases.{Thin, None_left, Kept, Out, Phrase, Tail, and_tail, tail_tail, no_tail, loosely, in_text}
use Rattle.print_rules.proofs.Phrases.{tail_text, symbol_phrase, sign_tail, key_only, key_tail, bracket_tail, name_tail}

-- ---- items

-- a function of an expression
call : (word : Keyword) (e : Expr) → is_lone_key word ≡ false → Phrase Leads Ends (spell_call word e) (spell_call word (bare_expr e)) (keyword_text word ++ in_brackets (print_expr e))
call word e plain = and_tail (symbol_phrase (of_keyword word) plain refl refl refl (ends (of_keyword word) plain refl refl)) (bracket_tail also_cond (loosely (λ p x. x.leads) (λ l x. x) (expr_text e)))

kind_text : (k : ItemKind) → Phrase Leads Ends (spell_kind k) (spell_kind (bare_kind k)) (print_kind k)
kind_text (what.Plain e) = expr_text e
kind_text what.Count = and_tail (symbol_phrase (of_keyword keyword.Count) refl refl refl refl (ends (of_keyword keyword.Count) refl refl refl))
    (bracket_tail also_cond (loosely (λ p x. x.leads) (λ l x. x) (symbol_phrase (of_sign sign.Star) refl refl refl refl (ends (of_sign sign.Star) refl refl refl))))
kind_text (what.CountOf e) = call keyword.Count e refl
kind_text (what.Sum e) = call keyword.Sum e refl
kind_text (what.Min e) = call keyword.Min e refl
kind_text (what.Max e) = call keyword.Max e refl
kind_text (what.Avg e) = call keyword.Avg e refl

as_text : (a : Option Name) → Tail Ends Ends (spell_as a) (spell_as (option_map bare_name a)) (print_as a)
as_text None = no_tail (λ l e. e) [] None_left
as_text (Some a) = key_tail keyword.As refl (λ l e. e.key' (of_keyword keyword.As) refl) (leads (of_keyword keyword.As) refl) (name_phrase a)

item_text : (i : Item) → Phrase Leads Ends (spell_item i) (spell_item (bare_item i)) (print_item i)
item_text i = and_tail (kind_text i.what) (as_text i.alias)

-- items, each behind a comma
further_items : (xs : List Item) → Tail Ends Ends (led_by (of_sign sign.Comma) (map spell_item xs)) (led_by (of_sign sign.Comma) (map spell_item (map bare_item xs))) (behind_each (codes ",") (map print_item xs))
further_items [] = no_tail (λ l e. e) [] None_left
further_items (x ∷ xs) = tail_tail (sign_tail (of_sign sign.Comma) refl refl refl (item_text x)) (further_items xs)

items_text : (x : Selection) → Phrase Leads Ends (spell_items x) (spell_items (bare_items x)) (print_items x)
items_text (selection.Star span) = symbol_phrase (of_sign sign.Star) refl refl refl refl (ends (of_sign sign.Star) refl refl refl)
items_text (selection.List l) = and_tail (item_text l.first) (further_items l.rest)

-- ---- tables

-- AS is left out before the alias of a table
alias_text : (b : Bool) (a : Option Name) → Tail EndsName Ends (spell_alias b a) (spell_alias false (option_map bare_name a)) (print_alias a)
alias_text b None = no_tail (λ l e. e.ends) [] None_left
alias_text false (Some a) = name_tail a
alias_text true (Some a) = let h = name_tail a in record { thin = Out (of_keyword keyword.As) _ _ refl refl h.thin; says = h.says }

table_text : (b : Bool) (t : TableRef) → Phrase Leads Ends (spell_table b t) (spell_table false (bare_table t)) (print_table t)
table_text b t = and_tail (word_phrase t.name) (alias_text b t.alias)

second_text : (b : Bool) (t : Option TableRef) → Tail Ends Ends (spell_second b t) (spell_second false (option_map bare_table t)) (print_second t)
second_text b None = no_tail (λ l e. e) [] None_left
second_text b (Some t) = sign_tail (of_sign sign.Comma) refl refl refl (table_text b t)

-- ---- the parts behind the tables

where_text : (c : Option Cond) → Tail Ends EndsCond (spell_where c) (spell_where (option_map bare_cond c)) (print_where c)
where_text None = no_tail also_cond [] None_left
where_text (Some c) = key_tail keyword.Where refl (λ l e. e.key' (of_keyword keyword.Where) refl) (leads_cond (of_keyword keyword.Where) refl refl refl) (cond_text c)

-- columns, each behind a comma
further_cols : (xs : List Col) → Tail Ends Ends (led_by (of_sign sign.Comma) (map spell_col xs)) (led_by (of_sign sign.Comma) (map spell_col (map bare_col xs))) (behind_each (codes ",") (map print_col xs))
further_cols [] = no_tail (λ l e. e) [] None_left
further_cols (x ∷ xs) = tail_tail (sign_tail (of_sign sign.Comma) refl refl refl (col_phrase x)) (further_cols xs)

group_text : (g : List Col) → Tail EndsCond EndsCond (spell_group g) (spell_group (map bare_col g)) (print_group g)
group_text [] = no_tail (λ l e. e) [] None_left
group_text (c ∷ cs) = tail_text (simp append_assoc) (tail_tail (key_only keyword.Group refl (λ l e. e.key' (of_keyword keyword.Group) refl refl))
    (key_tail keyword.By refl (λ l e. e.key' (of_keyword keyword.By) refl refl) (leads (of_keyword keyword.By) refl) (loosely (λ p x. x) also_cond (and_tail (col_phrase c) (further_cols cs)))))

-- ASC is left out
way_text : (asc down : Bool) → Tail Ends EndsCond (spell_way asc down) (spell_way false down) (text_if down (codes " DESC"))
way_text asc true = key_only keyword.Desc refl (λ l e. e.key' (of_keyword keyword.Desc) refl)
way_text true false = no_tail also_cond (of_keyword keyword.Asc ∷ []) (Out (of_keyword keyword.Asc) [] [] refl refl None_left)
way_text false false = no_tail also_cond [] None_left

order_text : (asc : Bool) (o : Option OrderBy) → Tail EndsCond EndsCond (spell_order asc o) (spell_order false (option_map bare_order o)) (print_order o)
order_text asc None = no_tail (λ l e. e) [] None_left
order_text asc (Some o) = tail_text (simp append_assoc) (tail_tail (key_only keyword.Order refl (λ l e. e.key' (of_keyword keyword.Order) refl refl))
    (key_tail keyword.By refl (λ l e. e.key' (of_keyword keyword.By) refl refl) (leads (of_keyword keyword.By) refl) (and_tail (col_phrase o.key) (way_text asc o.down))))

limit_text : (l : Option ℤ) → Tail EndsCond EndsCond (spell_limit l) (spell_limit l) (print_limit l)
limit_text None = no_tail (λ l e. e) [] None_left
limit_text (Some n) = key_tail keyword.Limit refl (λ l e. e.key' (of_keyword keyword.Limit) refl refl) (leads (of_keyword keyword.Limit) refl) (loosely (λ p x. x) also_cond (number_phrase n))

-- and so is the semicolon
end_text : (b : Bool) → Tail EndsCond EndsCond (optional b (of_sign sign.Semicolon)) [] []
end_text true = no_tail (λ l e. e) (of_sign sign.Semicolon ∷ []) (Out (of_sign sign.Semicolon) [] [] refl refl None_left)
end_text false = no_tail (λ l e. e) [] None_left

-- ---- a query

-- what stands behind SELECT
abbrev parts : FreeWords → Query → Symbols
parts w q =
    spell_items q.items ++ (of_keyword keyword.From ∷ (spell_table w.first_as q.first ++ (spell_second w.second_as q.second
    ++ (spell_where q.cond ++ (spell_group q.group ++ (spell_order w.asc q.order ++ (spell_limit q.limit ++ optional w.semicolon (of_sign sign.Semicolon))))))))

-- they write what is printed behind SELECT
parts_text : (w : FreeWords) (q : Query) → Phrase Leads EndsCond (parts w q) (parts plainly (bare q))
    (print_items q.items ++ codes " FROM " ++ print_table q.first ++ print_second q.second ++ print_where q.cond ++ print_group q.group ++ print_order q.order ++ print_limit q.limit)
unfolding bare
parts_text w q = in_text (simp (append_assoc, append-nil))
    (and_tail (items_text q.items) (key_tail keyword.From refl (λ l e. e.key' (of_keyword keyword.From) refl) (leads (of_keyword keyword.From) refl)
    (and_tail (table_text w.first_as q.first) (tail_tail (second_text w.second_as q.second) (tail_tail (where_text q.cond)
    (tail_tail (group_text q.group) (tail_tail (order_text w.asc q.order) (tail_tail (limit_text q.limit) (end_text w.semicolon)))))))))

-- its symbols are those that spell the query, without places and without the words that the tree does not tell
pub query_thin : (w : FreeWords) (q : Query) → Thin (spell_query w q) (spell_query plainly (bare q))
unfolding spell_query
query_thin w q = Kept (of_keyword keyword.Select) _ _ (parts_text w q).thin

regroup : (x a b c d e f g h : Bytes) → x ++ (a ++ b ++ c ++ d ++ e ++ f ++ g ++ h) ≡ x ++ a ++ b ++ c ++ d ++ e ++ f ++ g ++ h
regroup x a b c d e f g h = simp append_assoc

-- and they write the printed query
pub query_text : APrintedQueryIsItsSymbols
unfolding spaced_query spell_query printed
query_text q =
    let one = (parts_text plainly q).says (of_keyword keyword.Select) [] (leads (of_keyword keyword.Select) refl) in
    let whole : behind (of_keyword keyword.Select) (parts plainly (bare q)) ≡ _ = ap (behind (of_keyword keyword.Select)) (sym (append-nil (parts plainly (bare q)))) ∙ one.is in
    rw whole (rw append-nil (regroup (codes "SELECT ") (print_items q.items) (codes " FROM ") (print_table q.first) (print_second q.second) (print_where q.cond) (print_group q.group) (print_order q.order) (print_limit q.limit)))
