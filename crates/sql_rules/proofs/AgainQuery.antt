-- What spells a query is read as that query.
use Rattle.std.proofs.Common.{◌≡◌, ℤ, ◌≤◌, List, [], ◌∷◌, ◌++◌, map, refl, Bool, true, false, Option, None, Some}
use Rattle.std.proofs.Common.{append_assoc, arith, length}
use Rattle.std.specs.List.{flat_map}
use Rattle.sql_token.specs.declared.token.Span.{Span}
use Rattle.sql_tree.specs.declared.cond.Cond.{Cond}
use Rattle.sql_tree.specs.declared.expr.Expr.{Expr}
use Rattle.sql_tree.specs.declared.name.Col.{Col}
use Rattle.sql_tree.specs.declared.name.Name.{Name}
use Rattle.sql_tree.specs.declared.query.ItemKind.{ItemKind}
use Rattle.sql_tree.specs.declared.query.OrderBy.{OrderBy}
use Rattle.sql_tree.specs.declared.query.Query.{Query}
use Rattle.sql_tree.specs.declared.query.Selection.{Selection}
use Rattle.sql_tree.specs.declared.query.TableRef.{TableRef}
use Rattle.sql_rules.proofs.Again.{col_parts, each_again, expr_again, starts_expr, EndsCol, EndsExpr}
use Rattle.sql_rules.proofs.AgainConds.{cond_again, EndsCond}
use Rattle.sql_rules.proofs.Depth.{within_cond, nest_kind, nest_item, nest_items, within_front}
use Rattle.sql_rules.proofs.Found.{ends}
use Rattle.sql_rules.proofs.FoundQuery.{StarAt}
use Rattle.sql_rules.proofs.Nesting.{most, nest_expr}
use Rattle.sql_rules.proofs.Opened.{flat_map-map}
use Rattle.sql_rules.proofs.Tokens.{Again, many_again}
use Rattle.sql_rules.proofs.Within.{within}
use Rattle.sql_rules.specs.Symbols.{of_keyword, of_sign, Symbol, OfKeyword, OfSign}
use Rattle.sql_rules.specs.Queries.{spell_kind, spell_as, spell_item, spell_items, spell_alias, spell_table}
use Rattle.sql_rules.specs.Queries.{spell_second, spell_where, spell_group, spell_way, spell_order, spell_limit}
use Rattle.sql_rules.specs.Queries.{spell_query, FreeWords}
use Rattle.sql_rules.specs.ReadExprs.{col_at}
use Rattle.sql_rules.specs.ReadQueries.{argument_at, counted_at, plain_at, high_at, kind_at, as_at, item_at}
use Rattle.sql_rules.specs.ReadQueries.{item_list_at, items_at, alias_at, table_at, second_at, where_at, cols_at}
use Rattle.sql_rules.specs.ReadQueries.{group_at, way_at, sorted_at, order_at, limit_at}
use Rattle.sql_rules.specs.Readers.{mark_at, name_at, adds_at, maybe_at, Got, Stuck}
use Rattle.sql_rules.specs.Spelling.{Symbols, optional, spell_col, spell_expr}
use Rattle.sql_rules.specs.Trees.{from_at, front_at, query_at}
use Rattle.sql_token.specs.declared.keyword.Keyword.TheVariants as keyword
use Rattle.sql_token.specs.declared.sign.Sign.TheVariants as sign
use Rattle.sql_tree.specs.declared.query.ItemKind.TheVariants as what
use Rattle.sql_tree.specs.declared.query.Selection.TheVariants as selection

ends_expr : (ts : List Symbol) → mark_at (OfSign sign.Dot) ts ≡ Stuck → mark_at (OfSign sign.Star) ts ≡ Stuck → adds_at ts ≡ Stuck → EndsExpr ts
ends_expr ts dot star sign' = record { prod = record { col = record { dot = dot }; star = star }; sign = sign' }

-- ---- items

argument_again : (make : Expr → ItemKind) (e : Expr) (rest : List Symbol) → nest_expr e ≤ 32 → argument_at make ((spell_expr e ++ (of_sign sign.Close ∷ [])) ++ rest) ≡ Got (make e) rest
unfolding argument_at
argument_again make e rest deep =
    let is = expr_again 33 e (of_sign sign.Close ∷ rest) (omega arith) (ends_expr _ refl refl refl) in
    rw (append_assoc (spell_expr e) (of_sign sign.Close ∷ []) rest, is) refl

counted_again : (e : Expr) (rest : List Symbol) → nest_expr e ≤ 32 → counted_at ((spell_expr e ++ (of_sign sign.Close ∷ [])) ++ rest) ≡ Got (what.CountOf e) rest
unfolding counted_at
counted_again e rest deep =
    let first : mark_at (OfSign sign.Star) ((spell_expr e ++ (of_sign sign.Close ∷ [])) ++ rest) ≡ Stuck = rw (append_assoc (spell_expr e) (of_sign sign.Close ∷ []) rest) (starts_expr e (of_sign sign.Close ∷ rest)).star in
    rw (first, argument_again what.CountOf e rest deep) refl

all_again : (rest : List Symbol) → counted_at (of_sign sign.Star ∷ of_sign sign.Close ∷ rest) ≡ Got what.Count rest
unfolding counted_at
all_again rest = refl

kind_again : (k : ItemKind) (rest : List Symbol) → nest_kind k ≤ 32 → EndsExpr rest → kind_at (spell_kind k ++ rest) ≡ Got k rest
unfolding kind_at high_at plain_at
kind_again (what.Plain e) rest deep ends =
    let b = starts_expr e rest in
    let is = expr_again 33 e rest (omega arith) ends in
    rw (b.count, b.sum', b.min', b.max', b.avg, is) refl
kind_again what.Count rest deep ends = all_again rest
kind_again (what.CountOf e) rest deep ends = counted_again e rest (omega arith)
kind_again (what.Sum e) rest deep ends = argument_again what.Sum e rest (omega arith)
kind_again (what.Min e) rest deep ends = argument_again what.Min e rest (omega arith)
kind_again (what.Max e) rest deep ends = argument_again what.Max e rest (omega arith)
kind_again (what.Avg e) rest deep ends = argument_again what.Avg e rest (omega arith)

-- what may follow an item
record EndsItem (rest : List Symbol) : Type 0 where
  expr : EndsExpr rest
  as' : mark_at (OfKeyword keyword.As) rest ≡ Stuck

as_again : (a : Option Name) (rest : List Symbol) → mark_at (OfKeyword keyword.As) rest ≡ Stuck → as_at (spell_as a ++ rest) ≡ Got a rest
unfolding as_at
as_again None rest h = rw h refl
as_again (Some a) rest h = refl

as_ends : (a : Option Name) (rest : List Symbol) → EndsExpr rest → EndsExpr (spell_as a ++ rest)
as_ends None rest h = h
as_ends (Some a) rest h = ends_expr _ refl refl refl

item_again : Again spell_item nest_item 32 EndsItem item_at
unfolding item_at
item_again i rest deep ends =
    let first = kind_again i.what (spell_as i.alias ++ rest) deep (as_ends i.alias rest ends.expr) in
    rw (append_assoc (spell_kind i.what) (spell_as i.alias) rest, first, as_again i.alias rest ends.as') refl

-- an item begins with no star
kind_starts : (k : ItemKind) (rest : List Symbol) → mark_at (OfSign sign.Star) (spell_kind k ++ rest) ≡ Stuck
kind_starts (what.Plain e) rest = (starts_expr e rest).star
kind_starts what.Count rest = refl
kind_starts (what.CountOf e) rest = refl
kind_starts (what.Sum e) rest = refl
kind_starts (what.Min e) rest = refl
kind_starts (what.Max e) rest = refl
kind_starts (what.Avg e) rest = refl

ends_item : (ts : List Symbol) → EndsItem (of_sign sign.Comma ∷ ts)
ends_item ts = record { expr = ends_expr _ refl refl refl; as' = refl }

-- the items before FROM
items_again : (place : Span) (x : Selection) (ts : List Symbol) → nest_items x ≤ 32 → StarAt place x → items_at place (spell_items x ++ (of_keyword keyword.From ∷ ts)) ≡ Got x (of_keyword keyword.From ∷ ts)
unfolding items_at item_list_at
items_again place (selection.Star span) ts deep star = rw star refl
items_again place (selection.List l) ts deep star =
    let rest = of_keyword keyword.From ∷ ts in
    let text = flat_map (λ t. of_sign sign.Comma ∷ spell_item t) l.rest in
    let end : EndsItem rest = record { expr = ends_expr _ refl refl refl; as' = refl } in
    let after : EndsItem (text ++ rest) = elim l.rest as (λ is. EndsItem (flat_map (λ t. of_sign sign.Comma ∷ spell_item t) is ++ rest)) [ [] ↦ end | i ∷ is ↦ ends_item _ ] in
    let none : mark_at (OfSign sign.Star) ((spell_item l.first ++ text) ++ rest) ≡ Stuck =
    rw (append_assoc (spell_item l.first) text rest, append_assoc (spell_kind l.first.what) (spell_as l.first.alias) (text ++ rest)) (kind_starts l.first.what (spell_as l.first.alias ++ (text ++ rest))) in
    let first = item_again l.first (text ++ rest) (omega arith) after in
    let more = each_again (OfSign sign.Comma) item_at spell_item nest_item 32 EndsItem item_again ends_item l.rest rest (omega arith) end refl in
    rw (flat_map-map (λ t. of_sign sign.Comma ∷ t) spell_item l.rest, none, append_assoc (spell_item l.first) text rest, first, more) refl

-- ---- tables

alias_again : (b : Bool) (a : Option Name) (rest : List Symbol) → mark_at (OfKeyword keyword.As) rest ≡ Stuck → name_at rest ≡ Stuck → alias_at (spell_alias b a ++ rest) ≡ Got a rest
unfolding alias_at
alias_again b None rest h k = rw (h, k) refl
alias_again true (Some a) rest h k = refl
alias_again false (Some a) rest h k = refl

table_again : (b : Bool) (t : TableRef) (rest : List Symbol) → mark_at (OfKeyword keyword.As) rest ≡ Stuck → name_at rest ≡ Stuck → table_at (spell_table b t ++ rest) ≡ Got t rest
unfolding table_at
table_again b t rest h k = rw (alias_again b t.alias rest h k) refl

-- What cannot go on with a part of a query that stands before it.
record Quiet (ts : List Symbol) : Type 0 where
  dot : mark_at (OfSign sign.Dot) ts ≡ Stuck
  star : mark_at (OfSign sign.Star) ts ≡ Stuck
  sign' : adds_at ts ≡ Stuck
  and' : mark_at (OfKeyword keyword.And) ts ≡ Stuck
  or' : mark_at (OfKeyword keyword.Or) ts ≡ Stuck
  comma : mark_at (OfSign sign.Comma) ts ≡ Stuck
  as' : mark_at (OfKeyword keyword.As) ts ≡ Stuck
  name' : name_at ts ≡ Stuck
  desc : mark_at (OfKeyword keyword.Desc) ts ≡ Stuck
  asc : maybe_at (OfKeyword keyword.Asc) ts ≡ (false, ts)

second_again : (b : Bool) (t : Option TableRef) (rest : List Symbol) → Quiet rest → second_at (spell_second b t ++ rest) ≡ Got t rest
unfolding second_at
second_again b None rest q = rw (q.comma) refl
second_again b (Some t) rest q = rw (table_again b t rest q.as' q.name') refl

second_first : (b : Bool) (t : Option TableRef) (rest : List Symbol) → Quiet rest → (mark_at (OfKeyword keyword.As) (spell_second b t ++ rest) ≡ Stuck) × (name_at (spell_second b t ++ rest) ≡ Stuck)
second_first b None rest q = (q.as', q.name')
second_first b (Some t) rest q = (refl, refl)

front_again : (place : Span) (a b : Bool) (x : Selection) (t : TableRef) (s : Option TableRef) (rest : List Symbol) → nest_items x ≤ 32 → StarAt place x → Quiet rest →
    front_at place (of_keyword keyword.Select ∷ (spell_items x ++ (of_keyword keyword.From ∷ (spell_table a t ++ (spell_second b s ++ rest))))) ≡ Got (record { items = x; first = t; second = s }) rest
unfolding front_at from_at
front_again place a b x t s rest deep star q =
    let f = second_first b s rest q in
    rw (items_again place x (spell_table a t ++ (spell_second b s ++ rest)) deep star, table_again a t (spell_second b s ++ rest) f.0 f.1, second_again b s rest q) refl

-- ---- what stands behind each part

-- behind the tables, WHERE, GROUP BY, ORDER BY and LIMIT
record Behind2 (ts : List Symbol) : Type 0 where
  quiet : Quiet ts
  where' : mark_at (OfKeyword keyword.Where) ts ≡ Stuck

record Behind3 (ts : List Symbol) : Type 0 where
  behind : Behind2 ts
  group' : mark_at (OfKeyword keyword.Group) ts ≡ Stuck

record Behind4 (ts : List Symbol) : Type 0 where
  behind : Behind3 ts
  order' : mark_at (OfKeyword keyword.Order) ts ≡ Stuck

record Behind5 (ts : List Symbol) : Type 0 where
  behind : Behind4 ts
  limit' : mark_at (OfKeyword keyword.Limit) ts ≡ Stuck

abbrev end_text : Bool → Symbols
end_text s = optional s (of_sign sign.Semicolon)

behind5 : (s : Bool) → Behind5 (end_text s)
behind5 true = record { behind = record { behind = record { behind = record { quiet = record { dot = refl; star = refl; sign' = refl; and' = refl; or' = refl; comma = refl; as' = refl; name' = refl; desc = refl; asc = refl }; where' = refl }; group' = refl }; order' = refl }; limit' = refl }
behind5 false = record { behind = record { behind = record { behind = record { quiet = record { dot = refl; star = refl; sign' = refl; and' = refl; or' = refl; comma = refl; as' = refl; name' = refl; desc = refl; asc = refl }; where' = refl }; group' = refl }; order' = refl }; limit' = refl }

behind4 : (l : Option ℤ) (rest : List Symbol) → Behind5 rest → Behind4 (spell_limit l ++ rest)
behind4 None rest b = b.behind
behind4 (Some n) rest b = record { behind = record { behind = record { quiet = record { dot = refl; star = refl; sign' = refl; and' = refl; or' = refl; comma = refl; as' = refl; name' = refl; desc = refl; asc = refl }; where' = refl }; group' = refl }; order' = refl }

behind3 : (asc : Bool) (o : Option OrderBy) (rest : List Symbol) → Behind4 rest → Behind3 (spell_order asc o ++ rest)
behind3 asc None rest b = b.behind
behind3 asc (Some o) rest b = record { behind = record { quiet = record { dot = refl; star = refl; sign' = refl; and' = refl; or' = refl; comma = refl; as' = refl; name' = refl; desc = refl; asc = refl }; where' = refl }; group' = refl }

behind2 : (g : List Col) (rest : List Symbol) → Behind3 rest → Behind2 (spell_group g ++ rest)
behind2 [] rest b = b.behind
behind2 (c ∷ cs) rest b = record { quiet = record { dot = refl; star = refl; sign' = refl; and' = refl; or' = refl; comma = refl; as' = refl; name' = refl; desc = refl; asc = refl }; where' = refl }

behind1 : (c : Option Cond) (rest : List Symbol) → Behind2 rest → Quiet (spell_where c ++ rest)
behind1 None rest b = b.quiet
behind1 (Some c) rest b = record { dot = refl; star = refl; sign' = refl; and' = refl; or' = refl; comma = refl; as' = refl; name' = refl; desc = refl; asc = refl }

-- ---- the parts behind the tables

where_again : (c : Option Cond) (rest : List Symbol) → within 32 0 (spell_where c ++ rest) ≡ true → Behind2 rest → where_at (spell_where c ++ rest) ≡ Got c rest
unfolding where_at within
where_again None rest shallow b = rw (b.where') refl
where_again (Some c) rest shallow b =
    let deep = within_cond 32 c rest shallow in
    let q = b.quiet in
    let ends : EndsCond rest = record { conj = record { expr = ends_expr rest q.dot q.star q.sign'; and = q.and' }; or = q.or' } in
    rw (cond_again 33 c rest (omega arith) ends) refl

-- columns parted by commas
col_again : Again spell_col (λ _. 0) 0 EndsCol col_at
col_again c rest deep ends = col_parts c.table c.name rest ends

zeros : (xs : List Col) → most (map (λ _. 0) xs) ≤ 0
zeros [] = omega arith
zeros (x ∷ xs) = omega (arith, zeros xs)

cols_again : (c : Col) (cs : List Col) (rest : List Symbol) → length cs ≤ 3 → EndsCol rest → mark_at (OfSign sign.Comma) rest ≡ Stuck →
    cols_at ((spell_col c ++ flat_map (λ t. of_sign sign.Comma ∷ spell_col t) cs) ++ rest) ≡ Got (c ∷ cs) rest
unfolding cols_at
cols_again c cs rest few ends stuck =
    let text = flat_map (λ t. of_sign sign.Comma ∷ spell_col t) cs in
    let after : EndsCol (text ++ rest) = elim cs as (λ is. EndsCol (flat_map (λ t. of_sign sign.Comma ∷ spell_col t) is ++ rest)) [ [] ↦ ends | i ∷ is ↦ record { dot = refl } ] in
    let first = col_parts c.table c.name (text ++ rest) after in
    let more = many_again (mark_at (OfSign sign.Comma)) (λ _. col_at) (λ x. of_sign sign.Comma ∷ spell_col x) (λ _. 0) 0 EndsCol
    (λ x r d e. record { s = OfSign sign.Comma; us = spell_col x ++ r; led = refl; is = col_again x r d e })
    (λ x r. record { dot = refl }) 3 cs rest (zeros cs) few ends stuck in
    rw (append_assoc (spell_col c) text rest, first, more) refl

group_again : (g : List Col) (rest : List Symbol) → length g ≤ 4 → Behind3 rest → group_at (spell_group g ++ rest) ≡ Got g rest
unfolding group_at
group_again [] rest few b = rw (b.group') refl
group_again (c ∷ cs) rest few b =
    let q = b.behind.quiet in
    let is = cols_again c cs rest (omega arith) (record { dot = q.dot }) q.comma in
    rw (flat_map-map (λ t. of_sign sign.Comma ∷ t) spell_col cs) is

way_again : (b d : Bool) (rest : List Symbol) → Quiet rest → way_at (spell_way b d ++ rest) ≡ Got d rest
unfolding way_at
way_again b true rest q = refl
way_again true false rest q = refl
way_again false false rest q = rw (q.desc, q.asc) refl

way_ends : (b d : Bool) (rest : List Symbol) → Quiet rest → EndsCol (spell_way b d ++ rest)
way_ends b true rest q = record { dot = refl }
way_ends true false rest q = record { dot = refl }
way_ends false false rest q = record { dot = q.dot }

order_again : (b : Bool) (o : Option OrderBy) (rest : List Symbol) → Behind4 rest → order_at (spell_order b o ++ rest) ≡ Got o rest
unfolding order_at sorted_at
order_again b None rest h = rw (h.order') refl
order_again b (Some o) rest h =
    let q = h.behind.behind.quiet in
    let col = col_parts o.key.table o.key.name (spell_way b o.down ++ rest) (way_ends b o.down rest q) in
    rw (append_assoc (spell_col o.key) (spell_way b o.down) rest, col, way_again b o.down rest q) refl

limit_again : (l : Option ℤ) (rest : List Symbol) → Behind5 rest → limit_at (spell_limit l ++ rest) ≡ Got l rest
unfolding limit_at
limit_again None rest b = rw (b.limit') refl
limit_again (Some n) rest b = refl

-- ---- a query

pub query_again : (place : Span) (w : FreeWords) (q : Query) → length q.group ≤ 4 → StarAt place q.items → within 32 0 (spell_query w q) ≡ true →
    query_at place (spell_query w q) ≡ Got q (optional w.semicolon (of_sign sign.Semicolon))
unfolding query_at spell_query
query_again place w q few star shallow =
    let end = end_text w.semicolon in
    let b5 = behind5 w.semicolon in
    let four = spell_limit q.limit ++ end in
    let b4 = behind4 q.limit end b5 in
    let three = spell_order w.asc q.order ++ four in
    let b3 = behind3 w.asc q.order four b4 in
    let two = spell_group q.group ++ three in
    let b2 = behind2 q.group three b3 in
    let one = spell_where q.cond ++ two in
    let b1 = behind1 q.cond two b2 in
    let f = within_front w.first_as w.second_as q.items q.first q.second one shallow in
    rw (front_again place w.first_as w.second_as q.items q.first q.second one f.0 star b1, where_again q.cond two f.1 b2, group_again q.group three few b3, order_again w.asc q.order four b4, limit_again q.limit end b5) refl
