-- A query at other places.
use Rattle.std.proofs.Common.{◌≡◌, refl, ap, ◌∙◌, Bool, true, false, List, [], ◌∷◌, ◌++◌, map, ℤ, Option, None, Some, option_map}
use Rattle.sql_token.specs.declared.keyword.Keyword.{Keyword}
use Rattle.sql_token.specs.declared.keyword.Keyword.TheVariants as keyword
use Rattle.sql_token.specs.declared.sign.Sign.TheVariants as sign
use Rattle.sql_token.specs.declared.token.Span.{Span}
use Rattle.sql_tree.specs.Bare.{bare, bare_col, bare_cond, bare_expr, bare_item, bare_items, bare_kind, bare_name, bare_order, bare_table}
use Rattle.sql_tree.specs.declared.cond.Cond.{Cond}
use Rattle.sql_tree.specs.declared.expr.Expr.{Expr}
use Rattle.sql_tree.specs.declared.name.Col.{Col}
use Rattle.sql_tree.specs.declared.name.Name.{Name}
use Rattle.sql_tree.specs.declared.query.Item.{Item}
use Rattle.sql_tree.specs.declared.query.ItemKind.{ItemKind}
use Rattle.sql_tree.specs.declared.query.ItemKind.TheVariants as what
use Rattle.sql_tree.specs.declared.query.OrderBy.{OrderBy}
use Rattle.sql_tree.specs.declared.query.Query.{Query}
use Rattle.sql_tree.specs.declared.query.Selection.{Selection}
use Rattle.sql_tree.specs.declared.query.Selection.TheVariants as selection
use Rattle.sql_tree.specs.declared.query.TableRef.{TableRef}
use Rattle.sql_rules.proofs.FoundQuery.{StarAt}
use Rattle.sql_rules.specs.Symbols.{Named, Number, of_keyword, of_sign}
use Rattle.sql_rules.specs.Queries.{spell_call, spell_kind, spell_as, spell_item, spell_items, spell_alias, spell_table, spell_second}
use Rattle.sql_rules.specs.Queries.{spell_where, spell_group, spell_way, spell_order, spell_limit, spell_query}
use Rattle.sql_rules.specs.Spelling.{Symbols, led_by, bracketed, spell_col, spell_expr}
use Rattle.print_rules.specs.Spaced.{bare_symbol}
use Rattle.print_rules.proofs.CondLifts.{lift_cond}
use Rattle.print_rules.proofs.ExprLifts.{lift_col, lift_expr}
use Rattle.print_rules.proofs.Lifted.{Lifts, split, append_both, cons_both, last_symbol, headed, worded, inside, led_list_lifts, nothing_left}
use Rattle.print_rules.specs.Gaps.{plainly}
use Rattle.print_rules.proofs.Walks.{every}

-- ---- items

-- The symbols are a call of an expression.
record Called (word : Keyword) (e : Expr) (ps : Symbols) : Type 0 where
  value : Expr
  spelled : ps ≡ spell_call word value
  same : bare_expr value ≡ bare_expr e

called : (word : Keyword) (e : Expr) (ps : Symbols) → map bare_symbol ps ≡ spell_call word (bare_expr e) → Called word e ps
called word e ps h =
    let first = headed (of_keyword word) (bracketed (spell_expr (bare_expr e))) ps refl h in
    let i = inside (spell_expr (bare_expr e)) first.tail first.rest in
    let one = lift_expr e i.inner i.is in
    record { value = one.value; spelled = first.whole ∙ ap (λ t. of_keyword word ∷ t) (i.whole ∙ ap bracketed one.spelled); same = one.same }

lift_kind : (k : ItemKind) → Lifts spell_kind bare_kind k
lift_kind (what.Plain e) ps h = let one = lift_expr e ps h in record { value = what.Plain one.value; spelled = one.spelled; same = ap what.Plain one.same }
lift_kind what.Count ps h =
    let first = headed (of_keyword keyword.Count) (bracketed (of_sign sign.Star ∷ [])) ps refl h in
    let i = inside (of_sign sign.Star ∷ []) first.tail first.rest in
    record { value = what.Count; spelled = first.whole ∙ ap (λ t. of_keyword keyword.Count ∷ t) (i.whole ∙ ap bracketed (last_symbol (of_sign sign.Star) i.inner refl i.is)); same = refl }
lift_kind (what.CountOf e) ps h = let one = called keyword.Count e ps h in record { value = what.CountOf one.value; spelled = one.spelled; same = ap what.CountOf one.same }
lift_kind (what.Sum e) ps h = let one = called keyword.Sum e ps h in record { value = what.Sum one.value; spelled = one.spelled; same = ap what.Sum one.same }
lift_kind (what.Min e) ps h = let one = called keyword.Min e ps h in record { value = what.Min one.value; spelled = one.spelled; same = ap what.Min one.same }
lift_kind (what.Max e) ps h = let one = called keyword.Max e ps h in record { value = what.Max one.value; spelled = one.spelled; same = ap what.Max one.same }
lift_kind (what.Avg e) ps h = let one = called keyword.Avg e ps h in record { value = what.Avg one.value; spelled = one.spelled; same = ap what.Avg one.same }

some_name : (m n : Name) → bare_name m ≡ bare_name n → option_map bare_name (Some m) ≡ option_map bare_name (Some n)
some_name m n e = ap (λ t. Some t) e

lift_as : (a : Option Name) → Lifts spell_as (option_map bare_name) a
lift_as None ps h = record { value = None; spelled = nothing_left ps h; same = refl }
lift_as (Some a) ps h =
    let as' = headed (of_keyword keyword.As) (Named (bare_name a) ∷ []) ps refl h in
    let w = worded a [] as'.tail as'.rest in
    record { value = Some w.name; spelled = as'.whole ∙ ap (λ t. of_keyword keyword.As ∷ t) (w.whole ∙ ap (λ t. Named w.name ∷ t) (nothing_left w.tail w.rest)); same = some_name w.name a w.same }

made_item : (k l : ItemKind) (a b : Option Name) → k ≡ l → a ≡ b → ◌≡◌ {A = Item} (record { what = k; alias = a }) (record { what = l; alias = b })
made_item k l a b e f = rw (e, f) refl

lift_item : (i : Item) → Lifts spell_item bare_item i
lift_item i ps h =
    let two = split (spell_kind (bare_kind i.what)) (spell_as (option_map bare_name i.alias)) ps h in
    let one = lift_kind i.what two.front two.first in
    let more = lift_as i.alias two.back two.rest in
    record {
      value = record { what = one.value; alias = more.value };
      spelled = two.whole ∙ append_both two.front two.back (spell_kind one.value) (spell_as more.value) one.spelled more.spelled;
      same = made_item (bare_kind one.value) (bare_kind i.what) (option_map bare_name more.value) (option_map bare_name i.alias) one.same more.same;
    }

made_items : (i j : Item) (is js : List Item) → i ≡ j → is ≡ js → selection.List (record { first = i; rest = is }) ≡ selection.List (record { first = j; rest = js })
made_items i j is js e f = rw (e, f) refl

-- The symbols are the items, and a star stands at its place.
record LiftedItems (star : Span) (x : Selection) (ps : Symbols) : Type 0 where
  value : Selection
  spelled : ps ≡ spell_items value
  same : bare_items value ≡ bare_items x
  stands : StarAt star value

lift_items : (star : Span) (x : Selection) (ps : Symbols) → map bare_symbol ps ≡ spell_items (bare_items x) → LiftedItems star x ps
lift_items star (selection.Star span) ps h = record { value = selection.Star star; spelled = last_symbol (of_sign sign.Star) ps refl h; same = refl; stands = refl }
lift_items star (selection.List l) ps h =
    let two = split (spell_item (bare_item l.first)) (led_by (of_sign sign.Comma) (map spell_item (map bare_item l.rest))) ps h in
    let one = lift_item l.first two.front two.first in
    let more = led_list_lifts (of_sign sign.Comma) spell_item bare_item l.rest refl (every (Lifts spell_item bare_item) lift_item l.rest) two.back two.rest in
    record {
      value = selection.List (record { first = one.value; rest = more.value });
      spelled = two.whole ∙ append_both two.front two.back (spell_item one.value) (led_by (of_sign sign.Comma) (map spell_item more.value)) one.spelled more.spelled;
      same = made_items (bare_item one.value) (bare_item l.first) (map bare_item more.value) (map bare_item l.rest) one.same more.same;
      stands = tt;
    }

-- ---- tables

lift_alias : (a : Option Name) → Lifts (spell_alias false) (option_map bare_name) a
lift_alias None ps h = record { value = None; spelled = nothing_left ps h; same = refl }
lift_alias (Some a) ps h =
    let w = worded a [] ps h in
    record { value = Some w.name; spelled = w.whole ∙ ap (λ t. Named w.name ∷ t) (nothing_left w.tail w.rest); same = some_name w.name a w.same }

made_table : (m n : Name) (a b : Option Name) → m ≡ n → a ≡ b → ◌≡◌ {A = TableRef} (record { name = m; alias = a }) (record { name = n; alias = b })
made_table m n a b e f = rw (e, f) refl

lift_table : (t : TableRef) → Lifts (spell_table false) bare_table t
lift_table t ps h =
    let w = worded t.name (spell_alias false (option_map bare_name t.alias)) ps h in
    let a = lift_alias t.alias w.tail w.rest in
    record {
      value = record { name = w.name; alias = a.value };
      spelled = w.whole ∙ ap (λ x. Named w.name ∷ x) a.spelled;
      same = made_table (bare_name w.name) (bare_name t.name) (option_map bare_name a.value) (option_map bare_name t.alias) w.same a.same;
    }

some_table : (t u : TableRef) → bare_table t ≡ bare_table u → option_map bare_table (Some t) ≡ option_map bare_table (Some u)
some_table t u e = ap (λ x. Some x) e

lift_second : (t : Option TableRef) → Lifts (spell_second false) (option_map bare_table) t
lift_second None ps h = record { value = None; spelled = nothing_left ps h; same = refl }
lift_second (Some t) ps h =
    let comma = headed (of_sign sign.Comma) (spell_table false (bare_table t)) ps refl h in
    let one = lift_table t comma.tail comma.rest in
    record { value = Some one.value; spelled = comma.whole ∙ ap (λ x. of_sign sign.Comma ∷ x) one.spelled; same = some_table one.value t one.same }

-- ---- the parts behind the tables

some_cond : (c d : Cond) → bare_cond c ≡ bare_cond d → option_map bare_cond (Some c) ≡ option_map bare_cond (Some d)
some_cond c d e = ap (λ x. Some x) e

lift_where : (c : Option Cond) → Lifts spell_where (option_map bare_cond) c
lift_where None ps h = record { value = None; spelled = nothing_left ps h; same = refl }
lift_where (Some c) ps h =
    let word = headed (of_keyword keyword.Where) _ ps refl h in
    let one = lift_cond c word.tail word.rest in
    record { value = Some one.value; spelled = word.whole ∙ ap (λ x. of_keyword keyword.Where ∷ x) one.spelled; same = some_cond one.value c one.same }

lift_group : (g : List Col) → Lifts spell_group (map bare_col) g
lift_group [] ps h = record { value = []; spelled = nothing_left ps h; same = refl }
lift_group (c ∷ cs) ps h =
    let word = headed (of_keyword keyword.Group) _ ps refl h in
    let by = headed (of_keyword keyword.By) _ word.tail refl word.rest in
    let two = split (spell_col (bare_col c)) (led_by (of_sign sign.Comma) (map spell_col (map bare_col cs))) by.tail by.rest in
    let one = lift_col c two.front two.first in
    let more = led_list_lifts (of_sign sign.Comma) spell_col bare_col cs refl (every (Lifts spell_col bare_col) lift_col cs) two.back two.rest in
    let cols = two.whole ∙ append_both two.front two.back (spell_col one.value) (led_by (of_sign sign.Comma) (map spell_col more.value)) one.spelled more.spelled in
    record {
      value = one.value ∷ more.value;
      spelled = word.whole ∙ ap (λ x. of_keyword keyword.Group ∷ x) (by.whole ∙ ap (λ x. of_keyword keyword.By ∷ x) cols);
      same = cons_both (bare_col one.value) (bare_col c) (map bare_col more.value) (map bare_col cs) one.same more.same;
    }

way_placeless : (down : Bool) (ps : Symbols) → map bare_symbol ps ≡ spell_way false down → ps ≡ spell_way false down
way_placeless true ps h = last_symbol (of_keyword keyword.Desc) ps refl h
way_placeless false ps h = nothing_left ps h

made_order : (c d : Col) (down : Bool) → bare_col c ≡ bare_col d → option_map bare_order (Some (record { key = c; down = down })) ≡ option_map bare_order (Some (record { key = d; down = down }))
made_order c d down e = ap (λ x. Some (record { key = x; down = down })) e

lift_order : (o : Option OrderBy) → Lifts (spell_order false) (option_map bare_order) o
lift_order None ps h = record { value = None; spelled = nothing_left ps h; same = refl }
lift_order (Some o) ps h =
    let word = headed (of_keyword keyword.Order) _ ps refl h in
    let by = headed (of_keyword keyword.By) _ word.tail refl word.rest in
    let two = split (spell_col (bare_col o.key)) (spell_way false o.down) by.tail by.rest in
    let one = lift_col o.key two.front two.first in
    let all = two.whole ∙ append_both two.front two.back (spell_col one.value) (spell_way false o.down) one.spelled (way_placeless o.down two.back two.rest) in
    record {
      value = Some (record { key = one.value; down = o.down });
      spelled = word.whole ∙ ap (λ x. of_keyword keyword.Order ∷ x) (by.whole ∙ ap (λ x. of_keyword keyword.By ∷ x) all);
      same = made_order one.value o.key o.down one.same;
    }

lift_limit : (l : Option ℤ) (ps : Symbols) → map bare_symbol ps ≡ spell_limit l → ps ≡ spell_limit l
lift_limit None ps h = nothing_left ps h
lift_limit (Some n) ps h =
    let word = headed (of_keyword keyword.Limit) (Number n ∷ []) ps refl h in
    word.whole ∙ ap (λ x. of_keyword keyword.Limit ∷ x) (last_symbol (Number n) word.tail refl word.rest)

-- ---- a query

made_query : (i j : Selection) (f g : TableRef) (s t : Option TableRef) (c d : Option Cond) (k l : List Col) (o p : Option OrderBy) (n : Option ℤ) →
    i ≡ j → f ≡ g → s ≡ t → c ≡ d → k ≡ l → o ≡ p → ◌≡◌ {A = Query}
    (record { items = i; first = f; second = s; cond = c; group = k; order = o; limit = n })
    (record { items = j; first = g; second = t; cond = d; group = l; order = p; limit = n })
made_query i j f g s t c d k l o p n e1 e2 e3 e4 e5 e6 = rw (e1, e2, e3, e4, e5, e6) refl

-- The symbols are the query, at other places.
pub record LiftedQuery (star : Span) (q : Query) (ps : Symbols) : Type 0 where
  pub value : Query
  pub spelled : ps ≡ spell_query plainly value
  pub same : bare value ≡ bare q
  pub stands : StarAt star value.items
  pub columns : map bare_col value.group ≡ map bare_col q.group

-- every query
pub lift_query : (star : Span) (q : Query) (ps : Symbols) → map bare_symbol ps ≡ spell_query plainly (bare q) → LiftedQuery star q ps
unfolding bare spell_query
lift_query star q ps h =
    let select = headed (of_keyword keyword.Select) _ ps refl h in
    let a = split (spell_items (bare_items q.items)) _ select.tail select.rest in
    let items = lift_items star q.items a.front a.first in
    let from = headed (of_keyword keyword.From) _ a.back refl a.rest in
    let b = split (spell_table false (bare_table q.first)) _ from.tail from.rest in
    let first = lift_table q.first b.front b.first in
    let c = split (spell_second false (option_map bare_table q.second)) _ b.back b.rest in
    let second = lift_second q.second c.front c.first in
    let d = split (spell_where (option_map bare_cond q.cond)) _ c.back c.rest in
    let cond' = lift_where q.cond d.front d.first in
    let e = split (spell_group (map bare_col q.group)) _ d.back d.rest in
    let group' = lift_group q.group e.front e.first in
    let f = split (spell_order false (option_map bare_order q.order)) _ e.back e.rest in
    let order' = lift_order q.order f.front f.first in
    let g = split (spell_limit q.limit) [] f.back f.rest in
    let limit' : f.back ≡ spell_limit q.limit ++ [] = g.whole ∙ append_both g.front g.back (spell_limit q.limit) [] (lift_limit q.limit g.front g.first) (nothing_left g.back g.rest) in
    let from_order : e.back ≡ spell_order false order'.value ++ (spell_limit q.limit ++ []) = f.whole ∙ append_both f.front f.back (spell_order false order'.value) (spell_limit q.limit ++ []) order'.spelled limit' in
    let from_group : d.back ≡ spell_group group'.value ++ (spell_order false order'.value ++ (spell_limit q.limit ++ [])) = e.whole ∙ append_both e.front e.back (spell_group group'.value) _ group'.spelled from_order in
    let from_where : c.back ≡ spell_where cond'.value ++ (spell_group group'.value ++ (spell_order false order'.value ++ (spell_limit q.limit ++ []))) = d.whole ∙ append_both d.front d.back (spell_where cond'.value) _ cond'.spelled from_group in
    let from_second : b.back ≡ spell_second false second.value ++ (spell_where cond'.value ++ (spell_group group'.value ++ (spell_order false order'.value ++ (spell_limit q.limit ++ [])))) = c.whole ∙ append_both c.front c.back (spell_second false second.value) _ second.spelled from_where in
    let from_first = b.whole ∙ append_both b.front b.back (spell_table false first.value) _ first.spelled from_second in
    let from_items = a.whole ∙ append_both a.front a.back (spell_items items.value) _ items.spelled (from.whole ∙ ap (λ x. of_keyword keyword.From ∷ x) from_first) in
    record {
      value = record { items = items.value; first = first.value; second = second.value; cond = cond'.value; group = group'.value; order = order'.value; limit = q.limit };
      spelled = select.whole ∙ ap (λ x. of_keyword keyword.Select ∷ x) from_items;
      same = made_query (bare_items items.value) (bare_items q.items) (bare_table first.value) (bare_table q.first) (option_map bare_table second.value) (option_map bare_table q.second)
          (option_map bare_cond cond'.value) (option_map bare_cond q.cond) (map bare_col group'.value) (map bare_col q.group) (option_map bare_order order'.value) (option_map bare_order q.order) q.limit
          items.same first.same second.same cond'.same group'.same order'.same;
      stands = items.stands;
      columns = group'.same;
    }
