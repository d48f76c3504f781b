-- What is read of a query is spelled by the tokens that it takes.
use Rattle.std.proofs.Common.{◌≡◌, ℕ, suc, zero, ◌≤◌, List, [], ◌∷◌, ◌++◌, refl, ap, ◌∙◌, subst, Bool, true, false}
use Rattle.std.proofs.Common.{Option, None, Some, arith, length}
use Rattle.std.specs.List.{flat_map}
use Rattle.sql_token.specs.declared.keyword.Keyword.{Keyword}
use Rattle.sql_token.specs.declared.token.Span.{Span}
use Rattle.sql_tree.specs.declared.expr.Expr.{Expr}
use Rattle.sql_tree.specs.declared.name.Col.{Col}
use Rattle.sql_tree.specs.declared.query.ItemKind.{ItemKind}
use Rattle.sql_tree.specs.declared.query.OrderBy.{OrderBy}
use Rattle.sql_tree.specs.declared.query.Query.{Query}
use Rattle.sql_tree.specs.declared.query.Selection.{Selection}
use Rattle.sql_rules.proofs.Found.{Takes, ends, col_takes, each_takes, expr_takes, TakesAfter, cond_takes}
use Rattle.sql_rules.proofs.Opened.{flat_map-map}
use Rattle.sql_rules.proofs.Tokens.{bind_got, either_got, takes_both, mark_takes, name_takes, number_takes}
use Rattle.sql_rules.proofs.Tokens.{maybe_takes, many_takes}
use Rattle.sql_rules.specs.Symbols.{of_keyword, of_sign, Symbol, OfKeyword, OfSign, Named}
use Rattle.sql_rules.specs.Queries.{spell_call, spell_kind, spell_as, spell_item, spell_items, spell_alias}
use Rattle.sql_rules.specs.Queries.{spell_table, spell_second, spell_where, spell_group, spell_way, spell_order}
use Rattle.sql_rules.specs.Queries.{spell_limit}
use Rattle.sql_rules.specs.ReadConds.{cond_at}
use Rattle.sql_rules.specs.ReadExprs.{col_at, expr_at}
use Rattle.sql_rules.specs.ReadQueries.{argument_at, counted_at, call_at, plain_at, high_at, kind_at, as_at, item_at}
use Rattle.sql_rules.specs.ReadQueries.{item_list_at, items_at, alias_at, table_at, second_at, where_at, cols_at}
use Rattle.sql_rules.specs.ReadQueries.{group_at, way_at, sorted_at, order_at, limit_at}
use Rattle.sql_rules.specs.Readers.{Reader, ◌>>=◌, mark_at, name_at, number_at, maybe_at, many, each, Answer, Got}
use Rattle.sql_rules.specs.Spelling.{Symbols, spell_col, spell_expr}
use Rattle.sql_rules.specs.Trees.{from_at, front_at, query_at, Front}
use Rattle.sql_token.specs.declared.keyword.Keyword.TheVariants as keyword
use Rattle.sql_token.specs.declared.sign.Sign.TheVariants as sign
use Rattle.sql_tree.specs.declared.query.ItemKind.TheVariants as what
use Rattle.sql_tree.specs.declared.query.Selection.TheVariants as selection

-- ---- items

argument_takes : (word : Keyword) (make : Expr → ItemKind) → ((e : Expr) → spell_kind (make e) ≡ spell_call word e) →
    TakesAfter (of_keyword word ∷ of_sign sign.Open ∷ []) spell_kind (argument_at make)
unfolding argument_at
argument_takes word make made ts x rest e =
    bind_got (expr_at 33 ts) _ x rest e (λ y us is e1.
    bind_got (mark_at (OfSign sign.Close) us) _ x rest e1 (λ m r close e2.
    ends spell_kind _ x _ r rest _ e2 (made y)
    (ap (λ t. of_keyword word ∷ of_sign sign.Open ∷ t) (takes_both ts (spell_expr y) us (of_sign sign.Close ∷ []) r (expr_takes 33 ts y us is) (mark_takes (OfSign sign.Close) us m r close)))))

counted_takes : TakesAfter (of_keyword keyword.Count ∷ of_sign sign.Open ∷ []) spell_kind counted_at
unfolding counted_at
counted_takes ts x rest e =
    either_got (mark_at (OfSign sign.Star) ts) _ _ x rest e
    (λ m us star e1. bind_got (mark_at (OfSign sign.Close) us) _ x rest e1 (λ k r close e2.
    ends spell_kind what.Count x _ r rest _ e2 refl
    (ap (λ t. of_keyword keyword.Count ∷ of_sign sign.Open ∷ t) (mark_takes (OfSign sign.Star) ts m us star ∙ ap (λ t. of_sign sign.Star ∷ t) (mark_takes (OfSign sign.Close) us k r close)))))
    (λ none e1. argument_takes keyword.Count what.CountOf (λ y. refl) ts x rest e1)

-- a call, or what stands there else
call_takes : (word : Keyword) (inner : Reader ItemKind) (other : Answer ItemKind) → TakesAfter (of_keyword word ∷ of_sign sign.Open ∷ []) spell_kind inner →
    (ts : List Symbol) (x : ItemKind) (rest : List Symbol) → (other ≡ Got x rest → ts ≡ spell_kind x ++ rest) → call_at word inner other ts ≡ Got x rest → ts ≡ spell_kind x ++ rest
call_takes word inner other h ts x rest or_else e =
    either_got (mark_at (OfKeyword word) ts) _ _ x rest e
    (λ m us led e1. bind_got (mark_at (OfSign sign.Open) us) _ x rest e1 (λ k vs open' e2.
    mark_takes (OfKeyword word) ts m us led ∙ ap (λ t. of_keyword word ∷ t) (mark_takes (OfSign sign.Open) us k vs open') ∙ h vs x rest e2))
    (λ none e1. or_else e1)

plain_takes : Takes spell_kind plain_at
unfolding plain_at
plain_takes ts x rest e =
    bind_got (expr_at 33 ts) _ x rest e (λ y r is e1. ends spell_kind (what.Plain y) x _ r rest ts e1 refl (expr_takes 33 ts y r is))

high_takes : Takes spell_kind high_at
unfolding high_at
high_takes ts x rest e =
    call_takes keyword.Max (argument_at what.Max) _ (argument_takes keyword.Max what.Max (λ y. refl)) ts x rest
    (λ e1. call_takes keyword.Avg (argument_at what.Avg) _ (argument_takes keyword.Avg what.Avg (λ y. refl)) ts x rest
    (λ e2. plain_takes ts x rest e2) e1) e

kind_takes : Takes spell_kind kind_at
unfolding kind_at
kind_takes ts x rest e =
    call_takes keyword.Count counted_at _ counted_takes ts x rest
    (λ e1. call_takes keyword.Sum (argument_at what.Sum) _ (argument_takes keyword.Sum what.Sum (λ y. refl)) ts x rest
    (λ e2. call_takes keyword.Min (argument_at what.Min) _ (argument_takes keyword.Min what.Min (λ y. refl)) ts x rest
    (λ e3. high_takes ts x rest e3) e2) e1) e

as_takes : Takes spell_as as_at
unfolding as_at
as_takes ts x rest e =
    either_got (mark_at (OfKeyword keyword.As) ts) _ _ x rest e
    (λ m us led e1. bind_got (name_at us) _ x rest e1 (λ a r is e2.
    ends spell_as (Some a) x _ r rest ts e2 refl (mark_takes (OfKeyword keyword.As) ts m us led ∙ ap (λ t. of_keyword keyword.As ∷ t) (name_takes us a r is))))
    (λ none e1. ends spell_as None x _ ts rest ts e1 refl refl)

item_takes : Takes spell_item item_at
unfolding item_at
item_takes ts x rest e =
    bind_got (kind_at ts) _ x rest e (λ k us is e1.
    bind_got (as_at us) _ x rest e1 (λ a r named e2.
    ends spell_item (record { what = k; alias = a }) x _ r rest ts e2 refl
    (takes_both ts (spell_kind k) us (spell_as a) r (kind_takes ts k us is) (as_takes us a r named))))

list_takes : Takes spell_items item_list_at
unfolding item_list_at
list_takes ts x rest e =
    bind_got (item_at ts) _ x rest e (λ i us is e1.
    bind_got (each (mark_at (OfSign sign.Comma)) (λ _. item_at) us) _ x rest e1 (λ more r led e2.
    let all = flat_map-map (λ t. of_sign sign.Comma ∷ t) spell_item more in
    ends spell_items (selection.List (record { first = i; rest = more })) x _ r rest ts e2 refl
    (rw all (takes_both ts (spell_item i) us (flat_map (λ t. of_sign sign.Comma ∷ spell_item t) more) r (item_takes ts i us is) (each_takes (OfSign sign.Comma) item_at spell_item item_takes us more r led)))))

-- a star stands where it would
abbrev pub StarAt : Span → Selection → Type 0
StarAt star (selection.Star span) = span ≡ star
StarAt star (selection.List l) = Unit {0}

-- What is read of the items, and of a star its place.
record ItemsTaken (place : Span) (ts : List Symbol) (x : Selection) (rest : List Symbol) : Type 0 where
  text : ts ≡ spell_items x ++ rest
  star : StarAt place x

star_of_list : (star : Span) (ts : List Symbol) (x : Selection) (rest : List Symbol) → item_list_at ts ≡ Got x rest → StarAt star x
unfolding item_list_at
star_of_list star ts x rest e =
    bind_got (item_at ts) _ x rest e (λ i us is e1.
    bind_got (each (mark_at (OfSign sign.Comma)) (λ _. item_at) us) _ x rest e1 (λ more r led e2.
    let same : selection.List (record { first = i; rest = more }) ≡ x = cc in rw (← same) tt))

items_takes : (star : Span) (ts : List Symbol) (x : Selection) (rest : List Symbol) → items_at star ts ≡ Got x rest → ItemsTaken star ts x rest
unfolding items_at
items_takes star ts x rest e =
    either_got (mark_at (OfSign sign.Star) ts) _ _ x rest e
    (λ m r led e1.
    let same : selection.Star star ≡ x = cc in
    record { text = ends spell_items (selection.Star star) x _ r rest ts e1 refl (mark_takes (OfSign sign.Star) ts m r led); star = rw (← same) refl })
    (λ none e1. record { text = list_takes ts x rest e1; star = star_of_list star ts x rest e1 })

-- ---- tables

-- what is read, where a word may stand or not
abbrev Chooses : {A : Type 0} → (Bool → A → Symbols) → Reader A → Type 0
Chooses {A} spell read = (ts : List Symbol) (x : A) (rest : List Symbol) → read ts ≡ Got x rest → (b : Bool) × (ts ≡ spell b x ++ rest)

chosen : {A : Type 0} (spell : Bool → A → Symbols) (b : Bool) (v x : A) (r rest ts : List Symbol) → Got v r ≡ Got x rest → ts ≡ spell b v ++ r → (c : Bool) × (ts ≡ spell c x ++ rest)
chosen spell b v x r rest ts e h = let a : v ≡ x = cc in let d : r ≡ rest = cc in (b, rw (← a, ← d) h)

alias_takes : Chooses spell_alias alias_at
unfolding alias_at
alias_takes ts x rest e =
    either_got (mark_at (OfKeyword keyword.As) ts) _ _ x rest e
    (λ m us led e1. bind_got (name_at us) _ x rest e1 (λ a r is e2. chosen spell_alias true (Some a) x r rest ts e2 (mark_takes (OfKeyword keyword.As) ts m us led ∙ ap (λ t. of_keyword keyword.As ∷ t) (name_takes us a r is))))
    (λ none e1. either_got (name_at ts) _ _ x rest e1
    (λ a r is e2. chosen spell_alias false (Some a) x r rest ts e2 (name_takes ts a r is))
    (λ none2 e2. chosen spell_alias false None x ts rest ts e2 refl))

table_takes : Chooses spell_table table_at
unfolding table_at
table_takes ts x rest e =
    bind_got (name_at ts) _ x rest e (λ n us is e1.
    bind_got (alias_at us) _ x rest e1 (λ a r named e2.
    let w = alias_takes us a r named in
    chosen spell_table w.0 (record { name = n; alias = a }) x r rest ts e2 (name_takes ts n us is ∙ ap (λ t. Named n ∷ t) w.1)))

second_takes : Chooses spell_second second_at
unfolding second_at
second_takes ts x rest e =
    either_got (mark_at (OfSign sign.Comma) ts) _ _ x rest e
    (λ m us led e1. bind_got (table_at us) _ x rest e1 (λ t r is e2.
    let w = table_takes us t r is in
    chosen spell_second w.0 (Some t) x r rest ts e2 (mark_takes (OfSign sign.Comma) ts m us led ∙ ap (λ q. of_sign sign.Comma ∷ q) w.1)))
    (λ none e1. chosen spell_second true None x ts rest ts e1 refl)

-- ---- the parts behind the tables

where_takes : Takes spell_where where_at
unfolding where_at
where_takes ts x rest e =
    either_got (mark_at (OfKeyword keyword.Where) ts) _ _ x rest e
    (λ m us led e1. bind_got (cond_at 33 us) _ x rest e1 (λ c r is e2. ends spell_where (Some c) x _ r rest ts e2 refl (mark_takes (OfKeyword keyword.Where) ts m us led ∙ ap (λ t. of_keyword keyword.Where ∷ t) (cond_takes 33 us c r is))))
    (λ none e1. ends spell_where None x _ ts rest ts e1 refl refl)

-- no more are read than may be
many_few : {S A : Type 0} (lead : Reader S) (item : S → Reader A) (n : ℕ) (ts : List Symbol) (xs : List A) (rest : List Symbol) → many lead item n ts ≡ Got xs rest → length xs ≤ n
unfolding many
many_few {S} {A} lead item zero ts xs rest e = let none : ◌≡◌ {A = List A} [] xs = cc in rw (← none) (omega arith)
many_few {S} {A} lead item (suc n) ts xs rest e =
    either_got (lead ts) (λ s us. item s us >>= λ x vs. many lead item n vs >>= λ ys r. Got (x ∷ ys) r) (Got [] ts) xs rest e
    (λ s us led e1. bind_got (item s us) (λ x vs. many lead item n vs >>= λ ys r. Got (x ∷ ys) r) xs rest e1
    (λ x vs is e2. bind_got (many lead item n vs) (λ ys r. Got (x ∷ ys) r) xs rest e2
    (λ ys r more e3. let few = many_few lead item n vs ys r more in let whole : x ∷ ys ≡ xs = cc in rw (← whole) (omega arith))))
    (λ stuck e1. let none : ◌≡◌ {A = List A} [] xs = cc in rw (← none) (omega arith))

-- What is read of the columns of a grouping: they are few.
record GroupTaken (ts : List Symbol) (x : List Col) (rest : List Symbol) : Type 0 where
  text : ts ≡ spell_group x ++ rest
  few : length x ≤ 4

cols_take : (us : List Symbol) (x : List Col) (rest : List Symbol) → cols_at us ≡ Got x rest → GroupTaken (of_keyword keyword.Group ∷ of_keyword keyword.By ∷ us) x rest
unfolding cols_at
cols_take us x rest e =
    bind_got (col_at us) _ x rest e (λ c vs is e1.
    bind_got (many (mark_at (OfSign sign.Comma)) (λ _. col_at) 3 vs) _ x rest e1 (λ cs r more e2.
    let all = flat_map-map (λ t. of_sign sign.Comma ∷ t) spell_col cs in
    let led = many_takes (mark_at (OfSign sign.Comma)) (λ _. col_at) (λ y. of_sign sign.Comma ∷ spell_col y) (λ ts' k ws a r' led is'. mark_takes (OfSign sign.Comma) ts' k ws led ∙ ap (λ t. of_sign sign.Comma ∷ t) (col_takes ws a r' is')) 3 vs cs r more in
    let few = many_few (mark_at (OfSign sign.Comma)) (λ _. col_at) 3 vs cs r more in
    let whole : ◌≡◌ {A = List Col} (c ∷ cs) x = cc in
    record {
      text = ends spell_group (c ∷ cs) x _ r rest _ e2 refl (rw all (ap (λ t. of_keyword keyword.Group ∷ of_keyword keyword.By ∷ t) (takes_both us (spell_col c) vs (flat_map (λ t. of_sign sign.Comma ∷ spell_col t) cs) r (col_takes us c vs is) led)));
      few = rw (← whole) (omega arith);
    }))

group_takes : (ts : List Symbol) (x : List Col) (rest : List Symbol) → group_at ts ≡ Got x rest → GroupTaken ts x rest
unfolding group_at
group_takes ts x rest e =
    either_got (mark_at (OfKeyword keyword.Group) ts) _ _ x rest e
    (λ m us led e1. bind_got (mark_at (OfKeyword keyword.By) us) _ x rest e1 (λ k vs by e2.
    let g = cols_take vs x rest e2 in
    record { text = mark_takes (OfKeyword keyword.Group) ts m us led ∙ ap (λ t. of_keyword keyword.Group ∷ t) (mark_takes (OfKeyword keyword.By) us k vs by) ∙ g.text; few = g.few }))
    (λ none e1. let nil : ◌≡◌ {A = List Col} [] x = cc in record { text = ends spell_group [] x _ ts rest ts e1 refl refl; few = rw (← nil) (omega arith) })

way_takes : Chooses spell_way way_at
unfolding way_at
way_takes ts x rest e =
    either_got (mark_at (OfKeyword keyword.Desc) ts) _ _ x rest e
    (λ m r led e1. chosen spell_way true true x r rest ts e1 (mark_takes (OfKeyword keyword.Desc) ts m r led))
    (λ none e1. chosen spell_way (maybe_at (OfKeyword keyword.Asc) ts).0 false x (maybe_at (OfKeyword keyword.Asc) ts).1 rest ts e1 (maybe_takes (OfKeyword keyword.Asc) ts))

sorted_takes : (ts : List Symbol) (x : Option OrderBy) (rest : List Symbol) → sorted_at ts ≡ Got x rest → (b : Bool) × (of_keyword keyword.Order ∷ of_keyword keyword.By ∷ ts ≡ spell_order b x ++ rest)
unfolding sorted_at
sorted_takes ts x rest e =
    bind_got (col_at ts) _ x rest e (λ c us is e1.
    bind_got (way_at us) _ x rest e1 (λ down r way e2.
    let w = way_takes us down r way in
    chosen spell_order w.0 (Some (record { key = c; down = down })) x r rest _ e2
    (ap (λ t. of_keyword keyword.Order ∷ of_keyword keyword.By ∷ t) (takes_both ts (spell_col c) us (spell_way w.0 down) r (col_takes ts c us is) w.1))))

order_takes : Chooses spell_order order_at
unfolding order_at
order_takes ts x rest e =
    either_got (mark_at (OfKeyword keyword.Order) ts) _ _ x rest e
    (λ m us led e1. bind_got (mark_at (OfKeyword keyword.By) us) _ x rest e1 (λ k vs by e2.
    let w = sorted_takes vs x rest e2 in
    (w.0, mark_takes (OfKeyword keyword.Order) ts m us led ∙ ap (λ t. of_keyword keyword.Order ∷ t) (mark_takes (OfKeyword keyword.By) us k vs by) ∙ w.1)))
    (λ none e1. chosen spell_order true None x ts rest ts e1 refl)

limit_takes : Takes spell_limit limit_at
unfolding limit_at
limit_takes ts x rest e =
    either_got (mark_at (OfKeyword keyword.Limit) ts) _ _ x rest e
    (λ m us led e1. bind_got (number_at us) _ x rest e1 (λ n r is e2. ends spell_limit (Some n) x _ r rest ts e2 refl (mark_takes (OfKeyword keyword.Limit) ts m us led ∙ ap (λ t. of_keyword keyword.Limit ∷ t) (number_takes us n r is))))
    (λ none e1. ends spell_limit None x _ ts rest ts e1 refl refl)

-- ---- a query

-- What is read before WHERE.
record FrontTaken (place : Span) (ts : List Symbol) (x : Front) (rest : List Symbol) : Type 0 where
  first_as : Bool
  second_as : Bool
  text : ts ≡ of_keyword keyword.Select ∷ (spell_items x.items ++ (of_keyword keyword.From ∷ (spell_table first_as x.first ++ (spell_second second_as x.second ++ rest))))
  star : StarAt place x.items

from_takes : (items : Selection) (ts : List Symbol) (x : Front) (rest : List Symbol) → from_at items ts ≡ Got x rest →
    (a : Bool) × (b : Bool) × (items ≡ x.items) × (ts ≡ of_keyword keyword.From ∷ (spell_table a x.first ++ (spell_second b x.second ++ rest)))
unfolding from_at
from_takes items ts x rest e =
    bind_got (mark_at (OfKeyword keyword.From) ts) _ x rest e (λ m us from e1.
    bind_got (table_at us) _ x rest e1 (λ t vs is e2.
    bind_got (second_at vs) _ x rest e2 (λ s r is2 e3.
    let a = table_takes us t vs is in
    let b = second_takes vs s r is2 in
    let same : ◌≡◌ {A = Front} (record { items = items; first = t; second = s }) x = cc in
    let last : r ≡ rest = cc in
    rw (← same, ← last) (a.0, b.0, refl, mark_takes (OfKeyword keyword.From) ts m us from ∙ ap (λ q. of_keyword keyword.From ∷ q) (a.1 ∙ ap (λ q. spell_table a.0 t ++ q) b.1)))))

front_takes : (star : Span) (ts : List Symbol) (x : Front) (rest : List Symbol) → front_at star ts ≡ Got x rest → FrontTaken star ts x rest
unfolding front_at
front_takes star ts x rest e =
    bind_got (mark_at (OfKeyword keyword.Select) ts) _ x rest e (λ m us select e1.
    bind_got (items_at star us) _ x rest e1 (λ items vs is e2.
    let i = items_takes star us items vs is in
    let f = from_takes items vs x rest e2 in
    record {
      first_as = f.0;
      second_as = f.1;
      text = mark_takes (OfKeyword keyword.Select) ts m us select ∙ ap (λ q. of_keyword keyword.Select ∷ q) (i.text ∙ ap (λ q. spell_items items ++ q) f.3 ∙ ap (λ y. spell_items y ++ (of_keyword keyword.From ∷ (spell_table f.0 x.first ++ (spell_second f.1 x.second ++ rest)))) f.2);
      star = subst (StarAt star) f.2 i.star;
    }))

-- What is read as a query.
pub record QueryTaken (place : Span) (ts : List Symbol) (q : Query) (rest : List Symbol) : Type 0 where
  pub first_as : Bool
  pub second_as : Bool
  pub asc : Bool
  pub text : ts ≡ of_keyword keyword.Select ∷ (spell_items q.items ++ (of_keyword keyword.From ∷ (spell_table first_as q.first ++ (spell_second second_as q.second ++ (spell_where q.cond ++ (spell_group q.group ++ (spell_order asc q.order ++ (spell_limit q.limit ++ rest))))))))
  pub few : length q.group ≤ 4
  pub star : StarAt place q.items

pub query_takes : (star : Span) (ts : List Symbol) (q : Query) (rest : List Symbol) → query_at star ts ≡ Got q rest → QueryTaken star ts q rest
unfolding query_at
query_takes star ts q rest e =
    bind_got (front_at star ts) _ q rest e (λ f us is e1.
    bind_got (where_at us) _ q rest e1 (λ c vs cond' e2.
    bind_got (group_at vs) _ q rest e2 (λ g ws group e3.
    bind_got (order_at ws) _ q rest e3 (λ o xs order e4.
    bind_got (limit_at xs) _ q rest e4 (λ l r limit e5.
    let front = front_takes star ts f us is in
    let y = where_takes us c vs cond' in
    let z = group_takes vs g ws group in
    let w = order_takes ws o xs order in
    let v = limit_takes xs l r limit in
    let tree : Query = record { items = f.items; first = f.first; second = f.second; cond = c; group = g; order = o; limit = l } in
    let same : tree ≡ q = cc in
    let last : r ≡ rest = cc in
    let tail : us ≡ spell_where c ++ (spell_group g ++ (spell_order w.0 o ++ (spell_limit l ++ r))) =
    y ∙ ap (λ t. spell_where c ++ t) (z.text ∙ ap (λ t. spell_group g ++ t) (w.1 ∙ ap (λ t. spell_order w.0 o ++ t) v)) in
    rw (← same, ← last) (record {
      first_as = front.first_as;
      second_as = front.second_as;
      asc = w.0;
      text = front.text ∙ ap (λ t. of_keyword keyword.Select ∷ (spell_items f.items ++ (of_keyword keyword.From ∷ (spell_table front.first_as f.first ++ (spell_second front.second_as f.second ++ t))))) tail;
      few = z.few;
      star = front.star;
    }))))))
