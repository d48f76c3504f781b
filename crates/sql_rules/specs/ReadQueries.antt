-- Parsers of a query: one function for each rule of the grammar.
use Rattle.std.specs.Prelude.{◌-◌, Bool, true, false, List, [], ◌∷◌, Option, None, Some, ℤ}
use Rattle.sql_token.specs.declared.keyword.Keyword.{Keyword}
use Rattle.sql_token.specs.declared.keyword.Keyword.TheVariants as keyword
use Rattle.sql_token.specs.declared.sign.Sign.TheVariants as sign
use Rattle.sql_token.specs.declared.token.Span.{Span}
use Rattle.sql_tree.specs.declared.cond.Cond.{Cond}
use Rattle.sql_tree.specs.declared.expr.Expr.{Expr}
use Rattle.sql_tree.specs.declared.name.Col.{Col}
use Rattle.sql_tree.specs.declared.name.Name.{Name}
use Rattle.sql_tree.specs.declared.query.Item.{Item}
use Rattle.sql_tree.specs.declared.query.ItemKind.{ItemKind}
use Rattle.sql_tree.specs.declared.query.ItemKind.TheVariants as what
use Rattle.sql_tree.specs.declared.query.OrderBy.{OrderBy}
use Rattle.sql_tree.specs.declared.query.Selection.{Selection}
use Rattle.sql_tree.specs.declared.query.Selection.TheVariants as selection
use Rattle.sql_tree.specs.declared.query.TableRef.{TableRef}
use Rattle.sql_rules.specs.declared.limits.TheConstants.{GROUP_COLUMNS_MOST, LEVELS_MOST}
use Rattle.sql_rules.specs.Symbols.{OfKeyword, OfSign}
use Rattle.sql_rules.specs.Readers.{Reader, Answer, Got, ◌>>=◌, either, mark_at, name_at, number_at, maybe_at}
use Rattle.sql_rules.specs.Readers.{many, each}
use Rattle.sql_rules.specs.ReadExprs.{expr_at, col_at}
use Rattle.sql_rules.specs.ReadConds.{cond_at}

-- expr )
unfoldable pub argument_at : (Expr → ItemKind) → Reader ItemKind
argument_at make ts =
    expr_at LEVELS_MOST ts >>= λ e us. mark_at (OfSign sign.Close) us >>= λ _ rest. Got (make e) rest

-- after COUNT ( : * ) | expr )
unfoldable pub counted_at : Reader ItemKind
counted_at ts =
    either (mark_at (OfSign sign.Star) ts) (λ _ us. mark_at (OfSign sign.Close) us >>= λ _ rest. Got what.Count rest)
    (argument_at what.CountOf ts)

-- the function's name, a bracket and what follows it; if the name does not begin there, the alternative
abbrev pub call_at : Keyword → Reader ItemKind → Answer ItemKind → Reader ItemKind
call_at word inner other ts =
    either (mark_at (OfKeyword word) ts) (λ _ us. mark_at (OfSign sign.Open) us >>= λ _ vs. inner vs) other

-- an expression, as an item
unfoldable pub plain_at : Reader ItemKind
plain_at ts = expr_at LEVELS_MOST ts >>= λ e rest. Got (what.Plain e) rest

-- expr | MAX ( expr ) | AVG ( expr )
unfoldable pub high_at : Reader ItemKind
high_at ts =
    call_at keyword.Max (argument_at what.Max) (call_at keyword.Avg (argument_at what.Avg) (plain_at ts) ts) ts

-- expr | agg
unfoldable pub kind_at : Reader ItemKind
kind_at ts =
    call_at keyword.Count counted_at
    (call_at keyword.Sum (argument_at what.Sum) (call_at keyword.Min (argument_at what.Min) (high_at ts) ts) ts) ts

-- [AS name]
unfoldable pub as_at : Reader (Option Name)
as_at ts =
    either (mark_at (OfKeyword keyword.As) ts) (λ _ us. name_at us >>= λ a rest. Got (Some a) rest) (Got None ts)

-- item = (expr | agg) [AS name]
unfoldable pub item_at : Reader Item
item_at ts = kind_at ts >>= λ k us. as_at us >>= λ a rest. Got (record { what = k; alias = a }) rest

-- item {, item}
unfoldable pub item_list_at : Reader Selection
item_list_at ts =
    item_at ts >>= λ i us.
    each (mark_at (OfSign sign.Comma)) (λ _. item_at) us >>= λ is rest.
    Got (selection.List (record { first = i; rest = is })) rest

-- items = * | item {, item}; a star has the span `star`
unfoldable pub items_at : Span → Reader Selection
items_at star ts =
    either (mark_at (OfSign sign.Star) ts) (λ _ rest. Got (selection.Star star) rest) (item_list_at ts)

-- [[AS] name]
unfoldable pub alias_at : Reader (Option Name)
alias_at ts =
    either (mark_at (OfKeyword keyword.As) ts) (λ _ us. name_at us >>= λ a rest. Got (Some a) rest)
    (either (name_at ts) (λ a rest. Got (Some a) rest) (Got None ts))

-- table = name [[AS] name]
unfoldable pub table_at : Reader TableRef
table_at ts = name_at ts >>= λ n us. alias_at us >>= λ a rest. Got (record { name = n; alias = a }) rest

-- [, table]
unfoldable pub second_at : Reader (Option TableRef)
second_at ts =
    either (mark_at (OfSign sign.Comma) ts) (λ _ us. table_at us >>= λ t rest. Got (Some t) rest) (Got None ts)

-- [WHERE cond]
unfoldable pub where_at : Reader (Option Cond)
where_at ts =
    either (mark_at (OfKeyword keyword.Where) ts) (λ _ us. cond_at LEVELS_MOST us >>= λ c rest. Got (Some c) rest) (Got None ts)

-- col [, col] [, col] [, col]
unfoldable pub cols_at : Reader (List Col)
cols_at ts =
    col_at ts >>= λ c us.
    many (mark_at (OfSign sign.Comma)) (λ _. col_at) (GROUP_COLUMNS_MOST - 1) us >>= λ cs rest.
    Got (c ∷ cs) rest

-- [GROUP BY col [, col] [, col] [, col]]
unfoldable pub group_at : Reader (List Col)
group_at ts =
    either (mark_at (OfKeyword keyword.Group) ts)
    (λ _ us. mark_at (OfKeyword keyword.By) us >>= λ _ vs. cols_at vs) (Got [] ts)

-- [ASC | DESC]: whether it is descending
unfoldable pub way_at : Reader Bool
way_at ts =
    either (mark_at (OfKeyword keyword.Desc) ts) (λ _ rest. Got true rest)
    (Got false (maybe_at (OfKeyword keyword.Asc) ts).1)

-- col [ASC | DESC]
unfoldable pub sorted_at : Reader (Option OrderBy)
sorted_at ts =
    col_at ts >>= λ c us. way_at us >>= λ down rest. Got (Some (record { key = c; down = down })) rest

-- [ORDER BY col [ASC | DESC]]
unfoldable pub order_at : Reader (Option OrderBy)
order_at ts =
    either (mark_at (OfKeyword keyword.Order) ts)
    (λ _ us. mark_at (OfKeyword keyword.By) us >>= λ _ vs. sorted_at vs) (Got None ts)

-- [LIMIT int]
unfoldable pub limit_at : Reader (Option ℤ)
limit_at ts =
    either (mark_at (OfKeyword keyword.Limit) ts) (λ _ us. number_at us >>= λ n rest. Got (Some n) rest) (Got None ts)
