-- The symbols that spell a query.
use Rattle.std.specs.Prelude.{◌≡◌, ⊤, ℕ, ◌≤◌, ℤ, Bool, true, false, List, [], ◌∷◌, ◌++◌, length, map}
use Rattle.std.specs.Prelude.{Option, None, Some}
use Rattle.sql_token.specs.declared.keyword.Keyword.{Keyword}
use Rattle.sql_token.specs.declared.keyword.Keyword.TheVariants as keyword
use Rattle.sql_token.specs.declared.sign.Sign.TheVariants as sign
use Rattle.sql_token.specs.declared.token.Span.{Span}
use Rattle.sql_token.specs.declared.token.Token.{Token}
use Rattle.sql_tree.specs.declared.cond.Cond.{Cond}
use Rattle.sql_tree.specs.declared.expr.Expr.{Expr}
use Rattle.sql_tree.specs.declared.name.Col.{Col}
use Rattle.sql_tree.specs.declared.name.Name.{Name}
use Rattle.sql_tree.specs.declared.query.Item.{Item}
use Rattle.sql_tree.specs.declared.query.ItemKind.{ItemKind}
use Rattle.sql_tree.specs.declared.query.ItemKind.TheVariants as what
use Rattle.sql_tree.specs.declared.query.OrderBy.{OrderBy}
use Rattle.sql_tree.specs.declared.query.Query.{Query}
use Rattle.sql_tree.specs.declared.query.Selection.{Selection}
use Rattle.sql_tree.specs.declared.query.Selection.TheVariants as selection
use Rattle.sql_tree.specs.declared.query.TableRef.{TableRef}
use Rattle.sql_rules.specs.declared.limits.TheConstants.{GROUP_COLUMNS_MOST}
use Rattle.sql_rules.specs.Symbols.{Named, Number, of_keyword, of_sign, symbols}
use Rattle.sql_rules.specs.Spelling.{Symbols, optional, led_by, bracketed, spell_col, spell_expr}
use Rattle.sql_rules.specs.SpellingConds.{spell_cond}

-- Which of the optional words that the tree does not determine are written.
pub record FreeWords : Type 0 where
  pub first_as : Bool
  pub second_as : Bool
  pub asc : Bool
  pub semicolon : Bool

-- a function of an expression: word ( expr )
abbrev pub spell_call : Keyword → Expr → Symbols
spell_call word e = of_keyword word ∷ bracketed (spell_expr e)

-- expr | agg
abbrev pub spell_kind : ItemKind → Symbols
spell_kind (what.Plain e) = spell_expr e
spell_kind what.Count = of_keyword keyword.Count ∷ bracketed (of_sign sign.Star ∷ [])
spell_kind (what.CountOf e) = spell_call keyword.Count e
spell_kind (what.Sum e) = spell_call keyword.Sum e
spell_kind (what.Min e) = spell_call keyword.Min e
spell_kind (what.Max e) = spell_call keyword.Max e
spell_kind (what.Avg e) = spell_call keyword.Avg e

-- [AS name]
abbrev pub spell_as : Option Name → Symbols
spell_as None = []
spell_as (Some a) = of_keyword keyword.As ∷ Named a ∷ []

-- item = (expr | agg) [AS name]
abbrev pub spell_item : Item → Symbols
spell_item i = spell_kind i.what ++ spell_as i.alias

-- items = * | item {, item}
abbrev pub spell_items : Selection → Symbols
spell_items (selection.Star span) = of_sign sign.Star ∷ []
spell_items (selection.List l) = spell_item l.first ++ led_by (of_sign sign.Comma) (map spell_item l.rest)

-- [[AS] name]
abbrev pub spell_alias : Bool → Option Name → Symbols
spell_alias with_as None = []
spell_alias with_as (Some a) = optional with_as (of_keyword keyword.As) ++ (Named a ∷ [])

-- table = name [[AS] name]
abbrev pub spell_table : Bool → TableRef → Symbols
spell_table with_as t = Named t.name ∷ spell_alias with_as t.alias

-- [, table]
abbrev pub spell_second : Bool → Option TableRef → Symbols
spell_second with_as None = []
spell_second with_as (Some t) = of_sign sign.Comma ∷ spell_table with_as t

-- [WHERE cond]
abbrev pub spell_where : Option Cond → Symbols
spell_where None = []
spell_where (Some c) = of_keyword keyword.Where ∷ spell_cond c

-- [GROUP BY col {, col}]
abbrev pub spell_group : List Col → Symbols
spell_group [] = []
spell_group (c ∷ cs) =
    of_keyword keyword.Group ∷ of_keyword keyword.By ∷ (spell_col c ++ led_by (of_sign sign.Comma) (map spell_col cs))

-- [ASC | DESC]
abbrev pub spell_way : Bool → Bool → Symbols
spell_way asc true = of_keyword keyword.Desc ∷ []
spell_way asc false = optional asc (of_keyword keyword.Asc)

-- [ORDER BY col [ASC | DESC]]
abbrev pub spell_order : Bool → Option OrderBy → Symbols
spell_order asc None = []
spell_order asc (Some o) = of_keyword keyword.Order ∷ of_keyword keyword.By ∷ (spell_col o.key ++ spell_way asc o.down)

-- [LIMIT int]
abbrev pub spell_limit : Option ℤ → Symbols
spell_limit None = []
spell_limit (Some n) = of_keyword keyword.Limit ∷ Number n ∷ []

-- query = SELECT items FROM table [, table] [WHERE cond] [GROUP BY cols] [ORDER BY col [ASC | DESC]] [LIMIT int] [;]
unfoldable pub spell_query : FreeWords → Query → Symbols
spell_query w q =
    of_keyword keyword.Select ∷ (spell_items q.items ++ (of_keyword keyword.From ∷ (spell_table w.first_as q.first
    ++ (spell_second w.second_as q.second ++ (spell_where q.cond ++ (spell_group q.group
    ++ (spell_order w.asc q.order ++ (spell_limit q.limit ++ optional w.semicolon (of_sign sign.Semicolon)))))))))

-- the span of the second token
abbrev pub second_span : List Token → Span
second_span (a ∷ b ∷ ts) = b.span
second_span _ = record { from = 0; to = 0 }

-- a star has the span of the second token
abbrev pub StarStands : List Token → Selection → Type 0
StarStands ts (selection.Star span) = span ≡ second_span ts
StarStands ts (selection.List l) = ⊤

-- The tokens of a text spell a query.
pub record Spells (text : List ℕ) (ts : List Token) (q : Query) : Type 0 where
  pub words : FreeWords
  pub spelled : symbols text ts ≡ spell_query words q
  pub columns : length q.group ≤ GROUP_COLUMNS_MOST
  pub star : StarStands ts q.items
