-- What is known of a query without a fault.
use Rattle.std.proofs.Common.{◌≡◌, ℕ, Bool, true, false, List, [], ◌∷◌, ◌++◌, map, Option, Some, None, Ok, refl}
use Rattle.std.specs.Prelude.{◌&&◌, not, if◌then◌else◌}
use Rattle.std.specs.List.{AllByRecursion as Each, flat_map, list_any, find}
use Rattle.std.specs.Option.{is_some, option_map, option_or}
use Rattle.std.proofs.lemmas.Bool.{and_parts}
use Rattle.sql_token.specs.declared.token.Span.{Span}
use Rattle.sql_bound.specs.declared.query.Bound.{Bound}
use Rattle.sql_tree.specs.declared.expr.Expr.{Expr}
use Rattle.sql_tree.specs.declared.name.Col.{Col}
use Rattle.sql_tree.specs.declared.query.Query.{Query}
use Rattle.sql_tree.specs.declared.cond.Cond.{Cond}
use Rattle.bind_rules.specs.declared.fault.BindFault.{BindFault}
use Rattle.bind_rules.specs.declared.fault.BindFault.TheVariants as fault
use Rattle.table_rules.specs.Names.{column_of}
use Rattle.bind_rules.specs.Binding.{by_fault, bound_query, bound_of}
use Rattle.bind_rules.specs.Bounds.{Scope}
use Rattle.bind_rules.specs.Checks.{too_wide, too_wide_by, order_name, bind_fault, fault_by}
use Rattle.bind_rules.specs.Columns.{tables, is_qualified_well}
use Rattle.bind_rules.specs.Forms.{join_form, area_form, bad_area, first_of, is_area_form, values_of}
use Rattle.bind_rules.specs.Mentions.{Mention, Column, Table, Mentions, columns_of, mentioned, item_exprs, mentions_of_where, mentions_of}
use Rattle.bind_rules.specs.Names.{Known, known_names, is_unknown, span_of, unknown_by, unknown_name, not_grouped}
use Rattle.bind_rules.specs.Tops.{Test, Area, Chord, Equals, Listed, Found, tests_in}
use Rattle.bind_rules.specs.Widths.{is_too_wide, exprs_in, all_exprs}
use Rattle.bind_rules.proofs.Conds.{HasForm}
use Rattle.bind_rules.proofs.Each.{front, back, both, weaker, in_parts, unmapped, none_found, none_passes}
use Rattle.bind_rules.proofs.Exprs.{IsThere}
use Rattle.bind_rules.proofs.Mentioned.{of_exprs}

-- A query that passes each check.
pub record Faultless (names : List (List ℕ)) (q : Query) : Type 0 where
  pub unknown : unknown_name names q ≡ None
  pub grouped : not_grouped q ≡ None
  pub join : join_form q ≡ None
  pub area : area_form q ≡ None
  pub wide : too_wide names q ≡ None
  pub order : order_name names q ≡ None

-- what a query's names are read by
abbrev pub scope_of : List (List ℕ) → Query → Scope
scope_of names q = record { names = names; second = q.second }

pub or_none : (a b : Option BindFault) → option_or a b ≡ None → (a ≡ None) × (b ≡ None)
or_none None b h = (refl, h)
or_none (Some f) b h = absurd cc

faultless : (names : List (List ℕ)) (q : Query) → bind_fault names q ≡ None → Faultless names q
unfolding fault_by
faultless names q h =
    let a = or_none (unknown_name names q) _ h in
    let b = or_none (not_grouped q) _ a.1 in
    let c = or_none (join_form q) _ b.1 in
    let d = or_none (area_form q) _ c.1 in
    let e = or_none (too_wide names q) _ d.1 in
    record { unknown = a.0; grouped = b.0; join = c.0; area = d.0; wide = e.0; order = e.1 }

pub ok_parts : (f : Option BindFault) (x b : Bound) → by_fault f x ≡ Ok b → (f ≡ None) × (x ≡ b)
ok_parts None x b h = (refl, cc)
ok_parts (Some f) x b h = absurd cc

-- a query that binds has no fault, and is bound to its bound query
pub binds : (names : List (List ℕ)) (q : Query) (b : Bound) → bound_of names q ≡ Ok b → Faultless names q × (bound_query (scope_of names q) q ≡ b)
unfolding bound_of
binds names q b h =
    let two = ok_parts (bind_fault names q) (bound_query (scope_of names q) q) b h in (faultless names q two.0, two.1)

mapped_none : {X Y : Type 0} (f : X → Y) (x : Option X) → option_map f x ≡ None → x ≡ None
mapped_none f None h = refl
mapped_none f (Some x) h = absurd cc

-- ---- names

abbrev pub IsKnown : Known → Mention → Type 0
IsKnown known m = is_unknown known m ≡ false

abbrev pub IsKnownColumn : Known → Col → Type 0
IsKnownColumn known c = known.column c ≡ true

mentions_known : (known : Known) (q : Query) → unknown_by known q ≡ None → Each (IsKnown known) (mentions_of q)
unfolding unknown_by
mentions_known known q h = none_found (is_unknown known) (mentions_of q) (mapped_none (λ m. fault.UnknownName (span_of m)) (find (is_unknown known) (mentions_of q)) h)

not_false : (b : Bool) → not b ≡ false → b ≡ true
not_false true h = refl
not_false false h = absurd cc

columns_known : (known : Known) (cs : List Col) → Each (IsKnown known) (map Column cs) → Each (IsKnownColumn known) cs
columns_known known cs h = weaker (λ c. IsKnown known (Column c)) (IsKnownColumn known) (λ c k. not_false (known.column c) k) cs (unmapped (IsKnown known) Column cs h)

expr_known : (known : Known) (e : Expr) → Each (IsKnown known) (mentioned e) → Each (IsKnownColumn known) (columns_of e)
expr_known known e h = columns_known known (columns_of e) h

where_known : (known : Known) (c : Option Cond) → Each (IsKnown known) (mentions_of_where c) → Each (λ e. Each (IsKnown known) (mentioned e)) (exprs_in c)
where_known known None h = tt
where_known known (Some c) h = of_exprs (IsKnown known) c h

-- the parts of what a query mentions
abbrev by_items : Query → Mentions
by_items q = flat_map mentioned (item_exprs q)

abbrev by_tables : Query → Mentions
by_tables q = map (λ t. Table t.name) (tables q)

abbrev by_where : Query → Mentions
by_where q = mentions_of_where q.cond

-- if no name is unknown, each column of each expression is known
pub exprs_known : (known : Known) (q : Query) → unknown_by known q ≡ None → Each (λ e. Each (IsKnownColumn known) (columns_of e)) (all_exprs q)
exprs_known known q h =
    let first = front (IsKnown known) ((by_items q ++ by_tables q) ++ by_where q) (map Column q.group) (mentions_known known q h) in
    let items = in_parts (IsKnown known) mentioned (item_exprs q) (front (IsKnown known) (by_items q) (by_tables q) (front (IsKnown known) (by_items q ++ by_tables q) (by_where q) first)) in
    let tests = where_known known q.cond (back (IsKnown known) (by_items q ++ by_tables q) (by_where q) first) in
    weaker (λ e. Each (IsKnown known) (mentioned e)) (λ e. Each (IsKnownColumn known) (columns_of e)) (expr_known known) (all_exprs q)
    (both (λ e. Each (IsKnown known) (mentioned e)) (item_exprs q) (exprs_in q.cond) items tests)

-- and each column of GROUP BY
keys_known : (known : Known) (q : Query) → unknown_by known q ≡ None → Each (IsKnownColumn known) q.group
keys_known known q h = columns_known known q.group (back (IsKnown known) ((by_items q ++ by_tables q) ++ by_where q) (map Column q.group) (mentions_known known q h))

-- a known column of the object table is in its schema
column_there : (names : List (List ℕ)) (q : Query) (c : Col) → IsKnownColumn (known_names names q) c → IsThere (scope_of names q) c
column_there names q c h = (and_parts (is_qualified_well (tables q) c.table) (is_some (column_of names c.name.text)) h).1

columns_there : (names : List (List ℕ)) (q : Query) (cs : List Col) → Each (IsKnownColumn (known_names names q)) cs → Each (IsThere (scope_of names q)) cs
columns_there names q cs h = weaker (IsKnownColumn (known_names names q)) (IsThere (scope_of names q)) (column_there names q) cs h

-- the schema has each column of each expression
pub exprs_there : (names : List (List ℕ)) (q : Query) → Faultless names q → Each (λ e. Each (IsThere (scope_of names q)) (columns_of e)) (all_exprs q)
exprs_there names q f =
    weaker (λ e. Each (IsKnownColumn (known_names names q)) (columns_of e)) (λ e. Each (IsThere (scope_of names q)) (columns_of e)) (λ e h. columns_there names q (columns_of e) h) (all_exprs q) (exprs_known (known_names names q) q f.unknown)

-- and each column of GROUP BY
pub keys_there : (names : List (List ℕ)) (q : Query) → Faultless names q → Each (IsThere (scope_of names q)) q.group
keys_there names q f = columns_there names q q.group (keys_known (known_names names q) q f.unknown)

-- ---- widths

if_none : {X : Type 0} (b : Bool) (x : X) → (if b then Some x else None) ≡ None → b ≡ false
if_none true x h = absurd cc
if_none false x h = refl

-- no expression is too wide
pub narrow : (size : Col → ℕ) (q : Query) → too_wide_by size q ≡ None → Each (λ e. is_too_wide size e ≡ false) (all_exprs q)
unfolding too_wide_by
narrow size q h = none_passes (is_too_wide size) (all_exprs q) (if_none (list_any (is_too_wide size) (all_exprs q)) fault.TooWide h)

-- ---- area tests

nothing_first : (g : Span → BindFault) (xs : List Span) → option_map g (first_of xs) ≡ None → xs ≡ []
nothing_first g [] h = refl
nothing_first g (x ∷ xs) h = absurd cc

empty_front : {X : Type 0} (xs ys : List X) → xs ++ ys ≡ [] → (xs ≡ []) × (ys ≡ [])
empty_front [] ys h = (refl, h)
empty_front (x ∷ xs) ys h = absurd cc

all_empty : {X Y : Type 0} (f : X → List Y) (xs : List X) → flat_map f xs ≡ [] → Each (λ x. f x ≡ []) xs
all_empty f [] h = tt
all_empty f (x ∷ xs) h = let two = empty_front (f x) (flat_map f xs) h in (two.0, all_empty f xs two.1)

-- an area test is at the top, and its arguments fit
abbrev pub IsAtTop : Test → Bool → Type 0
IsAtTop (Area kind span args) top = top ≡ true
IsAtTop t top = Unit {0}

abbrev pub IsTopArea : Found → Type 0
IsTopArea f = HasForm f.test × IsAtTop f.test f.top

nothing_bad : {X : Type 0} (b : Bool) (x : X) → (if b then [] else x ∷ []) ≡ [] → b ≡ true
nothing_bad true x h = refl
nothing_bad false x h = absurd cc

good_area : (t : Test) (top : Bool) → bad_area t top ≡ [] → HasForm t × IsAtTop t top
good_area (Area kind span args) top h =
    let two = and_parts top (is_area_form kind (values_of args)) (nothing_bad (top && is_area_form kind (values_of args)) span h) in (two.1, two.0)
good_area (Chord left right strict n) top h = (tt, tt)
good_area (Equals left right) top h = (tt, tt)
good_area (Listed value list) top h = (tt, tt)

pub good_areas : (q : Query) → area_form q ≡ None → Each IsTopArea (tests_in q.cond)
unfolding area_form
good_areas q h =
    weaker (λ t. bad_area t.test t.top ≡ []) IsTopArea (λ t h. good_area t.test t.top h) (tests_in q.cond)
    (all_empty (λ t. bad_area t.test t.top) (tests_in q.cond) (nothing_first fault.AreaForm (flat_map (λ t. bad_area t.test t.top) (tests_in q.cond)) h))
