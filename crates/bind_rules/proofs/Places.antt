-- Columns that a query names are columns of the schema.
use Rattle.std.proofs.Common.{◌≡◌, ℕ, ◌<◌, ◌^◌, ◌-◌, ◌==◌, pos, nat_abs, Bool, true, false, List, [], ◌∷◌, map, length, Option, Some, None, refl, sym, subst, arith, ap}
use Rattle.std.specs.Prelude.{◌&&◌, ◌||◌, not, nat_lt, nat_le, nat_eq, unwrap_or, if◌then◌else◌}
use Rattle.std.specs.Bool.{beq}
use Rattle.std.specs.List.{AllByRecursion as Each, list_any, list_all, position}
use Rattle.std.specs.Option.{is_some}
use Rattle.std.specs.Str.{bytes_eq}
use Rattle.std.proofs.lemmas.Bool.{and_parts}
use Rattle.std.proofs.lemmas.List.Quantifiers.{position-Some}
use Rattle.std.proofs.lemmas.Slice.Eq.{bytes_eq-Decides}
use Rattle.sql_bound.specs.declared.expr.BoundCol.{BoundCol}
use Rattle.sql_tree.specs.declared.expr.Expr.{Expr}
use Rattle.sql_tree.specs.declared.name.Col.{Col}
use Rattle.sql_tree.specs.declared.name.Name.{Name}
use Rattle.sql_tree.specs.declared.query.TableRef.{TableRef}
use Rattle.table_rules.specs.Names.{column_names, column_of}
use Rattle.value_rules.specs.Sound.{columns_at, same_col, has_col, is_sound_at}
use Rattle.value_rules.specs.Terms.{Column, term_of}
use Rattle.value_rules.specs.Widths.{widest_at, most}
use Rattle.bind_rules.specs.Bounds.{Meaning, Scope, is_second, column_number, bound_col, bound_expr, expr_by}
use Rattle.bind_rules.specs.Columns.{is_same_column}
use Rattle.bind_rules.specs.Mentions.{columns_of}
use Rattle.bind_rules.specs.Widths.{column_size, width_of, is_too_wide}
use Rattle.bind_rules.proofs.Each.{mapped, weaker, all_pass}
use Rattle.bind_rules.proofs.Exprs.{AreSized, IsThere, expr_agrees, there_sized}

-- how many columns the schema has
abbrev pub count : List (List ℕ) → ℕ
count names = length (column_names names)

pub below_true : (a b : ℕ) → a < b → nat_lt a b ≡ true
below_true a b h = grind (arith, h)

pub up_to_true : (a b : ℕ) → nat_lt a b ≡ false → nat_le b a ≡ true
up_to_true a b h = grind (arith, h)

position_below : {X : Type 0} (p : X → Bool) (xs : List X) (d : X) (past : ℕ) (o : Option ℕ) → position p xs ≡ o → is_some o ≡ true → nat_lt (unwrap_or o past) (length xs) ≡ true
position_below p xs d past None e h = absurd cc
position_below p xs d past (Some i) e h = below_true i (length xs) (position-Some p xs i d e).0

pub there_below : (names : List (List ℕ)) (text : List ℕ) → is_some (column_of names text) ≡ true → nat_lt (column_number names text) (count names) ≡ true
there_below names text h = position_below (bytes_eq text) (column_names names) [] _ (column_of names text) refl h

pub or_second : (second : Bool) → (not second || true) ≡ true
or_second true = refl
or_second false = refl

pub both_true : (a b : Bool) → a ≡ true → b ≡ true → (a && b) ≡ true
both_true a b h k = rw (h, k) refl

-- a column that is there is one of the table, and of the second row only in a join
pub has_there : (names : List (List ℕ)) (o : Option TableRef) (c : Col) → IsThere (record { names = names; second = o }) c → has_col (count names) (is_some o) (bound_col (record { names = names; second = o }) c) ≡ true
has_there names None c h = both_true _ _ (there_below names c.name.text h) refl
has_there names (Some t) c h = both_true _ _ (there_below names c.name.text h) (or_second (is_second (Some t) c.table))

-- an expression whose columns are there and which is not too wide is sound
pub expr_sound_by : (means : Meaning) (size : Col → ℕ) (there : Col → Type 0) (allowed : BoundCol → Bool) → AreSized means size there → ((c : Col) → there c → allowed (means c) ≡ true) → (e : Expr) → Each there (columns_of e) → is_too_wide size e ≡ false → is_sound_at allowed (term_of (expr_by means e)) ≡ true
expr_sound_by means size there allowed sized has e known narrow =
    let agrees = expr_agrees means size there sized e in
    let cols = mapped (λ x. allowed x ≡ true) means (columns_of e) (weaker there (λ c. allowed (means c) ≡ true) has (columns_of e) known) in
    let cols' = subst (λ xs. Each (λ x. allowed x ≡ true) xs) (sym agrees.0) cols in
    let wide : nat_le (widest_at (term_of (expr_by means e))) most ≡ true = subst (λ n. nat_le n most ≡ true) (sym (agrees.1 known).1) (up_to_true most (width_of size e).widest narrow) in
    both_true _ _ (all_pass allowed (columns_at (term_of (expr_by means e))) cols') wide

-- over the object table
pub expr_sound : (names : List (List ℕ)) (o : Option TableRef) (e : Expr) → Each (IsThere (record { names = names; second = o })) (columns_of e) → is_too_wide (column_size names) e ≡ false → is_sound_at (has_col (count names) (is_some o)) (term_of (bound_expr (record { names = names; second = o }) e)) ≡ true
expr_sound names o e there narrow =
    let s : Scope = record { names = names; second = o } in
    expr_sound_by (bound_col s) (column_size names) (IsThere s) (has_col (count names) (is_some o)) (there_sized s) (has_there names o) e there narrow

-- with other columns allowed, where it has those alone
pub sound_of_cols : (s : Scope) (old new : BoundCol → Bool) (e : Expr) → is_sound_at old (term_of (bound_expr s e)) ≡ true → Each (λ c. new (bound_col s c) ≡ true) (columns_of e) → is_sound_at new (term_of (bound_expr s e)) ≡ true
sound_of_cols s old new e h k =
    let cols = subst (λ xs. Each (λ x. new x ≡ true) xs) (sym (expr_agrees (bound_col s) (column_size s.names) (IsThere s) (there_sized s) e).0) (mapped (λ x. new x ≡ true) (bound_col s) (columns_of e) k) in
    both_true _ _ (all_pass new (columns_at (term_of (bound_expr s e))) cols) (and_parts (list_all old (columns_at (term_of (bound_expr s e)))) _ h).1

-- ---- the keys of a grouping

no_second : (o : Option TableRef) (n : Option Name) → is_some o ≡ false → is_second o n ≡ false
no_second None n h = refl
no_second (Some t) n h = absurd cc

same_number : (a b : ℕ) → a ≡ b → nat_eq a b ≡ true
same_number a b h = grind (arith, h)

same_bits : (a b : Bool) → a ≡ false → b ≡ false → beq a b ≡ true
same_bits a b h k = rw (h, k) refl

same_there : (s : Scope) (c d : Col) → is_some s.second ≡ false → bytes_eq c.name.text d.name.text ≡ true → same_col (bound_col s d) (bound_col s c) ≡ true
same_there s c d none h =
    let text : c.name.text ≡ d.name.text = grind (arith, bytes_eq-Decides c.name.text d.name.text, h) in
    both_true _ _ (same_bits _ _ (no_second s.second d.table none) (no_second s.second c.table none))
    (same_number _ _ (ap (column_number s.names) (sym text)))

key_step : (s : Scope) (c d : Col) (rest : List Col) (b : Bool) → bytes_eq c.name.text d.name.text ≡ b → is_some s.second ≡ false → (b || list_any (is_same_column c) rest) ≡ true → (list_any (is_same_column c) rest ≡ true → list_any (λ key. same_col key (bound_col s c)) (map (bound_col s) rest) ≡ true) → (same_col (bound_col s d) (bound_col s c) || list_any (λ key. same_col key (bound_col s c)) (map (bound_col s) rest)) ≡ true
key_step s c d rest true e none h later = rw (same_there s c d none e) refl
key_step s c d rest false e none h later = rw (later h) (or_second_true (same_col (bound_col s d) (bound_col s c)))
  where
    or_second_true : (a : Bool) → (a || true) ≡ true
    or_second_true true = refl
    or_second_true false = refl

-- a column that is a key as it is written is one bound
pub key_there : (s : Scope) (c : Col) (group : List Col) → is_some s.second ≡ false → list_any (is_same_column c) group ≡ true → list_any (λ key. same_col key (bound_col s c)) (map (bound_col s) group) ≡ true
key_there s c [] none h = absurd cc
key_there s c (d ∷ rest) none h = key_step s c d rest (bytes_eq c.name.text d.name.text) refl none h (λ k. key_there s c rest none k)

-- ---- a column as an expression

bound_small : (a b : Bool) → nat_le (nat_abs (if a then pos (2 ^ 63 - 1) else if b then pos 268435472 else pos (2 ^ 50))) most ≡ true
bound_small true b = refl
bound_small false true = refl
bound_small false false = refl

pub one_column : (allowed : BoundCol → Bool) (c : BoundCol) → allowed c ≡ true → is_sound_at allowed (Column c) ≡ true
one_column allowed c h = both_true _ _ (both_true _ _ h refl) (bound_small (c.col == 0) (nat_le c.col 3))
