-- The shape of a query that binds is sound, and so are its expressions.
use Rattle.std.proofs.Common.{◌≡◌, ℕ, ℤ, pos, negsuc, ◌-ℤ◌, Bool, true, false, List, [], ◌∷◌, map, Option, Some, None, refl, arith}
use Rattle.std.specs.Prelude.{◌&&◌, not, int_le, if◌then◌else◌}
use Rattle.std.specs.List.{AllByRecursion as Each, flat_map, list_all}
use Rattle.std.specs.Option.{is_some, option_map}
use Rattle.std.proofs.lemmas.Bool.{and_parts}
use Rattle.std.proofs.lemmas.Int.{ints}
use Rattle.sql_token.specs.declared.token.Span.{Span}
use Rattle.sql_bound.specs.declared.query.Shape.{Shape}
use Rattle.sql_bound.specs.declared.query.Shape.TheVariants as shape
use Rattle.sql_tree.specs.declared.name.Col.{Col}
use Rattle.sql_tree.specs.declared.query.Query.{Query}
use Rattle.sql_tree.specs.declared.query.TableRef.{TableRef}
use Rattle.bind_rules.specs.declared.fault.BindFault.TheVariants as fault
use Rattle.value_rules.specs.Sound.{has_col, is_sound_shape}
use Rattle.bind_rules.specs.Binding.{chord_limit, first_or}
use Rattle.bind_rules.specs.Bounds.{object_columns, Scope, bound_col}
use Rattle.bind_rules.specs.Columns.{is_join}
use Rattle.bind_rules.specs.Forms.{chords_of, pairs_both, is_join_form, join_form}
use Rattle.bind_rules.specs.Laws.{HasCounts, is_count}
use Rattle.bind_rules.specs.Mentions.{columns_of, columns_in}
use Rattle.bind_rules.specs.Names.{is_grouped, ungrouped, not_grouped}
use Rattle.bind_rules.specs.Tops.{Test, Area, Chord, Equals, Listed, tests_in, top_tests}
use Rattle.bind_rules.specs.Widths.{column_size, is_too_wide, all_exprs}
use Rattle.bind_rules.proofs.Conds.{IsSoundExpr}
use Rattle.bind_rules.proofs.Each.{mapped, weaker, by_two, of_parts, passed, all_pass}
use Rattle.bind_rules.proofs.Exprs.{IsThere}
use Rattle.bind_rules.proofs.Found.{tops_found}
use Rattle.bind_rules.proofs.Faultless.{Faultless, scope_of, exprs_there, keys_there, narrow}
use Rattle.bind_rules.proofs.Places.{count, has_there, expr_sound}

-- ---- expressions

-- each expression of a query without a fault is sound
pub exprs_sound : (names : List (List ℕ)) (q : Query) → Faultless names q → Each (IsSoundExpr (object_columns names q) (has_col (count names) (is_some q.second))) (all_exprs q)
exprs_sound names q f =
    by_two (λ e. Each (IsThere (scope_of names q)) (columns_of e)) (λ e. is_too_wide (column_size names) e ≡ false) (IsSoundExpr (object_columns names q) (has_col (count names) (is_some q.second)))
    (λ e there thin. expr_sound names q.second e there thin) (all_exprs q) (exprs_there names q f) (narrow (column_size names) q f.wide)

-- ---- the shape

-- by whether it is a join, and else whether it is a grouping
abbrev pub shape_by : Scope → Query → Bool → Bool → Shape
shape_by s q join grouped =
    if join then shape.Pairs (first_or (pos 0) (flat_map chord_limit (top_tests q.cond)))
    else if grouped then shape.Groups (map (bound_col s) q.group)
    else shape.Rows

pub if_no_fault : {X : Type 0} (b : Bool) (x : X) → (if b then None else Some x) ≡ None → b ≡ true
if_no_fault true x h = refl
if_no_fault false x h = absurd cc

pub not_true : (b : Bool) → not b ≡ true → b ≡ false
not_true true h = absurd cc
not_true false h = refl

join_plain : (q : Query) (o : Option TableRef) → is_some o ≡ true → is_join_form q o ≡ true → is_grouped q ≡ false
join_plain q None j h = absurd cc
join_plain q (Some t) j h =
    let two = and_parts (pairs_both q.first.alias t.alias (chords_of q) && list_all (λ c. is_some c.table) (columns_in q)) (not (is_grouped q)) h in
    not_true (is_grouped q) two.1

-- a join is no grouping
pub join_is_plain : (names : List (List ℕ)) (q : Query) → Faultless names q → is_join q ≡ true → is_grouped q ≡ false
unfolding join_form
join_is_plain names q f j = join_plain q q.second j (if_no_fault (is_join_form q q.second) fault.JoinForm f.join)

-- a grouping tells its plain columns
pub told : (names : List (List ℕ)) (q : Query) → Faultless names q → is_join q ≡ false → is_grouped q ≡ true → ungrouped q q.items ≡ None
unfolding not_grouped
told names q f j g = by_tests (is_join q) (is_grouped q) (ungrouped q q.items) j g f.grouped
  where
    by_tests : (j g : Bool) (x : Option Span) → j ≡ false → g ≡ true → (if not j && g then option_map fault.NotGrouped x else None) ≡ None → x ≡ None
    by_tests true g x p k h = absurd cc
    by_tests false false x p k h = absurd cc
    by_tests false true None p k h = refl
    by_tests false true (Some y) p k h = absurd cc

pairs_from : (n : ℤ) (strict : Bool) → int_le (pos 0) n ≡ true → Each (λ z. int_le (negsuc 0) z ≡ true) (if strict then (n -ℤ pos 1) ∷ [] else n ∷ [])
pairs_from n true h = (grind (arith, ints, h), tt)
pairs_from n false h = (grind (arith, ints, h), tt)

limit_step : (t : Test) → is_count t ≡ true → Each (λ z. int_le (negsuc 0) z ≡ true) (chord_limit t)
limit_step (Chord left right true n) h = pairs_from n true h
limit_step (Chord left right false n) h = pairs_from n false h
limit_step (Area kind span args) h = tt
limit_step (Equals left right) h = tt
limit_step (Listed value list) h = tt

first_sound : (zs : List ℤ) → Each (λ z. int_le (negsuc 0) z ≡ true) zs → int_le (negsuc 0) (first_or (pos 0) zs) ≡ true
first_sound [] h = refl
first_sound (z ∷ zs) h = h.0

limit_sound : (q : Query) → HasCounts q → int_le (negsuc 0) (first_or (pos 0) (flat_map chord_limit (top_tests q.cond))) ≡ true
limit_sound q h =
    first_sound (flat_map chord_limit (top_tests q.cond))
    (of_parts (λ z. int_le (negsuc 0) z ≡ true) chord_limit (top_tests q.cond)
    (weaker (λ t. is_count t ≡ true) (λ t. Each (λ z. int_le (negsuc 0) z ≡ true) (chord_limit t)) limit_step (top_tests q.cond)
    (tops_found (λ t. is_count t ≡ true) q.cond (passed (λ f. is_count f.test) (tests_in q.cond) h.chords))))

pub single_has : (names : List (List ℕ)) (o : Option TableRef) (c : Col) → is_some o ≡ false → IsThere (record { names = names; second = o }) c → has_col (count names) false (bound_col (record { names = names; second = o }) c) ≡ true
single_has names None c j h = has_there names None c h
single_has names (Some t) c j h = absurd cc

pub shape_sound : (names : List (List ℕ)) (q : Query) → Faultless names q → HasCounts q → (j g : Bool) → is_join q ≡ j → is_sound_shape (count names) (shape_by (scope_of names q) q j g) ≡ true
shape_sound names q f h true g j = limit_sound q h
shape_sound names q f h false true j =
    all_pass (has_col (count names) false) (map (bound_col (scope_of names q)) q.group)
    (mapped (λ c. has_col (count names) false c ≡ true) (bound_col (scope_of names q)) q.group
    (weaker (IsThere (scope_of names q)) (λ c. has_col (count names) false (bound_col (scope_of names q) c) ≡ true) (λ c k. single_has names q.second c j k) q.group (keys_there names q f)))
shape_sound names q f h false false j = refl
