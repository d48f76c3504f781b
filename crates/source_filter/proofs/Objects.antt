-- Conditions that name objects, and the sources of these.
use Rattle.std.proofs.Common.{◌≡◌, ◌∙◌, sym, ap, ℕ, ◌+◌, ◌-◌, ◌<◌, ◌≤◌, suc, zero, arith, false, Bool, cond, ℤ, pos, List, [], ◌∷◌, ◌++◌, length, get_or, filter, slice_get, None, Option, Some, IfSome, drop, take, true, refl}
use Rattle.std.specs.List.{range_with_len, slice_range}
use Rattle.std.specs.Ordering.{int_eq}
use Rattle.std.proofs.lemmas.Int.{ints}
use Rattle.std.proofs.lemmas.List.{append-nil, get_or-drop, get_or-take, get_or_default, length-drop, length-take, map-id}
use Rattle.std.proofs.lemmas.List.Folds.{list_any_none}
use Rattle.std.proofs.lemmas.List.FromFn.{filter_of_map_range_with_len_more}
use Rattle.source_rules.specs.Sources.{Source}
use Rattle.sql_tree.specs.declared.cond.Cmp.TheVariants.{Equal}
use Rattle.sql_bound.specs.declared.cond.BoundCond.{BoundCond, out-BoundCond}
use Rattle.sql_bound.specs.declared.cond.BoundPred.TheFolds.{fold_out-BoundCond}
use Rattle.sql_bound.specs.declared.expr.BoundCol.{BoundCol}
use Rattle.value_rules.specs.Formulas.{Among, Formula, at_all, at_any, at_cond, at_pred, formula_of, formula_of_pred, negated_if}
use Rattle.value_rules.specs.Terms.{Column, Term}
use Rattle.value_rules.specs.Truth.{among, is_one_of, is_true, truth_at}
use Rattle.value_rules.specs.Values.{cell_of}
use Rattle.child_rules.specs.Children.{child_pair}
use Rattle.child_rules.proofs.Reading.{columns_are_read}
use Rattle.source_row.specs.SourceColumns.{SourceParts, source_at}
use Rattle.source_filter.specs.declared.source_column.SourceColumn.TheVariants.{Object}
use Rattle.source_filter.specs.declared.test.Test.TheVariants.{Compare}
use Rattle.source_filter.specs.declared.test.ColumnTest.{ColumnTest}
use Rattle.source_filter.specs.Candidates.{AreCandidates, Fails, FailsTest}
use Rattle.source_filter.specs.Columns.{IsColumnOf}
use Rattle.source_filter.specs.Objects.{ListsObjects, NamesObjects, flag_number, numbers_where}
use Rattle.source_filter.specs.Tests.{IsColumnTest, passes}
use Rattle.source_filter.proofs.Narrowing.{fails_all}

equal : (a b : ℤ) → int_eq a b ≡ true → a ≡ b
equal a b h = grind (arith, ints)

-- what follows from what holds of an answer holds of it
pub if_some_then : {A : Type 0} {P Q : A → Type 0} (answer : Option A) → IfSome answer P → ((a : A) → P a → Q a) → IfSome answer Q
if_some_then (Some a) h f = f a h
if_some_then None h f = tt

-- ---- the object that a condition names

-- a test that the objectId equals a number
pub test_names : (t : ColumnTest) (width : ℕ) (id : ℤ) → IsColumnOf width Object t.col → t.test ≡ Compare Equal id
    → (s : Source) → int_eq s.object id ≡ false → FailsTest t s
test_names t width id column equal s other = λ o own.
    ap (λ test. passes test (cell_of (child_pair o s) t.col)) equal
    ∙ (ap (λ col. passes (Compare Equal id) (cell_of (child_pair o s) col)) column.is
    ∙ (ap (passes (Compare Equal id)) ((columns_are_read o s own).source 1) ∙ other))

-- a condition that is the test
pub cond_names : (c : BoundCond) (t : ColumnTest) (id : ℤ) → IsColumnTest (formula_of c) t → ((s : Source) → int_eq s.object id ≡ false → FailsTest t s)
    → (s : Source) → int_eq s.object id ≡ false → Fails c s
cond_names c t id is names s other = λ o own. is (cell_of (child_pair o s)) o.at ∙ names s other o own

-- all conditions together
pub conds_name : (conds : List BoundCond) (i : ℕ) (c : BoundCond) (test : ℤ → Bool) → slice_get conds i ≡ Some c → ((s : Source) → test s.object ≡ false → Fails c s)
    → NamesObjects conds test
conds_name conds i c test at names = λ s other o own. fails_all conds (child_pair o s) i c at (names s other o own)

-- an IN of the objectId
pub listed_objects : (t : Term) (list : List ℤ) (col : BoundCol) → t ≡ Column col → IsColumnOf 0 Object col → ListsObjects (negated_if false (Among t list)) list
listed_objects t list col is column cells at id own none =
    ap (λ t. is_true (truth_at cells at (Among t list))) is
    ∙ (ap (λ c. is_true (truth_at cells at (Among (Column c) list))) column.is
    ∙ (ap (λ v. is_true (among v list)) own ∙ none))

-- a condition without NOT is its predicate
pub plain_list : (c : BoundCond) (ids : List ℤ) → (out-BoundCond c).not ≡ false → ListsObjects (formula_of_pred (out-BoundCond c).pred) ids
    → (s : Source) → is_one_of ids s.object ≡ false → Fails c s
plain_list c ids is lists s none = λ o own.
    ap (λ f. is_true (truth_at (cell_of (child_pair o s)) o.at f))
    (fold_out-BoundCond Formula Formula Formula Formula at_pred at_all at_any at_cond c ∙ ap (λ b. negated_if b (formula_of_pred (out-BoundCond c).pred)) is)
    ∙ lists (cell_of (child_pair o s)) o.at s.object ((columns_are_read o s own).source 1) none

none_of : (id : ℤ) (ids : List ℤ) → ((k : ℕ) → k < length ids → int_eq (get_or ids k (pos 0)) id ≡ false) → is_one_of ids id ≡ false
none_of id ids h = list_any_none (λ n. int_eq n id) ids (λ k d low. ap (λ n. int_eq n id) (get_or_default ids k d (pos 0) low) ∙ h k low)

other_by : (a b : ℤ) (t : Bool) → int_eq a b ≡ t → (a ≡ b → ⊥) → t ≡ false
other_by a b true e h = absurd (h (equal a b e))
other_by a b false e h = refl

-- an id without a flag is none of the wanted ones
pub flags_name : (conds : List BoundCond) (ids : List ℤ) (flags : List Bool) → NamesObjects conds (is_one_of ids)
    → ((k : ℕ) → k < length ids → get_or flags (flag_number (get_or ids k (pos 0))) false ≡ true) → NamesObjects conds (λ id. get_or flags (flag_number id) false)
flags_name conds ids flags names on s off =
    names s (none_of s.object ids (λ k low.
    other_by (get_or ids k (pos 0)) s.object (int_eq (get_or ids k (pos 0)) s.object) refl (λ same.
    differ (sym (on k low) ∙ (ap (λ id. get_or flags (flag_number id) false) same ∙ off)))))
  where
    differ : true ≡ false → ⊥
    differ h = absurd (cc h)

-- ---- its sources

-- a number more
pub numbers_more : (test : ℤ → Bool) (ids : List ℤ) (n : ℕ) → numbers_where test ids (n + 1) ≡ numbers_where test ids n ++ cond (test (get_or ids n (pos 0))) (n ∷ []) []
numbers_more test ids n =
    let at = λ (k : ℕ). test (get_or ids k (pos 0)) in
    ap (filter at) (sym (map-id (range_with_len 0 (n + 1))))
    ∙ (filter_of_map_range_with_len_more at (λ k. k) 0 n n (omega arith)
    ∙ ap (λ l. filter at l ++ cond (at n) (n ∷ []) []) (map-id (range_with_len 0 n)))

-- numbers more at which no id passes
none_more : (test : ℤ → Bool) (ids : List ℤ) (first n : ℕ) → ((k : ℕ) → first ≤ k → k < first + n → test (get_or ids k (pos 0)) ≡ false)
    → numbers_where test ids (first + n) ≡ numbers_where test ids first
none_more test ids first zero h =
    let same : first + zero ≡ first = omega arith in
    ap (numbers_where test ids) same
none_more test ids first (suc n) h =
    let next : first + suc n ≡ (first + n) + 1 = omega arith in
    ap (numbers_where test ids) next
    ∙ (numbers_more test ids (first + n)
    ∙ (ap (λ b. numbers_where test ids (first + n) ++ cond b ((first + n) ∷ []) []) (h (first + n) (omega arith) (omega arith))
    ∙ (append-nil (numbers_where test ids (first + n))
    ∙ none_more test ids first n (λ k low high. h k low (omega (arith, high))))))

pub none_between : (test : ℤ → Bool) (ids : List ℤ) (first end : ℕ) → first ≤ end → ((k : ℕ) → first ≤ k → k < end → test (get_or ids k (pos 0)) ≡ false)
    → numbers_where test ids end ≡ numbers_where test ids first
none_between test ids first end order h =
    let whole : first + (end - first) ≡ end = omega (arith, order) in
    ap (numbers_where test ids) (sym whole) ∙ none_more test ids first (end - first) (λ k low high. h k low (omega (arith, high, order)))

-- what passes in a block of ids passes among them
pub block_at : (ids block : List ℤ) (first end k : ℕ) → block ≡ slice_range ids first end → first ≤ k → k < end → get_or block (k - first) (pos 0) ≡ get_or ids k (pos 0)
block_at ids block first end k is low high =
    let at : first + (k - first) ≡ k = omega (arith, low) in
    ap (λ (l : List ℤ). get_or l (k - first) (pos 0)) is
    ∙ (get_or-take (end - first) (drop first ids) (k - first) (pos 0) (omega (arith, low, high))
    ∙ (get_or-drop first ids (k - first) (pos 0) ∙ ap (λ n. get_or ids n (pos 0)) at))

pub block_long : (ids : List ℤ) (first end : ℕ) → first ≤ end → end ≤ length ids → length (slice_range ids first end) ≡ end - first
block_long ids first end from to = omega (arith, length-take (end - first) (drop first ids), length-drop first ids, from, to)

-- they are the candidates
pub named_candidates : (conds : List BoundCond) (p : SourceParts) (test : ℤ → Bool) (numbers : List ℕ) → NamesObjects conds test
    → numbers ≡ numbers_where test p.objects (length p.objects) → length p.objects ≡ length p.ids → AreCandidates conds p numbers
named_candidates conds p test numbers names is even = record {
  kept = λ k. test (get_or p.objects k (pos 0));
  ascend = is ∙ ap (numbers_where test p.objects) even;
  unmet = λ k low other. names (source_at p k) other;
}
