-- The columns of a source that is the second row of a pair.
use Rattle.std.proofs.Common.{◌≡◌, ℕ, ◌+◌, ◌-◌, ◌≤◌, ◌==◌, Bool, true, false, cond, refl, sym, ap, ◌∙◌, arith}
use Rattle.std.specs.Prelude.{Some, None, ℤ, pos, slice_get, unwrap_or, nat_le}
use Rattle.std.specs.Ordering.{int_eq}
use Rattle.std.proofs.lemmas.Int.{ints}
use Rattle.table_rules.specs.Objects.{Obj, cell, column_bound}
use Rattle.source_rules.specs.Sources.{Source, source_bound, source_cell}
use Rattle.sql_bound.specs.declared.expr.BoundCol.{BoundCol}
use Rattle.value_rules.specs.Values.{cell_of}
use Rattle.child_rules.specs.Columns.{object_col, source_col}
use Rattle.child_rules.specs.Children.{child_pair, is_source_of, as_row}
use Rattle.child_rules.specs.ChildLaws.{BoundsAreKept, ColumnsAreRead, SourceIsARow}

same_id : (a b : ℤ) → int_eq a b ≡ true → b ≡ a
same_id a b h = grind (arith, ints)

-- what stands behind four tests that fail
pub last_of : {X : Type 0} (a b c d : Bool) (w x y z u : X) → a ≡ false → b ≡ false → c ≡ false → d ≡ false → cond a w (cond b x (cond c y (cond d z u))) ≡ u
last_of true b c d w x y z u e f g h = absurd (cc e)
last_of false true c d w x y z u e f g h = absurd (cc f)
last_of false false true d w x y z u e f g h = absurd (cc g)
last_of false false false true w x y z u e f g h = absurd (cc h)
last_of false false false false w x y z u e f g h = refl

pub is_not : (n m : ℕ) → m + 1 ≤ n → (n == m) ≡ false
is_not n m h = grind arith

is_past : (n m : ℕ) → m + 1 ≤ n → nat_le n m ≡ false
is_past n m h = grind arith

pub cell_later : (o : Obj) (n : ℕ) → 4 ≤ n → cell o n ≡ unwrap_or (slice_get o.further (n - 4)) None
cell_later o n h =
    last_of (n == 0) (n == 1) (n == 2) (n == 3) (Some o.id) (Some o.at.x) (Some o.at.y) (Some o.at.z) (unwrap_or (slice_get o.further (n - 4)) None)
    (is_not n 0 (omega (arith, h))) (is_not n 1 (omega (arith, h))) (is_not n 2 (omega (arith, h))) (is_not n 3 (omega (arith, h)))

abbrev later : ℕ → BoundCol
later k = record { second = true; col = k + 2 }

abbrev own : BoundCol
own = record { second = true; col = 0 }

read_by : (o : Obj) (s : Source) (k : ℕ) → is_source_of o s ≡ true → (b c : Bool) → (b ≡ false → c ≡ false → 2 ≤ k) → cell_of (child_pair o s) (cond b own (cond c (object_col 0) (later k))) ≡ cond b (Some s.id) (cond c (Some s.object) (unwrap_or (slice_get s.further (k - 2)) None))
read_by o s k h true c f = refl
read_by o s k h false true f = ap Some (same_id s.object o.id h)
read_by o s k h false false f =
    let low : 2 ≤ k = f refl refl in
    let place : (k + 2) - 4 ≡ k - 2 = omega (arith, low) in
    cell_later (as_row o s) (k + 2) (omega (arith, low)) ∙ ap (λ n. unwrap_or (slice_get s.further n) None) place

pub past_two : (k : ℕ) → (k == 0) ≡ false → (k == 1) ≡ false → 2 ≤ k
past_two k e f = grind arith

source_read : (o : Obj) (s : Source) → is_source_of o s ≡ true → (k : ℕ) → cell_of (child_pair o s) (source_col k) ≡ source_cell s k
source_read o s h k = read_by o s k h (k == 0) (k == 1) (past_two k)

pub columns_are_read : ColumnsAreRead
columns_are_read o s h = record { object = λ k. refl; source = source_read o s h }

zero_low : (k : ℕ) → (k == 0) ≡ true → nat_le k 1 ≡ true
zero_low k e = grind arith

one_low : (k : ℕ) → (k == 1) ≡ true → nat_le k 1 ≡ true
one_low k e = grind arith

bound_later : (n : ℕ) → 4 ≤ n → column_bound n ≡ source_bound n
bound_later n h =
    last_of (n == 0) (nat_le n 3) false false (pos 9223372036854775807) (pos 268435472) (pos 0) (pos 0) (pos 1125899906842624)
    (is_not n 0 (omega (arith, h))) (is_past n 3 (omega (arith, h))) refl refl
    ∙ sym (last_of (nat_le n 1) false false false (pos 9223372036854775807) (pos 0) (pos 0) (pos 0) (pos 1125899906842624) (is_past n 1 (omega (arith, h))) refl refl refl)

bound_more : (n m : ℕ) → 2 ≤ n → 2 ≤ m → source_bound n ≡ source_bound m
bound_more n m h k = ap (λ b. cond b (pos 9223372036854775807) (pos 1125899906842624)) (is_past n 1 (omega (arith, h)) ∙ sym (is_past m 1 (omega (arith, k))))

bound_by : (k : ℕ) (b c : Bool) → (k == 0) ≡ b → (k == 1) ≡ c → column_bound (cond b own (cond c (object_col 0) (later k))).col ≡ source_bound k
bound_by k true c e f = sym (ap (λ t. cond t (pos 9223372036854775807) (pos 1125899906842624)) (zero_low k e))
bound_by k false true e f = sym (ap (λ t. cond t (pos 9223372036854775807) (pos 1125899906842624)) (one_low k f))
bound_by k false false e f =
    let low : 2 ≤ k = past_two k e f in
    bound_later (k + 2) (omega (arith, low)) ∙ bound_more (k + 2) k (omega (arith, low)) low

pub bounds_are_kept : BoundsAreKept
bounds_are_kept k = bound_by k (k == 0) (k == 1) refl refl

pub source_is_a_row : SourceIsARow
source_is_a_row o s h k = record { id = k.id; most = k.most; at = h.at; further = k.further; few = k.few }
