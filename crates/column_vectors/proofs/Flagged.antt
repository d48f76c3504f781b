-- Flags that are joined, and what they say.
use Rattle.std.proofs.Common.{◌≡◌, ◌∙◌, ℕ, ◌<◌, ℤ, pos, Bool, true, false, not, ◌&&◌, ◌||◌, refl, sym, ap, subst, arith, if◌then◌else◌, List, length, get_or, map, replicate, Option, Some, None}
use Rattle.std.specs.Prelude.{is_some, is_none}
use Rattle.std.proofs.lemmas.List.{get_or-map, get_or-replicate, get_or_default, length-map, length-replicate, same_lists}
use Rattle.std.proofs.lemmas.List.FromFn.{get_or-map-range_with_len, length-map-range_with_len}
use Rattle.sky_row.specs.Columns.{no_row}
use Rattle.sql_bound.specs.declared.area.AreaTest.{AreaTest}
use Rattle.sql_tree.specs.declared.cond.Cmp.{Cmp}
use Rattle.table_rules.specs.Objects.{Obj}
use Rattle.value_rules.specs.Areas.{area_holds}
use Rattle.value_rules.specs.Formulas.{Formula, Compares, Among, IsNull, LiesIn, Not, And, Or, negated_if}
use Rattle.value_rules.specs.Terms.{Term}
use Rattle.value_rules.specs.Truth.{among, compared, compares, is_one_of, is_true, truth_and, truth_not, truth_or}
use Rattle.value_rules.specs.Values.{cell_of, row, value_at}
use Rattle.column_vectors.specs.declared.flags.Flags.{Flags}
use Rattle.column_vectors.specs.declared.lane.Lane.{Lane}
use Rattle.column_vectors.specs.Flags.{AreAnd, AreCompared, AreFlags, AreKnown, AreNegated, AreOr, truth_by, truth_on, truths_in}
use Rattle.column_vectors.specs.Lanes.{IsLane, numbers_of}
use Rattle.column_vectors.specs.Masks.{IsMask}
use Rattle.column_vectors.specs.Totals.{number_on, is_known}
use Rattle.column_vectors.proofs.Reading.{listed}
use Rattle.column_vectors.proofs.Totals.{shown}

-- ---- three truths by two bits

true_and : (a b : Option Bool) → is_true (truth_and a b) ≡ (is_true a && is_true b)
true_and (Some true) b = refl
true_and (Some false) b = refl
true_and None (Some true) = refl
true_and None (Some false) = refl
true_and None None = refl

false_and : (a b : Option Bool) → is_true (truth_not (truth_and a b)) ≡ (is_true (truth_not a) || is_true (truth_not b))
false_and (Some true) b = refl
false_and (Some false) b = refl
false_and None (Some true) = refl
false_and None (Some false) = refl
false_and None None = refl

true_or : (a b : Option Bool) → is_true (truth_or a b) ≡ (is_true a || is_true b)
true_or (Some true) b = refl
true_or (Some false) b = refl
true_or None (Some true) = refl
true_or None (Some false) = refl
true_or None None = refl

false_or : (a b : Option Bool) → is_true (truth_not (truth_or a b)) ≡ (is_true (truth_not a) && is_true (truth_not b))
false_or (Some true) b = refl
false_or (Some false) b = refl
false_or None (Some true) = refl
false_or None (Some false) = refl
false_or None None = refl

not_twice : (a : Option Bool) → is_true a ≡ is_true (truth_not (truth_not a))
not_twice (Some true) = refl
not_twice (Some false) = refl
not_twice None = refl

two_bits : (a : Option Bool) → truth_by (is_true a) (is_true (truth_not a)) ≡ a
two_bits (Some true) = refl
two_bits (Some false) = refl
two_bits None = refl

-- ---- NOT, AND and OR

pub flags_and : (rows : List Obj) (f g : Formula) (a b c : Flags) → AreFlags rows f a → AreFlags rows g b → AreAnd a b c
    → AreFlags rows (And f g) c
flags_and rows f g a b c left right h = record {
  true_on = record {
    len = h.true_on.len ∙ left.true_on.len;
    each = λ k low.
        h.true_on.each k (omega (arith, low, left.true_on.len))
        ∙ (ap (λ x. x && get_or b.true_on.items k false) (left.true_on.each k low)
        ∙ (ap (λ x. is_true (truth_on (get_or rows k no_row) f) && x) (right.true_on.each k low) ∙ sym (true_and (truth_on (get_or rows k no_row) f) (truth_on (get_or rows k no_row) g))));
  };
  false_on = record {
    len = h.false_on.len ∙ left.false_on.len;
    each = λ k low.
        h.false_on.each k (omega (arith, low, left.false_on.len))
        ∙ (ap (λ x. x || get_or b.false_on.items k false) (left.false_on.each k low)
        ∙ (ap (λ x. is_true (truth_not (truth_on (get_or rows k no_row) f)) || x) (right.false_on.each k low) ∙ sym (false_and (truth_on (get_or rows k no_row) f) (truth_on (get_or rows k no_row) g))));
  };
}

pub flags_or : (rows : List Obj) (f g : Formula) (a b c : Flags) → AreFlags rows f a → AreFlags rows g b → AreOr a b c
    → AreFlags rows (Or f g) c
flags_or rows f g a b c left right h = record {
  true_on = record {
    len = h.true_on.len ∙ left.true_on.len;
    each = λ k low.
        h.true_on.each k (omega (arith, low, left.true_on.len))
        ∙ (ap (λ x. x || get_or b.true_on.items k false) (left.true_on.each k low)
        ∙ (ap (λ x. is_true (truth_on (get_or rows k no_row) f) || x) (right.true_on.each k low) ∙ sym (true_or (truth_on (get_or rows k no_row) f) (truth_on (get_or rows k no_row) g))));
  };
  false_on = record {
    len = h.false_on.len ∙ left.false_on.len;
    each = λ k low.
        h.false_on.each k (omega (arith, low, left.false_on.len))
        ∙ (ap (λ x. x && get_or b.false_on.items k false) (left.false_on.each k low)
        ∙ (ap (λ x. is_true (truth_not (truth_on (get_or rows k no_row) f)) && x) (right.false_on.each k low) ∙ sym (false_or (truth_on (get_or rows k no_row) f) (truth_on (get_or rows k no_row) g))));
  };
}

pub flags_negated : (negated : Bool) (rows : List Obj) (f : Formula) (a b : Flags) → AreFlags rows f a → AreNegated negated a b
    → AreFlags rows (negated_if negated f) b
flags_negated true rows f a b h n = record {
  true_on = subst (λ l. IsMask (length rows) (λ k. is_true (truth_not (truth_on (get_or rows k no_row) f))) l) (sym n.true_on) h.false_on;
  false_on = record {
    len = ap length n.false_on ∙ h.true_on.len;
    each = λ k low. ap (λ l. get_or l k false) n.false_on ∙ (h.true_on.each k low ∙ not_twice (truth_on (get_or rows k no_row) f));
  };
}
flags_negated false rows f a b h n = record {
  true_on = subst (λ l. IsMask (length rows) (λ k. is_true (truth_on (get_or rows k no_row) f)) l) (sym n.true_on) h.true_on;
  false_on = subst (λ l. IsMask (length rows) (λ k. is_true (truth_not (truth_on (get_or rows k no_row) f))) l) (sym n.false_on) h.false_on;
}

-- ---- tests

known_true : (b t : Bool) → (b && t) ≡ is_true (if b then Some t else None)
known_true true t = refl
known_true false t = refl

known_false : (b t : Bool) → (b && not t) ≡ is_true (truth_not (if b then Some t else None))
known_false true t = refl
known_false false t = refl

-- flags of what is known are those of the formula that says it
pub flags_known : (rows : List Obj) (f : Formula) (known truth : List Bool) (flags : Flags) → length known ≡ length rows
    → ((k : ℕ) → k < length rows
    → (if get_or known k false then Some (get_or truth k false) else None) ≡ truth_on (get_or rows k no_row) f)
    → AreKnown known truth flags → AreFlags rows f flags
flags_known rows f known truth flags count says h = record {
  true_on = record {
    len = h.true_on.len ∙ count;
    each = λ k low. h.true_on.each k (omega (arith, low, count)) ∙ (known_true (get_or known k false) (get_or truth k false) ∙ ap is_true (says k low));
  };
  false_on = record {
    len = h.false_on.len ∙ count;
    each = λ k low. h.false_on.each k (omega (arith, low, count)) ∙ (known_false (get_or known k false) (get_or truth k false) ∙ ap (λ v. is_true (truth_not v)) (says k low));
  };
}

compared_true : (op : Cmp) (p q : Bool) (a b : ℤ)
    → ((p && q) && compares op a b) ≡ is_true (compared op (if p then Some a else None) (if q then Some b else None))
compared_true op true true a b = refl
compared_true op true false a b = refl
compared_true op false q a b = refl

compared_false : (op : Cmp) (p q : Bool) (a b : ℤ)
    → ((p && q) && not (compares op a b)) ≡ is_true (truth_not (compared op (if p then Some a else None) (if q then Some b else None)))
compared_false op true true a b = refl
compared_false op true false a b = refl
compared_false op false q a b = refl

-- what two lanes hold at a place is the truth of the comparison on the row
pub compared_on : (op : Cmp) (t u : Term) (o : Obj)
    → compared op (if is_known o t then Some (number_on o t) else None) (if is_known o u then Some (number_on o u) else None)
    ≡ truth_on o (Compares op t u)
compared_on op t u o =
    ap (λ v. compared op v (if is_known o u then Some (number_on o u) else None)) (shown o t)
    ∙ ap (compared op (value_at (cell_of (row o)) t)) (shown o u)

pub flags_compared : (op : Cmp) (t u : Term) (rows : List Obj) (a b : Lane) (flags : Flags) → IsLane rows t a → IsLane rows u b
    → AreCompared op a b flags → AreFlags rows (Compares op t u) flags
flags_compared op t u rows a b flags left right h = record {
  true_on = record {
    len = h.true_on.len ∙ left.masked;
    each = λ k low.
        h.true_on.each k (omega (arith, low, left.masked))
        ∙ (rw (left.known k low, right.known k low, left.numbers k low, right.numbers k low) (compared_true op _ _ _ _)
        ∙ ap is_true (compared_on op t u (get_or rows k no_row)));
  };
  false_on = record {
    len = h.false_on.len ∙ left.masked;
    each = λ k low.
        h.false_on.each k (omega (arith, low, left.masked))
        ∙ (rw (left.known k low, right.known k low, left.numbers k low, right.numbers k low) (compared_false op _ _ _ _)
        ∙ ap (λ v. is_true (truth_not v)) (compared_on op t u (get_or rows k no_row)));
  };
}

among_by : (list : List ℤ) (p : Bool) (a : ℤ) → (if p then Some (is_one_of list a) else None) ≡ among (if p then Some a else None) list
among_by list true a = refl
among_by list false a = refl

pub flags_among : (list : List ℤ) (t : Term) (rows : List Obj) (a : Lane) (found : List Bool) (flags : Flags) → IsLane rows t a
    → IsMask (length (numbers_of a.numbers)) (λ k. is_one_of list (get_or (numbers_of a.numbers) k (pos 0))) found
    → AreKnown a.known.items found flags → AreFlags rows (Among t list) flags
flags_among list t rows a found flags h mask known =
    flags_known rows (Among t list) a.known.items found flags h.masked
    (λ k low.
    ap (λ b. if get_or a.known.items k false then Some b else None) (mask.each k (omega (arith, low, h.count)))
    ∙ (ap (λ b. if b then Some (is_one_of list (get_or (numbers_of a.numbers) k (pos 0))) else None) (h.known k low)
    ∙ (ap (λ n. if is_known (get_or rows k no_row) t then Some (is_one_of list n) else None) (h.numbers k low)
    ∙ (among_by list (is_known (get_or rows k no_row) t) (number_on (get_or rows k no_row) t)
    ∙ ap (λ v. among v list) (shown (get_or rows k no_row) t))))) known

present_by : (v : Option ℤ) → Some (is_some v) ≡ truth_not (Some (is_none v))
present_by None = refl
present_by (Some z) = refl

-- what has a value is not NULL
pub flags_present : (t : Term) (rows : List Obj) (a : Lane) (all : List Bool) (flags : Flags) → IsLane rows t a
    → all ≡ replicate (length rows) true → AreKnown all a.known.items flags → AreFlags rows (Not (IsNull t)) flags
flags_present t rows a all flags h everywhere known =
    flags_known rows (Not (IsNull t)) all a.known.items flags (ap length everywhere ∙ length-replicate (length rows) true)
    (λ k low.
    ap (λ l. if get_or l k false then Some (get_or a.known.items k false) else None) everywhere
    ∙ (ap (λ b. if b then Some (get_or a.known.items k false) else None) (get_or-replicate (length rows) k true false low)
    ∙ (ap Some (h.known k low) ∙ present_by _))) known

-- and what is not so is NULL
pub flags_null : (negated : Bool) (t : Term) (rows : List Obj) (a b : Flags) → AreFlags rows (Not (IsNull t)) a → AreNegated (not negated) a b
    → AreFlags rows (negated_if negated (IsNull t)) b
flags_null true t rows a b h n = flags_negated false rows (Not (IsNull t)) a b h n
flags_null false t rows a b h n =
    let twice = flags_negated true rows (Not (IsNull t)) a b h n in record {
      true_on = record { len = twice.true_on.len; each = λ k low. twice.true_on.each k low ∙ sym (not_twice (truth_on (get_or rows k no_row) (IsNull t))) };
      false_on = record { len = twice.false_on.len; each = λ k low. twice.false_on.each k low ∙ sym (not_twice (truth_not (truth_on (get_or rows k no_row) (IsNull t)))) };
    }

pub flags_area : (test : AreaTest) (rows : List Obj) (all held : List Bool) (flags : Flags) → all ≡ replicate (length rows) true
    → IsMask (length rows) (λ k. area_holds test (get_or rows k no_row).at) held → AreKnown all held flags → AreFlags rows (LiesIn test) flags
flags_area test rows all held flags everywhere mask known =
    flags_known rows (LiesIn test) all held flags (ap length everywhere ∙ length-replicate (length rows) true)
    (λ k low.
    ap (λ l. if get_or l k false then Some (get_or held k false) else None) everywhere
    ∙ (ap (λ b. if b then Some (get_or held k false) else None) (get_or-replicate (length rows) k true false low)
    ∙ ap Some (mask.each k low))) known

-- ---- the truths that flags say

pub flags_truths : (rows : List Obj) (f : Formula) (flags : Flags) → AreFlags rows f flags
    → truths_in flags.true_on.items flags.false_on.items ≡ map (λ o. truth_on o f) rows
flags_truths rows f flags h =
    listed (λ k. truth_by (get_or flags.true_on.items k false) (get_or flags.false_on.items k false)) (λ o. truth_on o f) rows (length flags.true_on.items) h.true_on.len
    (λ k low.
    ap (λ b. truth_by b (get_or flags.false_on.items k false)) (h.true_on.each k low)
    ∙ (ap (truth_by (is_true (truth_on (get_or rows k no_row) f))) (h.false_on.each k low) ∙ two_bits (truth_on (get_or rows k no_row) f)))

-- ---- truths as they are told

pub truths_count : (p q : List Bool) → length (truths_in p q) ≡ length p
truths_count p q = length-map-range_with_len (λ k. truth_by (get_or p k false) (get_or q k false)) 0 (length p)

pub truth_is : (p q : List Bool) (i : ℕ) (d : Option Bool) → i < length p
    → get_or (truths_in p q) i d ≡ truth_by (get_or p i false) (get_or q i false)
truth_is p q i d low =
    get_or-map-range_with_len (λ k. truth_by (get_or p k false) (get_or q k false)) 0 (length p) i i d low (omega arith)

true_by : (a b : Bool) → a ≡ is_true (truth_by a b)
true_by true b = refl
true_by false true = refl
true_by false false = refl

-- where it is true
pub truths_hold : (p q : List Bool) → p ≡ map is_true (truths_in p q)
truths_hold p q =
    same_lists p (map is_true (truths_in p q)) (sym (length-map (truths_in p q) is_true ∙ truths_count p q))
    (λ k d low.
    let there : k < length (truths_in p q) = omega (arith, low, truths_count p q) in
    get_or_default p k d false low
    ∙ (true_by (get_or p k false) (get_or q k false)
    ∙ sym (get_or-map is_true (truths_in p q) k None d there ∙ ap is_true (truth_is p q k None low))))
