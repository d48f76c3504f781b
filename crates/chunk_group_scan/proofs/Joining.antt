-- Numbers that are joined one by one come to the part of an aggregate.
use Rattle.std.proofs.Common.{◌≡◌, ◌∙◌, refl, ap, ℕ, ◌≤◌, arith, ℤ, ◌+ℤ◌, nat_abs, List, [], ◌∷◌, ◌++◌, length, length-append, Option, None, Some, option_to_list}
use Rattle.std.specs.List.{AllByRecursion as Each, flat_map}
use Rattle.std.proofs.lemmas.Int.{ints}
use Rattle.value_rules.specs.Widths.{IsOfSize, most}
use Rattle.answer_rules.specs.declared.way.Way.{Way}
use Rattle.answer_rules.specs.declared.way.Way.TheVariants.{Added, Least, Greatest}
use Rattle.answer_rules.specs.Aggregates.{all_joined, greater, joined_to, lesser}
use Rattle.answer_rules.specs.Parts.{Part, join_by, part_by}
use Rattle.answer_rules.proofs.PartsAdd.{same_part}
use Rattle.column_vectors.specs.Aggregates.{joined_all, joined_from, sum_of}

abbrev pub Fits : ℤ → Type 0
Fits z = nat_abs z ≤ most

-- ---- the laws of a way of joining

lesser_assoc : (a b c : ℤ) → lesser (lesser a b) c ≡ lesser a (lesser b c)
lesser_assoc a b c = grind (arith, ints)

greater_assoc : (a b c : ℤ) → greater (greater a b) c ≡ greater a (greater b c)
greater_assoc a b c = grind (arith, ints)

join_assoc : (w : Way) (a b c : ℤ) → join_by w (join_by w a b) c ≡ join_by w a (join_by w b c)
join_assoc Added a b c = omega (arith, ints)
join_assoc Least a b c = lesser_assoc a b c
join_assoc Greatest a b c = greater_assoc a b c

-- ---- one after the other, or each with what those behind it come to

joined_behind : (w : Way) (z y : ℤ) (rest : Option ℤ) → joined_to (join_by w) (join_by w z y) rest ≡ join_by w z (joined_to (join_by w) y rest)
joined_behind w z y None = refl
joined_behind w z y (Some x) = join_assoc w z y x

from_left : (w : Way) (z : ℤ) (zs : List ℤ) → joined_from (join_by w) z zs ≡ joined_to (join_by w) z (all_joined (join_by w) zs)
from_left w z [] = refl
from_left w z (y ∷ ys) = from_left w (join_by w z y) ys ∙ joined_behind w z y (all_joined (join_by w) ys)

pub all_is : (w : Way) (zs : List ℤ) → joined_all (join_by w) zs ≡ all_joined (join_by w) zs
all_is w [] = refl
all_is w (z ∷ zs) = ap Some (from_left w z zs)

-- ---- the part of an aggregate

-- the sum of some numbers
pub sum_part : (numbers : List ℤ) (seen : ℕ) (part : Part) → seen ≡ length numbers → 1 ≤ seen → part ≡ record { way = Added; seen = seen; value = Some (sum_of numbers) } → part ≡ part_by Added numbers
sum_part [] seen part count some is = absurd (omega (arith, count, some))
sum_part (z ∷ zs) seen part count some is =
    is ∙ same_part Added seen (length (z ∷ zs)) (Some (sum_of (z ∷ zs))) (all_joined (join_by Added) (z ∷ zs)) count
    (ap Some (ap (λ a. joined_from (λ a b. a +ℤ b) a zs) (omega (arith, ints))) ∙ all_is Added (z ∷ zs))

-- of no numbers there is none
pub no_part : (w : Way) (numbers : List ℤ) (seen : ℕ) (part : Part) → seen ≡ length numbers → seen ≡ 0 → part ≡ record { way = w; seen = 0; value = None } → part ≡ part_by w numbers
no_part w [] seen part count none is = is
no_part w (z ∷ zs) seen part count none is = absurd (omega (arith, count, none))

-- the least or the greatest of numbers
pub chosen_part : (w : Way) (numbers : List ℤ) (seen : ℕ) (value : Option ℤ) (part : Part) → seen ≡ length numbers → value ≡ joined_all (join_by w) numbers
    → part ≡ record { way = w; seen = seen; value = value } → part ≡ part_by w numbers
chosen_part w numbers seen value part count chosen is =
    is ∙ same_part w seen (length numbers) value (all_joined (join_by w) numbers) count (chosen ∙ all_is w numbers)

-- ---- the numbers among values

one_fits : (v : Option ℤ) (vs : List ℤ) → IsOfSize most v → Each Fits vs → Each Fits (option_to_list v ++ vs)
one_fits None vs h k = k
one_fits (Some z) vs h k = (h, k)

pub numbers_fit : (values : List (Option ℤ)) → Each (IsOfSize most) values → Each Fits (flat_map option_to_list values)
numbers_fit [] h = tt
numbers_fit (v ∷ values) h = one_fits v (flat_map option_to_list values) h.0 (numbers_fit values h.1)

one_few : (v : Option ℤ) → length (option_to_list v) ≤ 1
one_few None = omega arith
one_few (Some z) = omega arith

pub numbers_few : (values : List (Option ℤ)) → length (flat_map option_to_list values) ≤ length values
numbers_few [] = omega arith
numbers_few (v ∷ values) = omega (arith, length-append (option_to_list v) (flat_map option_to_list values), one_few v, numbers_few values)
