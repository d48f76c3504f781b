-- The limit of the demo's join is the square of the overlap radius of every chunk of its sky.
use Rattle.std.proofs.Common.{◌≡◌, refl, ap, ℕ, pos, min, true, nat_eq, List, [], ◌∷◌, map, None, arith}
use Rattle.std.specs.List.{AllByRecursion as Each, fold, list_all}
use Rattle.std.proofs.lemmas.Bool.{and_parts}
use Rattle.table_rules.specs.Objects.{Obj}
use Rattle.sky_rules.specs.Chunks.{all_chunks}
use Rattle.sky_rules.specs.Partition.{overlap_at}
use Rattle.answer_rules.specs.Plans.{above_radius, is_needed, overlap_of, plan_of, radius_refusal}
use Rattle.answer_rules.proofs.Apart.{each_filter}
use Rattle.demo_answers.specs.DemoInput.{demo_plan}
use Rattle.demo_answers.proofs.DemoQueries.{demo_totals, demo_kinds, demo_belt, demo_pairs}

-- ---- the overlap radius of each chunk

same_numbers : (a b : ℕ) → nat_eq a b ≡ true → a ≡ b
same_numbers a b h = grind (arith, h)

each_passes : (f : ℕ → ℕ) (n : ℕ) (cs : List ℕ) → list_all (λ c. nat_eq (f c) n) cs ≡ true → Each (λ c. f c ≡ n) cs
each_passes f n [] h = tt
each_passes f n (c ∷ cs) h =
    let both = and_parts (nat_eq (f c) n) (list_all (λ k. nat_eq (f k) n) cs) h in
    (same_numbers (f c) n both.0, each_passes f n cs both.1)

tested : list_all (λ c. nat_eq (overlap_at demo_plan c) 65536) (all_chunks demo_plan) ≡ true
tested = refl

each_overlap : Each (λ c. overlap_at demo_plan c ≡ 65536) (all_chunks demo_plan)
each_overlap = each_passes (overlap_at demo_plan) 65536 (all_chunks demo_plan) tested

-- ---- the least of them

min_same : (a b n : ℕ) → a ≡ n → b ≡ n → min a b ≡ n
min_same a b n h k = omega (arith, h, k)

least_same : (f : ℕ → ℕ) (n a : ℕ) (cs : List ℕ) → a ≡ n → Each (λ c. f c ≡ n) cs → fold min a (map f cs) ≡ n
least_same f n a [] is h = is
least_same f n a (c ∷ cs) is h = least_same f n (min a (f c)) cs (min_same a (f c) n is h.0) h.1

-- of no chunk it is that of all stripes
least_overlap_is : (chunks : List ℕ) → Each (λ c. overlap_at demo_plan c ≡ 65536) chunks → overlap_of demo_plan chunks ≡ 65536
least_overlap_is [] h = least_same (λ n. n) 65536 65536 (65536 ∷ 65536 ∷ 65536 ∷ []) refl (refl, (refl, (refl, tt)))
least_overlap_is (c ∷ chunks) h = least_same (overlap_at demo_plan) 65536 (overlap_at demo_plan c) chunks h.0 h.1

-- ---- the refusal

pub pairs_are_near : (table : List Obj) → radius_refusal demo_plan table demo_pairs ≡ None
pairs_are_near table =
    ap (above_radius (pos 4294967296))
    (least_overlap_is (plan_of demo_plan table demo_pairs)
    (each_filter (λ c. overlap_at demo_plan c ≡ 65536) (is_needed demo_plan table demo_pairs) (all_chunks demo_plan) each_overlap))

-- no other query has a radius
pub totals_are_near : (table : List Obj) → radius_refusal demo_plan table demo_totals ≡ None
totals_are_near table = refl

pub kinds_are_near : (table : List Obj) → radius_refusal demo_plan table demo_kinds ≡ None
kinds_are_near table = refl

pub belt_is_near : (table : List Obj) → radius_refusal demo_plan table demo_belt ≡ None
belt_is_near table = refl
