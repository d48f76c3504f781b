-- Runs of equal numbers, each of which is added as one group.
use Rattle.std.proofs.Common.{◌≡◌, ◌∙◌, ℕ, ◌+◌, ℤ, pos, Bool, List, ◌++◌, get_or, replicate, take, drop, sym, ap, subst}
use Rattle.std.proofs.lemmas.List.{take-append-drop}
use Rattle.answer_rules.specs.Gather.{gather}
use Rattle.answer_rules.specs.Keys.{key_order}
use Rattle.answer_rules.specs.Parts.{add_own_sums}
use Rattle.partial_groups.specs.Groups.{Gathered, MayGather}
use Rattle.partial_groups.specs.Ungrouped.{row_groups}
use Rattle.partial_groups.proofs.RowCounts.{gone_on, may_front, may_go_on}

abbrev gather_own : Gathered → Gathered
gather_own gs = gather key_order add_own_sums gs

-- the first numbers may be put where all may
firsts_may : (gs : Gathered) (counted : List Bool) (values : List ℤ) (k : ℕ) → MayGather gs (row_groups counted values) → MayGather gs (row_groups counted (take k values))
firsts_may gs counted values k m = may_front gs counted (take k values) (drop k values) (subst (λ l. MayGather gs (row_groups counted l)) (sym (take-append-drop k values)) m)

-- the rows of the next run may be put
pub run_may : (gs now : Gathered) (counted : List Bool) (values : List ℤ) (i n : ℕ) (value : ℤ) → take (i + n) values ≡ take i values ++ replicate n (get_or values i (pos 0)) → value ≡ get_or values i (pos 0)
    → MayGather gs (row_groups counted values) → now ≡ gather_own (gs ++ row_groups counted (take i values)) → MayGather now (row_groups counted (replicate n value))
run_may gs now counted values i n value run is m e =
    may_go_on gs now counted (take i values) (replicate n value)
    (subst (λ l. MayGather gs (row_groups counted l)) (run ∙ ap (λ v. take i values ++ replicate n v) (sym is)) (firsts_may gs counted values (i + n) m)) e

-- and then the rows of all numbers up to its end are put
pub run_put : (gs now new : Gathered) (counted : List Bool) (values : List ℤ) (i n : ℕ) (value : ℤ) → take (i + n) values ≡ take i values ++ replicate n (get_or values i (pos 0)) → value ≡ get_or values i (pos 0)
    → MayGather gs (row_groups counted values) → now ≡ gather_own (gs ++ row_groups counted (take i values)) → new ≡ gather_own (now ++ row_groups counted (replicate n value))
    → new ≡ gather_own (gs ++ row_groups counted (take (i + n) values))
run_put gs now new counted values i n value run is m e f =
    let all : take (i + n) values ≡ take i values ++ replicate n value = run ∙ ap (λ v. take i values ++ replicate n v) (sym is) in
    gone_on gs now new counted (take i values) (replicate n value) (subst (λ l. MayGather gs (row_groups counted l)) all (firsts_may gs counted values (i + n) m)) e f
    ∙ ap (λ l. gather_own (gs ++ row_groups counted l)) (sym all)
