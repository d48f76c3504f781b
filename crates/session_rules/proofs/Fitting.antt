-- Ends fit where each query may end so.
use Rattle.std.proofs.Common.{◌≡◌, refl, ap, ◌∙◌, subst, ℕ, zero, suc, ◌+◌, arith, Bool, true, false, ◌&&◌, List, [], ◌∷◌, length, Some, slice_get, nat_eq}
use Rattle.std.proofs.lemmas.Bool.{eq-eqb}
use Rattle.session_script.specs.Scripts.{query_count}
use Rattle.session_script.specs.declared.step.Step.{Step}
use Rattle.session_rules.specs.Ends.{Judged, may_end, may_end_from}
use Rattle.session_rules.specs.Laws.{FitsByEach}
use Rattle.session_rules.specs.declared.end.EndKind.{EndKind}

both_hold : (a b : Bool) → a ≡ true → b ≡ true → (a && b) ≡ true
both_hold true b one other = other
both_hold false b one other = one

-- each of the queries from a number on may end so
from_each : (workers : ℕ) (steps : List Step) (k : ℕ) (judged : List Judged) (ends : List EndKind) → length ends ≡ length judged
    → ((i : ℕ) (j : Judged) (e : EndKind) → slice_get judged i ≡ Some j → slice_get ends i ≡ Some e → may_end workers steps (i + k) j e ≡ true)
    → may_end_from workers steps k judged ends ≡ true
from_each workers steps k [] [] same each = refl
from_each workers steps k [] (e ∷ es) same each = absurd (omega (arith, same))
from_each workers steps k (j ∷ js) [] same each = absurd (omega (arith, same))
from_each workers steps k (j ∷ js) (e ∷ es) same each =
    let behind : length es ≡ length js = omega (arith, same) in
    let first : k ≡ 0 + k = omega arith in
    both_hold _ _ (ap (λ n. may_end workers steps n j e) first ∙ each zero j e refl refl)
    (from_each workers steps (k + 1) js es behind
    (λ i x y there ended. ap (λ n. may_end workers steps n x y) (next i k) ∙ each (suc i) x y there ended))
  where
    next : (i k : ℕ) → i + (k + 1) ≡ suc i + k
    next i k = omega arith

pub fits_by_each : FitsByEach
fits_by_each workers steps judged ends all same each =
    both_hold (nat_eq (length judged) (query_count steps)) _ (eq-eqb (length judged) (query_count steps) all) (from_each workers steps 1 judged ends same each)
