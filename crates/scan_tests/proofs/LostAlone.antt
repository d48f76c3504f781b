-- Why a worker loses only the query whose pieces its engine refuses.
use Rattle.std.proofs.Common.{◌≡◌, ℕ, List, [], true, ⊎_elim, sym, ◌∙◌, subst}
use Rattle.std.proofs.lemmas.Bool.{false≢true}
use Rattle.scan_rules.specs.Queries.{Journal, is_lost}
use Rattle.scan_worker.specs.Missing.{LosesOnly, MayLose, RefusesAll}
use Rattle.scan_worker.proofs.Losing.{has_turn}

-- from no lines on, where only the pieces of query 3 are refused
pub lost_alone : {P : Type 0} (stands : ℕ → List ℕ → P → Type 0) (old new : Journal) → old ≡ []
    → LosesOnly (MayLose (λ q chunk. q ≡ 3) (RefusesAll (λ q chunk. q ≡ 3)) (λ (mine other : P). ⊥) stands) old new
    → (q : ℕ) → is_lost new q ≡ true → q ≡ 3
lost_alone stands old new none l q h = ⊎_elim
    (λ was. absurd (false≢true (subst (λ (j : Journal). is_lost j q ≡ true) none was)))
    (λ m. ⊎_elim (λ r. r.piece)
    (λ n. ⊎_elim (λ u. let at = has_turn u.task.queries q u.asked in sym at.2 ∙ u.list.each at.0 at.1) (λ a. absurd a.full) n) m)
    (l.each q h)
