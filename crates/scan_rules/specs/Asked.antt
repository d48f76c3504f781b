-- Lemmas about a run over a root: the root asks each of its queries for what the query wants and is served.
use Rattle.std.specs.Prelude.{◌≡◌, ℕ, ◌++◌, true}
use Rattle.scan_rules.specs.Numbers.{has}
use Rattle.scan_rules.specs.Queries.{Journal, wanted, is_served}
use Rattle.scan_rules.specs.Runs.{IsRunOver}

-- the root asks of a query each chunk that the query was attached with
abbrev pub WantedIsAsked : {R : Type 0} → (R → ℕ → ℕ → Type 0) → Type 0
WantedIsAsked {R} asks =
    (root : R) (ring : ℕ) (past : Journal) (q chunk : ℕ)
    → IsRunOver ring (asks root) past → has (wanted past q) chunk ≡ true → asks root q chunk

-- the root asks of a query each chunk that the query was served
abbrev pub ServedIsAsked : {R : Type 0} → (R → ℕ → ℕ → Type 0) → Type 0
ServedIsAsked {R} asks =
    (root : R) (ring : ℕ) (past : Journal) (q chunk : ℕ)
    → IsRunOver ring (asks root) past → is_served past q chunk ≡ true → asks root q chunk

-- a prefix of a run over a root is a run over the root
abbrev pub FrontsAreAsked : {R : Type 0} → (R → ℕ → ℕ → Type 0) → Type 0
FrontsAreAsked {R} asks =
    (root : R) (ring : ℕ) (front rest : Journal)
    → IsRunOver ring (asks root) (front ++ rest) → IsRunOver ring (asks root) front
