-- Lemmas about one lap of the shared scan, counted in takes. They say nothing about time.
use Rattle.std.specs.Prelude.{◌≡◌, ℕ, ◌≤◌, List, [], ◌∷◌, ◌++◌, length, true, false}
use Rattle.scan_rules.specs.declared.journal_line.JournalLine.TheVariants.{Take}
use Rattle.scan_rules.specs.Numbers.{has, are_distinct}
use Rattle.scan_rules.specs.Queries.{Journal, is_attached, is_cancelled, is_lost, wanted, is_served}
use Rattle.scan_rules.specs.Scan.{taken, lap_length}
use Rattle.scan_rules.specs.Runs.{IsRun}

-- the query is attached, and neither cancelled nor lost
pub record Stands (past : Journal) (q : ℕ) : Type 0 where
  pub attached : is_attached past q ≡ true
  pub not_cancelled : is_cancelled past q ≡ false
  pub not_lost : is_lost past q ≡ false

-- a query has been served its whole list once as many takes have followed as there are different wanted chunks: they
-- are counted from any point at which the query is attached
abbrev pub LapServesAll : Type 0
LapServesAll =
    (ring : ℕ) (before after : Journal) (q chunk : ℕ)
    → IsRun ring (before ++ after) → is_attached before q ≡ true → Stands (before ++ after) q
    → lap_length ring (before ++ after) ≤ length (taken after)
    → has (wanted (before ++ after) q) chunk ≡ true → is_served (before ++ after) q chunk ≡ true

-- from a point at which the query is attached up to the take of its last chunk, the takes have different chunks
abbrev pub LapRepeatsNone : Type 0
LapRepeatsNone =
    (ring : ℕ) (before after : Journal) (seat ticket taking : ℕ) (queries : List ℕ) (rest : Journal) (q chunk : ℕ)
    → IsRun ring ((before ++ after) ++ Take seat ticket taking queries ∷ rest)
    → is_attached before q ≡ true → Stands (before ++ after) q
    → has (wanted (before ++ after) q) chunk ≡ true → is_served (before ++ after) q chunk ≡ false
    → are_distinct (taken (after ++ Take seat ticket taking queries ∷ [])) ≡ true
