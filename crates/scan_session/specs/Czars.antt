-- What the czar's part of a session requires, and what it leaves.
use Rattle.std.specs.Prelude.{◌≡◌, ℕ, ◌≤◌, List, [], Bool, Option, length}
use Rattle.atomic_table.specs.Seated.{TableId}
use Rattle.scan_rules.specs.declared.limits.TheConstants.{QUERY_MOST}
use Rattle.scan_board.specs.Calls.{BoardSeat}
use Rattle.session_script.specs.declared.step.Step.{Step}
use Rattle.scan_session.specs.Plans.{Plans}
use Rattle.scan_session.specs.Places.{AreCzars, GoingAll, AllStand, AllFit}
use Rattle.scan_session.specs.KnownEnds.{known_in, AllKnown, Marks, MoreKnown, Ready}
use Rattle.scan_session.specs.Goes.{IsScript}
use Rattle.scan_session.specs.Crews.{Leaves}
use Rattle.scan_session.specs.declared.end.End.{End}
use Rattle.scan_session.specs.declared.end.Planned.{Planned}
use Rattle.scan_session.specs.declared.end.Outcome.{Outcome}
use Rattle.scan_session.specs.declared.end.Outcome.TheVariants.{Went}

-- The czar has its participants, and a script of the queries in two lists: what is planned of each, and its end if that
-- is known. Each planned query may be attached.
pub record MayRun {R L P : Type 0} (asks : R → ℕ → ℕ → Type 0) (stands : R → ℕ → List ℕ → P → Type 0) (locks : L → TableId)
    (suits : ℕ → List ℕ → Type 0) (root : R) (old : L → BoardSeat R) (plans : List (Option (Planned P)))
    (ends : List (Option (End P))) (steps : List Step) : Type 0 where
  pub seats : AreCzars asks locks root old
  pub script : IsScript (length ends) steps
  pub len : length plans ≡ length ends
  pub few : length ends ≤ QUERY_MOST
  pub fit : AllFit stands asks suits old plans

-- ends that are known stay, and each answer still represents all the chunks of its query
pub record Learns {R L P : Type 0} (stands : R → ℕ → List ℕ → P → Type 0) (home : ℕ → L) (old new : L → BoardSeat R)
    (before after : List (Option (End P))) : Type 0 where
  pub more : MoreKnown before after
  pub whole : AllStand stands home old before → AllStand stands home new after

-- The czar's part ended with this outcome, and with these ends in the place of those known before. If it went, all are
-- known.
pub record Ran {R L P : Type 0} (stands : R → ℕ → List ℕ → P → Type 0) (has : L → ℕ → Bool) (home : ℕ → L)
    (old new : L → BoardSeat R) (plans : List (Option (Planned P))) (before after : List (Option (End P)))
    (steps : List Step) (outcome : Outcome) : Type 0 where
  pub leaves : (plan : Plans) → Marks plan before → Ready plan [] plans
      → GoingAll has plan [] old (known_in before) → Leaves has plan steps new (known_in after) outcome
  pub known : outcome ≡ Went → AllKnown after
  pub learns : Learns stands home old new before after
