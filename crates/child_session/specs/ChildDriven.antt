-- What a session over a child table leaves, and what the end of each query depends on.
use Rattle.std.specs.Prelude.{◌≡◌, ℕ, ◌+◌, List, Some, length, slice_get}
use Rattle.sky_rules.specs.Partition.{chunk_count}
use Rattle.scan_rules.specs.Queries.{Journal, Done, state_of}
use Rattle.answer_rules.specs.Pieces.{PieceView}
use Rattle.session_script.specs.declared.step.Step.{Step}
use Rattle.session_rules.specs.declared.end.EndKind.{EndKind}
use Rattle.session_rules.specs.declared.end.EndKind.TheVariants.{Answered}
use Rattle.scan_session.specs.Drove.{AreEnds}
use Rattle.scan_session.specs.Laws.{AreDriven}
use Rattle.scan_session.specs.declared.end.End.{End as BoardEnd}
use Rattle.child_rules.specs.ChildBases.{ChildStands}
use Rattle.child_session.specs.ChildAttached.{child_base_of, child_chunks_planned}
use Rattle.child_session.specs.ChildSurvey.{ChildSurvey}
use Rattle.child_session.specs.declared.plan.ChildPlan.{ChildPlan}

-- each query that ended answered is done in the journal: all of its chunks were taken and delivered
abbrev pub AnsweredAreDone : Journal → List EndKind → Type 0
AnsweredAreDone seen ends = (i : ℕ) → slice_get ends i ≡ Some Answered → state_of seen (i + 1) ≡ Done

-- This journal of the board justifies these ends, in a session with the given number of workers whose queries have
-- these plans.
pub record IsChildDriven (workers : ℕ) (t : ChildSurvey) (steps : List Step) (plans : List ChildPlan) (seen : Journal)
    (ends : List (BoardEnd PieceView)) : Type 0 where
  pub driven : AreDriven workers (child_chunks_planned plans) steps (chunk_count t.plan)
      (λ q. child_chunks_planned plans) (λ q. seen)
  pub each : length ends ≡ length plans
  pub are : AreEnds (ChildStands (child_base_of t plans)) (child_chunks_planned plans) (λ q. seen) ends
