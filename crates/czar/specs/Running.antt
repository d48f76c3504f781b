-- What the run of a query over its chunks depends on, and its result.
use Rattle.std.specs.Prelude.{◌≡◌, ◌+◌, ◌<◌, ℕ, ℤ, true, List, None, Ok, Err, length}
use Rattle.table_rules.specs.Objects.{Catalogue}
use Rattle.table_rules.specs.declared.limits.TheConstants.{FIRST_COLUMNS}
use Rattle.sky_rules.specs.Partition.{Partition, chunk_count}
use Rattle.chunk_rules.specs.Filled.{is_filled}
use Rattle.sql_rules.specs.PrintedExprs.{Bytes}
use Rattle.sql_tree.specs.declared.query.Query.{Query}
use Rattle.sql_bound.specs.declared.query.Bound.{Bound}
use Rattle.sql_bound.specs.declared.query.Shape.{Shape}
use Rattle.value_rules.specs.Sound.{IsSound}
use Rattle.value_rules.specs.Tested.{IsTested}
use Rattle.answer_rules.specs.Answers.{flat_answer}
use Rattle.answer_rules.specs.Plans.{plan_of, radius_refusal, Reaches}
use Rattle.answer_rules.specs.Rewriting.{rewritten}
use Rattle.answer_rules.specs.declared.rewritten.Rewritten.{Rewritten}
use Rattle.answer_rules.specs.declared.value.Value.{Value}
use Rattle.sky_io.specs.declared.Stop.{Stop}
use Rattle.sky_io.specs.declared.Stop.TheVariants as stop
use Rattle.answer_rules.specs.declared.refusal.TotalOut.{TotalOut}
use Rattle.transcript_rules.specs.declared.refusal.Refusal.TheVariants as refusal
use Rattle.query_ends.specs.declared.end.End.{End}
use Rattle.query_ends.specs.declared.end.End.TheVariants as end
use Rattle.czar.specs.Plans.{IsPlanned}

-- The chunk can be scanned for a chunk query of this shape: it has rows, and its overlap suffices for a join's limit.
pub record IsOpen (g : Partition) (c : Catalogue) (shape : Shape) (chunk : ℕ) : Type 0 where
  pub there : chunk < chunk_count g
  pub filled : is_filled g c.objects chunk ≡ true
  pub reach : Reaches g shape chunk

-- A query that can be run: it is well-formed and tested, this is its rewriting, these are its chunks, and their overlap
-- allows it.
pub record CanRun (g : Partition) (c : Catalogue) (q : Bound) (query : Rewritten) (chunks : List ℕ) : Type 0 where
  pub sound : IsSound (FIRST_COLUMNS + length c.names) q
  pub tested : IsTested q
  pub cut : query ≡ rewritten q
  pub plan : chunks ≡ plan_of g c.objects q
  pub allowed : radius_refusal g c.objects q ≡ None

-- Some query has this rewriting, needs these chunks, and can be run.
pub record IsRunnable (g : Partition) (c : Catalogue) (query : Rewritten) (chunks : List ℕ) : Type 0 where
  pub bound : Bound
  pub can : CanRun g c bound query chunks

-- each query with this rewriting and these chunks has this answer over the flat table
abbrev pub Answers : Partition → Catalogue → Rewritten → List ℕ → List (List Value) → Type 0
Answers g c query chunks table = (q : Bound) → CanRun g c q query chunks → flat_answer c.objects q ≡ Ok table

-- each query with this rewriting and these chunks has this total out of range
abbrev pub IsTotalOf : Partition → Catalogue → Rewritten → List ℕ → ℤ → Type 0
IsTotalOf g c query chunks total = (q : Bound) → CanRun g c q query chunks → flat_answer c.objects q ≡ Err total

-- The plan of some line.
pub record IsSomePlan (g : Partition) (c : Catalogue) (head : Query) (query : Rewritten) (chunks : List ℕ) : Type 0 where
  pub text : Bytes
  pub is : IsPlanned g c text head query chunks

-- the end of a query whose finish stops with this error: its total is the refusal
abbrev pub IsOutOfRange : Stop TotalOut → End → Type 0
IsOutOfRange (stop.Bad out) e = e ≡ end.Refused (refusal.Total out)
IsOutOfRange stop.Memory e = ⊥
