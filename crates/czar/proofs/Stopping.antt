-- How a query ends if the finish of its piece stops.
use Rattle.std.proofs.Common.{◌≡◌, ◌∙◌, sym, ap, ℕ, Ok, Err, Result, IfOk}
use Rattle.sky_io.specs.Stops.{IfBad}
use Rattle.sky_io.specs.declared.Memory.{Memory}
use Rattle.sky_io.specs.declared.Stop.{Stop}
use Rattle.sky_io.specs.declared.Stop.TheVariants as stop
use Rattle.sql_tree.specs.declared.query.Query.{Query}
use Rattle.answer_rules.specs.Answers.{Answer}
use Rattle.answer_rules.specs.declared.refusal.TotalOut.{TotalOut}
use Rattle.czar.specs.Ended.{answer_end}
use Rattle.czar.specs.Running.{IsOutOfRange}
use Rattle.query_ends.specs.declared.end.End.{End}

-- the total out of range is its refusal
pub stopped : (head : Query) (n : ℕ) (answer : Answer) (s : Stop TotalOut) (r : Result End Memory)
    → IfBad s (λ (o : TotalOut). answer ≡ Err o.total) → IfOk r (IsOutOfRange s) → IfOk r (λ e. e ≡ answer_end head n answer)
stopped head n answer s (Err m) bad is = tt
stopped head n answer (stop.Bad o) (Ok e) bad is = is ∙ ap (answer_end head n) (sym bad)
stopped head n answer stop.Memory (Ok e) bad is = absurd is
