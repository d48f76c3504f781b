use Rattle.std.proofs.Common.{◌≡◌, ℕ, subst}
use Rattle.scan_classes.specs.ClassTakes.{AnswersClassTake, HasClassTask}
use Rattle.scan_classes.specs.Pairs.{PairSeat}
use Rattle.scan_classes.specs.declared.class.Class.TheVariants.{Short, Long}
use Rattle.scan_classes.specs.declared.class.ClassTake.{ClassTake}
use Rattle.scan_classes.specs.declared.class.ClassTake.TheVariants as taken
use Rattle.scan_classes.proofs.TwoTakes.{ended_taken, idle_taken, long_taken, short_taken}
use Rattle.scan_classes.proofs.class_tasks.ClassesTasks.take.Goals as goal

answered : {R : Type 0} (asks : R → ℕ → ℕ → Type 0) (old new : PairSeat R) (r s : ClassTake) → r ≡ s → AnswersClassTake asks old r new → AnswersClassTake asks old s new
answered asks old new r s e h = subst (λ (t : ClassTake). AnswersClassTake asks old t new) e h

held : {R : Type 0} (asks : R → ℕ → ℕ → Type 0) (old new : PairSeat R) (r s : ClassTake) → r ≡ s → HasClassTask asks old r new → HasClassTask asks old s new
held asks old new r s e h = subst (λ (t : ClassTake). HasClassTask asks old t new) e h

pub take-taken-requires-clause-short : goal.take-taken-requires-clause-short
take-taken-requires-clause-short g c = c.requires.own Short

pub take-taken-requires-clause-long : goal.take-taken-requires-clause-long
take-taken-requires-clause-long g c = c.requires.own Long

pub returns-in-Short : goal.returns-in-Short
returns-in-Short g c =
    let old = c.args.pair in
    let new = c.take-taken.result.1 in
    let answer = answered g.P.Work.asks old new c.take-taken.result.0 (taken.Short c.in-Short.task) c.in-Short.is c.take-taken.ensures.answer in
    let has = held g.P.Work.asks old new c.take-taken.result.0 (taken.Short c.in-Short.task) c.in-Short.is c.take-taken.ensures.holds in
    record { answer = short_taken g.P.Work.asks old new c.in-Short.task answer.0 answer.1 has.0 has.1 }

pub returns-in-Long : goal.returns-in-Long
returns-in-Long g c =
    let old = c.args.pair in
    let new = c.take-taken.result.1 in
    let answer = answered g.P.Work.asks old new c.take-taken.result.0 (taken.Long c.in-Long.task) c.in-Long.is c.take-taken.ensures.answer in
    let has = held g.P.Work.asks old new c.take-taken.result.0 (taken.Long c.in-Long.task) c.in-Long.is c.take-taken.ensures.holds in
    record { answer = long_taken g.P.Work.asks old new c.in-Long.task answer.0 answer.1 has.0 has.1 }

pub returns-in-Idle : goal.returns-in-Idle
returns-in-Idle g c =
    let old = c.args.pair in
    let new = c.take-taken.result.1 in
    record { answer = idle_taken g.P.Work.asks old new (answered g.P.Work.asks old new c.take-taken.result.0 taken.Idle c.in-Idle.is c.take-taken.ensures.answer) }

pub returns-in-Ended : goal.returns-in-Ended
returns-in-Ended g c =
    let old = c.args.pair in
    let new = c.take-taken.result.1 in
    let answer = answered g.P.Work.asks old new c.take-taken.result.0 taken.Ended c.in-Ended.is c.take-taken.ensures.answer in
    record { answer = ended_taken g.P.Work.asks old new answer.0 answer.1 }
