use Rattle.std.proofs.Common.{◌≤◌, ◌∙◌, Some, ap, arith, rules, FitsSigned}
use Rattle.std.specs.Int.{w128}
use Rattle.std.proofs.lemmas.Int.{to_z-of_z}
use Rattle.answer_rules.specs.Parts.{Part}
use Rattle.answer_rules.specs.declared.way.Way.TheVariants.{Added}
use Rattle.column_vectors.specs.Aggregates.{numbers_between}
use Rattle.chunk_group_scan.proofs.Joining.{no_part, sum_part}
use Rattle.chunk_group_scan.proofs.states.sum_of.Goals as goal

pub returns-then-seen-eq0 : goal.returns-then-seen-eq0
returns-then-seen-eq0 c =
    no_part Added (numbers_between c.args.found.now c.args.from c.args.to) c.count-seen.result c.new.result c.count-seen.ensures c.if-seen-eq0.true c.new.ensures

pub returns-else-seen-eq0 : goal.returns-else-seen-eq0
returns-else-seen-eq0 c =
    let fits : FitsSigned w128 c.sum.result = search rules in
    let some : 1 ≤ c.count-seen.result = omega (arith, c.if-seen-eq0.false) in
    sum_part (numbers_between c.args.found.now c.args.from c.args.to) c.count-seen.result c.new-else-seen-eq0.result c.count-seen.ensures some
    (c.new-else-seen-eq0.ensures
    ∙ ap (λ z. let p : Part = record { way = Added; seen = c.count-seen.result; value = Some z } in p) (to_z-of_z w128 _ fits ∙ c.sum.ensures))
