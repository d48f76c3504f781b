use Rattle.std.proofs.Common.{◌∙◌, ap, sym}
use Rattle.answer_rules.specs.Parts.{part_by}
use Rattle.answer_rules.specs.declared.way.Way.TheVariants.{Greatest}
use Rattle.column_vectors.specs.Aggregates.{numbers_between as numbers_in}
use Rattle.chunk_group_scan.specs.States.{numbers_between}
use Rattle.chunk_group_scan.proofs.Joining.{chosen_part}
use Rattle.chunk_group_scan.proofs.states.greatest.Goals as goal

pub returns-in-Some : goal.returns-in-Some
returns-in-Some c =
    chosen_part Greatest (numbers_in c.in-Some.found c.args.from c.args.to) c.count.result c.greatest.result c.new-in-Some.result c.count.ensures c.greatest.ensures c.new-in-Some.ensures
    ∙ ap (λ v. part_by Greatest (numbers_between v c.args.from c.args.to)) (sym c.in-Some.is)
