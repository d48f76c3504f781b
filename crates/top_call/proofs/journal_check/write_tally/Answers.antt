use Rattle.std.proofs.Common.{[], ap, refl}
use Rattle.top_call.specs.Journals.{tally_line}
use Rattle.top_call.specs.Jobs.{Checks}
use Rattle.top_call.proofs.Writing.{torn_as, written_as}
use Rattle.top_call.proofs.journal_check.write_tally.Goals as goal

pub returns-in-Failed : goal.returns-in-Failed
returns-in-Failed g c =
    λ journal is. torn_as (Checks journal) [] _ (tally_line c.args.tally) _ _ c.no_ends-ends.ensures refl (ap tally_line is)
    c.in-Failed.ensures

pub returns-in-Done : goal.returns-in-Done
returns-in-Done g c =
    λ journal is. written_as (Checks journal) [] _ (tally_line c.args.tally) _ _ _ _ c.no_ends-ends.ensures refl (ap tally_line is)
    c.in-Done.ensures c.send.ensures
