use Rattle.std.proofs.Common.{◌≡◌, ◌∙◌, ap, map, subst}
use Rattle.sky_io.specs.Stops.{IfBad}
use Rattle.table_rules.specs.Repeats.{IsFirstFault}
use Rattle.source_rules.specs.SourceRecords.{id_of_source}
use Rattle.source_row.specs.SourceColumns.{sources_in}
use Rattle.source_row.proofs.Sourced.{ids_are}
use Rattle.source_load.proofs.gathered.GatheredGathering.first_fault.Goals as goal

pub returns : goal.returns
returns c =
    let ids : c.ids.result.now ≡ map id_of_source (sources_in c.args.self.now.parts) = c.ids.ensures ∙ (ap (λ v. v.parts.ids) c.self.view_is ∙ ids_are c.args.self.now.parts) in
    subst (λ l. IfBad c.first_fault.result (λ fault. IsFirstFault l c.args.behind fault)) ids c.first_fault.ensures
