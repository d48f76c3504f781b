use Rattle.std.proofs.Common.{◌≡◌, Some, subst}
use Rattle.record_text.specs.Faults.{cell_faults, first_of}
use Rattle.record_text.proofs.Firsts.{cell_refused}
use Rattle.record_text.proofs.fields.put_cell.Goals as goal

pub returns-in-Err-clause-bad : goal.returns-in-Err-clause-bad
returns-in-Err-clause-bad c =
    let first = subst (λ t. first_of (cell_faults c.args.row c.args.col t) ≡ Some c.in-Err.fault) c.field_in.ensures c.in-Err.ensures.bad in
    cell_refused c.args.row c.args.col c.args.fields.now c.in-Err.fault c.requires.there first
