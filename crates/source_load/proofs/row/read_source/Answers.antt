use Rattle.record_text.proofs.Firsts.{bad_by}
use Rattle.source_load.proofs.SourceFirsts.{own_behind, own_ids}
use Rattle.source_load.proofs.row.read_source.Goals as goal

pub returns-in-Ok-clause-bad : goal.returns-in-Ok-clause-bad
returns-in-Ok-clause-bad c =
    let fields = c.args.fields.now in
    bad_by c.with_cells.result _ _ (λ f h. own_behind c.args.row fields f c.requires.two c.in-Ok.ensures.none h) c.with_cells.ensures.bad

pub returns-in-Err-clause-bad : goal.returns-in-Err-clause-bad
returns-in-Err-clause-bad c =
    own_ids c.args.row c.args.fields.now c.in-Err.fault c.requires.two c.in-Err.ensures.bad
