use Rattle.std.proofs.Common.{sym, ◌∙◌}
use Rattle.query_ends.proofs.TextsOfEnds.{as_many_blocks}
use Rattle.query_ends.proofs.end_text.put_ends.Goals as goal

pub put_blocks-requires-clause-count : goal.put_blocks-requires-clause-count
put_blocks-requires-clause-count g c =
    c.queries.ensures.count ∙ sym (as_many_blocks c.args.schema.now c.args.script.now c.args.ends.now c.requires.each)
