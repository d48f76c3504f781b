use Rattle.source_filter.proofs.Objects.{if_some_then, plain_list}
use Rattle.source_filter.proofs.object.ids_in.Goals as goal

pub returns : goal.returns
returns c = if_some_then c.listed.result c.listed.ensures (λ ids lists. plain_list c.args.c.now ids.now c.if-c.false lists)
