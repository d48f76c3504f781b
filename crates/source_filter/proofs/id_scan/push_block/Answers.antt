use Rattle.std.proofs.Common.{◌∙◌, sym}
use Rattle.source_filter.proofs.Objects.{none_between}
use Rattle.source_filter.proofs.id_scan.push_block.Goals as goal

pub returns-else-has_one : goal.returns-else-has_one
returns-else-has_one g c =
    c.requires.so_far
    ∙ sym (none_between (g.T.IdTest.passes c.args.test.now) c.args.ids.now c.args.first c.args.end c.requires.order (c.has_one.ensures c.if-has_one.false))
