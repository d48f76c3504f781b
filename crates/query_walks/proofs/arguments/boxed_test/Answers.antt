use Rattle.std.proofs.Common.{sym, arith}
use Rattle.query_walks.proofs.AreaParts.{five_items}
use Rattle.query_walks.proofs.arguments.boxed_test.Goals as goal

pub returns-in-len5 : goal.returns-in-len5
returns-in-len5 c =
    let items = five_items c.args.rest.now c.hi-item.result c.ax-item.result c.ay-item.result c.bx-item.result c.by-item.result (omega (arith, c.in-len5.len_at_least)) (omega (arith, c.in-len5.len_below)) c.hi-item.is c.ax-item.is c.ay-item.is c.bx-item.is c.by-item.is in
    rw (items, sym c.dir_of.ensures, sym c.dir_of-in-len5.ensures) c.boxed_between.ensures
