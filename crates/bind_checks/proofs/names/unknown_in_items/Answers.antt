use Rattle.bind_checks.specs.Parts.{item_mentions}
use Rattle.query_walks.proofs.Firsts.{each_here, each_later, first_of_each_at_end}
use Rattle.bind_checks.proofs.names.unknown_in_items.Goals as goal

pub returns-in-Some : goal.returns-in-Some
returns-in-Some g c =
    each_here _ _ item_mentions _ _ _ _ c.loop-item-test.true c.item-item.is c.loop-item.invariant.ahead
    c.in-Some.ensures

pub loop-item-preserved : goal.loop-item-preserved
loop-item-preserved g c =
    record {
      ahead = each_later _ _ item_mentions _ _ _ c.loop-item-test.true c.item-item.is
          c.loop-item.invariant.ahead c.in-None.ensures;
    }

pub returns : goal.returns
returns g c = first_of_each_at_end _ _ item_mentions _ _ c.loop-item-test.false c.loop-item.invariant.ahead
