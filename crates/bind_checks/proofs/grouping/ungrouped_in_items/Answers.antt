use Rattle.bind_checks.specs.Parts.{plain_columns_of}
use Rattle.query_walks.proofs.Firsts.{each_here, each_later, first_of_each_at_end}
use Rattle.bind_checks.proofs.grouping.ungrouped_in_items.Goals as goal

pub returns-in-Some : goal.returns-in-Some
returns-in-Some c =
    each_here _ _ plain_columns_of _ _ _ _ c.loop-item-test.true c.item-item.is c.loop-item.invariant.ahead
    c.in-Some.ensures

pub loop-item-preserved : goal.loop-item-preserved
loop-item-preserved c =
    record {
      ahead = each_later _ _ plain_columns_of _ _ _ c.loop-item-test.true c.item-item.is
          c.loop-item.invariant.ahead c.in-None.ensures;
    }

pub returns : goal.returns
returns c = first_of_each_at_end _ _ plain_columns_of _ _ c.loop-item-test.false c.loop-item.invariant.ahead
