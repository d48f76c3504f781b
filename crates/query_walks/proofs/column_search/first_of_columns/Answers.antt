use Rattle.query_walks.proofs.Firsts.{item_here, item_later, item_at_end}
use Rattle.query_walks.proofs.column_search.first_of_columns.Goals as goal

pub returns-in-Some : goal.returns-in-Some
returns-in-Some g c =
    item_here _ _ _ _ _ _ c.loop-col-test.true c.col-item.is c.loop-col.invariant.ahead c.in-Some.ensures

pub loop-col-preserved : goal.loop-col-preserved
loop-col-preserved g c =
    record {
      ahead = item_later _ _ _ _ _ c.loop-col-test.true c.col-item.is c.loop-col.invariant.ahead
          c.in-None.ensures;
    }

pub returns : goal.returns
returns g c = item_at_end _ _ _ _ c.loop-col-test.false c.loop-col.invariant.ahead
