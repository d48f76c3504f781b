use Rattle.sky_generate.proofs.Growth.{range_ascends, whole_range}
use Rattle.sky_generate.proofs.rows.rows_by.Goals as goal

pub ascending-requires : goal.ascending-requires
ascending-requires g c = range_ascends c.args.count c.args.seed c.in_ok-rows.rows c.requires.few c.in_ok-rows.ensures

pub returns : goal.returns
returns g c = whole_range c.args.count c.args.seed c.in_ok-rows.rows c.ascending.result c.in_ok-rows.ensures c.ascending.ensures
