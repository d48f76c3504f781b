use Rattle.sky_generate.proofs.Growth.{both_made}
use Rattle.sky_generate.proofs.rows.both_ranges.Goals as goal

pub returns : goal.returns
returns c =
    both_made c.args.from c.args.at c.args.more c.args.seed c.args.first c.args.second c.in_ok-rows.rows c.requires.first c.requires.second
    c.in_ok-rows.ensures.names c.in_ok-rows.ensures.objects
