use Rattle.std.proofs.Common.{◌∙◌, ◌<◌, [], ap, arith, length, sym}
use Rattle.std.proofs.lemmas.List.{take_more_same}
use Rattle.table_load.proofs.Names.{left_kept, left_refused}
use Rattle.table_load.proofs.header.check_names.Goals as goal

pub returns-in-Err-clause-bad : goal.returns-in-Err-clause-bad
returns-in-Err-clause-bad g c =
    let low : c.loop-col.col < length g.G.Gathering.form.first = omega (arith, c.loop-col-test.true, c.width-col-end.ensures.count, ap length c.requires.none) in
    left_refused g.G.Gathering.form c.args.header.now c.loop-col.col c.in-Err.fault low c.in-Err.ensures.bad c.loop-col.invariant.rest

pub loop-col-preserved : goal.loop-col-preserved
loop-col-preserved g c =
    let low : c.loop-col.col < length g.G.Gathering.form.first = omega (arith, c.loop-col-test.true, c.width-col-end.ensures.count, ap length c.requires.none) in
    let right = c.in_default.ensures in
    record {
      long = omega (arith, right.there);
      names = take_more_same g.G.Gathering.form.first c.args.header.now c.loop-col.col [] low right.there c.loop-col.invariant.names (sym right.same);
      rest = left_kept g.G.Gathering.form c.args.header.now c.loop-col.col low right.none ∙ c.loop-col.invariant.rest;
    }
