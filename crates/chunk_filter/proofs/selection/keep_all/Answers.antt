use Rattle.std.proofs.Common.{◌≤◌, ◌<◌, arith, length, sym, subst}
use Rattle.std.specs.Prelude.{All}
use Rattle.std.proofs.lemmas.List.Elements.{All-filter}
use Rattle.chunk_filter.specs.Selection.{holds_at, meets_at}
use Rattle.std.proofs.Common.{filter}
use Rattle.chunk_filter.proofs.Places.{done_rest, drop_at, rest_end, rest_step}
use Rattle.chunk_filter.proofs.selection.keep_all.Goals as goal

pub loop-i-preserved : goal.loop-i-preserved
loop-i-preserved c =
    let test = holds_at c.index-conds-i.result c.args.block.now.objects in
    let made = c.in_ok-keep_unless.ensures in
    record {
      rest = rest_step c.args.block.now.objects c.args.conds.now c.loop-i.i c.index-conds-i.result c.loop-i.places.items c.keep_unless.new.places.items
          (filter (meets_at c.args.conds.now c.args.block.now.objects) c.args.places.now.items)
          (drop_at c.args.conds.now c.loop-i.i c.index-conds-i.result c.loop-i-test.true c.index-conds-i.is) made c.loop-i.invariant.rest;
      there = subst (All (λ place. place < length c.args.block.now.objects)) (sym made)
          (All-filter test (λ place. place < length c.args.block.now.objects) c.loop-i.places.items c.loop-i.invariant.there);
      done = done_rest c.args.block.now.objects c.args.conds.now c.args.done.now test c.loop-i.places.items c.keep_unless.new.places.items made
          c.loop-i.invariant.done;
    }

pub returns : goal.returns
returns c =
    let high : length c.args.conds.now ≤ c.loop-i.i = omega (arith, c.loop-i-test.false) in
    rest_end c.args.block.now.objects c.args.conds.now c.loop-i.i c.loop-i.places.items
    (filter (meets_at c.args.conds.now c.args.block.now.objects) c.args.places.now.items) high c.loop-i.invariant.rest
