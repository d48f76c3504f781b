use Rattle.std.proofs.Common.{◌++◌, ◌∷◌, [], subst, arith, IsPermutation}
use Rattle.partial_rows.specs.CompactRows.{HasRoom, all_of}
use Rattle.partial_rows.specs.Rows.{moved}
use Rattle.partial_rows.specs.declared.ranked.Ranked.{Ranked}
use Rattle.partial_rows.proofs.CompactRows.{one_more_put}
use Rattle.partial_rows.proofs.unlimited_rows.put_rows.Goals as goal

pub put_reserved-requires : goal.put_reserved-requires
put_reserved-requires c =
    let room : HasRoom c.loop-other.unlimited 1 = record {
      compact = omega (arith, c.requires.room.compact, c.loop-other.invariant.compact, c.loop-other-test.true);
      rows = omega (arith, c.requires.room.rows, c.loop-other.invariant.rows, c.loop-other-test.true);
    } in
    record { room = room }

pub loop-other-preserved : goal.loop-other-preserved
loop-other-preserved c = record {
  put = one_more_put (moved c.args.by) (all_of c.args.unlimited.now) (all_of c.loop-other.unlimited) (all_of c.put_reserved.new.self) c.args.others.now c.loop-other.other-index _ c.loop-other-test.true c.loop-other.invariant.put
      (subst (λ (r : Ranked). IsPermutation (all_of c.loop-other.unlimited ++ r ∷ []) (all_of c.put_reserved.new.self)) c.moved.ensures c.put_reserved.ensures.put);
  compact = omega (arith, c.loop-other.invariant.compact, c.put_reserved.ensures.takes.compact, c.put_reserved.ensures.takes.compact_room);
  rows = omega (arith, c.loop-other.invariant.rows, c.put_reserved.ensures.takes.rows, c.put_reserved.ensures.takes.rows_room);
}
