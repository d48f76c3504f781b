use Rattle.std.proofs.Common.{rules, ◌≡◌, ◌≤◌, arith, true, subst, length, get_or, pos, w64}
use Rattle.std.specs.Int.{cast_unsigned}
use Rattle.column_block.specs.Filters.{is_set}
use Rattle.column_block.proofs.Filters.{covers_all, covers_more}
use Rattle.column_block.proofs.id_filter.IdFilter.of.Goals as goal

pub loop-i-preserved : goal.loop-i-preserved
loop-i-preserved c =
    let n : c.cast_unsigned.result ≡ cast_unsigned w64 (get_or c.args.ids.now c.loop-i.i (pos 0)) = search rules in
    covers_more c.loop-i.words.items c.set_bit.new.words.items c.args.ids.now c.loop-i.i c.loop-i.invariant c.set_bit.ensures.kept
    (subst (λ k. is_set c.set_bit.new.words.items k ≡ true) n c.set_bit.ensures.set)

pub returns : goal.returns
returns c =
    let long : length c.args.ids.now ≤ c.loop-i.i = omega (arith, c.loop-i-test.false) in
    covers_all c.loop-i.words.items c.args.ids.now c.loop-i.i long c.loop-i.invariant
