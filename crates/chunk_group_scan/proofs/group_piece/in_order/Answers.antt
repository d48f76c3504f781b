use Rattle.std.proofs.Common.{◌<◌, arith, ap, length, sym, subst}
use Rattle.std.specs.Prelude.{All}
use Rattle.std.specs.List.Sorted.{IsPermutation}
use Rattle.std.proofs.lemmas.List.Sorted.{All-permutation, length_permutation}
use Rattle.chunk_group_scan.proofs.Groups.{reordered}
use Rattle.chunk_group_scan.proofs.group_piece.in_order.Goals as goal

pub group_piece-requires-clause-few : goal.group_piece-requires-clause-few
group_piece-requires-clause-few c =
    omega (arith, c.requires.few, ap length c.as_slice.ensures.value, length_permutation _ _ c.in_ok-order.ensures)

pub group_piece-requires-clause-there : goal.group_piece-requires-clause-there
group_piece-requires-clause-there c =
    subst (All (λ place. place < length c.args.block.now.objects)) (sym c.as_slice.ensures.value)
    (All-permutation (λ place. place < length c.args.block.now.objects) c.args.places.now c.in_ok-order.order.items c.in_ok-order.ensures c.requires.there)

pub returns : goal.returns
returns c =
    reordered c.args.keys.now c.args.query.now.items c.args.block.now.objects c.args.places.now c.as_slice.result.now c.in_ok-piece.piece
    (subst (IsPermutation c.args.places.now) (sym c.as_slice.ensures.value) c.in_ok-order.ensures) c.in_ok-piece.ensures
