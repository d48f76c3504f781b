use Rattle.std.proofs.Common.{◌≡◌, ◌∙◌, ℕ, [], arith, ap, sym, subst}
use Rattle.sky_rules.specs.Partition.{Partition, sub_count}
use Rattle.answer_rules.specs.PieceLaws.{empty_view}
use Rattle.answer_rules.specs.Pieces.{PieceView}
use Rattle.answer_rules.specs.Rows.{limit_of}
use Rattle.partial_merge.specs.Joining.{IsOfRows}
use Rattle.near_join.specs.Gains.{Gains}
use Rattle.near_join.proofs.Gaining.{gained_rows, gains_nothing}
use Rattle.near_join.proofs.Joining.{empty_of_rows, one_sub_more, piece_is, walked_below}
use Rattle.near_join.proofs.Sounding.{limit_is_sound, limit_reaches, line_is_sound}
use Rattle.near_join.proofs.chunk.join.Goals as goal

pub of-reach-requires : goal.of-reach-requires
of-reach-requires c = limit_is_sound _ c.args.query.now.shape c.requires.pairs c.requires.sound.shape

pub loop-sub-init : goal.loop-sub-init
loop-sub-init c =
    let view : PieceView = empty_view c.args.query.now.shape (limit_of c.args.query.now.limit) in
    subst (λ (v : PieceView). Gains c.args.query.now [] view v) (sym c.empty-piece.ensures)
    (gains_nothing c.args.query.now view (subst IsOfRows (sym (empty_of_rows c.args.query.now.shape (limit_of c.args.query.now.limit) c.requires.pairs)) tt))

pub push_sub-requires-clause-of_rows : goal.push_sub-requires-clause-of_rows
push_sub-requires-clause-of_rows c = gained_rows c.args.query.now _ _ c.loop-sub.piece c.loop-sub.invariant

pub push_sub-requires-clause-sub : goal.push_sub-requires-clause-sub
push_sub-requires-clause-sub c =
    let count : c.subs-sub-end.result ≡ sub_count c.args.store.now.plan c.args.chunk = c.subs-sub-end.ensures ∙ ap (λ (p : Partition). sub_count p c.args.chunk) c.plan.ensures in
    omega (arith, count, c.loop-sub-test.true)

pub push_sub-requires-clause-asked : goal.push_sub-requires-clause-asked
push_sub-requires-clause-asked c = record { rises = c.of-reach.ensures.rises; bare = c.of-reach.ensures.bare; sound = line_is_sound _ c.args.query.now c.requires.pairs c.requires.sound }

pub loop-sub-preserved : goal.loop-sub-preserved
loop-sub-preserved c =
    one_sub_more c.args.store.now.plan c.args.store.now.rows.objects c.args.query.now c.of-reach.result.limit c.args.chunk c.loop-sub.sub (empty_view c.args.query.now.shape (limit_of c.args.query.now.limit))
    c.loop-sub.piece c.push_sub.new.piece c.loop-sub.invariant c.in_ok-push_sub.ensures

pub returns : goal.returns
returns c =
    let g = c.args.store.now.plan in
    let objects = c.args.store.now.rows.objects in
    let cq = c.args.query.now in
    let view : PieceView = empty_view cq.shape (limit_of cq.limit) in
    let count : c.subs-sub-end.result ≡ sub_count g c.args.chunk = c.subs-sub-end.ensures ∙ ap (λ (p : Partition). sub_count p c.args.chunk) c.plan.ensures in
    let end : c.loop-sub.sub ≡ sub_count g c.args.chunk = omega (arith, count, c.loop-sub-test.false) in
    piece_is g objects cq c.args.chunk c.of-reach.result.limit c.loop-sub.piece c.know.ensures.plan c.know.ensures.rows c.requires.there c.requires.pairs c.of-reach.ensures.limit
    (limit_reaches g cq.shape c.args.chunk c.requires.pairs c.requires.reach)
    (subst (λ (n : ℕ). Gains cq (walked_below g objects cq c.of-reach.result.limit c.args.chunk n) view c.loop-sub.piece) end c.loop-sub.invariant)
