use Rattle.std.proofs.Common.{◌<◌, subst, sym}
use Rattle.std.specs.List.{All}
use Rattle.answer_rules.specs.Bases.{Base, columns_in}
use Rattle.answer_rules.specs.SoundChunks.{IsSoundChunk}
use Rattle.partial_merge.specs.Roots.{shown}
use Rattle.partial_merge.proofs.Rooting.{rooted_if}
use Rattle.partial_merge.proofs.root.PieceRoot.push.Goals as goal

pub invariant_of-self : goal.invariant_of-self
invariant_of-self c =
    let base : Base = record { plan = c.self.inside.plan.now; rows = c.self.inside.rows.now; queries = shown c.self.inside.queries.items (λ s. s.value) } in
    rooted_if base c.args.q c.args.query.now c.give.result (shown c.give.new.queries.items (λ s. s.value)) c.give.ensures.given c.give.ensures.same c.self.invariant
    (subst (λ (b : Base). All (λ e. e.0 < c.args.q) b.queries) (sym c.self.view_is) c.requires.above) c.requires.from_1 c.requires.to_255
    (subst (λ (b : Base). IsSoundChunk (columns_in b) c.args.query.now) (sym c.self.view_is) c.requires.sound)
