use denote.Ref.{Bor}
use Rattle.std.proofs.Common.{ap, subst, sym, ℕ, ◌+◌, ◌≤◌, ◌<◌, All, get_or, length}
use Rattle.scan_rules.specs.declared.limits.TheConstants.{QUERY_MOST}
use Rattle.answer_rules.specs.Bases.{Base, columns_in}
use Rattle.answer_rules.specs.SoundChunks.{IsSoundChunk}
use Rattle.answer_rules.specs.declared.rewritten.ChunkQuery.{ChunkQuery}
use Rattle.czar.proofs.Attaching.{above_before, held_at}
use Rattle.czar.proofs.attach.root_of.Goals as goal

pub push-requires-clause-above : goal.push-requires-clause-above
push-requires-clause-above c =
    let es = c.args.queries.now in
    let e = c.asked-item.result in
    subst (λ (n : ℕ). All (λ (x : ℕ × ChunkQuery). x.0 < n) c.loop-asked.root.queries)
    (ap (λ (x : ℕ × Bor ChunkQuery). x.0) (sym c.asked-item.is))
    (subst (λ (b : Base). All (λ (x : ℕ × ChunkQuery). x.0 < (get_or es c.loop-asked.asked-index e).0) b.queries) (sym c.loop-asked.invariant)
    (above_before es c.loop-asked.asked-index e c.loop-asked-test.true c.requires.base.ascend))

pub push-requires-clause-from_1 : goal.push-requires-clause-from_1
push-requires-clause-from_1 c =
    subst (λ (x : ℕ × Bor ChunkQuery). 1 ≤ x.0) (sym c.asked-item.is)
    (held_at (λ (x : ℕ × ChunkQuery). 1 ≤ x.0) c.args.queries.now c.loop-asked.asked-index c.asked-item.result c.loop-asked-test.true c.requires.base.from_1)

pub push-requires-clause-to_255 : goal.push-requires-clause-to_255
push-requires-clause-to_255 c =
    subst (λ (x : ℕ × Bor ChunkQuery). x.0 ≤ QUERY_MOST) (sym c.asked-item.is)
    (held_at (λ (x : ℕ × ChunkQuery). x.0 ≤ QUERY_MOST) c.args.queries.now c.loop-asked.asked-index c.asked-item.result c.loop-asked-test.true c.requires.base.to_255)

pub push-requires-clause-sound : goal.push-requires-clause-sound
push-requires-clause-sound c =
    subst (λ (b : Base). IsSoundChunk (columns_in b) c.asked-item.result.1.now) (sym c.loop-asked.invariant)
    (subst (λ (x : ℕ × Bor ChunkQuery). IsSoundChunk (4 + length c.args.world.now.rows.names) x.1.now) (sym c.asked-item.is)
    (held_at (λ (x : ℕ × ChunkQuery). IsSoundChunk (4 + length c.args.world.now.rows.names) x.1) c.args.queries.now c.loop-asked.asked-index
    c.asked-item.result c.loop-asked-test.true c.requires.base.sound))
