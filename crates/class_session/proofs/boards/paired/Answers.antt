use Rattle.std.proofs.Common.{◌∙◌, sym, ap}
use Rattle.sky_rules.specs.Partition.{chunk_count}
use Rattle.answer_rules.specs.Bases.{Base}
use Rattle.czar.proofs.Attaching.{same_base}
use Rattle.class_session.proofs.FirstPairs.{first_if}
use Rattle.class_session.proofs.boards.paired.Goals as goal

pub new-requires : goal.new-requires
new-requires c = record {
  root = ap (λ b. b.root) c.requires.long ∙ sym (ap (λ b. b.root) c.requires.short);
  ring = ap (λ b. b.ring) c.requires.long ∙ sym (ap (λ b. b.ring) c.requires.short);
  empty = (ap (λ b. b.past) c.requires.short, ap (λ b. b.past) c.requires.long);
}

pub returns : goal.returns
returns c =
    let w = c.args.world.now in
    first_if w.plan w.rows c.args.plans.now (record { root = c.args.short.root; ring = c.args.short.ring }) (λ r. r.0) (λ r. r.1) c.new.result
    (ap (λ b. record { root = b.root; ring = b.ring }) c.requires.short
    ∙ ap (λ (b : Base). record { root = b; ring = chunk_count w.plan }) (same_base w.plan w.rows c.args.plans.now c.args.queries.now c.requires.queries))
    c.new.ensures.short c.new.ensures.long
