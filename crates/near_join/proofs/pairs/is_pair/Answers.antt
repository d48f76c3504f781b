use Rattle.std.proofs.Common.{◌∙◌, sym}
use Rattle.sky_vector.specs.Pos.{point}
use Rattle.near_join.proofs.Upwards.{far_in_x}
use Rattle.near_join.proofs.pairs.is_pair.Goals as goal

pub returns-else-is_within : goal.returns-else-is_within
returns-else-is_within c =
    c.if-is_within.false ∙ sym (far_in_x (point c.args.at.now) (point c.args.other.now) c.args.reach.now.limit (sym c.is_within.ensures ∙ c.if-is_within.false))
