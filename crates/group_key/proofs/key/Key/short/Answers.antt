use Rattle.std.proofs.Common.{length, refl, ◌∙◌}
use Rattle.group_key.proofs.Keys.{four_are, four_read}
use Rattle.group_key.proofs.key.Key.short.Goals as goal

pub returns : goal.returns
returns c =
    c.packed.ensures
    ∙ four_are (length c.args.values.now) _ _ _ _ _ _ _ _ c.value_at.ensures c.value_at-2.ensures c.value_at-3.ensures c.value_at-4.ensures
    ∙ four_read c.args.values.now (length c.args.values.now) refl c.requires
