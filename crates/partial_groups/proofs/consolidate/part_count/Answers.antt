use Rattle.std.proofs.Common.{◌*◌, ap, vec_len, ◌∙◌}
use Rattle.partial_groups.proofs.consolidate.part_count.Goals as goal

pub returns-in-Some : goal.returns-in-Some
returns-in-Some c = c.in-Some.ensures.1 ∙ ap (λ n. n * c.width.result) c.len.ensures ∙ ap (λ w. vec_len c.args.groups.now * w) c.width.ensures
