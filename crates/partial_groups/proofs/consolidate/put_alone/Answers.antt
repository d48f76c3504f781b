use Rattle.std.proofs.Common.{◌≡◌, ◌++◌, ◌+◌, ◌∷◌, [], length, slice_range, ap, arith, ◌∙◌}
use Rattle.partial_groups.proofs.Appending.{group_entry_from}
use Rattle.partial_groups.proofs.consolidate.put_alone.Goals as goal

pub put_copies-requires-clause-room : goal.put_copies-requires-clause-room
put_copies-requires-clause-room c = omega (arith, c.requires.space, c.width-count.ensures)

pub put_copies-requires-clause-there : goal.put_copies-requires-clause-there
put_copies-requires-clause-there c = omega (arith, c.requires.there.order, c.requires.there.there, c.width-count.ensures)

pub overflow_add-from : goal.overflow_add-from
overflow_add-from c = omega (arith, c.requires.space, c.width-count.ensures, c.len-from.ensures, c.args.fresh.now.small)

pub returns-clause-parts : goal.returns-clause-parts
returns-clause-parts c =
    let end : c.args.group.from + c.width-count.result ≡ c.args.group.to = omega (arith, c.requires.there.order, c.width-count.ensures) in
    c.put_copies.ensures.items ∙ ap (λ n. c.args.fresh.now.items ++ slice_range c.args.tallies.now.items c.args.group.from n) end

pub returns-clause-groups : goal.returns-clause-groups
returns-clause-groups c =
    c.push_reserved.ensures.items
    ∙ ap (λ n. c.args.out.now.items ++ group_entry_from c.args.group.key c.args.group.rows n (n + c.width-count.result) ∷ []) (c.len-from.ensures ∙ c.args.fresh.now.ok.0)
    ∙ ap (λ w. c.args.out.now.items ++ group_entry_from c.args.group.key c.args.group.rows (length c.args.fresh.now.items) (length c.args.fresh.now.items + w) ∷ []) c.width-count.ensures

pub returns-clause-more : goal.returns-clause-more
returns-clause-more c = omega (arith, c.put_copies.ensures.long, c.width-count.ensures)
