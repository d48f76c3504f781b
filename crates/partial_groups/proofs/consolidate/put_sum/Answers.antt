use Rattle.std.proofs.Common.{◌≡◌, ◌++◌, ◌+◌, ◌∷◌, [], length, slice_range, ap, arith, subst, sym, ◌∙◌}
use Rattle.answer_rules.specs.Parts.{add_own_parts}
use Rattle.partial_groups.specs.Adding.{AllMayAdd, parts_of}
use Rattle.partial_groups.proofs.Appending.{group_entry_from}
use Rattle.partial_groups.proofs.consolidate.put_sum.Goals as goal

pub put_sums-requires-clause-room : goal.put_sums-requires-clause-room
put_sums-requires-clause-room c = omega (arith, c.requires.space, c.width-count.ensures)

pub put_sums-requires-clause-a_there : goal.put_sums-requires-clause-a_there
put_sums-requires-clause-a_there c =
    let mine : c.args.group.now.from + c.width-count.result ≡ c.args.group.now.to = omega (arith, c.requires.fit.group_there.order, c.width-count.ensures) in
    omega (arith, mine, c.requires.fit.group_there.there)

pub put_sums-requires-clause-b_there : goal.put_sums-requires-clause-b_there
put_sums-requires-clause-b_there c =
    let theirs : c.args.last.from + c.width-count.result ≡ c.args.last.to = omega (arith, c.requires.fit.last_there.order, c.requires.fit.wide, c.width-count.ensures) in
    omega (arith, theirs, c.requires.fit.last_there.there)

pub put_sums-requires-clause-small : goal.put_sums-requires-clause-small
put_sums-requires-clause-small c =
    let mine : c.args.group.now.from + c.width-count.result ≡ c.args.group.now.to = omega (arith, c.requires.fit.group_there.order, c.width-count.ensures) in
    let theirs : c.args.last.from + c.width-count.result ≡ c.args.last.to = omega (arith, c.requires.fit.last_there.order, c.requires.fit.wide, c.width-count.ensures) in
    subst (λ n. AllMayAdd (slice_range c.args.tallies.now.items c.args.group.now.from n) (slice_range c.args.fresh.now.items c.args.last.from (c.args.last.from + c.width-count.result))) (sym mine)
    (subst (λ n. AllMayAdd (parts_of c.args.tallies.now.items c.args.group.now) (slice_range c.args.fresh.now.items c.args.last.from n)) (sym theirs) c.requires.fit.add)

pub overflow_add-group : goal.overflow_add-group
overflow_add-group c = omega (arith, c.requires.fit.rows)

pub overflow_add-from : goal.overflow_add-from
overflow_add-from c = omega (arith, c.requires.space, c.width-count.ensures, c.len-from.ensures, c.args.fresh.now.small)

pub returns-clause-parts : goal.returns-clause-parts
returns-clause-parts c =
    let mine : c.args.group.now.from + c.width-count.result ≡ c.args.group.now.to = omega (arith, c.requires.fit.group_there.order, c.width-count.ensures) in
    let theirs : c.args.last.from + c.width-count.result ≡ c.args.last.to = omega (arith, c.requires.fit.last_there.order, c.requires.fit.wide, c.width-count.ensures) in
    c.put_sums.ensures.items
    ∙ ap (λ n. c.args.fresh.now.items ++ add_own_parts (slice_range c.args.tallies.now.items c.args.group.now.from n) (slice_range c.args.fresh.now.items c.args.last.from (c.args.last.from + c.width-count.result))) mine
    ∙ ap (λ n. c.args.fresh.now.items ++ add_own_parts (parts_of c.args.tallies.now.items c.args.group.now) (slice_range c.args.fresh.now.items c.args.last.from n)) theirs

pub returns-clause-groups : goal.returns-clause-groups
returns-clause-groups c =
    c.push_reserved.ensures.items
    ∙ ap (λ n. c.args.out.now.items ++ group_entry_from c.args.last.key (c.args.group.now.rows + c.args.last.rows) n (n + c.width-count.result) ∷ []) (c.len-from.ensures ∙ c.args.fresh.now.ok.0)
    ∙ ap (λ w. c.args.out.now.items ++ group_entry_from c.args.last.key (c.args.group.now.rows + c.args.last.rows) (length c.args.fresh.now.items) (length c.args.fresh.now.items + w) ∷ []) c.width-count.ensures

pub returns-clause-more : goal.returns-clause-more
returns-clause-more c = omega (arith, c.put_sums.ensures.long, c.width-count.ensures)
