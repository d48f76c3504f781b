use Rattle.std.proofs.Common.{◌≡◌, ◌∙◌, ◌++◌, ℤ, List, ap, subst, sym}
use Rattle.std.specs.Global.{Vec}
use Rattle.partial_groups.specs.Groups.{Gathered}
use Rattle.partial_groups.specs.Ungrouped.{IsJoined, row_groups, values_in}
use Rattle.partial_groups.proofs.Combinable.{is_joined, may_join}
use Rattle.partial_groups.proofs.RowCounts.{rows_append}
use Rattle.partial_groups.proofs.grouped_rows.append.Goals as goal

pub absorb-requires : goal.absorb-requires
absorb-requires c =
    record { alike = may_join c.args.groups.now (row_groups c.args.counted.now.items (values_in c.args.lists.now.items)) c.args.more (row_groups c.args.counted.now.items (values_in c.args.others.items)) c.requires }

pub returns-clause-joined : goal.returns-clause-joined
returns-clause-joined c =
    let rows : Gathered = row_groups c.args.counted.now.items (values_in c.args.lists.now.items) in
    let others : Gathered = row_groups c.args.counted.now.items (values_in c.args.others.items) in
    let items : values_in c.append_lists.new.lists.items ≡ values_in c.args.lists.now.items ++ values_in c.args.others.items =
    c.append_lists.ensures ∙ ap (λ (l : List (Vec ℤ)). values_in l ++ values_in c.args.others.items) c.reserve.ensures.same in
    subst (λ (vs : List ℤ). IsJoined c.args.groups.now rows c.args.more others c.absorb.new.self (row_groups c.args.counted.now.items vs)) (sym items)
    (subst (λ (gs : Gathered). IsJoined c.args.groups.now rows c.args.more others c.absorb.new.self gs) (sym (rows_append c.args.counted.now.items (values_in c.args.lists.now.items) (values_in c.args.others.items)))
    (is_joined c.args.groups.now rows c.args.more others c.absorb.new.self c.requires c.in_ok-absorb.ensures.joined))
