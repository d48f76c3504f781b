use Rattle.std.proofs.Common.{◌∙◌, ◌++◌, ap, subst, sym}
use Rattle.std.proofs.lemmas.Result.{on_ok_weaker}
use Rattle.answer_rules.specs.Gather.{gather}
use Rattle.answer_rules.specs.Keys.{key_order}
use Rattle.answer_rules.specs.Parts.{add_own_sums}
use Rattle.partial_groups.specs.Groups.{Gathered, MayGather}
use Rattle.partial_groups.specs.Ungrouped.{row_groups, values_in}
use Rattle.partial_groups.proofs.Combinable.{absorbed, may_combine}
use Rattle.partial_groups.proofs.grouped_rows.GroupedRows.absorb.Goals as goal

pub join-requires : goal.join-requires
join-requires c =
    may_combine c.args.self.now c.other.inside.groups (row_groups c.other.inside.counted.items (values_in c.other.inside.lists.items)) c.other.invariant
    (subst (λ (gs : Gathered). MayGather c.args.self.now gs) (sym c.other.view_is) c.requires.alike)

pub returns-clause-joined : goal.returns-clause-joined
returns-clause-joined c =
    on_ok_weaker c.join.result
    (λ e. absorbed c.args.self.now c.other.inside.groups (row_groups c.other.inside.counted.items (values_in c.other.inside.lists.items)) c.join.new.self c.other.invariant
    (subst (λ (gs : Gathered). MayGather c.args.self.now gs) (sym c.other.view_is) c.requires.alike) e
    ∙ ap (λ (gs : Gathered). gather key_order add_own_sums (c.args.self.now ++ gs)) c.other.view_is) c.join.ensures.joined
