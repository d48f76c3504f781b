use Rattle.std.proofs.Common.{◌∙◌, ◌++◌, ◌∷◌, [], ap, subst, sym}
use Rattle.std.proofs.lemmas.Result.{on_ok_weaker}
use Rattle.answer_rules.specs.Gather.{gather}
use Rattle.answer_rules.specs.Keys.{key_order}
use Rattle.answer_rules.specs.Parts.{add_own_sums}
use Rattle.partial_groups.specs.Groups.{Gathered, MayGather, group_by}
use Rattle.partial_groups.specs.Ungrouped.{AreBothCombinable, row_groups, values_in}
use Rattle.partial_groups.proofs.Combinable.{alone_joined, both_combinable, combinable_if, may_join}
use Rattle.partial_groups.proofs.grouped_rows.GroupedRows.push.Goals as goal

pub push-requires-clause-alike : goal.push-requires-clause-alike
push-requires-clause-alike c =
    let more : Gathered = group_by c.args.key c.args.rows c.args.parts.now ∷ [] in
    let rows : Gathered = (row_groups c.self.inside.counted.items (values_in c.self.inside.lists.items)) in
    let both : AreBothCombinable c.self.inside.groups rows more [] = both_combinable c.self.inside.groups rows more [] c.self.invariant (subst (λ (gs : Gathered). MayGather gs more) (sym c.self.view_is) c.requires.alike) in
    may_join c.self.inside.groups rows more [] both

pub invariant_of-self : goal.invariant_of-self
invariant_of-self c =
    let more : Gathered = group_by c.args.key c.args.rows c.args.parts.now ∷ [] in
    let rows : Gathered = (row_groups c.self.inside.counted.items (values_in c.self.inside.lists.items)) in
    let both : AreBothCombinable c.self.inside.groups rows more [] = both_combinable c.self.inside.groups rows more [] c.self.invariant (subst (λ (gs : Gathered). MayGather gs more) (sym c.self.view_is) c.requires.alike) in
    combinable_if c.push.result c.self.inside.groups rows c.push.new.self c.self.invariant (λ e. (alone_joined c.self.inside.groups rows more c.push.new.self both e).combinable) c.push.ensures.put c.push.ensures.same

pub returns-clause-put : goal.returns-clause-put
returns-clause-put c =
    let more : Gathered = group_by c.args.key c.args.rows c.args.parts.now ∷ [] in
    let rows : Gathered = (row_groups c.self.inside.counted.items (values_in c.self.inside.lists.items)) in
    let both : AreBothCombinable c.self.inside.groups rows more [] = both_combinable c.self.inside.groups rows more [] c.self.invariant (subst (λ (gs : Gathered). MayGather gs more) (sym c.self.view_is) c.requires.alike) in
    on_ok_weaker c.push.result
    (λ e. (alone_joined c.self.inside.groups rows more c.push.new.self both e).same ∙ ap (λ (gs : Gathered). gather key_order add_own_sums (gs ++ more)) c.self.view_is) c.push.ensures.put
