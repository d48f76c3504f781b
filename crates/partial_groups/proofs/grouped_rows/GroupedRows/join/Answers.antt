use Rattle.std.proofs.Common.{◌≡◌, ◌∙◌, ◌++◌, [], Bool, List, ap, arith, subst, sym}
use Rattle.std.proofs.lemmas.Result.{on_ok_weaker}
use Rattle.answer_rules.specs.Gather.{gather}
use Rattle.answer_rules.specs.Keys.{key_order}
use Rattle.answer_rules.specs.Parts.{add_own_sums}
use Rattle.partial_groups.specs.Groups.{Gathered, MayGather}
use Rattle.partial_groups.specs.Ungrouped.{AreBothCombinable, IsJoined, row_groups, values_in}
use Rattle.partial_groups.proofs.Combinable.{both_combinable, combinable_if, is_joined, is_joined_whole, may_join, may_join_whole, others_may}
use Rattle.partial_groups.proofs.NumberLists.{numbers_none}
use Rattle.partial_groups.proofs.grouped_rows.GroupedRows.join.Goals as goal

pub absorb-requires : goal.absorb-requires
absorb-requires c =
    let rows : Gathered = (row_groups c.self.inside.counted.items (values_in c.self.inside.lists.items)) in
    let others : Gathered = row_groups c.args.counted.items (values_in c.args.lists.items) in
    let both : AreBothCombinable c.self.inside.groups rows c.args.groups others = both_combinable c.self.inside.groups rows c.args.groups others c.self.invariant (subst (λ (gs : Gathered). MayGather gs (c.args.groups ++ others)) (sym c.self.view_is) c.requires) in
    record { alike = may_join c.self.inside.groups rows c.args.groups others both }

pub invariant_of-self-then-len-eq0 : goal.invariant_of-self-then-len-eq0
invariant_of-self-then-len-eq0 c =
    let rows : Gathered = (row_groups c.self.inside.counted.items (values_in c.self.inside.lists.items)) in
    let others : Gathered = row_groups c.args.counted.items (values_in c.args.lists.items) in
    let both : AreBothCombinable c.self.inside.groups rows c.args.groups others = both_combinable c.self.inside.groups rows c.args.groups others c.self.invariant (subst (λ (gs : Gathered). MayGather gs (c.args.groups ++ others)) (sym c.self.view_is) c.requires) in
    let none : rows ≡ [] = ap (row_groups c.self.inside.counted.items) (numbers_none c.self.inside.lists.items (omega (arith, c.if-len-eq0.true, c.len.ensures, c.self.inside.lists.ok.0))) in
    let joined : IsJoined c.self.inside.groups rows c.args.groups others c.absorb.new.self others =
    subst (λ (gs : Gathered). IsJoined c.self.inside.groups rows c.args.groups others c.absorb.new.self (gs ++ others)) none (is_joined c.self.inside.groups rows c.args.groups others c.absorb.new.self both c.in_ok-absorb.ensures.joined) in
    joined.combinable

pub returns-then-len-eq0-clause-joined : goal.returns-then-len-eq0-clause-joined
returns-then-len-eq0-clause-joined c =
    let rows : Gathered = (row_groups c.self.inside.counted.items (values_in c.self.inside.lists.items)) in
    let others : Gathered = row_groups c.args.counted.items (values_in c.args.lists.items) in
    let both : AreBothCombinable c.self.inside.groups rows c.args.groups others = both_combinable c.self.inside.groups rows c.args.groups others c.self.invariant (subst (λ (gs : Gathered). MayGather gs (c.args.groups ++ others)) (sym c.self.view_is) c.requires) in
    let none : rows ≡ [] = ap (row_groups c.self.inside.counted.items) (numbers_none c.self.inside.lists.items (omega (arith, c.if-len-eq0.true, c.len.ensures, c.self.inside.lists.ok.0))) in
    let joined : IsJoined c.self.inside.groups rows c.args.groups others c.absorb.new.self others =
    subst (λ (gs : Gathered). IsJoined c.self.inside.groups rows c.args.groups others c.absorb.new.self (gs ++ others)) none (is_joined c.self.inside.groups rows c.args.groups others c.absorb.new.self both c.in_ok-absorb.ensures.joined) in
    joined.same ∙ ap (λ (gs : Gathered). gather key_order add_own_sums (gs ++ (c.args.groups ++ others))) c.self.view_is

pub append-requires : goal.append-requires
append-requires c =
    let rows : Gathered = (row_groups c.self.inside.counted.items (values_in c.self.inside.lists.items)) in
    let others : Gathered = row_groups c.args.counted.items (values_in c.args.lists.items) in
    let both : AreBothCombinable c.self.inside.groups rows c.args.groups others = both_combinable c.self.inside.groups rows c.args.groups others c.self.invariant (subst (λ (gs : Gathered). MayGather gs (c.args.groups ++ others)) (sym c.self.view_is) c.requires) in
    let same : c.self.inside.counted.items ≡ c.args.counted.items = sym c.as_slice.ensures.value ∙ c.if-are_same.ensures ∙ c.as_slice-2.ensures.value in
    subst (λ (k : List Bool). AreBothCombinable c.self.inside.groups rows c.args.groups (row_groups k (values_in c.args.lists.items))) (sym same) both

pub absorb_grouped-requires-clause-own : goal.absorb_grouped-requires-clause-own
absorb_grouped-requires-clause-own c =
    let rows : Gathered = (row_groups c.self.inside.counted.items (values_in c.self.inside.lists.items)) in
    let others : Gathered = row_groups c.args.counted.items (values_in c.args.lists.items) in
    let both : AreBothCombinable c.self.inside.groups rows c.args.groups others = both_combinable c.self.inside.groups rows c.args.groups others c.self.invariant (subst (λ (gs : Gathered). MayGather gs (c.args.groups ++ others)) (sym c.self.view_is) c.requires) in
    subst (λ (k : List Bool). MayGather c.args.groups (row_groups k (values_in c.args.lists.items))) (sym c.as_slice-3.ensures.value) (others_may c.self.inside.groups rows c.args.groups others both)

pub absorb_grouped-requires-clause-alike : goal.absorb_grouped-requires-clause-alike
absorb_grouped-requires-clause-alike c =
    let rows : Gathered = (row_groups c.self.inside.counted.items (values_in c.self.inside.lists.items)) in
    let others : Gathered = row_groups c.args.counted.items (values_in c.args.lists.items) in
    let both : AreBothCombinable c.self.inside.groups rows c.args.groups others = both_combinable c.self.inside.groups rows c.args.groups others c.self.invariant (subst (λ (gs : Gathered). MayGather gs (c.args.groups ++ others)) (sym c.self.view_is) c.requires) in
    let whole : Gathered = gather key_order add_own_sums (c.args.groups ++ row_groups c.as_slice-3.result.now (values_in c.args.lists.items)) in
    let is : whole ≡ gather key_order add_own_sums (c.args.groups ++ others) = ap (λ (k : List Bool). gather key_order add_own_sums (c.args.groups ++ row_groups k (values_in c.args.lists.items))) c.as_slice-3.ensures.value in
    may_join_whole c.self.inside.groups rows c.args.groups others whole both is

pub invariant_of-self-2 : goal.invariant_of-self-2
invariant_of-self-2 c =
    let rows : Gathered = (row_groups c.self.inside.counted.items (values_in c.self.inside.lists.items)) in
    let others : Gathered = row_groups c.args.counted.items (values_in c.args.lists.items) in
    let both : AreBothCombinable c.self.inside.groups rows c.args.groups others = both_combinable c.self.inside.groups rows c.args.groups others c.self.invariant (subst (λ (gs : Gathered). MayGather gs (c.args.groups ++ others)) (sym c.self.view_is) c.requires) in
    let whole : Gathered = gather key_order add_own_sums (c.args.groups ++ row_groups c.as_slice-3.result.now (values_in c.args.lists.items)) in
    let is : whole ≡ gather key_order add_own_sums (c.args.groups ++ others) = ap (λ (k : List Bool). gather key_order add_own_sums (c.args.groups ++ row_groups k (values_in c.args.lists.items))) c.as_slice-3.ensures.value in
    combinable_if c.absorb_grouped.result c.self.inside.groups rows c.absorb_grouped.new.groups c.self.invariant (λ e. (is_joined_whole c.self.inside.groups rows c.args.groups others whole c.absorb_grouped.new.groups both is e).combinable)
    c.absorb_grouped.ensures.joined c.absorb_grouped.ensures.same

pub returns-clause-joined : goal.returns-clause-joined
returns-clause-joined c =
    let rows : Gathered = (row_groups c.self.inside.counted.items (values_in c.self.inside.lists.items)) in
    let others : Gathered = row_groups c.args.counted.items (values_in c.args.lists.items) in
    let both : AreBothCombinable c.self.inside.groups rows c.args.groups others = both_combinable c.self.inside.groups rows c.args.groups others c.self.invariant (subst (λ (gs : Gathered). MayGather gs (c.args.groups ++ others)) (sym c.self.view_is) c.requires) in
    let whole : Gathered = gather key_order add_own_sums (c.args.groups ++ row_groups c.as_slice-3.result.now (values_in c.args.lists.items)) in
    let is : whole ≡ gather key_order add_own_sums (c.args.groups ++ others) = ap (λ (k : List Bool). gather key_order add_own_sums (c.args.groups ++ row_groups k (values_in c.args.lists.items))) c.as_slice-3.ensures.value in
    on_ok_weaker c.absorb_grouped.result (λ e. (is_joined_whole c.self.inside.groups rows c.args.groups others whole c.absorb_grouped.new.groups both is e).same ∙ ap (λ (gs : Gathered). gather key_order add_own_sums (gs ++ (c.args.groups ++ others))) c.self.view_is)
    c.absorb_grouped.ensures.joined
