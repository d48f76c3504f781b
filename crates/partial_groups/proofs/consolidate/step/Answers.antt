use Rattle.std.proofs.Common.{◌≡◌, ◌++◌, ◌∷◌, [], List, length, ap, subst, sym, ◌∙◌}
use Rattle.std.specs.List.{All}
use Rattle.answer_rules.specs.Gather.{put_group}
use Rattle.answer_rules.specs.Keys.{key_order}
use Rattle.answer_rules.specs.Parts.{Part, add_own_sums}
use Rattle.partial_groups.specs.Adding.{MayPut, parts_of, placed, stacked}
use Rattle.partial_groups.specs.declared.group_entry.GroupEntry.{GroupEntry}
use Rattle.partial_groups.specs.Groups.{IsThere, group_of}
use Rattle.partial_groups.specs.Sharing.{HaveOwnParts}
use Rattle.partial_groups.proofs.Owning.{alone_owns}
use Rattle.partial_groups.proofs.Consolidating.{alone_there, none_left, put_first}
use Rattle.partial_groups.proofs.consolidate.step.Goals as goal

-- nothing is there yet
first : (c : goal.After-put_alone) → c.pop.new.self.items ≡ []
first c = none_left c.pop.new.self.items (sym c.pop.new.self.ok.0 ∙ c.in-None.ensures.cases.1)

none : (c : goal.After-put_alone) → c.args.out.now.items ≡ []
none c = none_left c.args.out.now.items (sym c.args.out.now.ok.0 ∙ c.in-None.ensures.cases.0)

out_is : (c : goal.After-put_alone) → c.put_alone.new.out.items ≡ [] ++ placed (length c.args.fresh.now.items) c.args.group ∷ []
out_is c = c.put_alone.ensures.groups ∙ ap (λ (ms : List GroupEntry). ms ++ placed (length c.args.fresh.now.items) c.args.group ∷ []) (first c)

pub returns-in-None-clause-put : goal.returns-in-None-clause-put
returns-in-None-clause-put c =
    ap (λ (ps : List Part). stacked ps c.put_alone.new.out.items) c.put_alone.ensures.parts
    ∙ ap (stacked (c.args.fresh.now.items ++ parts_of c.args.tallies.now.items c.args.group)) (out_is c)
    ∙ put_first c.args.tallies.now.items c.args.fresh.now.items c.args.group c.requires.mine
    ∙ ap (λ (ms : List GroupEntry). put_group key_order add_own_sums (group_of c.args.tallies.now.items c.args.group) (stacked c.args.fresh.now.items ms)) (sym (none c))

pub returns-in-None-clause-there : goal.returns-in-None-clause-there
returns-in-None-clause-there c =
    subst (λ (ps : List Part). All (IsThere (length ps)) c.put_alone.new.out.items) (sym c.put_alone.ensures.parts)
    (subst (λ (ms : List GroupEntry). All (IsThere (length (c.args.fresh.now.items ++ parts_of c.args.tallies.now.items c.args.group))) ms) (sym (out_is c))
    (alone_there c.args.tallies.now.items c.args.fresh.now.items [] c.args.group c.requires.mine (subst (λ (ms : List GroupEntry). All (IsThere (length c.args.fresh.now.items)) ms) (none c) c.requires.there)))

pub put_two-requires-clause-there : goal.put_two-requires-clause-there
put_two-requires-clause-there c = subst (λ (ms : List GroupEntry). All (IsThere (length c.args.fresh.now.items)) ms) c.in-Some.ensures.items c.requires.there

pub put_two-requires-clause-may : goal.put_two-requires-clause-may
put_two-requires-clause-may c = subst (λ (ms : List GroupEntry). MayPut (group_of c.args.tallies.now.items c.args.group) (stacked c.args.fresh.now.items ms)) c.in-Some.ensures.items c.requires.may

pub returns-in-Some-clause-put : goal.returns-in-Some-clause-put
returns-in-Some-clause-put c = c.put_two.ensures.put ∙ ap (λ (ms : List GroupEntry). put_group key_order add_own_sums (group_of c.args.tallies.now.items c.args.group) (stacked c.args.fresh.now.items ms)) (sym c.in-Some.ensures.items)

pub returns-in-None-clause-own : goal.returns-in-None-clause-own
returns-in-None-clause-own c =
    subst HaveOwnParts (sym (out_is c))
    (alone_owns c.args.fresh.now.items [] c.args.group (subst (λ (ms : List GroupEntry). All (IsThere (length c.args.fresh.now.items)) ms) (none c) c.requires.there) (subst HaveOwnParts (none c) c.requires.own))

pub put_two-requires-clause-own : goal.put_two-requires-clause-own
put_two-requires-clause-own c = subst HaveOwnParts c.in-Some.ensures.items c.requires.own
