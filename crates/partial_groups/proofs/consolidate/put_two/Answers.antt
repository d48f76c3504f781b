use Rattle.std.proofs.Common.{◌≡◌, ◌++◌, ◌∷◌, [], List, length, ap, subst, sym, ◌∙◌}
use Rattle.std.specs.List.{All}
use Rattle.answer_rules.specs.Parts.{Part, add_own_parts}
use Rattle.partial_groups.specs.Adding.{parts_of, placed, stacked}
use Rattle.partial_groups.specs.declared.group_entry.GroupEntry.{GroupEntry}
use Rattle.partial_groups.specs.Groups.{IsThere}
use Rattle.partial_groups.specs.Sharing.{HaveOwnParts}
use Rattle.partial_groups.proofs.Owning.{alone_owns, sum_owns}
use Rattle.partial_groups.proofs.Consolidating.{alone_there, put_before_last, put_sums_up, sum_there, two_fit}
use Rattle.partial_groups.proofs.consolidate.put_two.Goals as goal

pub put_sum-requires-clause-fit : goal.put_sum-requires-clause-fit
put_sum-requires-clause-fit c = two_fit c.args.tallies.now.items c.args.fresh.now.items c.args.out.now.items c.args.group c.args.last c.requires.mine c.requires.there c.requires.may

pub returns-then-is_same-clause-put : goal.returns-then-is_same-clause-put
returns-then-is_same-clause-put c =
    ap (λ (ps : List Part). stacked ps c.put_sum.new.out.items) c.put_sum.ensures.parts
    ∙ ap (stacked (c.args.fresh.now.items ++ add_own_parts (parts_of c.args.tallies.now.items c.args.group) (parts_of c.args.fresh.now.items c.args.last))) c.put_sum.ensures.groups
    ∙ put_sums_up c.args.tallies.now.items c.args.fresh.now.items c.args.out.now.items c.args.group c.args.last c.requires.mine c.requires.there c.requires.may (sym c.is_same.ensures ∙ c.if-is_same.true)

pub returns-then-is_same-clause-there : goal.returns-then-is_same-clause-there
returns-then-is_same-clause-there c =
    subst (λ (ps : List Part). All (IsThere (length ps)) c.put_sum.new.out.items) (sym c.put_sum.ensures.parts)
    (subst (λ (ms : List GroupEntry). All (IsThere (length (c.args.fresh.now.items ++ add_own_parts (parts_of c.args.tallies.now.items c.args.group) (parts_of c.args.fresh.now.items c.args.last)))) ms) (sym c.put_sum.ensures.groups)
    (sum_there c.args.tallies.now.items c.args.fresh.now.items c.args.out.now.items c.args.group c.args.last
    (two_fit c.args.tallies.now.items c.args.fresh.now.items c.args.out.now.items c.args.group c.args.last c.requires.mine c.requires.there c.requires.may) c.requires.there))

out_is : (c : goal.After-put_alone) → c.put_alone.new.out.items ≡ (c.args.out.now.items ++ c.args.last ∷ []) ++ placed (length c.args.fresh.now.items) c.args.group ∷ []
out_is c = c.put_alone.ensures.groups ∙ ap (λ (ms : List GroupEntry). ms ++ placed (length c.args.fresh.now.items) c.args.group ∷ []) c.push_reserved.ensures.items

pub returns-clause-put : goal.returns-clause-put
returns-clause-put c =
    ap (λ (ps : List Part). stacked ps c.put_alone.new.out.items) c.put_alone.ensures.parts
    ∙ ap (stacked (c.args.fresh.now.items ++ parts_of c.args.tallies.now.items c.args.group)) (out_is c)
    ∙ put_before_last c.args.tallies.now.items c.args.fresh.now.items c.args.out.now.items c.args.group c.args.last c.requires.mine c.requires.there c.requires.may (sym c.is_same.ensures ∙ c.if-is_same.false)

pub returns-clause-there : goal.returns-clause-there
returns-clause-there c =
    subst (λ (ps : List Part). All (IsThere (length ps)) c.put_alone.new.out.items) (sym c.put_alone.ensures.parts)
    (subst (λ (ms : List GroupEntry). All (IsThere (length (c.args.fresh.now.items ++ parts_of c.args.tallies.now.items c.args.group))) ms) (sym (out_is c))
    (alone_there c.args.tallies.now.items c.args.fresh.now.items (c.args.out.now.items ++ c.args.last ∷ []) c.args.group c.requires.mine c.requires.there))

pub returns-then-is_same-clause-own : goal.returns-then-is_same-clause-own
returns-then-is_same-clause-own c = subst HaveOwnParts (sym c.put_sum.ensures.groups) (sum_owns c.args.fresh.now.items c.args.out.now.items c.args.group c.args.last c.requires.there c.requires.own)

pub returns-clause-own : goal.returns-clause-own
returns-clause-own c = subst HaveOwnParts (sym (out_is c)) (alone_owns c.args.fresh.now.items (c.args.out.now.items ++ c.args.last ∷ []) c.args.group c.requires.there c.requires.own)
