use Rattle.std.proofs.Common.{length, map, List, ◌∙◌, ◌≡◌, ◌+◌, ◌*◌, arith, ap, subst, sym, vec_len}
use Rattle.partial_groups.specs.Adding.{MayPut, width_in}
use Rattle.partial_groups.specs.Groups.{Gathered, IsThere, gathered_of, group_of, width_of}
use Rattle.answer_rules.specs.Gather.{Rise}
use Rattle.answer_rules.specs.Keys.{key_order}
use Rattle.std.specs.List.{All}
use Rattle.partial_groups.specs.declared.group_entry.GroupEntry.{GroupEntry}
use Rattle.partial_groups.specs.Sharing.{HaveOwnParts}
use Rattle.partial_groups.proofs.Owning.{own_reversed}
use Rattle.partial_groups.proofs.Rise.{gathered_of_rises}
use Rattle.partial_groups.proofs.Consolidating.{Next, at_first, consolidated_addable, consolidated_is, may_put, mul_less, next_of, next_there, next_wide, none_left, one_more, reversed_there}
use Rattle.partial_groups.proofs.consolidate.consolidate.Goals as goal

pub loop-group-init : goal.loop-group-init
loop-group-init c = record {
  halfway = at_first c.args.tallies.now.items c.args.groups.now.items c.sort.new.groups.items c.in_ok-fresh.fresh.items c.in_ok-out.out.items c.requires c.sort.ensures.same c.in_ok-sort.ensures.sorted c.in_ok-fresh.ensures.items c.in_ok-out.ensures.items;
  room = omega (arith, c.in_ok-out.ensures.room, c.in_ok-out.ensures.none, c.len.ensures, c.sort.ensures.len);
  space = omega (arith, c.in_ok-fresh.ensures.room, c.in_ok-fresh.ensures.none, ap (λ n. n * width_in c.args.groups.now.items) c.sort.ensures.len);
}

pub step-requires-clause-room : goal.step-requires-clause-room
step-requires-clause-room c = omega (arith, c.loop-group.invariant.room, c.in-Some.ensures.cases)

pub step-requires-clause-space : goal.step-requires-clause-space
step-requires-clause-space c =
    let next : Next c.args.tallies.now.items c.args.groups.now.items c.pop.new.self.items c.loop-group.invariant.halfway.taken c.in-Some.group = next_of c.args.tallies.now.items c.args.groups.now.items c.loop-group.groups.items c.pop.new.self.items c.in-Some.group c.loop-group.fresh.items c.loop-group.out.items c.loop-group.invariant.halfway c.in-Some.ensures.items in
    let wide : width_of c.in-Some.group ≡ width_in c.args.groups.now.items = next_wide c.args.tallies.now.items c.args.groups.now.items c.pop.new.self.items c.loop-group.invariant.halfway.taken c.in-Some.group next in
    let less : vec_len c.loop-group.groups * width_in c.args.groups.now.items ≡ vec_len c.pop.new.self * width_in c.args.groups.now.items + width_in c.args.groups.now.items = mul_less (vec_len c.loop-group.groups) (vec_len c.pop.new.self) (width_in c.args.groups.now.items) c.in-Some.ensures.cases in
    omega (arith, c.loop-group.invariant.space, less, wide)

pub step-requires-clause-mine : goal.step-requires-clause-mine
step-requires-clause-mine c =
    let next : Next c.args.tallies.now.items c.args.groups.now.items c.pop.new.self.items c.loop-group.invariant.halfway.taken c.in-Some.group = next_of c.args.tallies.now.items c.args.groups.now.items c.loop-group.groups.items c.pop.new.self.items c.in-Some.group c.loop-group.fresh.items c.loop-group.out.items c.loop-group.invariant.halfway c.in-Some.ensures.items in
    next_there c.args.tallies.now.items c.args.groups.now.items c.pop.new.self.items c.loop-group.invariant.halfway.taken c.in-Some.group next

pub step-requires-clause-own : goal.step-requires-clause-own
step-requires-clause-own c = c.loop-group.invariant.halfway.own

pub step-requires-clause-there : goal.step-requires-clause-there
step-requires-clause-there c = c.loop-group.invariant.halfway.there

pub step-requires-clause-may : goal.step-requires-clause-may
step-requires-clause-may c =
    let next : Next c.args.tallies.now.items c.args.groups.now.items c.pop.new.self.items c.loop-group.invariant.halfway.taken c.in-Some.group = next_of c.args.tallies.now.items c.args.groups.now.items c.loop-group.groups.items c.pop.new.self.items c.in-Some.group c.loop-group.fresh.items c.loop-group.out.items c.loop-group.invariant.halfway c.in-Some.ensures.items in
    subst (MayPut (group_of c.args.tallies.now.items c.in-Some.group)) (sym c.loop-group.invariant.halfway.done) (may_put c.args.tallies.now.items c.args.groups.now.items c.pop.new.self.items c.loop-group.invariant.halfway.taken c.in-Some.group next)

pub loop-group-preserved : goal.loop-group-preserved
loop-group-preserved c =
    let next : Next c.args.tallies.now.items c.args.groups.now.items c.pop.new.self.items c.loop-group.invariant.halfway.taken c.in-Some.group = next_of c.args.tallies.now.items c.args.groups.now.items c.loop-group.groups.items c.pop.new.self.items c.in-Some.group c.loop-group.fresh.items c.loop-group.out.items c.loop-group.invariant.halfway c.in-Some.ensures.items in
    let wide : width_of c.in-Some.group ≡ width_in c.args.groups.now.items = next_wide c.args.tallies.now.items c.args.groups.now.items c.pop.new.self.items c.loop-group.invariant.halfway.taken c.in-Some.group next in
    let less : vec_len c.loop-group.groups * width_in c.args.groups.now.items ≡ vec_len c.pop.new.self * width_in c.args.groups.now.items + width_in c.args.groups.now.items = mul_less (vec_len c.loop-group.groups) (vec_len c.pop.new.self) (width_in c.args.groups.now.items) c.in-Some.ensures.cases in
    record {
      halfway = one_more c.args.tallies.now.items c.args.groups.now.items c.loop-group.groups.items c.pop.new.self.items c.in-Some.group c.loop-group.fresh.items c.step.new.fresh.items c.loop-group.out.items c.step.new.out.items c.loop-group.invariant.halfway next c.step.ensures.put c.step.ensures.there c.step.ensures.own;
      room = omega (arith, c.loop-group.invariant.room, c.step.ensures.long, c.step.ensures.room, c.in-Some.ensures.cases);
      space = omega (arith, c.loop-group.invariant.space, less, wide, c.step.ensures.more, c.step.ensures.space);
    }

-- ---- when none is left

consolidated : (c : goal.After-drop-tallies) → map (group_of c.loop-group.fresh.items) c.reverse.new.self.items ≡ gathered_of c.args.tallies.now.items c.args.groups.now.items
consolidated c =
    ap (map (group_of c.loop-group.fresh.items)) c.reverse.ensures.items
    ∙ consolidated_is c.args.tallies.now.items c.args.groups.now.items c.loop-group.groups.items c.loop-group.fresh.items c.loop-group.out.items c.loop-group.invariant.halfway
    (none_left c.loop-group.groups.items (sym c.loop-group.groups.ok.0 ∙ c.in_default.ensures.cases.0))

pub returns-clause-addable : goal.returns-clause-addable
returns-clause-addable c =
    consolidated_addable c.args.tallies.now.items c.args.groups.now.items c.loop-group.fresh.items c.reverse.new.self.items c.requires (consolidated c)
    (subst (λ (ms : List GroupEntry). All (IsThere (length c.loop-group.fresh.items)) ms) (sym c.reverse.ensures.items) (reversed_there c.loop-group.fresh.items c.loop-group.out.items c.loop-group.invariant.halfway.there))

pub returns-clause-consolidated : goal.returns-clause-consolidated
returns-clause-consolidated c = consolidated c

pub returns-clause-rise : goal.returns-clause-rise
returns-clause-rise c = subst (λ (gs : Gathered). Rise key_order gs) (sym (consolidated c)) (gathered_of_rises c.args.tallies.now.items c.args.groups.now.items)

pub returns-clause-own : goal.returns-clause-own
returns-clause-own c = subst HaveOwnParts (sym c.reverse.ensures.items) (own_reversed c.loop-group.out.items c.loop-group.invariant.halfway.own)
