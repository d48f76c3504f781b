use Rattle.std.proofs.Common.{◌≡◌, ◌+◌, refl, arith, subst, sym, ◌∙◌}
use Rattle.partial_groups.specs.Adding.{MayAdd, part_in}
use Rattle.partial_groups.specs.Sharing.{KeepsRest}
use Rattle.partial_groups.proofs.Owning.{Summed, all_summed, none_summed, one_summed}
use Rattle.partial_groups.proofs.Summing.{may_add_in}
use Rattle.partial_groups.proofs.combine.add_parts.Goals as goal

pub loop-i-init : goal.loop-i-init
loop-i-init c = record {
  summed = none_summed c.args.more.now.items c.args.tallies.now.items c.args.tallies.now.items c.args.a c.args.b refl;
  long = refl;
  capacity = refl;
}

pub add_at-requires-clause-a_there : goal.add_at-requires-clause-a_there
add_at-requires-clause-a_there c = omega (arith, c.loop-i-test.true, c.requires.a_there)

pub add_at-requires-clause-b_there : goal.add_at-requires-clause-b_there
add_at-requires-clause-b_there c = omega (arith, c.loop-i-test.true, c.requires.b_there, Summed.long c.loop-i.invariant.summed)

pub add_at-requires-clause-small : goal.add_at-requires-clause-small
add_at-requires-clause-small c =
    subst (MayAdd (part_in c.args.more.now.items (c.args.a + c.loop-i.i))) (sym (Summed.rest c.loop-i.invariant.summed (c.args.b + c.loop-i.i) (λ p q. omega (arith, q))))
    (may_add_in c.args.more.now.items c.args.tallies.now.items c.args.a c.args.b c.args.width c.loop-i.i c.loop-i-test.true c.requires.a_there c.requires.b_there c.requires.small)

pub loop-i-preserved : goal.loop-i-preserved
loop-i-preserved c = record {
  summed = one_summed c.args.more.now.items c.args.tallies.now.items c.loop-i.tallies.items c.add_at.new.tallies.items c.args.a c.args.b c.loop-i.i
      (omega (arith, c.loop-i-test.true, c.requires.b_there, Summed.long c.loop-i.invariant.summed)) c.loop-i.invariant.summed c.add_at.ensures.items;
  long = c.add_at.ensures.long ∙ c.loop-i.invariant.long;
  capacity = c.add_at.ensures.capacity ∙ c.loop-i.invariant.capacity;
}

pub returns-clause-items : goal.returns-clause-items
returns-clause-items c = Summed.long c.loop-i.invariant.summed

pub returns-clause-sums : goal.returns-clause-sums
returns-clause-sums c =
    let end : c.loop-i.i ≡ c.args.width = omega (arith, c.loop-i-test.false, c.loop-i.auto.i-end) in
    all_summed c.args.more.now.items c.args.tallies.now.items c.loop-i.tallies.items c.args.a c.args.b c.args.width c.requires.a_there c.requires.b_there
    (subst (Summed c.args.more.now.items c.args.tallies.now.items c.loop-i.tallies.items c.args.a c.args.b) end c.loop-i.invariant.summed)

pub returns-clause-rest : goal.returns-clause-rest
returns-clause-rest c =
    let end : c.loop-i.i ≡ c.args.width = omega (arith, c.loop-i-test.false, c.loop-i.auto.i-end) in
    subst (λ n. KeepsRest c.args.tallies.now.items c.loop-i.tallies.items c.args.b (c.args.b + n)) end (Summed.rest c.loop-i.invariant.summed)
