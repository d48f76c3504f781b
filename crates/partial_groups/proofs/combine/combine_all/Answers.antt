use Rattle.std.proofs.Common.{◌≡◌, ◌<◌, ◌+◌, ◌*◌, ℕ, List, [], drop, length, take, arith, subst, sym}
use Rattle.std.proofs.lemmas.List.{get_or_read, take_all}
use Rattle.partial_groups.specs.Adding.{width_in}
use Rattle.partial_groups.specs.declared.group_entry.GroupEntry.{GroupEntry}
use Rattle.partial_groups.proofs.Gaining.{Comes, Midway, all_taken, comes, one_taken}
use Rattle.partial_groups.proofs.Consolidating.{mul_less}
use Rattle.partial_groups.proofs.Walking.{Stands, long_stays, rest_stays, stands}
use Rattle.partial_groups.proofs.combine.combine_all.Goals as goal

blank : GroupEntry
blank = record { key = []; rows = 0; from = 0; to = 0 }

below : (c : goal.After-index_mut) → c.loop-i.i < length c.args.others.items
below c = omega (arith, c.loop-i-test.true, c.len-i-end.ensures, c.args.others.ok.0)

at : (c : goal.After-index_mut) → Stands c.args.others.items c.loop-i.i c.index_mut.result.now
at c = stands c.args.others.items c.loop-i.others.items c.loop-i.i c.index_mut.result.now blank (below c) c.loop-i.invariant.long c.loop-i.invariant.rest
    (get_or_read c.loop-i.others.items c.loop-i.i c.index_mut.result.now (omega (arith, below c, c.loop-i.invariant.long)) c.index_mut.ensures.value blank)

known : (c : goal.After-index_mut) → Comes c.args.tallies.now.items c.args.groups.now.items c.args.more.now.items (take c.loop-i.i c.args.others.items) c.args.others.items c.index_mut.result.now c.loop-i.tallies.items c.loop-i.groups.items
known c = comes c.args.tallies.now.items c.args.groups.now.items c.args.more.now.items (take c.loop-i.i c.args.others.items) (drop (c.loop-i.i + 1) c.args.others.items) c.args.others.items c.index_mut.result.now c.loop-i.tallies.items c.loop-i.groups.items c.requires.mine c.requires.theirs c.requires.alike (at c).all c.loop-i.invariant.midway

less : (c : goal.After-index_mut) → length (drop c.loop-i.i c.args.others.items) * width_in c.args.others.items ≡ length (drop (c.loop-i.i + 1) c.args.others.items) * width_in c.args.others.items + width_in c.args.others.items
less c = mul_less (length (drop c.loop-i.i c.args.others.items)) (length (drop (c.loop-i.i + 1) c.args.others.items)) (width_in c.args.others.items) (sym (at c).more)

pub combine_one-requires-clause-room : goal.combine_one-requires-clause-room
combine_one-requires-clause-room c = omega (arith, c.loop-i.invariant.room, (at c).more)

pub combine_one-requires-clause-space : goal.combine_one-requires-clause-space
combine_one-requires-clause-space c = omega (arith, c.loop-i.invariant.space, less c, Comes.wide (known c))

pub combine_one-requires-clause-there : goal.combine_one-requires-clause-there
combine_one-requires-clause-there c = Comes.there (known c)

pub combine_one-requires-clause-small : goal.combine_one-requires-clause-small
combine_one-requires-clause-small c = Comes.small (known c)

pub combine_one-requires-clause-alike : goal.combine_one-requires-clause-alike
combine_one-requires-clause-alike c = Comes.alike (known c)

pub loop-i-preserved : goal.loop-i-preserved
loop-i-preserved c =
    let others : List GroupEntry = c.args.others.items in
    let i : ℕ = c.loop-i.i in
    let low : i < length others = omega (arith, c.loop-i-test.true, c.len-i-end.ensures, c.args.others.ok.0) in
    let s : Stands others i c.index_mut.result.now = stands others c.loop-i.others.items i c.index_mut.result.now blank low c.loop-i.invariant.long c.loop-i.invariant.rest
    (get_or_read c.loop-i.others.items i c.index_mut.result.now (omega (arith, low, c.loop-i.invariant.long)) c.index_mut.ensures.value blank) in
    let k : Comes c.args.tallies.now.items c.args.groups.now.items c.args.more.now.items (take i others) others c.index_mut.result.now c.loop-i.tallies.items c.loop-i.groups.items =
    comes c.args.tallies.now.items c.args.groups.now.items c.args.more.now.items (take i others) (drop (i + 1) others) others c.index_mut.result.now c.loop-i.tallies.items c.loop-i.groups.items c.requires.mine c.requires.theirs c.requires.alike s.all c.loop-i.invariant.midway in
    let fewer : length (drop i others) * width_in others ≡ length (drop (i + 1) others) * width_in others + width_in others =
    mul_less (length (drop i others)) (length (drop (i + 1) others)) (width_in others) (sym s.more) in
    record {
      midway = subst (λ (taken : List GroupEntry). Midway c.args.tallies.now.items c.args.groups.now.items c.args.more.now.items taken c.combine_one.new.tallies.items c.combine_one.new.groups.items) (sym s.front)
          (one_taken c.args.tallies.now.items c.args.groups.now.items c.args.more.now.items (take i others) others c.index_mut.result.now c.loop-i.tallies.items c.combine_one.new.tallies.items c.loop-i.groups.items c.combine_one.new.groups.items c.loop-i.invariant.midway k c.combine_one.ensures.mine c.combine_one.ensures.own c.combine_one.ensures.put);
      long = long_stays others c.loop-i.others.items i c.combine_one.new.other c.loop-i.invariant.long;
      rest = rest_stays others c.loop-i.others.items i blank c.combine_one.new.other low c.loop-i.invariant.long c.loop-i.invariant.rest;
      room = omega (arith, c.loop-i.invariant.room, s.more, c.combine_one.ensures.long, c.combine_one.ensures.room);
      space = omega (arith, c.loop-i.invariant.space, fewer, Comes.wide k, c.combine_one.ensures.more, c.combine_one.ensures.space);
    }

pub returns-clause-joined : goal.returns-clause-joined
returns-clause-joined c =
    all_taken c.args.tallies.now.items c.args.groups.now.items c.args.more.now.items (take c.loop-i.i c.args.others.items) c.args.others.items c.loop-i.tallies.items c.loop-i.groups.items c.requires.mine c.requires.theirs c.requires.alike
    (sym (take_all c.loop-i.i c.args.others.items (omega (arith, c.loop-i-test.false, c.len-i-end.ensures, c.args.others.ok.0))))
    c.loop-i.invariant.midway
