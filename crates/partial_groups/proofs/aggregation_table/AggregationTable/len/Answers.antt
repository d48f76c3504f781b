use Rattle.std.proofs.Common.{◌≡◌, ◌≤◌, arith, length, map, subst}
use Rattle.answer_rules.specs.Gather.{gather}
use Rattle.answer_rules.specs.Keys.{key_order}
use Rattle.answer_rules.specs.Parts.{add_own_sums}
use Rattle.answer_rules.proofs.OwnWays.{own_again}
use Rattle.partial_groups.specs.Groups.{Gathered, group_of}
use Rattle.partial_groups.proofs.Consolidating.{first_ways, gathered_of_short, have_first}
use Rattle.partial_groups.proofs.aggregation_table.AggregationTable.len.Goals as goal

pub returns-clause-most : goal.returns-clause-most
returns-clause-most c =
    subst (λ (gs : Gathered). length gs ≤ c.len.result) c.self.view_is
    (omega (arith, gathered_of_short c.self.inside.tallies.items c.self.inside.groups.items, c.len.ensures, c.self.inside.groups.ok.0))

pub returns-clause-gathered : goal.returns-clause-gathered
returns-clause-gathered c =
    let gs : Gathered = map (group_of c.self.inside.tallies.items) c.self.inside.groups.items in
    subst (λ (hs : Gathered). gather key_order add_own_sums hs ≡ hs) c.self.view_is (own_again (first_ways gs) gs (have_first gs c.self.invariant.0.alike))

pub returns-clause-small : goal.returns-clause-small
returns-clause-small c = omega (arith, c.len.ensures, c.self.inside.groups.ok.0, c.self.inside.groups.ok.1, c.self.inside.groups.small)
