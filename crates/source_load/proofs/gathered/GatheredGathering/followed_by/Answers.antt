use Rattle.std.proofs.Common.{◌≡◌, ◌∙◌, ◌+◌, ◌≤◌, ap, ap₂, arith, length, subst, sym}
use Rattle.table_rules.specs.declared.limits.TheConstants.{ROWS_MOST}
use Rattle.source_row.specs.SourceColumns.{AreSourceColumns, parts_appended, sources_in}
use Rattle.source_row.proofs.Sourced.{columns_of_both, sources_count, sources_of_both}
use Rattle.source_load.proofs.gathered.GatheredGathering.followed_by.Goals as goal

pub returns-clause-rows : goal.returns-clause-rows
returns-clause-rows c =
    let own = c.args.self.parts in
    let others = c.args.other.now.parts in
    let wide : length others.further ≡ length own.further = c.requires.other.wide ∙ (ap length c.requires.wide ∙ sym c.requires.whole.wide) in
    let is = c.in_ok-lists.ensures ∙ ap₂ parts_appended (ap (λ v. v.parts) c.self.view_is) (ap (λ v. v.parts) c.other.view_is) in
    ap sources_in is ∙ sources_of_both own others c.requires.whole.even wide

pub returns-clause-whole : goal.returns-clause-whole
returns-clause-whole c =
    let own = c.args.self.parts in
    let others = c.args.other.now.parts in
    let is = c.in_ok-lists.ensures ∙ ap₂ parts_appended (ap (λ v. v.parts) c.self.view_is) (ap (λ v. v.parts) c.other.view_is) in
    let same : AreSourceColumns c.args.self.names others = subst (λ names. AreSourceColumns names others) c.requires.wide c.requires.other in
    let few : length own.ids + length others.ids ≤ ROWS_MOST = omega (arith, c.requires.few, sources_count own, sources_count others) in
    let both = columns_of_both c.args.self.names own others c.requires.whole same few in
    subst (AreSourceColumns c.self.inside.schema) (sym is) (subst (λ names. AreSourceColumns names (parts_appended own others)) (sym (ap (λ v. v.names) c.self.view_is)) both)
