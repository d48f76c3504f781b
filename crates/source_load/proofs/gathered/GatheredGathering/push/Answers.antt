use Rattle.std.proofs.Common.{◌≡◌, ◌∙◌, ◌<◌, ap, sym, subst, arith, rules, length, w64, FitsSigned}
use Rattle.std.proofs.lemmas.Int.{to_z-of_z}
use Rattle.table_rules.specs.declared.limits.TheConstants.{ROWS_MOST}
use Rattle.source_rules.specs.SourceRecords.{source_of}
use Rattle.source_row.specs.SourceColumns.{AreSourceColumns, source_behind, sources_in}
use Rattle.source_row.proofs.Sourced.{columns_more, one_source_more, sources_count}
use Rattle.source_load.proofs.gathered.GatheredGathering.push.Goals as goal

pub returns-clause-ok : goal.returns-clause-ok
returns-clause-ok c =
    let parts = c.args.self.now.parts in
    let source = source_of c.args.fields.now in
    let wide : length source.further ≡ length c.args.self.now.names = omega (arith, ap (λ s. length s.further) c.in_ok-id.ensures.ok, c.in_ok-id.ensures.wide, c.requires.all) in
    let id : FitsSigned w64 c.in_ok-id.id = search rules in
    let object : FitsSigned w64 c.in_ok-id.object = search rules in
    let pushed = simp (to_z-of_z w64 c.in_ok-id.id id, to_z-of_z w64 c.in_ok-id.object object) at c.in_ok-push.ensures in
    let is : c.push.new.self ≡ source_behind parts source =
    pushed
    ∙ (ap (λ l. source_behind c.self.inside.lists (record { id = c.in_ok-id.id; object = c.in_ok-id.object; further = l })) c.as_slice.ensures.value
    ∙ (ap (source_behind c.self.inside.lists) (sym c.in_ok-id.ensures.ok) ∙ ap (λ v. source_behind v.parts source) c.self.view_is)) in
    ap sources_in is ∙ one_source_more parts source c.requires.whole.even (wide ∙ sym c.requires.whole.wide)

pub returns-clause-whole : goal.returns-clause-whole
returns-clause-whole c =
    let parts = c.args.self.now.parts in
    let source = source_of c.args.fields.now in
    let wide : length source.further ≡ length c.args.self.now.names = omega (arith, ap (λ s. length s.further) c.in_ok-id.ensures.ok, c.in_ok-id.ensures.wide, c.requires.all) in
    let id : FitsSigned w64 c.in_ok-id.id = search rules in
    let object : FitsSigned w64 c.in_ok-id.object = search rules in
    let pushed = simp (to_z-of_z w64 c.in_ok-id.id id, to_z-of_z w64 c.in_ok-id.object object) at c.in_ok-push.ensures in
    let is : c.push.new.self ≡ source_behind parts source =
    pushed
    ∙ (ap (λ l. source_behind c.self.inside.lists (record { id = c.in_ok-id.id; object = c.in_ok-id.object; further = l })) c.as_slice.ensures.value
    ∙ (ap (source_behind c.self.inside.lists) (sym c.in_ok-id.ensures.ok) ∙ ap (λ v. source_behind v.parts source) c.self.view_is)) in
    let room : length parts.ids < ROWS_MOST = omega (arith, c.requires.room, sources_count parts) in
    let more = columns_more c.args.self.now.names parts source c.requires.whole c.in_ok-id.ensures.limits wide room in
    subst (AreSourceColumns c.self.inside.schema) (sym is) (subst (λ l. AreSourceColumns l (source_behind parts source)) (sym (ap (λ v. v.names) c.self.view_is)) more)
