use Rattle.std.proofs.Common.{◌+◌, ◌∙◌, sym, subst, true}
use Rattle.std.proofs.lemmas.Result.{on_ok_weaker}
use Rattle.source_row.specs.SourceColumns.{source_at}
use Rattle.value_rules.specs.Sound.{has_col}
use Rattle.child_rules.specs.Children.{as_row}
use Rattle.child_scan.specs.AddsRows.{AddsRows}
use Rattle.child_scan.specs.SoundPairs.{IsSoundPair}
use Rattle.child_scan.specs.Wide.{IsWide, row_at_point}
use Rattle.child_scan.proofs.Sounding.{child_is_sound}
use Rattle.child_scan.proofs.Widening.{wide_lines}
use Rattle.child_scan.proofs.scan.push_pair.Goals as goal

pub push_if_met-requires-clause-wide : goal.push_if_met-requires-clause-wide
push_if_met-requires-clause-wide c = c.source_row-second.ensures.further.long ∙ sym c.requires.long

pub push_if_met-requires-clause-sound : goal.push_if_met-requires-clause-sound
push_if_met-requires-clause-sound c =
    subst (λ n. IsSoundPair (has_col (4 + n) true) c.args.query.now) (sym c.requires.long) (child_is_sound c.args.query.now c.requires.child)

pub returns : goal.returns
returns c =
    let s = source_at c.args.lists.now c.args.i in
    let first = c.args.first.now in
    on_ok_weaker c.push_if_met.result
    (λ adds o wide.
    let second : IsWide (as_row o s) c.source_row-second.result =
    subst (λ at. IsWide (row_at_point at s) c.source_row-second.result) (c.pos.ensures.value ∙ wide.at) c.source_row-second.ensures in
    subst (λ rows. AddsRows rows c.args.piece.now c.push_if_met.new.piece) (wide_lines c.args.query.now o first (as_row o s) c.source_row-second.result wide second) adds)
    c.push_if_met.ensures
