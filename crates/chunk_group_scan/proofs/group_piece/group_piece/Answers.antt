use Rattle.std.proofs.Common.{◌≡◌, ◌∙◌, ◌+◌, ◌≤◌, List, true, arith, ap, get_or, length, map, slice_range, subst, sym}
use Rattle.std.specs.Prelude.{All}
use Rattle.std.specs.List.{list_all}
use Rattle.std.proofs.lemmas.List.{length-map}
use Rattle.table_rules.specs.Objects.{IsRow}
use Rattle.sky_row.specs.Columns.{no_row, objects_at}
use Rattle.sql_bound.specs.declared.query.Shape.{Shape}
use Rattle.value_rules.specs.Values.{row}
use Rattle.answer_rules.specs.declared.rewritten.ChunkItem.{ChunkItem}
use Rattle.answer_rules.specs.Parts.{part_over}
use Rattle.answer_rules.specs.SoundChunks.{is_sound_part}
use Rattle.column_vectors.proofs.Reading.{rows_there}
use Rattle.chunk_group_scan.specs.Grouped.{is_sound_total}
use Rattle.chunk_filter.specs.Values.{IsReady}
use Rattle.chunk_group_scan.specs.States.{argument_of}
use Rattle.chunk_group_scan.specs.Runs.{AreStarts}
use Rattle.chunk_group_scan.proofs.Running.{run_may, run_more}
use Rattle.chunk_group_scan.proofs.Sizing.{parts_between, ready}
use Rattle.chunk_group_scan.proofs.Sounding.{totals_sound}
use Rattle.chunk_group_scan.proofs.group_piece.group_piece.Goals as goal

pub arguments-requires-clause-sound : goal.arguments-requires-clause-sound
arguments-requires-clause-sound c =
    subst (λ (l : List ChunkItem). list_all (is_sound_total (4 + c.args.block.now.width)) l ≡ true) (sym c.as_slice-items.ensures)
    (totals_sound (4 + c.args.block.now.width) c.args.keys.now c.args.query.now.items
    (subst (λ (s : Shape). list_all (is_sound_part (4 + c.args.block.now.width) s) c.args.query.now.items ≡ true) c.requires.shape c.requires.sound.items))

pub fill-requires-clause-ready : goal.fill-requires-clause-ready
fill-requires-clause-ready c =
    let objects = objects_at c.args.block.now.objects c.args.places.now in
    let rows : All IsRow objects = rows_there c.args.block.now.objects c.args.places.now c.len-count.ensures.rows c.requires.there in
    let there : c.run_end-to.result ≤ length objects =
    omega (arith, c.run_end-to.ensures.most, ap length c.as_slice-in-loop-from.ensures.value, c.in_ok-starts.ensures.len, length-map c.args.places.now (λ place. get_or c.args.block.now.objects place no_row)) in
    let sound : list_all (is_sound_total (4 + c.args.block.now.width)) c.as_slice-items.result.now ≡ true =
    subst (λ (l : List ChunkItem). list_all (is_sound_total (4 + c.args.block.now.width)) l ≡ true) (sym c.as_slice-items.ensures)
    (totals_sound (4 + c.args.block.now.width) c.args.keys.now c.args.query.now.items
    (subst (λ (s : Shape). list_all (is_sound_part (4 + c.args.block.now.width) s) c.args.query.now.items ≡ true) c.requires.shape c.requires.sound.items)) in
    subst (All (IsReady c.run_end-to.result)) (sym (c.as_slice-in-loop-from-4.ensures.value ∙ c.in_ok-arguments.ensures))
    (ready (4 + c.args.block.now.width) c.run_end-to.result objects c.as_slice-items.result.now sound rows there)

pub push-requires-clause-may : goal.push-requires-clause-may
push-requires-clause-may c =
    let objects = objects_at c.args.block.now.objects c.args.places.now in
    let rows : All IsRow objects = rows_there c.args.block.now.objects c.args.places.now c.len-count.ensures.rows c.requires.there in
    let long : length objects ≡ length c.args.places.now = length-map c.args.places.now (λ place. get_or c.args.block.now.objects place no_row) in
    let there : c.run_end-to.result ≤ length objects = omega (arith, c.run_end-to.ensures.most, ap length c.as_slice-in-loop-from.ensures.value, c.in_ok-starts.ensures.len, long) in
    let sound : list_all (is_sound_total (4 + c.args.block.now.width)) c.args.query.now.items ≡ true =
    totals_sound (4 + c.args.block.now.width) c.args.keys.now c.args.query.now.items
    (subst (λ (s : Shape). list_all (is_sound_part (4 + c.args.block.now.width) s) c.args.query.now.items ≡ true) c.requires.shape c.requires.sound.items) in
    let arguments = c.as_slice-in-loop-from-4.ensures.value ∙ (c.in_ok-arguments.ensures ∙ (ap (map (argument_of objects)) c.as_slice-items.ensures ∙ ap (map (argument_of objects)) (sym c.as_slice-in-loop-from-3.ensures))) in
    run_may c.args.keys.now c.args.query.now.items objects c.loop-from.from c.run_end-to.result c.as_slice-in-loop-from-5.result.now c.as_slice-in-loop-from-6.result.now c.loop-from.piece
    (omega (arith, c.run_end-to.ensures.more)) there (omega (arith, there, long, c.requires.few))
    (c.as_slice-in-loop-from-6.ensures.value ∙ (c.in_ok-fill.ensures objects there arguments
    ∙ ap (map (part_over (map row (slice_range objects c.loop-from.from c.run_end-to.result)))) c.as_slice-in-loop-from-3.ensures))
    (parts_between (4 + c.args.block.now.width) c.loop-from.from c.run_end-to.result objects c.args.query.now.items sound rows there) c.loop-from.invariant.piece

pub loop-from-preserved : goal.loop-from-preserved
loop-from-preserved c =
    let objects = objects_at c.args.block.now.objects c.args.places.now in
    let long : length objects ≡ length c.args.places.now = length-map c.args.places.now (λ place. get_or c.args.block.now.objects place no_row) in
    let there : c.run_end-to.result ≤ length objects = omega (arith, c.run_end-to.ensures.most, ap length c.as_slice-in-loop-from.ensures.value, c.in_ok-starts.ensures.len, long) in
    let arguments = c.as_slice-in-loop-from-4.ensures.value ∙ (c.in_ok-arguments.ensures ∙ (ap (map (argument_of objects)) c.as_slice-items.ensures ∙ ap (map (argument_of objects)) (sym c.as_slice-in-loop-from-3.ensures))) in
    record {
      inside = omega (arith, there, long);
      piece =
          run_more c.args.keys.now c.args.query.now.items objects c.as_slice-in-loop-from.result.now c.loop-from.from c.run_end-to.result c.as_slice-in-loop-from-5.result.now
          c.as_slice-in-loop-from-6.result.now c.loop-from.piece c.push.new.piece c.run_end-to.ensures.more there
          (subst (AreStarts c.args.keys.now objects) (sym c.as_slice-in-loop-from.ensures.value) c.in_ok-starts.ensures.are) c.run_end-to.ensures.none
          (c.as_slice-in-loop-from-5.ensures.value ∙ c.in_ok-fill_key.ensures)
          (c.as_slice-in-loop-from-6.ensures.value ∙ (c.in_ok-fill.ensures objects there arguments
          ∙ ap (map (part_over (map row (slice_range objects c.loop-from.from c.run_end-to.result)))) c.as_slice-in-loop-from-3.ensures))
          c.in_ok-push.ensures c.loop-from.invariant.piece;
    }
