use Rattle.std.proofs.Common.{rules, ◌≡◌, ◌∙◌, ◌+◌, ◌-◌, ◌≤◌, ℕ, List, [], true, arith, ap, get_or, length, map, slice_range, subst, sym}
use Rattle.std.specs.Prelude.{All}
use Rattle.std.specs.List.{list_all}
use Rattle.std.proofs.lemmas.List.{length-map}
use Rattle.table_rules.specs.Objects.{IsRow}
use Rattle.sky_row.specs.Columns.{no_row, objects_at}
use Rattle.sql_bound.specs.declared.query.Shape.{Shape}
use Rattle.value_rules.specs.Values.{row}
use Rattle.answer_rules.specs.declared.rewritten.ChunkItem.{ChunkItem}
use Rattle.answer_rules.specs.Parts.{part_over}
use Rattle.answer_rules.specs.SoundChunks.{is_sound_part}
use Rattle.partial_groups.specs.Groups.{group_by}
use Rattle.partial_merge.specs.Joining.{MayTakeGroup}
use Rattle.column_vectors.proofs.Reading.{rows_there}
use Rattle.chunk_group_scan.specs.Grouped.{is_sound_total}
use Rattle.chunk_filter.specs.Values.{IsReady}
use Rattle.chunk_group_scan.proofs.Running.{all_put, run_may}
use Rattle.chunk_group_scan.proofs.Sizing.{parts_between, ready}
use Rattle.chunk_group_scan.proofs.Sounding.{totals_sound}
use Rattle.chunk_group_scan.proofs.one_group.one_group.Goals as goal

pub arguments-requires-clause-sound : goal.arguments-requires-clause-sound
arguments-requires-clause-sound c =
    subst (λ (l : List ChunkItem). list_all (is_sound_total (4 + c.args.block.now.width)) l ≡ true) (sym c.as_slice-items.ensures)
    (totals_sound (4 + c.args.block.now.width) [] c.args.query.now.items
    (subst (λ (s : Shape). list_all (is_sound_part (4 + c.args.block.now.width) s) c.args.query.now.items ≡ true) c.requires.shape c.requires.sound.items))

pub fill-requires-clause-ready : goal.fill-requires-clause-ready
fill-requires-clause-ready c =
    let objects = objects_at c.args.block.now.objects c.args.places.now in
    let rows : All IsRow objects = rows_there c.args.block.now.objects c.args.places.now c.len-count.ensures.rows c.requires.there in
    let there : length c.args.places.now ≤ length objects =
    omega (arith, length-map c.args.places.now (λ place. get_or c.args.block.now.objects place no_row)) in
    let sound : list_all (is_sound_total (4 + c.args.block.now.width)) c.as_slice-items.result.now ≡ true =
    subst (λ (l : List ChunkItem). list_all (is_sound_total (4 + c.args.block.now.width)) l ≡ true) (sym c.as_slice-items.ensures)
    (totals_sound (4 + c.args.block.now.width) [] c.args.query.now.items
    (subst (λ (s : Shape). list_all (is_sound_part (4 + c.args.block.now.width) s) c.args.query.now.items ≡ true) c.requires.shape c.requires.sound.items)) in
    subst (All (IsReady (length c.args.places.now))) (sym (c.as_slice.ensures.value ∙ c.in_ok-arguments.ensures))
    (ready (4 + c.args.block.now.width) (length c.args.places.now) objects c.as_slice-items.result.now sound rows there)

pub push-requires-clause-may : goal.push-requires-clause-may
push-requires-clause-may c =
    let objects = objects_at c.args.block.now.objects c.args.places.now in
    let items = c.as_slice-items.result.now in
    let n = length c.args.places.now in
    let rows : All IsRow objects = rows_there c.args.block.now.objects c.args.places.now c.len-count.ensures.rows c.requires.there in
    let long : length objects ≡ n = length-map c.args.places.now (λ place. get_or c.args.block.now.objects place no_row) in
    let there : n ≤ length objects = omega (arith, long) in
    let sound : list_all (is_sound_total (4 + c.args.block.now.width)) items ≡ true =
    subst (λ (l : List ChunkItem). list_all (is_sound_total (4 + c.args.block.now.width)) l ≡ true) (sym c.as_slice-items.ensures)
    (totals_sound (4 + c.args.block.now.width) [] c.args.query.now.items
    (subst (λ (s : Shape). list_all (is_sound_part (4 + c.args.block.now.width) s) c.args.query.now.items ≡ true) c.requires.shape c.requires.sound.items)) in
    let less : n - 0 ≡ n = omega arith in
    subst (λ (m : ℕ). MayTakeGroup c.empty-piece.result (group_by c.as_slice-2.result.now m c.as_slice-3.result.now)) less
    (run_may [] items objects 0 n c.as_slice-2.result.now c.as_slice-3.result.now c.empty-piece.result
    (omega arith) there (omega (arith, c.requires.few))
    (c.as_slice-3.ensures.value ∙ c.in_ok-fill.ensures objects there (c.as_slice.ensures.value ∙ c.in_ok-arguments.ensures))
    (parts_between (4 + c.args.block.now.width) 0 n objects items sound rows there) (search rules))

pub returns : goal.returns
returns c =
    let objects = objects_at c.args.block.now.objects c.args.places.now in
    let n = length c.args.places.now in
    let long : length objects ≡ n = length-map c.args.places.now (λ place. get_or c.args.block.now.objects place no_row) in
    let there : n ≤ length objects = omega (arith, long) in
    all_put c.args.query.now.items objects n c.as_slice-2.result.now c.as_slice-3.result.now c.empty-piece.result c.push.new.piece
    (search rules) (sym long) (search rules)
    (c.as_slice-3.ensures.value ∙ (c.in_ok-fill.ensures objects there (c.as_slice.ensures.value ∙ c.in_ok-arguments.ensures)
    ∙ ap (map (part_over (map row (slice_range objects 0 n)))) c.as_slice-items.ensures))
    c.in_ok-push.ensures (search rules)
