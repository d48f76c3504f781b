use Rattle.std.proofs.Common.{◌≡◌, ◌∙◌, ◌+◌, true, ap, map, subst}
use Rattle.std.specs.List.{list_all}
use Rattle.column_lists.specs.Columns.{cells_in}
use Rattle.sky_row.specs.Columns.{objects_at}
use Rattle.sql_bound.specs.declared.query.Shape.{Shape}
use Rattle.answer_rules.specs.SoundChunks.{is_sound_chunk_order, is_sound_part}
use Rattle.partial_rows.specs.Multisets.{out_row as ranked}
use Rattle.chunk_row_scan.specs.Computed.{item_on}
use Rattle.chunk_row_scan.proofs.Computing.{columns_ready, columns_there, keys_ready, line_there}
use Rattle.chunk_row_scan.proofs.Rows.{rows_more}
use Rattle.chunk_row_scan.proofs.all_rows.all_rows.Goals as goal

pub rank_at-rank-requires-clause-ready : goal.rank_at-rank-requires-clause-ready
rank_at-rank-requires-clause-ready c =
    keys_ready (4 + c.args.block.now.width) c.loop-i.i c.args.block.now.objects c.args.places.now c.args.query.now.order c.args.keys.now
    (subst (λ (s : Shape). is_sound_chunk_order (4 + c.args.block.now.width) s c.args.query.now.order ≡ true) c.requires.shape c.requires.sound.order)
    c.len-count.ensures.rows c.requires.there c.loop-i-test.true c.requires.keys

pub push_at-requires-clause-ready : goal.push_at-requires-clause-ready
push_at-requires-clause-ready c =
    columns_ready (4 + c.args.block.now.width) c.loop-i.i c.args.block.now.objects c.args.places.now c.args.query.now.items c.as_slice-in-loop-i.result.now
    (subst (λ (s : Shape). list_all (is_sound_part (4 + c.args.block.now.width) s) c.args.query.now.items ≡ true) c.requires.shape c.requires.sound.items)
    c.len-count.ensures.rows c.requires.there c.loop-i-test.true
    (c.as_slice-in-loop-i.ensures.value ∙ (c.in_ok-columns.ensures ∙ ap (map (item_on (objects_at c.args.block.now.objects c.args.places.now))) c.as_slice.ensures))

pub loop-i-preserved : goal.loop-i-preserved
loop-i-preserved c =
    let cq = c.args.query.now in
    let objects = c.args.block.now.objects in
    let places = c.args.places.now in
    let cells = cells_in c.as_slice-in-loop-i.result.now c.loop-i.i in
    let found = c.as_slice-in-loop-i.ensures.value ∙ (c.in_ok-columns.ensures ∙ ap (map (item_on (objects_at objects places))) c.as_slice.ensures) in
    rows_more cq objects places c.loop-i.i (ranked c.rank_at-rank.result cells) c.loop-i.piece c.push_at.new.piece c.loop-i-test.true
    (line_there cq objects places c.loop-i.i c.is_down-down.result c.args.keys.now c.ids-ids.result.now c.rank_at-rank.result cells
    c.loop-i-test.true c.requires.there c.is_down-down.ensures c.requires.keys c.ids-ids.ensures c.rank_at-rank.ensures
    (columns_there cq.items objects places c.loop-i.i c.as_slice-in-loop-i.result.now c.loop-i-test.true found))
    c.in_ok-push_at.ensures c.loop-i.invariant
