use Rattle.std.proofs.Common.{◌≡◌, ◌∙◌, ◌+◌, ℤ, true, List, Option, ap, get_or, map, pos, refl, subst, sym}
use Rattle.sky_row.specs.Columns.{no_row}
use Rattle.sql_bound.specs.declared.query.Shape.{Shape}
use Rattle.value_rules.specs.Values.{row}
use Rattle.answer_rules.specs.Pieces.{chunk_value}
use Rattle.answer_rules.specs.SoundChunks.{is_sound_chunk_order}
use Rattle.partial_merge.specs.Joining.{IsNoneOfFirst}
use Rattle.partial_rows.specs.Multisets.{out_row as ranked}
use Rattle.chunk_row_scan.specs.Computed.{rank_by}
use Rattle.chunk_row_scan.specs.Cutoffs.{IsCutoff}
use Rattle.chunk_row_scan.proofs.Computing.{keys_ready, line_there}
use Rattle.chunk_row_scan.proofs.Cutoffs.{cutoff_next}
use Rattle.chunk_row_scan.proofs.Rows.{rows_more}
use Rattle.chunk_row_scan.proofs.Skipping.{keys_counted, rows_skipped}
use Rattle.chunk_row_scan.proofs.first_rows.first_rows.Goals as goal

pub rank_at-rank-requires-clause-ready : goal.rank_at-rank-requires-clause-ready
rank_at-rank-requires-clause-ready c =
    keys_ready (4 + c.args.block.now.width) c.loop-i.i c.args.block.now.objects c.args.places.now c.args.query.now.order c.args.keys.now
    (subst (λ (s : Shape). is_sound_chunk_order (4 + c.args.block.now.width) s c.args.query.now.order ≡ true) c.requires.shape c.requires.sound.order)
    c.len-count.ensures.rows c.requires.there c.loop-i-test.true c.requires.keys

pub offer-requires-clause-there : goal.offer-requires-clause-there
offer-requires-clause-there c = c.requires.there c.loop-i.i 0 c.loop-i-test.true

pub key_at-requires : goal.key_at-requires
key_at-requires c =
    keys_ready (4 + c.args.block.now.width) c.loop-i.i c.args.block.now.objects c.args.places.now c.args.query.now.order c.args.keys.now
    (subst (λ (s : Shape). is_sound_chunk_order (4 + c.args.block.now.width) s c.args.query.now.order ≡ true) c.requires.shape c.requires.sound.order)
    c.len-count.ensures.rows c.requires.there c.loop-i-test.true c.requires.keys

pub next_within-i-requires-clause-count : goal.next_within-i-requires-clause-count
next_within-i-requires-clause-count c =
    keys_counted c.args.block.now.objects c.args.places.now c.args.query.now.order c.args.keys.now c.requires.keys

pub loop-i-preserved : goal.loop-i-preserved
loop-i-preserved c =
    let cq = c.args.query.now in
    let objects = c.args.block.now.objects in
    let places = c.args.places.now in
    let i = c.loop-i.i in
    let id : ℤ = get_or c.ids-ids.result.now (get_or places i 0) (pos 0) in
    let cells : List (Option ℤ) = map (chunk_value (row (get_or objects (get_or places i 0) no_row))) cq.items in
    let line = line_there cq objects places i c.is_down-down.result c.args.keys.now c.ids-ids.result.now c.rank_at-rank.result cells
    c.loop-i-test.true c.requires.there c.is_down-down.ensures c.requires.keys c.ids-ids.ensures c.rank_at-rank.ensures
    refl in
    let cutoff : IsCutoff c.is_down-down.result c.offer.new.piece c.update.new.cutoff =
    subst (IsCutoff c.is_down-down.result c.offer.new.piece) (sym c.update.ensures)
    (cutoff_next c.is_down-down.result c.loop-i.piece c.offer.new.piece (ranked c.rank_at-rank.result cells) c.loop-i.cutoff c.key_at.result id _ c.in_ok-late.ensures.taken
    (λ late. subst (IsNoneOfFirst c.offer.new.piece) (c.rank_at-rank.ensures ∙ ap (λ key. rank_by c.is_down-down.result key id) (sym c.key_at.ensures)) (c.in_ok-late.ensures.late late))
    c.loop-i.invariant.cutoff) in
    record {
      inside = c.next_within-i.ensures.most;
      piece =
          rows_skipped cq objects places c.is_down-down.result c.args.keys.now c.update.new.cutoff c.offer.new.piece (i + 1) c.next_within-i.result
          c.next_within-i.ensures.order c.next_within-i.ensures.most c.is_down-down.ensures c.requires.keys cutoff c.next_within-i.ensures.beyond
          (rows_more cq objects places i (ranked c.rank_at-rank.result cells) c.loop-i.piece c.offer.new.piece c.loop-i-test.true line c.in_ok-late.ensures.taken c.loop-i.invariant.piece);
      cutoff = cutoff;
    }
