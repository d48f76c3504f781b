use Rattle.std.proofs.Common.{◌≡◌, ◌+◌, true, subst}
use Rattle.sql_bound.specs.declared.query.Shape.{Shape}
use Rattle.answer_rules.specs.SoundChunks.{is_sound_chunk_order}
use Rattle.chunk_row_scan.proofs.Choosing.{have_first}
use Rattle.chunk_row_scan.proofs.Computing.{keys_ready}
use Rattle.chunk_row_scan.proofs.candidates.candidates.Goals as goal

pub suggested_cutoff-cutoff-requires : goal.suggested_cutoff-cutoff-requires
suggested_cutoff-cutoff-requires c = record {
  ready = λ i low.
      keys_ready (4 + c.args.block.now.width) i c.args.block.now.objects c.args.places.now c.args.query.now.order c.args.keys.now
      (subst (λ (s : Shape). is_sound_chunk_order (4 + c.args.block.now.width) s c.args.query.now.order ≡ true) c.requires.shape c.requires.sound.order)
      c.len-count.ensures.rows c.requires.there low c.requires.keys;
}

pub rows_not_beyond-requires-clause-ready : goal.rows_not_beyond-requires-clause-ready
rows_not_beyond-requires-clause-ready c = λ i low.
    keys_ready (4 + c.args.block.now.width) i c.args.block.now.objects c.args.places.now c.args.query.now.order c.args.keys.now
    (subst (λ (s : Shape). is_sound_chunk_order (4 + c.args.block.now.width) s c.args.query.now.order ≡ true) c.requires.shape c.requires.sound.order)
    c.len-count.ensures.rows c.requires.there low c.requires.keys

pub returns-else-numbers-n-clause-first : goal.returns-else-numbers-n-clause-first
returns-else-numbers-n-clause-first c =
    have_first c.args.query.now c.suggested_cutoff-cutoff.result c.in-Some.n c.in_ok-listed-in-Some.numbers _ _
    c.in-Some.ensures c.in_ok-listed-in-Some.ensures.all c.in_ok-listed-in-Some.ensures.numbers c.if-numbers-n.false
