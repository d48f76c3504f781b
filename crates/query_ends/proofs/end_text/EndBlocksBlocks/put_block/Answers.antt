use Rattle.std.proofs.Common.{◌<◌, ap, arith, length, Some, sym, ◌∙◌}
use Rattle.std.proofs.lemmas.Option.{slice_get-get_or}
use Rattle.session_script.proofs.Numbered.{lines_are_texts}
use Rattle.session_script.specs.Scripts.{query_count}
use Rattle.query_ends.proofs.TextsOfEnds.{as_many_blocks, block_there}
use Rattle.query_ends.proofs.Writing.{wrote_as}
use Rattle.query_ends.proofs.end_text.EndBlocksBlocks.put_block.Goals as goal

pub overflow_add-number : goal.overflow_add-number
overflow_add-number g c =
    let t = c.args.self.now in
    omega (arith, c.requires.there, as_many_blocks t.schema.now t.script.now t.ends.now c.requires.fits, c.queries.ensures.count, c.queries.ensures.few)

pub text_of-requires-clause-to : goal.text_of-requires-clause-to
text_of-requires-clause-to g c =
    let t = c.args.self.now in
    omega (arith, c.requires.there, as_many_blocks t.schema.now t.script.now t.ends.now c.requires.fits)

pub bounds-ends-place : goal.bounds-ends-place
bounds-ends-place g c =
    let t = c.args.self.now in
    omega (arith, c.requires.there, as_many_blocks t.schema.now t.script.now t.ends.now c.requires.fits, c.requires.fits)

pub returns : goal.returns
returns g c =
    let t = c.args.self.now in
    let there : c.args.place < query_count t.script.now.steps =
    omega (arith, c.requires.there, as_many_blocks t.schema.now t.script.now t.ends.now c.requires.fits) in
    let low : c.args.place < length t.ends.now = omega (arith, there, c.requires.fits) in
    wrote_as _ _ _ _ _
    (block_there t.schema.now t.script.now t.ends.now c.args.place c.text_of.result.now c.index-ends-place.result
    (lines_are_texts t.script.now c.args.place there ∙ ap Some (sym c.text_of.ensures.text))
    (slice_get-get_or t.ends.now c.args.place c.index-ends-place.result low ∙ ap Some (sym c.index-ends-place.is)))
    c.put_end.ensures
