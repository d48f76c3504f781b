use Rattle.std.proofs.Common.{◌<◌, ap, arith, length, Some, sym, ◌∙◌}
use Rattle.std.proofs.lemmas.Option.{slice_get-get_or}
use Rattle.session_script.proofs.Numbered.{lines_are_texts}
use Rattle.session_script.specs.Scripts.{query_count}
use Rattle.session_script.specs.Views.{query_lines}
use Rattle.transcript_rules.proofs.Blocks.{one_explained_each}
use Rattle.query_ends.proofs.Writing.{wrote_as}
use Rattle.czar.proofs.PlanBlocks.{a_plan_each, explained_there, plan_at}
use Rattle.czar.proofs.explained.ExplanationBlocks.put_block.Goals as goal

pub overflow_add-number : goal.overflow_add-number
overflow_add-number g c =
    let t = c.args.self.now in
    omega (arith, c.requires.there, one_explained_each t.world.now.plan t.world.now.rows t.script.now, c.queries.ensures.count, c.queries.ensures.few)

pub text_of-requires-clause-to : goal.text_of-requires-clause-to
text_of-requires-clause-to g c =
    let t = c.args.self.now in
    omega (arith, c.requires.there, one_explained_each t.world.now.plan t.world.now.rows t.script.now)

pub bounds-plans-place : goal.bounds-plans-place
bounds-plans-place g c =
    let t = c.args.self.now in
    omega (arith, c.requires.there, one_explained_each t.world.now.plan t.world.now.rows t.script.now, a_plan_each t.world.now.plan t.world.now.rows t.script.now t.plans.now c.requires.fits)

pub put_plan-requires : goal.put_plan-requires
put_plan-requires g c =
    let t = c.args.self.now in
    let there : c.args.place < query_count t.script.now.steps = omega (arith, c.requires.there, one_explained_each t.world.now.plan t.world.now.rows t.script.now) in
    let low : c.args.place < length t.plans.now = omega (arith, there, a_plan_each t.world.now.plan t.world.now.rows t.script.now t.plans.now c.requires.fits) in
    plan_at t.world.now.plan t.world.now.rows (query_lines t.script.now) t.plans.now c.args.place c.text_of.result.now c.index-plans-place.result c.requires.fits
    (lines_are_texts t.script.now c.args.place there ∙ ap Some (sym c.text_of.ensures.text))
    (slice_get-get_or t.plans.now c.args.place c.index-plans-place.result low ∙ ap Some (sym c.index-plans-place.is))

pub returns : goal.returns
returns g c =
    let t = c.args.self.now in
    let there : c.args.place < query_count t.script.now.steps = omega (arith, c.requires.there, one_explained_each t.world.now.plan t.world.now.rows t.script.now) in
    wrote_as _ _ _ _ _
    (explained_there t.world.now.plan t.world.now.rows t.script.now c.args.place c.text_of.result.now
    (lines_are_texts t.script.now c.args.place there ∙ ap Some (sym c.text_of.ensures.text)))
    c.put_plan.ensures
