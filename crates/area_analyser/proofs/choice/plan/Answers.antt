use Rattle.std.proofs.Common.{◌∙◌, ap, filter, sym}
use Rattle.std.specs.List.{list_all}
use Rattle.sky_rules.specs.Partition.{Partition, chunk_count}
use Rattle.sky_rules.specs.Bounds.{bounds_of}
use Rattle.answer_rules.specs.Plans.{area_meets, holds_id}
use Rattle.area_analyser.proofs.Chosen.{if_ok_then, plan_from}
use Rattle.area_analyser.proofs.Filters.{kept_below, without_tests}
use Rattle.area_analyser.proofs.choice.plan.Goals as goal

pub returns-then-is_empty-clause-plan : goal.returns-then-is_empty-clause-plan
returns-then-is_empty-clause-plan c =
    let all = without_tests (holds_id c.args.sky.now c.args.index.now.rows) c.as_slice-tests.result.now c.args.filled.now (sym c.is_empty.ensures ∙ c.if-is_empty.true) in
    if_ok_then c.in_areas.result c.in_areas.ensures (λ chunks e full.
    plan_from c.args.sky.now c.args.index.now.rows c.args.bound.now c.args.filled.now c.args.filled.now chunks c.as_slice-areas.result.now c.as_slice-tests.result.now
    c.as_slice-areas.ensures c.as_slice-tests.ensures all e full)

pub returns-then-is_empty-clause-there : goal.returns-then-is_empty-clause-there
returns-then-is_empty-clause-there c =
    if_ok_then c.in_areas.result c.in_areas.ensures (λ chunks e.
    kept_below (λ n. list_all (area_meets (bounds_of c.args.sky.now n)) c.as_slice-areas.result.now) c.args.filled.now chunks (chunk_count c.args.sky.now) e c.requires.there)

pub in_areas-requires-2-clause-there : goal.in_areas-requires-2-clause-there
in_areas-requires-2-clause-there c =
    kept_below (λ n. list_all (holds_id c.args.index.now.plan c.args.index.now.rows n) c.as_slice-tests.result.now) c.args.filled.now c.as_slice.result.now _ (c.as_slice.ensures.items ∙ c.in_ok-chunks.ensures) c.requires.there

pub returns-clause-plan : goal.returns-clause-plan
returns-clause-plan c =
    let of_ids = c.as_slice.ensures.items ∙ c.in_ok-chunks.ensures
    ∙ ap (λ (g : Partition). filter (λ n. list_all (holds_id g c.args.index.now.rows n) c.as_slice-tests.result.now) c.args.filled.now) c.requires.over in
    if_ok_then c.in_areas-2.result c.in_areas-2.ensures (λ chunks e full.
    plan_from c.args.sky.now c.args.index.now.rows c.args.bound.now c.args.filled.now c.as_slice.result.now chunks c.as_slice-areas.result.now c.as_slice-tests.result.now
    c.as_slice-areas.ensures c.as_slice-tests.ensures of_ids e full)

pub returns-clause-there : goal.returns-clause-there
returns-clause-there c =
    if_ok_then c.in_areas-2.result c.in_areas-2.ensures (λ chunks e.
    kept_below (λ n. list_all (area_meets (bounds_of c.args.sky.now n)) c.as_slice-areas.result.now) c.as_slice.result.now chunks (chunk_count c.args.sky.now) e
    (kept_below (λ n. list_all (holds_id c.args.index.now.plan c.args.index.now.rows n) c.as_slice-tests.result.now) c.args.filled.now c.as_slice.result.now _ (c.as_slice.ensures.items ∙ c.in_ok-chunks.ensures) c.requires.there))
