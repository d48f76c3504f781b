use Rattle.std.proofs.Common.{ℕ, List, ◌<◌, ◌∙◌, arith, length, subst, sym}
use Rattle.std.specs.Prelude.{All}
use Rattle.std.proofs.lemmas.List.{take_all}
use Rattle.chunk_store.specs.Lists.{AreParts}
use Rattle.chunk_store.proofs.SubLists.{parts_are, parts_next, parts_there, sub_there}
use Rattle.chunk_store.proofs.store.Store.subs.Goals as goal

pub push-requires : goal.push-requires
push-requires c =
    let there = sub_there c.args.self.now.plan c.args.self.now.rows.objects c.args.chunk c.chunk-own.result.now c.loop-place.place-index _ c.sub_at.result
    c.requires c.chunk-own.ensures.value c.loop-place-test.true c.sub_at.ensures in
    omega (arith, there, c.loop-place.invariant.all)

pub loop-place-preserved : goal.loop-place-preserved
loop-place-preserved c =
    parts_next c.args.self.now.plan c.args.self.now.rows.objects c.args.chunk c.chunk-own.result.now c.loop-place.place-index _ c.sub_at.result
    c.loop-place.subs c.push.new.self c.requires c.chunk-own.ensures.value c.loop-place-test.true c.sub_at.ensures c.loop-place.invariant c.in_ok-push.ensures

pub returns-clause-value : goal.returns-clause-value
returns-clause-value c =
    let g = c.args.self.now.plan in
    let objects = c.args.self.now.rows.objects in
    let all = take_all c.loop-place.place-index c.chunk-own.result.now (omega (arith, c.loop-place-test.false)) in
    parts_are g objects c.args.chunk c.loop-place.subs c.chunk-own.ensures.limits c.requires
    (subst (λ (l : List ℕ). AreParts g objects c.args.chunk l c.loop-place.subs) (all ∙ c.chunk-own.ensures.value) c.loop-place.invariant)

pub returns-clause-there : goal.returns-clause-there
returns-clause-there c =
    let g = c.args.self.now.plan in
    let objects = c.args.self.now.rows.objects in
    subst (All (λ (places : List ℕ). All (λ (i : ℕ). i < length objects) places)) (sym (returns-clause-value c)) (parts_there g objects c.args.chunk)
