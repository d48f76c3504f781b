use Rattle.std.proofs.Common.{ℕ, ◌<◌, ◌∙◌, arith, ap, sym, subst, filter, slice_get, length}
use Rattle.std.specs.List.{All}
use Rattle.std.proofs.lemmas.List.{take_all}
use Rattle.table_rules.specs.Objects.{Obj}
use Rattle.sky_rules.specs.Bounds.{in_sub}
use Rattle.chunk_rules.specs.Places.{passes}
use Rattle.chunk_store.proofs.Ranges.{places_there}
use Rattle.chunk_store.proofs.Subs.{sub_of_chunk}
use Rattle.chunk_store.proofs.store.Store.sub.Goals as goal

pub returns-clause-value : goal.returns-clause-value
returns-clause-value c =
    let g = c.args.self.now.plan in
    let objects = c.args.self.now.rows.objects in
    let all = take_all c.loop-place.place-index c.chunk-own.result.now (omega (arith, c.loop-place-test.false)) in
    c.loop-place.invariant
    ∙ (ap (filter (λ (i : ℕ). passes (λ (o : Obj). in_sub g c.args.chunk c.args.sub o.at) (slice_get objects i))) (all ∙ c.chunk-own.ensures.value)
    ∙ sub_of_chunk g objects c.args.chunk c.args.sub c.chunk-own.ensures.limits c.requires.chunk c.requires.sub)

pub returns-clause-there : goal.returns-clause-there
returns-clause-there c =
    let g = c.args.self.now.plan in
    let objects = c.args.self.now.rows.objects in
    subst (All (λ (i : ℕ). i < length objects)) (sym (returns-clause-value c)) (places_there (λ (o : Obj). in_sub g c.args.chunk c.args.sub o.at) objects)
