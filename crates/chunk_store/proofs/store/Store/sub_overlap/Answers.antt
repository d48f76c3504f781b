use Rattle.std.proofs.Common.{ℕ, Bool, List, ◌<◌, ◌++◌, ◌&&◌, not, ◌∙◌, ap, sym, subst, filter, slice_get, length}
use Rattle.std.specs.List.{All}
use Rattle.std.proofs.lemmas.List.{append-nil}
use Rattle.std.proofs.lemmas.List.Elements.{All-tail}
use Rattle.table_rules.specs.Objects.{Obj}
use Rattle.sky_rules.specs.Bounds.{in_sub, near_sub}
use Rattle.chunk_store.specs.Lists.{kept_if}
use Rattle.chunk_store.specs.Merged.{merged}
use Rattle.chunk_rules.specs.Places.{passes}
use Rattle.chunk_store.specs.Places.{in_sub_overlap}
use Rattle.chunk_store.proofs.Ranges.{kept_front, places_there}
use Rattle.chunk_store.proofs.Subs.{near_rows_there, sub_overlap_of}
use Rattle.chunk_store.proofs.store.Store.sub_overlap.Goals as goal

pub loop-place-init : goal.loop-place-init
loop-place-init c =
    let g = c.args.self.now.plan in
    let objects = c.args.self.now.rows.objects in
    let near = c.new-near.ensures ∙ (ap (λ (l : List ℕ). merged l c.full_overlap.result.now) c.chunk.ensures.value ∙ ap (merged _) c.full_overlap.ensures.value) in
    record {
      kept = ap (λ (l : List ℕ). l ++ filter (λ (i : ℕ). passes (λ (o : Obj). near_sub g c.args.chunk c.args.sub o.at && not (in_sub g c.args.chunk c.args.sub o.at)) (slice_get objects i)) c.new-near.result) c.new-places.ensures.items
          ∙ (ap (filter (λ (i : ℕ). passes (λ (o : Obj). near_sub g c.args.chunk c.args.sub o.at && not (in_sub g c.args.chunk c.args.sub o.at)) (slice_get objects i))) near
          ∙ sub_overlap_of g objects c.args.chunk c.args.sub);
      there = subst (All (λ (i : ℕ). i < length objects)) (sym near) (near_rows_there g objects c.args.chunk);
    }

pub loop-place-preserved : goal.loop-place-preserved
loop-place-preserved c =
    let g = c.args.self.now.plan in
    let objects = c.args.self.now.rows.objects in
    let items = c.loop-place.places.items in
    let rest = c.next.new.self in
    let place = c.in-Some.place in
    let keep : ℕ → Bool = λ (i : ℕ). passes (λ (o : Obj). near_sub g c.args.chunk c.args.sub o.at && not (in_sub g c.args.chunk c.args.sub o.at)) (slice_get objects i) in
    record {
      kept = ap (λ (l : List ℕ). l ++ filter keep rest) c.in_ok-push_if.ensures
          ∙ (ap (λ (b : Bool). (items ++ kept_if b place) ++ filter keep rest) c.is_beside.ensures
          ∙ (kept_front items (keep place) place (filter keep rest)
          ∙ (ap (λ (l : List ℕ). items ++ filter keep l) (sym c.in-Some.ensures.some) ∙ c.loop-place.invariant.kept)));
      there = All-tail (λ (i : ℕ). i < length objects) place rest (subst (All (λ (i : ℕ). i < length objects)) c.in-Some.ensures.some c.loop-place.invariant.there);
    }

pub returns-clause-there : goal.returns-clause-there
returns-clause-there c =
    let g = c.args.self.now.plan in
    let objects = c.args.self.now.rows.objects in
    let items = c.loop-place.places.items in
    let keep : ℕ → Bool = λ (i : ℕ). passes (λ (o : Obj). near_sub g c.args.chunk c.args.sub o.at && not (in_sub g c.args.chunk c.args.sub o.at)) (slice_get objects i) in
    let value = sym (append-nil items) ∙ (ap (λ (l : List ℕ). items ++ filter keep l) (sym c.in_default.ensures.none) ∙ c.loop-place.invariant.kept) in
    subst (All (λ (i : ℕ). i < length objects)) (sym value) (places_there (λ (o : Obj). in_sub_overlap g c.args.chunk c.args.sub o.at) objects)
