use Rattle.std.proofs.Common.{◌<◌, ℕ, List, length, refl, sym, subst}
use Rattle.std.specs.Prelude.{All}
use Rattle.column_lists.specs.Columns.{IsGathered}
use Rattle.near_join.proofs.Sweeping.{column_at, column_there}
use Rattle.near_join.proofs.strip.gathered.Goals as goal

pub gather-requires : goal.gather-requires
gather-requires c =
    subst (λ (l : List ℕ). All (λ p. p < length c.xs.result.now) l) (sym c.as_slice.ensures.value)
    (column_there c.args.rows.now.objects (λ o. o.at.x) c.xs.result.now c.args.places.items c.xs.ensures.value c.requires)

pub gather-requires-2 : goal.gather-requires-2
gather-requires-2 c =
    subst (λ (l : List ℕ). All (λ p. p < length c.ys.result.now) l) (sym c.as_slice-2.ensures.value)
    (column_there c.args.rows.now.objects (λ o. o.at.y) c.ys.result.now c.args.places.items c.ys.ensures.value c.requires)

pub gather-requires-3 : goal.gather-requires-3
gather-requires-3 c =
    subst (λ (l : List ℕ). All (λ p. p < length c.zs.result.now) l) (sym c.as_slice-3.ensures.value)
    (column_there c.args.rows.now.objects (λ o. o.at.z) c.zs.result.now c.args.places.items c.zs.ensures.value c.requires)

pub returns-clause-listed : goal.returns-clause-listed
returns-clause-listed c =
    let objects = c.args.rows.now.objects in
    let places = c.args.places.items in
    let xs : IsGathered c.xs.result.now places c.in_ok-xs.xs.items = subst (λ (l : List ℕ). IsGathered c.xs.result.now l c.in_ok-xs.xs.items) c.as_slice.ensures.value c.in_ok-xs.ensures in
    let ys : IsGathered c.ys.result.now places c.in_ok-ys.ys.items = subst (λ (l : List ℕ). IsGathered c.ys.result.now l c.in_ok-ys.ys.items) c.as_slice-2.ensures.value c.in_ok-ys.ensures in
    let zs : IsGathered c.zs.result.now places c.in_ok-zs.zs.items = subst (λ (l : List ℕ). IsGathered c.zs.result.now l c.in_ok-zs.zs.items) c.as_slice-3.ensures.value c.in_ok-zs.ensures in
    record {
      there = c.requires;
      xs = column_at objects (λ o. o.at.x) c.xs.result.now places c.in_ok-xs.xs.items c.xs.ensures.value refl c.requires xs;
      ys = column_at objects (λ o. o.at.y) c.ys.result.now places c.in_ok-ys.ys.items c.ys.ensures.value refl c.requires ys;
      zs = column_at objects (λ o. o.at.z) c.zs.result.now places c.in_ok-zs.zs.items c.zs.ensures.value refl c.requires zs;
    }
