use Rattle.std.proofs.Common.{◌≡◌, ◌∙◌, ◌<◌, ℕ, ℤ, List, ap, length, map, get_or, sym, subst}
use Rattle.std.specs.Prelude.{All}
use Rattle.column_lists.specs.Columns.{IsGathered}
use Rattle.column_lists.proofs.Presence.{gathered_is}
use Rattle.near_join.specs.Strips.{IsWhole, StripView}
use Rattle.near_join.proofs.Taking.{taken_listed}
use Rattle.near_join.proofs.strip.Strip.taken.Goals as goal

pub gather-requires : goal.gather-requires
gather-requires c =
    subst (λ (l : List ℕ). All (λ k. k < length l) c.args.numbers.now) (sym (c.as_slice.ensures.value ∙ ap (λ (s : StripView). s.places) c.self.view_is)) c.requires.there

pub gather-requires-2 : goal.gather-requires-2
gather-requires-2 c =
    subst (λ (n : ℕ). All (λ k. k < n) c.args.numbers.now) (sym (ap length (c.as_slice-2.ensures.value ∙ ap (λ (s : StripView). s.xs) c.self.view_is) ∙ IsWhole.wide_x c.requires.whole)) c.requires.there

pub gather-requires-3 : goal.gather-requires-3
gather-requires-3 c =
    subst (λ (n : ℕ). All (λ k. k < n) c.args.numbers.now) (sym (ap length (c.as_slice-3.ensures.value ∙ ap (λ (s : StripView). s.ys) c.self.view_is) ∙ IsWhole.wide_y c.requires.whole)) c.requires.there

pub gather-requires-4 : goal.gather-requires-4
gather-requires-4 c =
    subst (λ (n : ℕ). All (λ k. k < n) c.args.numbers.now) (sym (ap length (c.as_slice-4.ensures.value ∙ ap (λ (s : StripView). s.zs) c.self.view_is) ∙ IsWhole.wide_z c.requires.whole)) c.requires.there

pub returns-clause-places : goal.returns-clause-places
returns-clause-places c =
    let same : c.as_slice.result.now ≡ c.args.self.now.places = c.as_slice.ensures.value ∙ ap (λ (s : StripView). s.places) c.self.view_is in
    gathered_is c.as_slice.result.now c.args.numbers.now c.in_ok-places.places.items 0 c.in_ok-places.ensures ∙ ap (λ (l : List ℕ). map (λ k. get_or l k 0) c.args.numbers.now) same

pub returns-clause-listed : goal.returns-clause-listed
returns-clause-listed c =
    let s = c.args.self.now in
    let numbers = c.args.numbers.now in
    let same : c.as_slice.result.now ≡ s.places = c.as_slice.ensures.value ∙ ap (λ (s : StripView). s.places) c.self.view_is in
    let places : c.in_ok-places.places.items ≡ map (λ k. get_or s.places k 0) numbers =
    gathered_is c.as_slice.result.now numbers c.in_ok-places.places.items 0 c.in_ok-places.ensures ∙ ap (λ (l : List ℕ). map (λ k. get_or l k 0) numbers) same in
    let xs : IsGathered s.xs numbers c.in_ok-xs.xs.items = subst (λ (l : List ℤ). IsGathered l numbers c.in_ok-xs.xs.items) (c.as_slice-2.ensures.value ∙ ap (λ (s : StripView). s.xs) c.self.view_is) c.in_ok-xs.ensures in
    let ys : IsGathered s.ys numbers c.in_ok-ys.ys.items = subst (λ (l : List ℤ). IsGathered l numbers c.in_ok-ys.ys.items) (c.as_slice-3.ensures.value ∙ ap (λ (s : StripView). s.ys) c.self.view_is) c.in_ok-ys.ensures in
    let zs : IsGathered s.zs numbers c.in_ok-zs.zs.items = subst (λ (l : List ℤ). IsGathered l numbers c.in_ok-zs.zs.items) (c.as_slice-4.ensures.value ∙ ap (λ (s : StripView). s.zs) c.self.view_is) c.in_ok-zs.ensures in
    λ objects listed. taken_listed objects s (record { places = c.in_ok-places.places.items; xs = c.in_ok-xs.xs.items; ys = c.in_ok-ys.ys.items; zs = c.in_ok-zs.zs.items }) numbers c.requires.there places xs ys zs listed
