use Rattle.std.proofs.Common.{◌∙◌, ◌-◌, ◌<◌, ℕ, List, arith, ap, get_or, length, map, sym, subst}
use Rattle.std.specs.Prelude.{All}
use Rattle.std.specs.List.{range_with_len}
use Rattle.std.proofs.lemmas.List.Elements.{All-filter}
use Rattle.sky_rules.specs.Bounds.{near_sides}
use Rattle.sky_plan.specs.Regions.{bounds_shown, sides_shown}
use Rattle.near_join.specs.Strips.{IsWhole, row_in}
use Rattle.near_join.specs.Windows.{IsBetween}
use Rattle.near_join.proofs.Answering.{if_ok}
use Rattle.near_join.proofs.Taking.{near_part, range_below}
use Rattle.near_join.proofs.sweep.near_ones.Goals as goal

pub near_numbers-requires-clause-order : goal.near_numbers-requires-clause-order
near_numbers-requires-clause-order c = IsBetween.order c.requires.heights

pub near_numbers-requires-clause-there : goal.near_numbers-requires-clause-there
near_numbers-requires-clause-there c =
    let there = IsBetween.there c.requires.heights in
    let wide = IsWhole.wide_z c.requires.whole in omega (arith, there, wide)

pub taken-requires-clause-there : goal.taken-requires-clause-there
taken-requires-clause-there c =
    let order = IsBetween.order c.requires.heights in
    let there = IsBetween.there c.requires.heights in
    let wide = IsWhole.wide_z c.requires.whole in
    let strip = c.args.strip.now in
    subst (All (λ (k : ℕ). k < length strip.places)) (sym (c.as_slice.ensures.value ∙ c.in_ok-numbers.ensures))
    (All-filter (λ (k : ℕ). near_sides c.args.radius (sides_shown c.args.region.now.sides) (row_in strip k)) (λ (k : ℕ). k < length strip.places) (range_with_len c.args.from (c.args.to - c.args.from))
    (range_below (c.args.to - c.args.from) c.args.from (length strip.places) (omega (arith, order, there, wide))))

pub returns-clause-places : goal.returns-clause-places
returns-clause-places c =
    let strip = c.args.strip.now in
    if_ok c.taken.result _ _
    (λ near e. e ∙ ap (λ (l : List ℕ). map (λ k. get_or strip.places k 0) l) (c.as_slice.ensures.value ∙ c.in_ok-numbers.ensures)
    ∙ near_part c.args.rows.now.objects c.args.radius (bounds_shown c.args.region.now) strip c.args.from c.args.to c.requires.listed (IsWhole.wide_z c.requires.whole) c.requires.heights)
    c.taken.ensures.places

pub returns-clause-listed : goal.returns-clause-listed
returns-clause-listed c = if_ok c.taken.result _ _ (λ near f. f c.args.rows.now.objects c.requires.listed) c.taken.ensures.listed
