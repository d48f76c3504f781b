use Rattle.std.proofs.Common.{◌≡◌, rules, ℤ, pos, ◌-ℤ◌, ◌+ℤ◌, subst, FitsSigned, w64}
use Rattle.std.proofs.lemmas.Int.{to_z-of_z}
use Rattle.near_join.specs.Windows.{IsBetween}
use Rattle.near_join.proofs.sweep.near_heights.Goals as goal

pub returns : goal.returns
returns c =
    let zs = c.args.zs.now in
    let region = c.args.region.now in
    let r = c.from-radius.result in
    let same : r ≡ pos c.args.radius = c.from-radius.ensures in
    let fits : FitsSigned w64 r = search rules in
    let z_low : FitsSigned w64 region.z_low = search rules in
    let z_high : FitsSigned w64 region.z_high = search rules in
    let low : FitsSigned w64 (region.z_low -ℤ r) = search rules in
    let high : FitsSigned w64 (region.z_high +ℤ r) = search rules in
    let is : IsBetween zs (region.z_low -ℤ r) (region.z_high +ℤ r) c.between_narrow.result.0 c.between_narrow.result.1 = simp to_z-of_z at c.between_narrow.ensures in
    subst (λ (a : ℤ). IsBetween zs (region.z_low -ℤ a) (region.z_high +ℤ a) c.between_narrow.result.0 c.between_narrow.result.1) same is
