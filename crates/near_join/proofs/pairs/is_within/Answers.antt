use Rattle.std.proofs.Common.{◌≡◌, pos, ◌-ℤ◌, int_le, true, false, rules, FitsSigned, w64}
use Rattle.std.proofs.lemmas.Int.{to_z-of_z}
use Rattle.near_join.proofs.Upwards.{below_root, within_root}
use Rattle.near_join.proofs.pairs.is_within.Goals as goal

pub returns-then-reach-at : goal.returns-then-reach-at
returns-then-reach-at c =
    let a = c.args.at.now.x in
    let b = c.args.other.now.x in
    let root = c.args.reach.now.root in
    let fits_a : FitsSigned w64 a = search rules in
    let fits_b : FitsSigned w64 b = search rules in
    let fits_root : FitsSigned w64 root = search rules in
    let fits_gap : FitsSigned w64 (a -ℤ b) = search rules in
    let fits_low : FitsSigned w64 (pos 0 -ℤ root) = search rules in
    let low : int_le (pos 0 -ℤ root) (a -ℤ b) ≡ true = simp to_z-of_z at c.if-reach-at.true in
    simp to_z-of_z (within_root (a -ℤ b) c.args.reach.now.limit root c.args.reach.now.is_root low)

pub returns-else-reach-at : goal.returns-else-reach-at
returns-else-reach-at c =
    let a = c.args.at.now.x in
    let b = c.args.other.now.x in
    let root = c.args.reach.now.root in
    let fits_a : FitsSigned w64 a = search rules in
    let fits_b : FitsSigned w64 b = search rules in
    let fits_root : FitsSigned w64 root = search rules in
    let fits_gap : FitsSigned w64 (a -ℤ b) = search rules in
    let fits_low : FitsSigned w64 (pos 0 -ℤ root) = search rules in
    let low : int_le (pos 0 -ℤ root) (a -ℤ b) ≡ false = simp to_z-of_z at c.if-reach-at.false in
    simp to_z-of_z (below_root (a -ℤ b) c.args.reach.now.limit root c.args.reach.now.is_root low)
