use Rattle.std.proofs.Common.{◌≡◌, ◌≤◌, true, false, int_le}
use Rattle.std.specs.List.{AllWithin}
use Rattle.sky_plan.proofs.heights.counted_below.Given as goal

abbrev pub invariant-loop-stripe : goal.invariant-loop-stripe
invariant-loop-stripe l = record {
  few : l.count ≤ l.stripe-index;
  below : AllWithin (λ s. int_le s.z_low l.z ≡ true) l.stripes 0 l.count;
  above : AllWithin (λ s. int_le s.z_low l.z ≡ false) l.stripes l.count l.stripe-index;
}
