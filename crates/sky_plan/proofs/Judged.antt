-- A stripe that is judged behind others.
use Rattle.std.proofs.Common.{◌≡◌, ◌∙◌, sym, ap, refl, ℕ, ℤ, pos, ◌+◌, ◌-◌, ◌≤◌, ◌+ℤ◌, Bool, true, false, List, [], ◌∷◌, length, Option, Some, None, arith}
use Rattle.std.specs.Prelude.{nat_abs, slice_get, int_le, ◌&&◌}
use Rattle.std.specs.List.{last_or}
use Rattle.std.proofs.lemmas.Int.{ints}
use Rattle.std.proofs.lemmas.Option.{none-some}
use Rattle.sky_rules.specs.Partition.{Stripe, chunks_in, sky_end}
use Rattle.sky_rules.specs.SkyWords.{Said}
use Rattle.sky_plan.specs.Reading.{is_above}
use Rattle.sky_rules.specs.SkyText.{begins_above, is_cut, is_in_order, is_room}

-- where the chunks that a stripe can have find room, so does their number
pub room_left : (before : List Stripe) (said : Said) → is_cut said ≡ true → is_room before said.chunks ≡ true → chunks_in before + nat_abs said.chunks ≤ 16384
room_left before said cut room = grind (arith, ints)

last_by : (o : Option Stripe) (s : Stripe) (rest : List Stripe) → slice_get (s ∷ rest) (length rest) ≡ last_or o (s ∷ rest)
last_by o s [] = refl
last_by o s (next ∷ rest) = last_by (Some s) next rest

-- the stripe at the end of a list is its last
last_of : (before : List Stripe) (below : Stripe) → slice_get before (length before - 1) ≡ Some below → last_or None before ≡ Some below
last_of [] below e = absurd (none-some below e)
last_of (s ∷ rest) below e =
    let n : length rest ≡ length (s ∷ rest) - 1 = omega arith in
    sym (last_by None s rest) ∙ (ap (slice_get (s ∷ rest)) n ∙ e)

order_by : (o : Option Stripe) (below : Stripe) (z : ℤ) → o ≡ Some below → begins_above o z ≡ begins_above (Some below) z
order_by o below z e = ap (λ o. begins_above o z) e

-- a height is in order behind stripes where it is so behind the last of them
pub order_above : (before : List Stripe) (below : Stripe) (z : ℤ) → slice_get before (length before - 1) ≡ Some below
    → is_in_order before z ≡ is_above below.z_low z
order_above before below z last =
    ap (λ test. test && int_le (z +ℤ pos 64) sky_end) (order_by (last_or None before) below z (last_of before below last))
