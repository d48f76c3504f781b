-- What is listed with one more chunk.
use Rattle.std.proofs.Common.{◌≡◌, ◌==◌, ◌∷◌, Bool, true, false, ◌||◌, refl, sym, ◌∙◌}
use Rattle.std.proofs.lemmas.List.Sorted.{list_any-IsPermutation}
use Rattle.scan_rules.specs.Numbers.{has}
use Rattle.scan_core.specs.Pieces.{OneMoreHas}

or_swaps : (a b : Bool) → (a || b) ≡ (b || a)
or_swaps true true = refl
or_swaps true false = refl
or_swaps false true = refl
or_swaps false false = refl

pub one_more_has : OneMoreHas
one_more_has chunks chunk whole one c =
    sym (list_any-IsPermutation (λ other. other == c) (chunk ∷ chunks) whole one) ∙ or_swaps (chunk == c) (has chunks c)
