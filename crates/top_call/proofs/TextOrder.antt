-- The order of the texts of a command: one alone is reached and not accepted.
use Rattle.std.proofs.Common.{◌≡◌, ℕ, zero, suc, ◌<◌, Bool, true, false, nat_le, List, refl, sym, ap, ◌∙◌, arith}
use Rattle.std.proofs.lemmas.Bool.{leb-true}
use Rattle.top_call.specs.Words.{Form, names_of}
use Rattle.top_call.specs.Reached.{AreEarlierAccepted, AreStill, HasText, IsAccepted, IsStill, Texts, place_of, text_at}
use Rattle.top_call.specs.declared.outcome.Which.{Which}
use Rattle.top_call.specs.declared.outcome.Which.TheVariants.{Sky, Catalogue, Sources, Script, Journal}

-- the text at a place
abbrev which_at : ℕ → Which
which_at zero = Sky
which_at (suc zero) = Catalogue
which_at (suc (suc zero)) = Sources
which_at (suc (suc (suc zero))) = Script
which_at (suc (suc (suc (suc n)))) = Journal

at_its_place : (which : Which) → which_at (place_of which) ≡ which
at_its_place Sky = refl
at_its_place Catalogue = refl
at_its_place Sources = refl
at_its_place Script = refl
at_its_place Journal = refl

-- texts at one place are one
one_place : (which other : Which) → place_of other ≡ place_of which → other ≡ which
one_place which other same = sym (at_its_place other) ∙ ap which_at same ∙ at_its_place which

not_before : (a b : ℕ) → nat_le a b ≡ false → b < a
not_before a b h = grind arith

both_ways : (a b : ℕ) → nat_le a b ≡ true → nat_le b a ≡ true → b ≡ a
both_ways a b h k = omega (arith, leb-true a b h, leb-true b a k)

-- Two texts that are each reached and not accepted are at one place: neither is before the other.
one_stop :
    (form : Form) (texts : Texts) (which other : Which) (x y : Bool) → nat_le (place_of which) (place_of other) ≡ x
    → nat_le (place_of other) (place_of which) ≡ y → HasText (names_of form) which → HasText (names_of form) other
    → AreEarlierAccepted (names_of form) texts which → (IsAccepted which (text_at (names_of form) texts which) → ⊥)
    → AreEarlierAccepted (names_of form) texts other → (IsAccepted other (text_at (names_of form) texts other) → ⊥)
    → other ≡ which
one_stop form texts which other true true x y has has' earlier isnt earlier' isnt' =
    one_place which other (both_ways (place_of which) (place_of other) x y)
one_stop form texts which other true false x y has has' earlier isnt earlier' isnt' =
    absurd (isnt (earlier' which has (not_before (place_of other) (place_of which) y)))
one_stop form texts which other false y' x y has has' earlier isnt earlier' isnt' =
    absurd (isnt' (earlier other has' (not_before (place_of which) (place_of other) x)))

-- the text at which texts are no longer accepted is one
pub one_first :
    (form : Form) (texts : Texts) (which other : Which) → HasText (names_of form) which → HasText (names_of form) other
    → AreEarlierAccepted (names_of form) texts which → (IsAccepted which (text_at (names_of form) texts which) → ⊥)
    → AreEarlierAccepted (names_of form) texts other → (IsAccepted other (text_at (names_of form) texts other) → ⊥)
    → other ≡ which
one_first form texts which other has has' earlier isnt earlier' isnt' =
    one_stop form texts which other (nat_le (place_of which) (place_of other)) (nat_le (place_of other) (place_of which))
    refl refl has has' earlier isnt earlier' isnt'

pub still_not_risen : (before now : ℕ) → now ≡ before → before < now → ⊥
still_not_risen before now same rose = absurd (omega arith)

still_by :
    (form : Form) (texts : Texts) (which other : Which) (old new : List (List ℕ)) (x : Bool)
    → nat_le (place_of other) (place_of which) ≡ x → HasText (names_of form) which → HasText (names_of form) other
    → (IsAccepted which (text_at (names_of form) texts which) → ⊥) → AreStill (names_of form) old new which
    → AreEarlierAccepted (names_of form) texts other → IsStill (names_of form) old new other
still_by form texts which other old new true x has has' isnt still earlier =
    still other has' (leb-true (place_of other) (place_of which) x)
still_by form texts which other old new false x has has' isnt still earlier =
    absurd (isnt (earlier which has (not_before (place_of other) (place_of which) x)))

-- where this text is refused and it and the earlier ones are still, a text that is reached is still
pub still_at :
    (form : Form) (texts : Texts) (which other : Which) (old new : List (List ℕ)) →
    HasText (names_of form) which → HasText (names_of form) other →
    (IsAccepted which (text_at (names_of form) texts which) → ⊥) → AreStill (names_of form) old new which →
    AreEarlierAccepted (names_of form) texts other → IsStill (names_of form) old new other
still_at form texts which other old new has has' isnt still earlier =
    still_by form texts which other old new (nat_le (place_of other) (place_of which)) refl has has' isnt still earlier
