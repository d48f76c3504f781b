-- What stands in a short key is what was put there.
use Rattle.std.proofs.Common.{◌≡◌, ◌≤◌, ◌∷◌, [], length, IfSome, None, Some, ℕ, ℤ, Bool, List, Option, get_or, ap, ◌∙◌, arith}
use Rattle.std.specs.Prelude.{is_some}
use Rattle.group_key.specs.KeyValues.{cell_by, first_of_four}

pub cell_is : (v : Option ℤ) (present : Bool) (put number : ℤ) → present ≡ is_some v → put ≡ number → IfSome v (λ n. number ≡ n) → cell_by present put ≡ v
cell_is None present put number is same one = ap (λ p. cell_by p put) is
cell_is (Some n) present put number is same one = ap (λ p. cell_by p put) is ∙ ap Some (same ∙ one)

pub four_are : (taken : ℕ) (a b c d e f g h : Option ℤ) → a ≡ e → b ≡ f → c ≡ g → d ≡ h → first_of_four taken a b c d ≡ first_of_four taken e f g h
four_are taken a b c d e f g h p q r s =
    ap (λ x. first_of_four taken x b c d) p
    ∙ ap (λ x. first_of_four taken e x c d) q
    ∙ ap (λ x. first_of_four taken e f x d) r
    ∙ ap (first_of_four taken e f g) s

-- at most four values are the first so many of the four at these places
pub four_read : (vs : List (Option ℤ)) (n : ℕ) → n ≡ length vs → length vs ≤ 4 → first_of_four n (get_or vs 0 None) (get_or vs 1 None) (get_or vs 2 None) (get_or vs 3 None) ≡ vs
four_read [] n is few = ap (λ n. first_of_four n None None None None) is
four_read (a ∷ []) n is few = ap (λ n. first_of_four n a None None None) is
four_read (a ∷ (b ∷ [])) n is few = ap (λ n. first_of_four n a b None None) is
four_read (a ∷ (b ∷ (c ∷ []))) n is few = ap (λ n. first_of_four n a b c None) is
four_read (a ∷ (b ∷ (c ∷ (d ∷ [])))) n is few = ap (λ n. first_of_four n a b c d) is
four_read (a ∷ (b ∷ (c ∷ (d ∷ (e ∷ vs))))) n is few = absurd (omega (arith, few))
