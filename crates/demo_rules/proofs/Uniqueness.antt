-- There is one catalogue of the demo at most.
use Rattle.std.proofs.Common.{◌≡◌, ℕ, suc, ◌+◌, ◌≤◌, ◌<◌, ◌⊎◌, inl, inr, List, [], ◌∷◌, length, Some, refl, sym, ap, ◌∙◌, arith}
use Rattle.std.specs.Prelude.{slice_get}
use Rattle.std.proofs.lemmas.Bool.{cases_lt}
use Rattle.std.proofs.lemmas.Nat.{mul-le}
use Rattle.sky_vector.specs.Points.{Point}
use Rattle.table_rules.specs.Objects.{Obj, Catalogue}
use Rattle.sky_vector.specs.Roots.{IsRoot}
use Rattle.demo_rules.specs.DemoRows.{StandsAt, IsDemoObject, leaning_point, height, lean_x, lean_y}
use Rattle.demo_rules.specs.Laws.{DemoIsTheOnlyOne}

none_less : (n r s : ℕ) → IsRoot n r → IsRoot n s → r < s → ⊥
none_less n r s h k low = omega (arith, h.1, k.0, mul-le (r + 1) (r + 1) s s (omega (arith, low)) (omega (arith, low)))

one_root_by : (n r s : ℕ) → IsRoot n r → IsRoot n s → ((r < s) ⊎ (s ≤ r)) → ((s < r) ⊎ (r ≤ s)) → r ≡ s
one_root_by n r s h k (inl low) other = absurd (none_less n r s h k low)
one_root_by n r s h k (inr high) (inl low) = absurd (none_less n s r k h low)
one_root_by n r s h k (inr high) (inr low) = omega (arith, high, low)

one_root : (n r s : ℕ) → IsRoot n r → IsRoot n s → r ≡ s
one_root n r s h k = one_root_by n r s h k (cases_lt r s) (cases_lt s r)

one_place : (seed i : ℕ) (p q : Point) → StandsAt seed i p → StandsAt seed i q → p ≡ q
one_place seed i p q a b =
    let z = height seed i in let u = lean_x seed i in let v = lean_y seed i in
    a.is ∙ ap (λ t. leaning_point z u v t a.h) (one_root _ a.t b.t a.from_axis b.from_axis)
    ∙ ap (λ h. leaning_point z u v b.t h) (one_root _ a.h b.h a.long b.long) ∙ sym b.is

same_object : (o p : Obj) → o.id ≡ p.id → o.at ≡ p.at → o.further ≡ p.further → o ≡ p
same_object o p id at further =
    ap {B = Obj} (λ x. record { id = x; at = o.at; further = o.further }) id
    ∙ ap {B = Obj} (λ x. record { id = p.id; at = x; further = o.further }) at
    ∙ ap {B = Obj} (λ x. record { id = p.id; at = p.at; further = x }) further

one_object : (seed i : ℕ) (o p : Obj) → IsDemoObject seed i o → IsDemoObject seed i p → o ≡ p
one_object seed i o p a b =
    same_object o p (a.id ∙ sym b.id) (one_place seed i o.at p.at a.at b.at) (a.further ∙ sym b.further)

-- lists of one length that have the same at each place
same_lists : (xs ys : List Obj) → length xs ≡ length ys → ((i : ℕ) (x y : Obj) → slice_get xs i ≡ Some x → slice_get ys i ≡ Some y → x ≡ y) → xs ≡ ys
same_lists [] [] long each = refl
same_lists [] (y ∷ ys) long each = absurd cc
same_lists (x ∷ xs) [] long each = absurd cc
same_lists (x ∷ xs) (y ∷ ys) long each =
    let first = each 0 x y refl refl in
    let rest = same_lists xs ys (omega (arith, long)) (λ i a b h k. each (suc i) a b h k) in
    ap (λ z. z ∷ xs) first ∙ ap (λ zs. y ∷ zs) rest

same_catalogue : (c d : Catalogue) → c.names ≡ d.names → c.objects ≡ d.objects → c ≡ d
same_catalogue c d names objects =
    ap {B = Catalogue} (λ x. record { names = x; objects = c.objects }) names
    ∙ ap {B = Catalogue} (λ x. record { names = d.names; objects = x }) objects

pub demo_is_the_only_one : DemoIsTheOnlyOne
demo_is_the_only_one count seed c d a b =
    same_catalogue c d (a.names ∙ sym b.names)
    (same_lists c.objects d.objects (a.all ∙ sym b.all) (λ i x y h k. one_object seed (i + 1) x y (a.each i x h) (b.each i y k)))
