-- The numbers of a range that pass a test, put together from parts of the range.
use Rattle.std.proofs.Common.{◌≡◌, ℕ, suc, zero, ◌+◌, ◌-◌, ◌≤◌, ◌<◌, arith, refl, ap, sym, subst, ◌∙◌, Bool, false, cond, List, [], ◌∷◌, ◌++◌, append_assoc, append-nil}
use Rattle.std.specs.List.{filter, range_with_len}
use Rattle.std.proofs.lemmas.List.Elements.{filter-append}
use Rattle.overlap_tables.specs.Windows.{InARow, IsLeftOut, below, then, later, above}

-- two ranges in a row are one
ranges_joined : (a n b m : ℕ) → a + n ≡ b → range_with_len a n ++ range_with_len b m ≡ range_with_len a (n + m)
ranges_joined a zero b m e =
    let same : b ≡ a = omega (arith, e) in
    let none : m ≡ 0 + m = omega arith in
    ap (λ k. range_with_len k m) same ∙ ap (range_with_len a) none
ranges_joined a (suc n) b m e =
    let next : suc (n + m) ≡ suc n + m = omega arith in
    ap (λ l. a ∷ l) (ranges_joined (a + 1) n b m (omega (arith, e))) ∙ ap (range_with_len a) next

-- the numbers from a up to and without b that pass the test
abbrev pub between : (ℕ → Bool) → ℕ → ℕ → List ℕ
between p a b = filter p (range_with_len a (b - a))

-- those up to b and those from b on
pub joined : (p : ℕ → Bool) (a b c : ℕ) → a ≤ b → b ≤ c → between p a b ++ between p b c ≡ between p a c
joined p a b c h k =
    let all : (b - a) + (c - b) ≡ c - a = omega (arith, h, k) in
    sym (filter-append p (range_with_len a (b - a)) (range_with_len b (c - b)))
    ∙ ap (filter p) (ranges_joined a (b - a) b (c - b) (omega (arith, h)) ∙ ap (range_with_len a) all)

none_in : (p : ℕ → Bool) (a n : ℕ) → ((c : ℕ) → a ≤ c → c < a + n → p c ≡ false) → filter p (range_with_len a n) ≡ []
none_in p a zero out = refl
none_in p a (suc n) out =
    rw (out a (omega arith) (omega arith)) (none_in p (a + 1) n (λ c h k. out c (omega (arith, h)) (omega (arith, k))))

-- none do where none passes
pub none_between : (p : ℕ → Bool) (a b : ℕ) → ((c : ℕ) → a ≤ c → c < b → p c ≡ false) → between p a b ≡ []
none_between p a b out = none_in p a (b - a) (λ c h k. out c h (omega (arith, h, k)))

-- those below the next number
pub one_more : (p : ℕ → Bool) (a b : ℕ) → a ≤ b → between p a (b + 1) ≡ between p a b ++ cond (p b) (b ∷ []) []
one_more p a b h =
    let one : b + 1 - b ≡ 1 = omega arith in
    sym (joined p a b (b + 1) h (omega arith)) ∙ ap (λ n. between p a b ++ filter p (range_with_len b n)) one

-- what stands behind a list, and then the next number where it passes
pub then_one : (p : ℕ → Bool) (a b : ℕ) (old now new : List ℕ) → a ≤ b → now ≡ old ++ between p a b
    → new ≡ now ++ cond (p b) (b ∷ []) [] → new ≡ old ++ between p a (b + 1)
then_one p a b old now new h e f =
    f ∙ ap (λ l. l ++ cond (p b) (b ∷ []) []) e ∙ append_assoc old (between p a b) (cond (p b) (b ∷ []) [])
    ∙ ap (λ l. old ++ l) (sym (one_more p a b h))

-- what stands behind a list, and then the next ones that pass
pub then_more : (p : ℕ → Bool) (a b c : ℕ) (old now new : List ℕ) → a ≤ b → b ≤ c → now ≡ old ++ between p a b
    → new ≡ now ++ between p b c → new ≡ old ++ between p a c
then_more p a b c old now new h k e f =
    f ∙ ap (λ l. l ++ between p b c) e ∙ append_assoc old (between p a b) (between p b c)
    ∙ ap (λ l. old ++ l) (joined p a b c h k)

-- what stands behind a list, where none of the next numbers passes
pub then_gap : (p : ℕ → Bool) (a b c : ℕ) (old now : List ℕ) → a ≤ b → b ≤ c → now ≡ old ++ between p a b
    → ((k : ℕ) → b ≤ k → k < c → p k ≡ false) → now ≡ old ++ between p a c
then_gap p a b c old now h k e out =
    then_more p a b c old now now h k e (sym (append-nil now) ∙ ap (λ l. now ++ l) (sym (none_between p b c out)))

-- at first nothing does
pub at_start : (p : ℕ → Bool) (a : ℕ) (old : List ℕ) → old ≡ old ++ between p a a
at_start p a old =
    let none : a - a ≡ 0 = omega arith in
    sym (append-nil old) ∙ ap (λ n. old ++ filter p (range_with_len a n)) (sym none)

-- three runs that follow each other, and gaps between them in which no number passes
pub three_runs : (p : ℕ → Bool) (s n a b c d e f : ℕ) (old one two three : List ℕ) → InARow n a b c d e f
    → one ≡ old ++ between p (s + a) (s + b) → two ≡ one ++ between p (s + c) (s + d) → three ≡ two ++ between p (s + e) (s + f)
    → ((k : ℕ) → k < n → IsLeftOut a b c d e f k → p (s + k) ≡ false) → three ≡ old ++ between p s (s + n)
three_runs p s n a b c d e f old one two three row ab cd ef out =
    let h1 = row.first in
    let h2 = row.second in
    let h3 = row.third in
    let h4 = row.fourth in
    let h5 = row.fifth in
    let h6 = row.last in
    let skip : (k : ℕ) → s ≤ k → k < s + n → IsLeftOut a b c d e f (k - s) → p k ≡ false = λ k low high left.
    let same : s + (k - s) ≡ k = omega (arith, low) in subst (λ m. p m ≡ false) same (out (k - s) (omega (arith, low, high)) left) in
    let s1 = then_gap p s s (s + a) old old (omega arith) (omega arith) (at_start p s old)
    (λ k low high. skip k low (omega (arith, high, h1, h2, h3, h4, h5, h6)) (below (omega (arith, low, high)))) in
    let s2 = then_more p s (s + a) (s + b) old old one (omega arith) (omega (arith, h1)) s1 ab in
    let s3 = then_gap p s (s + b) (s + c) old one (omega arith) (omega (arith, h2)) s2
    (λ k low high. skip k (omega (arith, low)) (omega (arith, high, h3, h4, h5, h6)) (then (omega (arith, low)) (omega (arith, low, high)))) in
    let s4 = then_more p s (s + c) (s + d) old one two (omega arith) (omega (arith, h3)) s3 cd in
    let s5 = then_gap p s (s + d) (s + e) old two (omega arith) (omega (arith, h4)) s4
    (λ k low high. skip k (omega (arith, low)) (omega (arith, high, h5, h6)) (later (omega (arith, low)) (omega (arith, low, high)))) in
    let s6 = then_more p s (s + e) (s + f) old two three (omega arith) (omega (arith, h5)) s5 ef in
    then_gap p s (s + f) (s + n) old three (omega arith) (omega (arith, h6)) s6
    (λ k low high. skip k (omega (arith, low)) high (above (omega (arith, low))))
