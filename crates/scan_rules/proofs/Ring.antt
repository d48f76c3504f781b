-- Steps around the ring, and how far a chunk lies from a place.
use Rattle.std.proofs.Common.{◌≡◌, ℕ, ◌+◌, ◌<◌, ◌≤◌, ⊎_elim, arith, ◌-◌, nat_lt, lt-ltb, le-ltb}
use Rattle.std.proofs.lemmas.Bool.{cond-true, cond-false, cases_lt}
use Rattle.scan_rules.specs.Scan.{chunk_at, offset}

-- steps that stay before the end of the ring
pub at_low : (ring p d : ℕ) → p + d < ring → chunk_at ring p d ≡ p + d
at_low ring p d l = cond-true (nat_lt (p + d) ring) _ _ (lt-ltb _ _ l)

-- steps that go round
at_high : (ring p d : ℕ) → ring ≤ p + d → chunk_at ring p d ≡ p + d - ring
at_high ring p d l = cond-false (nat_lt (p + d) ring) _ _ (le-ltb _ _ l)

-- a chunk from the place on
off_low : (ring p c : ℕ) → p ≤ c → offset ring p c ≡ c - p
off_low ring p c l = cond-false (nat_lt c p) _ _ (le-ltb _ _ l)

-- a chunk before the place
off_high : (ring p c : ℕ) → c < p → offset ring p c ≡ c + ring - p
off_high ring p c l = cond-true (nat_lt c p) _ _ (lt-ltb _ _ l)

-- steps lead to a chunk of the ring
pub at_within : (ring p d : ℕ) → p < ring → d < ring → chunk_at ring p d < ring
at_within ring p d lp ld = ⊎_elim (λ l. let e = at_low ring p d l in omega (arith, e)) (λ l. let e = at_high ring p d l in omega (arith, e)) (cases_lt (p + d) ring)

-- each chunk lies fewer steps away than the ring is long
pub off_within : (ring p c : ℕ) → p < ring → c < ring → offset ring p c < ring
off_within ring p c lp lc = ⊎_elim (λ l. let e = off_high ring p c l in omega (arith, e)) (λ l. let e = off_low ring p c l in omega (arith, e)) (cases_lt c p)

-- the chunk so many steps on lies so many steps away
pub off_at : (ring p d : ℕ) → p < ring → d < ring → offset ring p (chunk_at ring p d) ≡ d
off_at ring p d lp ld = ⊎_elim
    (λ l. let e = at_low ring p d l in let f = off_low ring p (chunk_at ring p d) (omega (arith, e)) in omega (arith, e, f))
    (λ l. let e = at_high ring p d l in let f = off_high ring p (chunk_at ring p d) (omega (arith, e)) in omega (arith, e, f))
    (cases_lt (p + d) ring)

-- and back
pub at_off : (ring p c : ℕ) → p < ring → c < ring → chunk_at ring p (offset ring p c) ≡ c
at_off ring p c lp lc = ⊎_elim
    (λ l. let e = off_high ring p c l in let f = at_high ring p (offset ring p c) (omega (arith, e)) in omega (arith, e, f))
    (λ l. let e = off_low ring p c l in let f = at_low ring p (offset ring p c) (omega (arith, e)) in omega (arith, e, f))
    (cases_lt c p)

-- steps add up
pub at_at : (ring p k d : ℕ) → p < ring → k + d < ring → chunk_at ring (chunk_at ring p k) d ≡ chunk_at ring p (k + d)
at_at ring p k d lp l = ⊎_elim
    (λ a. let e = at_low ring p k a in ⊎_elim
    (λ b. let f = at_low ring p (k + d) b in let g = at_low ring (chunk_at ring p k) d (omega (arith, e)) in omega (arith, e, f, g))
    (λ b. let f = at_high ring p (k + d) b in let g = at_high ring (chunk_at ring p k) d (omega (arith, e)) in omega (arith, e, f, g))
    (cases_lt (p + (k + d)) ring))
    (λ a. let e = at_high ring p k a in let f = at_high ring p (k + d) (omega (arith, a)) in let g = at_low ring (chunk_at ring p k) d (omega (arith, e)) in omega (arith, e, f, g))
    (cases_lt (p + k) ring)

-- one step on stays within the ring
pub next_low : (ring c : ℕ) → c < ring → chunk_at ring c 1 < ring
next_low ring c l = ⊎_elim (λ a. let e = at_low ring c 1 a in omega (arith, e)) (λ a. let e = at_high ring c 1 a in omega (arith, e)) (cases_lt (c + 1) ring)
