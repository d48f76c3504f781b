use Rattle.std.proofs.Common.{◌≡◌, ℕ, ◌<◌, ◌≤◌, zero, suc, List, [], All, IfSome, Option, Some, None, length, ◌⊎◌, ⊎_elim, sym, ◌∙◌, ap, subst, arith, rules}
use Rattle.std.proofs.lemmas.List.{get_or_past}
use Rattle.std.proofs.lemmas.List.Elements.{All-get_or}
use Rattle.scan_session.specs.KnownEnds.{at_query}
use Rattle.scan_session.specs.declared.end.Planned.{Planned}
use Rattle.scan_tests.proofs.sessions.session.Goals as goal

-- what a plan of the tests has
abbrev IsPlan : Option (Planned (List ℕ)) → Type 0
IsPlan plan = IfSome plan (λ p. All (λ chunk. chunk < 8) p.chunks × (p.empty ≡ []))

below_or : (m n : ℕ) → (m < n) ⊎ (n ≤ m)
below_or m n = grind arith

-- so each of them
planned_so : (plans : List (Option (Planned (List ℕ)))) → All IsPlan plans → (q : ℕ) (p : Planned (List ℕ)) → at_query plans q ≡ Some p → IsPlan (Some p)
planned_so plans all zero p h = let n : ◌≡◌ {A = Option (Planned (List ℕ))} None (Some p) = h in absurd (cc)
planned_so plans all (suc k) p h = ⊎_elim
    (λ lt. subst IsPlan h (All-get_or IsPlan plans k None lt all))
    (λ ge. let n : ◌≡◌ {A = Option (Planned (List ℕ))} None (Some p) = sym (get_or_past plans k None ge) ∙ h in absurd (cc))
    (below_or k (length plans))

pub drive-ends-requires-clause-fit : goal.drive-ends-requires-clause-fit
drive-ends-requires-clause-fit g c κs within place =
    let ring : 8 ≡ c.in_ok-board-2.seat.root.ring = search rules in
    record {
      each = λ q p h.
          let is : IsPlan (Some p) = planned_so c.in_ok-plans.plans.items c.in_ok-plans.ensures.fit q p h in
          record {
            in_ring = subst (λ n. All (λ chunk. chunk < n) p.chunks) ring is.0;
            asked = is.0;
            nothing = ap length is.1;
          };
    }
