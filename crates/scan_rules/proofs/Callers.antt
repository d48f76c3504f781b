-- What callers of a board read off its lines: that nothing is left to take, and what a query wants.
use Rattle.std.proofs.Common.{◌≡◌, ℕ, ◌<◌, ◌==◌, List, [], ◌∷◌, ◌++◌, Bool, true, false, Option, Some, None, option_map, find, ⊎_elim, refl, sym, ◌∙◌, ap, subst, arith, eq-eqb, eqb-true, ◌||◌}
use Rattle.std.specs.List.{list_any}
use Rattle.std.proofs.lemmas.Bool.{both_ways, cases_Bool, cond-true, cond-false, false_from_ne_true, or_parts}
use Rattle.std.proofs.lemmas.List.{append_assoc}
use Rattle.scan_rules.specs.declared.journal_line.JournalLine.{JournalLine}
use Rattle.scan_rules.specs.declared.journal_line.JournalLine.TheVariants.{Attach, Take, Deliver, Cancel, Collect, Close}
use Rattle.scan_rules.proofs.Lists.{any_finds, any_there, flat_push}
use Rattle.scan_rules.proofs.Numbers.{has_below}
use Rattle.scan_rules.proofs.Ring.{at_off, off_within}
use Rattle.scan_rules.proofs.Runs.{follows_here, wanted_stays}
use Rattle.scan_rules.proofs.Scan.{attached_low, needed_from, place_low, wanted_low}
use Rattle.scan_rules.proofs.Serving.{Needs, needs_tells}
use Rattle.scan_rules.specs.Callers.{NothingIsNeeded, WantedIsAttached}
use Rattle.scan_rules.specs.Lines.{attaches, chunks_for}
use Rattle.scan_rules.specs.Numbers.{below}
use Rattle.scan_rules.specs.Queries.{Journal, is_attached, wanted}
use Rattle.scan_rules.specs.Runs.{IsRun}
use Rattle.scan_rules.specs.Scan.{chunk_at, is_needed, needs, place, offset}

-- where nothing is found, none passes
none_found : (p : ℕ → Bool) (xs : List ℕ) → find p xs ≡ None → list_any p xs ≡ false
none_found p [] h = refl
none_found p (x ∷ xs) h = ⊎_elim
    (λ t. let e : Some x ≡ None = sym (cond-true (p x) (Some x) (find p xs) t) ∙ h in cc)
    (λ f. ap (λ b. b || list_any p xs) f ∙ none_found p xs (sym (cond-false (p x) (Some x) (find p xs) f) ∙ h))
    (cases_Bool (p x))

map_none : (f : ℕ → ℕ) (o : Option ℕ) → option_map f o ≡ None → o ≡ None
map_none f None h = refl
map_none f (Some x) h = cc

-- what a query needs is found from the place of the scan
needed_is_next : (ring : ℕ) (past : Journal) (q chunk : ℕ) → IsRun ring past → Needs past q chunk → needs past q chunk ≡ true
    → list_any (λ steps. is_needed past (chunk_at ring (place ring past) steps)) (below ring) ≡ true
needed_is_next ring past q chunk run n h =
    let low : chunk < ring = (wanted_low past q chunk run n.wants).0 in
    let here : place ring past < ring = place_low past (omega (arith, low)) run in
    let steps : ℕ = offset ring (place ring past) chunk in
    let needed : is_needed past chunk ≡ true = needed_from past q chunk (attached_low past q run n.attached).1 h in
    let there : is_needed past (chunk_at ring (place ring past) steps) ≡ true = subst (λ c. is_needed past c ≡ true) (sym (at_off ring (place ring past) chunk here low)) needed in
    let f = any_finds (λ y. y == steps) (below ring) (has_below ring steps (off_within ring (place ring past) chunk here low)) in
    ap (list_any (λ s. is_needed past (chunk_at ring (place ring past) s))) f.3
    ∙ any_there (λ s. is_needed past (chunk_at ring (place ring past) s)) f.0 f.1 f.2
    (subst (λ s. is_needed past (chunk_at ring (place ring past) s) ≡ true) (sym (eqb-true f.1 steps f.4)) there)

pub nothing_is_needed : NothingIsNeeded
nothing_is_needed ring past q chunk run none = false_from_ne_true (needs past q chunk) (λ h.
    both_ways _ (none_found _ (below ring) (map_none _ _ none)) (needed_is_next ring past q chunk run (needs_tells past q chunk h) h))

-- a line that does not attach the query brings no chunks for it
no_chunks : (q : ℕ) (line : JournalLine) → attaches q line ≡ false → chunks_for q line ≡ []
no_chunks q (Attach seat p chunks) h = cond-false (p == q) chunks [] h
no_chunks q (Take seat ticket chunk queries) h = refl
no_chunks q (Deliver seat ticket lost) h = refl
no_chunks q (Cancel seat p) h = refl
no_chunks q (Collect seat p) h = refl
no_chunks q (Close seat) h = refl

-- so a query that is not attached wants nothing
wants_nothing : (past : Journal) (q : ℕ) → is_attached past q ≡ false → wanted past q ≡ []
wants_nothing [] q h = refl
wants_nothing (line ∷ past) q h =
    let parts = or_parts (attaches q line) (is_attached past q) h in
    ap (λ (l : List ℕ). l ++ wanted past q) (no_chunks q line parts.0) ∙ wants_nothing past q parts.1

pub wanted_is_attached : WantedIsAttached
wanted_is_attached ring before rest seat q chunks run =
    let line : JournalLine = Attach seat q chunks in
    let cut : (before ++ line ∷ []) ++ rest ≡ before ++ line ∷ rest = append_assoc before (line ∷ []) rest in
    let may = follows_here before line rest run in
    let me : attaches q line ≡ true = eq-eqb q q refl in
    let first : is_attached (before ++ line ∷ []) q ≡ true = any_there (attaches q) before line [] me in
    let stays : wanted ((before ++ line ∷ []) ++ rest) q ≡ wanted (before ++ line ∷ []) q = wanted_stays (before ++ line ∷ []) rest q (subst (IsRun ring) (sym cut) run) first in
    ap (λ (l : Journal). wanted l q) (sym cut) ∙ (stays ∙ (flat_push (chunks_for q) before line
    ∙ (ap (λ (l : List ℕ). l ++ chunks_for q line) (wants_nothing before q may.fresh) ∙ cond-true (q == q) chunks [] me)))
