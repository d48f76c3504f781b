-- A seat's own lines tell whether its task is delivered.
use Rattle.std.proofs.Common.{◌≡◌, ℕ, ◌≤◌, ◌==◌, [], ◌∷◌, ◌++◌, Bool, true, false, cond, ⊎_elim, refl, sym, ◌∙◌, ap, subst, filter, count_by, eq-eqb, eqb-true}
use Rattle.std.specs.List.{list_any}
use Rattle.std.proofs.lemmas.Bool.{and_parts, or_cases, or_left, or_right, cases_Bool, false≢true, both_ways}
use Rattle.scan_rules.specs.declared.journal_line.JournalLine.{JournalLine}
use Rattle.scan_rules.specs.declared.journal_line.JournalLine.TheVariants.{Attach, Take, Deliver, Cancel, Collect, Close}
use Rattle.scan_rules.proofs.Lengths.{took_ticket}
use Rattle.scan_rules.proofs.Lists.{alone_passes, any_cases, any_finds, any_stays, any_weaker}
use Rattle.scan_rules.proofs.Giving.{ticket_once}
use Rattle.scan_rules.proofs.Runs.{follows_here}
use Rattle.scan_rules.specs.Lines.{seat_of, delivers, has_ticket, took}
use Rattle.scan_rules.specs.Queries.{Journal, is_delivered}
use Rattle.scan_rules.specs.Runs.{IsRun, MayFollow}
use Rattle.scan_rules.specs.OwnLines.{OwnLinesTell}

-- the line is of the seat
abbrev own : ℕ → JournalLine → Bool
own seat l = seat_of l == seat

took_by : (s t : ℕ) (l : JournalLine) → took s t l ≡ true → seat_of l ≡ s
took_by s t (Take u v c queries) h = eqb-true u s (and_parts _ _ h).0
took_by s t (Attach u q chunks) h = absurd (false≢true h)
took_by s t (Deliver u v lost) h = absurd (false≢true h)
took_by s t (Cancel u q) h = absurd (false≢true h)
took_by s t (Collect u q) h = absurd (false≢true h)
took_by s t (Close u) h = absurd (false≢true h)

-- one line alone has a ticket, so one seat took it
at_cut : (s u t : ℕ) (before : Journal) (l : JournalLine) (rest : Journal) → took s t l ≡ true
    → (list_any (has_ticket t) before ≡ false) × (list_any (has_ticket t) rest ≡ false)
    → list_any (took u t) (before ++ l ∷ rest) ≡ true → s ≡ u
at_cut s u t before l rest h none k = ⊎_elim
    (λ b. absurd (both_ways _ none.0 (any_weaker (took u t) (has_ticket t) (took_ticket u t) before b)))
    (λ c. ⊎_elim
    (λ here. sym (took_by s t l h) ∙ took_by u t l here)
    (λ r. absurd (both_ways _ none.1 (any_weaker (took u t) (has_ticket t) (took_ticket u t) rest r)))
    (or_cases (took u t l) (list_any (took u t) rest) c))
    (any_cases (took u t) before (l ∷ rest) k)

pub same_taker : {ring : ℕ} (past : Journal) (s u t : ℕ) → IsRun ring past → list_any (took s t) past ≡ true
    → list_any (took u t) past ≡ true → s ≡ u
same_taker past s u t r h k =
    let f = any_finds (took s t) past h in
    at_cut s u t f.0 f.1 f.2 f.4
    (alone_passes (has_ticket t) f.0 f.1 f.2 (took_ticket s t f.1 f.4) (subst (λ p. count_by (has_ticket t) p ≤ 1) f.3 (ticket_once past t r)))
    (subst (λ p. list_any (took u t) p ≡ true) f.3 k)

-- who delivers took it
taken_by : (ring : ℕ) (front : Journal) (l : JournalLine) (t : ℕ) → MayFollow ring front l → delivers t l ≡ true
    → list_any (took (seat_of l) t) front ≡ true
taken_by ring front (Deliver s u lost) t m h = subst (λ z. list_any (took s z) front ≡ true) (eqb-true u t h) m.same_seat
taken_by ring front (Attach s q chunks) t m h = absurd (false≢true h)
taken_by ring front (Take s u c queries) t m h = absurd (false≢true h)
taken_by ring front (Cancel s q) t m h = absurd (false≢true h)
taken_by ring front (Collect s q) t m h = absurd (false≢true h)
taken_by ring front (Close s) t m h = absurd (false≢true h)

-- what passes both tests is found in the filter by one
in_filter : (p q : JournalLine → Bool) (xs : Journal) (b : Bool) (x : JournalLine) → q x ≡ b
    → list_any p (cond b (x ∷ filter q xs) (filter q xs)) ≡ list_any p (filter q (x ∷ xs))
in_filter p q xs b x e = ap (λ c. list_any p (cond c (x ∷ filter q xs) (filter q xs))) (sym e)

filter_finds : (p q : JournalLine → Bool) (before : Journal) (x : JournalLine) (rest : Journal) → p x ≡ true → q x ≡ true
    → list_any p (filter q (before ++ x ∷ rest)) ≡ true
filter_finds p q [] x rest h k = sym (in_filter p q rest true x k) ∙ or_left (p x) _ h
filter_finds p q (y ∷ before) x rest h k = ⊎_elim
    (λ t. sym (in_filter p q (before ++ x ∷ rest) true y t) ∙ or_right (p y) _ (filter_finds p q before x rest h k))
    (λ f. sym (in_filter p q (before ++ x ∷ rest) false y f) ∙ filter_finds p q before x rest h k)
    (cases_Bool (q y))

pub filter_any : (p q : JournalLine → Bool) (xs : Journal) → list_any p (filter q xs) ≡ true → list_any p xs ≡ true
filter_any p q [] h = h
filter_any p q (x ∷ xs) h = ⊎_elim
    (λ t. ⊎_elim (λ a. or_left (p x) _ a) (λ a. or_right (p x) _ (filter_any p q xs a)) (or_cases (p x) _ (in_filter p q xs true x t ∙ h)))
    (λ f. or_right (p x) _ (filter_any p q xs (in_filter p q xs false x f ∙ h)))
    (cases_Bool (q x))

own_delivers : (ring : ℕ) (past : Journal) (seat ticket : ℕ) → IsRun ring past → list_any (took seat ticket) past ≡ true
    → is_delivered past ticket ≡ true → is_delivered (filter (own seat) past) ticket ≡ true
own_delivers ring past seat ticket r h d =
    let f = any_finds (delivers ticket) past d in
    let run : IsRun ring (f.0 ++ f.1 ∷ f.2) = subst (IsRun ring) f.3 r in
    let took_it : list_any (took (seat_of f.1) ticket) past ≡ true =
    subst (λ p. list_any (took (seat_of f.1) ticket) p ≡ true) (sym f.3)
    (any_stays (took (seat_of f.1) ticket) f.0 (f.1 ∷ f.2) (taken_by ring f.0 f.1 ticket (follows_here f.0 f.1 f.2 run) f.4)) in
    subst (λ p. is_delivered (filter (own seat) p) ticket ≡ true) (sym f.3)
    (filter_finds (delivers ticket) (own seat) f.0 f.1 f.2 f.4 (eq-eqb _ _ (same_taker past (seat_of f.1) seat ticket r took_it h)))

iff_same : (a b : Bool) → (a ≡ true → b ≡ true) → (b ≡ true → a ≡ true) → a ≡ b
iff_same true b f g = sym (f refl)
iff_same false true f g = g refl
iff_same false false f g = refl

pub own_lines_tell : OwnLinesTell
own_lines_tell ring past seat ticket r h =
    iff_same (is_delivered past ticket) (is_delivered (filter (own seat) past) ticket) (own_delivers ring past seat ticket r h)
    (filter_any (delivers ticket) (own seat) past)
