-- What a Deliver gives, and to whom.
use Rattle.std.proofs.Common.{◌≡◌, ℕ, ◌+◌, ◌<◌, ◌≤◌, ◌==◌, List, [], ◌∷◌, ◌++◌, AllPairs, Contains, length, get_or, Bool, true, false, not, ◌&&◌, ◌||◌, refl, sym, ◌∙◌, ap, subst, arith, count_by, eq-eqb}
use Rattle.std.specs.List.{list_any}
use Rattle.std.proofs.lemmas.Bool.{and_from}
use Rattle.std.proofs.lemmas.List.Kept.{AllPairs-filter}
use Rattle.scan_rules.specs.declared.journal_line.JournalLine.{JournalLine}
use Rattle.scan_rules.specs.declared.journal_line.JournalLine.TheVariants.{Take, Deliver}
use Rattle.scan_rules.proofs.Giving.{is_given_deliver, not_given_before, served_is}
use Rattle.scan_rules.proofs.Lists.{any_there, flat_none}
use Rattle.scan_rules.proofs.Runs.{follows_here, front_runs, wanted_stays}
use Rattle.scan_rules.proofs.Scan.{attached_low}
use Rattle.scan_rules.proofs.Serving.{Needs, needs_tells, taker_needs}
use Rattle.scan_rules.specs.Lines.{chunks_for, names_with, serves_with, took}
use Rattle.scan_rules.specs.Numbers.{are_distinct, below, has}
use Rattle.scan_rules.specs.Queries.{Journal, is_delivered, is_given, wanted}
use Rattle.scan_rules.specs.Runs.{IsRun, MayFollow}
use Rattle.scan_rules.specs.Scan.{needs}
use Rattle.scan_core.specs.Delivering.{AreTasked}
use Rattle.scan_core.specs.Kept.{owed_in}
use Rattle.scan_rules.proofs.Ascending.{below_ascends, has_at, one_less, or_no, unless}
use Rattle.scan_rules.proofs.Going.{contains_cut, count_agree}

-- what a task in flight tells
pub record Flight (past : Journal) (s t c : ℕ) (queries : List ℕ) : Type 0 where
  pub served : (q x : ℕ) → list_any (serves_with t q x) past ≡ ((c == x) && has queries q)
  pub new : (q : ℕ) → has queries q ≡ true → is_given past q c ≡ false
  pub wants : (q : ℕ) → has queries q ≡ true → has (wanted past q) c ≡ true
  pub named : (q : ℕ) → has queries q ≡ true → list_any (names_with t q) past ≡ true
  pub seat : list_any (took s t) past ≡ true
  pub tasked : AreTasked queries

-- by the place of its take
flight_cut : (ring : ℕ) (before : Journal) (s t c : ℕ) (queries : List ℕ) (rest : Journal) → IsRun ring (before ++ Take s t c queries ∷ rest) → is_delivered (before ++ Take s t c queries ∷ rest) t ≡ false → Flight (before ++ Take s t c queries ∷ rest) s t c queries
flight_cut ring before s t c queries rest r n = record {
  served = λ q x. served_is before s t c queries rest q x r;
  new = λ q h. not_given_before before s t c queries rest q r h n;
  wants = λ q h. let w = needer q h in ap (λ (l : List ℕ). has l c) (wanted_stays before (line ∷ rest) q r w.attached) ∙ w.wants;
  named = λ q h. any_there (names_with t q) before line rest (and_from (t == t) _ (eq-eqb t t refl) h);
  seat = any_there (took s t) before line rest (and_from (s == s) _ (eq-eqb s s refl) (eq-eqb t t refl));
  tasked = record {
    ascend = subst (AllPairs (λ a b. a < b)) (sym m.all) (AllPairs-filter (λ a b. a < b) (λ q. needs before q c) (below 256) (below_ascends 256));
    from_1 = λ turn l. (low turn l).0;
    to_255 = λ turn l. (low turn l).1;
  };
} where
  line : JournalLine
  line = Take s t c queries

  m : MayFollow ring before (Take s t c queries)
  m = follows_here before line rest r

  needer : (q : ℕ) → has queries q ≡ true → Needs before q c
  needer q h = needs_tells before q c (taker_needs before c q (subst (λ (l : List ℕ). has l q ≡ true) m.all h))

  low : (turn : ℕ) → turn < length queries → (1 ≤ get_or queries turn 0) × (get_or queries turn 0 < 256)
  low turn l = attached_low before (get_or queries turn 0) (front_runs before (line ∷ rest) r) (needer (get_or queries turn 0) (has_at queries turn 0 l)).attached

pub flight : (ring : ℕ) (past : Journal) (s t c : ℕ) (queries : List ℕ) → IsRun ring past → Contains past (Take s t c queries) → is_delivered past t ≡ false → Flight past s t c queries
flight ring past s t c queries r there n =
    let w = contains_cut past (Take s t c queries) there in
    subst (λ (p : Journal). Flight p s t c queries) (sym w.2) (flight_cut ring w.0 s t c queries w.1 (subst (IsRun ring) w.2 r) (subst (λ (p : Journal). is_delivered p t ≡ false) w.2 n))

module _ {past : Journal} {s t c : ℕ} {queries : List ℕ} where
  -- what its Deliver gives
  pub gives_now : Flight past s t c queries → (v : ℕ) (lost : List ℕ) (q x : ℕ) → is_given (past ++ Deliver v t lost ∷ []) q x ≡ (is_given past q x || ((c == x) && has queries q))
  gives_now f v lost q x = is_given_deliver past v t lost q x ∙ ap (λ b. is_given past q x || b) (f.served q x)

  -- to a query of the task
  pub gives_task : Flight past s t c queries → (v : ℕ) (lost : List ℕ) (q : ℕ) → has queries q ≡ true → (x : ℕ) → is_given (past ++ Deliver v t lost ∷ []) q x ≡ (is_given past q x || (c == x))
  gives_task f v lost q h x = gives_now f v lost q x ∙ ap (λ b. is_given past q x || b) (ap (λ b. (c == x) && b) h ∙ and_one (c == x)) where
    and_one : (b : Bool) → (b && true) ≡ b
    and_one true = refl
    and_one false = refl

  -- to another
  pub gives_other : Flight past s t c queries → (v : ℕ) (lost : List ℕ) (q : ℕ) → has queries q ≡ false → (x : ℕ) → is_given (past ++ Deliver v t lost ∷ []) q x ≡ is_given past q x
  gives_other f v lost q h x = gives_now f v lost q x ∙ (ap (λ b. is_given past q x || b) (ap (λ b. (c == x) && b) h ∙ and_none (c == x)) ∙ or_no (is_given past q x)) where
    and_none : (b : Bool) → (b && false) ≡ false
    and_none true = refl
    and_none false = refl

  -- after a Deliver each query of its task is owed one chunk less
  pub owed_less : Flight past s t c queries → (v : ℕ) (lost : List ℕ) (q : ℕ) → are_distinct (wanted past q) ≡ true → has queries q ≡ true → owed_in (past ++ Deliver v t lost ∷ []) q + 1 ≡ owed_in past q
  owed_less f v lost q d h =
      let more : Journal = past ++ Deliver v t lost ∷ [] in
      let e : owed_in more q ≡ count_by (unless (is_given past q) c) (wanted past q) =
      ap (λ (l : List ℕ). count_by (λ x. not (is_given more q x)) l) (flat_none (chunks_for q) past (Deliver v t lost) refl)
      ∙ count_agree (λ x. not (is_given more q x)) (unless (is_given past q) c) (λ x. ap not (gives_task f v lost q h x)) (wanted past q) in
      let o : count_by (unless (is_given past q) c) (wanted past q) + 1 ≡ owed_in past q = one_less (is_given past q) c (wanted past q) d (f.wants q h) (f.new q h) in
      omega (arith, e, o)

  -- and the others as many
  pub owed_other : Flight past s t c queries → (v : ℕ) (lost : List ℕ) (q : ℕ) → has queries q ≡ false → owed_in (past ++ Deliver v t lost ∷ []) q ≡ owed_in past q
  owed_other f v lost q h =
      let more : Journal = past ++ Deliver v t lost ∷ [] in
      ap (λ (l : List ℕ). count_by (λ x. not (is_given more q x)) l) (flat_none (chunks_for q) past (Deliver v t lost) refl)
      ∙ count_agree (λ x. not (is_given more q x)) (λ x. not (is_given past q x)) (λ x. ap not (gives_other f v lost q h x)) (wanted past q)
