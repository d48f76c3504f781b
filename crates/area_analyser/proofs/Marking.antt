-- Marks of chunks.
use Rattle.std.proofs.Common.{◌≡◌, ℕ, zero, suc, ◌+◌, ◌<◌, ◌==◌, ℤ, Bool, true, false, cond, ◌||◌, List, [], ◌∷◌, ◌++◌, length, take, get_or, slice_set, replicate, refl, sym, ap, subst, ◌∙◌, arith}
use Rattle.std.specs.Prelude.{All, filter}
use Rattle.std.proofs.lemmas.List.{length-replicate, take_more}
use Rattle.std.proofs.lemmas.List.Elements.{All-head, All-tail}
use Rattle.table_rules.specs.Objects.{Obj}
use Rattle.table_rules.specs.Ordered.{has_id}
use Rattle.sky_rules.specs.Partition.{Partition, chunk_count}
use Rattle.object_index.specs.Indexes.{IsPlaceOf}
use Rattle.answer_rules.specs.Plans.{holds_id}
use Rattle.area_analyser.specs.Choice.{AreMarks, Marked}
use Rattle.area_analyser.proofs.Held.{held, held_of_both, none_held, unheld}

none_marked : (n c : ℕ) → get_or (replicate n false) c false ≡ false
none_marked zero c = refl
none_marked (suc n) zero = refl
none_marked (suc n) (suc c) = none_marked n c

-- without ids no chunk is marked
pub no_marks : (g : Partition) (rows : List Obj) (count : ℕ) (marks : List Bool) → count ≡ chunk_count g → marks ≡ replicate count false → AreMarks g rows [] marks
no_marks g rows count marks all e = record { all = ap length e ∙ length-replicate count false ∙ all; each = λ c there. ap (λ l. get_or l c false) e ∙ none_marked count c ∙ sym (none_held g rows c) }

-- with one id more its chunk is marked too
pub one_more : (g : Partition) (rows : List Obj) (ids : List ℤ) (i : ℕ) (id d : ℤ) (old new : List Bool) → i < length ids → id ≡ get_or ids i d
    → AreMarks g rows (take i ids) old → Marked g rows id old new → AreMarks g rows (take (i + 1) ids) new
one_more g rows ids i id d old new low is marks marked = record {
  all = marked.all ∙ marks.all;
  each = λ c there.
      marked.each c there
      ∙ ap (λ b. b || holds_id g rows c (id ∷ [])) (marks.each c there)
      ∙ sym (held_of_both g rows c (take i ids) (id ∷ []))
      ∙ ap (holds_id g rows c) (sym (take_more ids i d low ∙ ap (λ z. take i ids ++ z ∷ []) (sym is)));
}

same_is : (n : ℕ) → (n == n) ≡ true
same_is n = grind arith

zero_is : (n : ℕ) → (suc n == 0) ≡ false
zero_is n = grind arith

is_zero : (n : ℕ) → (0 == suc n) ≡ false
is_zero n = grind arith

later_is : (n c : ℕ) → (suc n == suc c) ≡ (n == c)
later_is n c = grind arith

or_none : (a : Bool) → (a || false) ≡ a
or_none true = refl
or_none false = refl

or_some : (a : Bool) → true ≡ (a || true)
or_some true = refl
or_some false = refl

-- the chunk of a list of marks is marked, and every other one stays as it is
pub set_marks : (old : List Bool) (n c : ℕ) → n < length old → get_or (slice_set old n true) c false ≡ (get_or old c false || (n == c))
set_marks [] n c low = absurd (omega (arith, low))
set_marks (b ∷ old) zero zero low = or_some b ∙ ap (λ e. b || e) (sym (same_is 0))
set_marks (b ∷ old) zero (suc c) low = sym (ap (λ e. get_or old c false || e) (is_zero c) ∙ or_none (get_or old c false))
set_marks (b ∷ old) (suc n) zero low = sym (ap (λ e. b || e) (zero_is n) ∙ or_none b)
set_marks (b ∷ old) (suc n) (suc c) low = set_marks old n c (omega (arith, low)) ∙ ap (λ e. get_or old c false || e) (sym (later_is n c))

set_length : (old : List Bool) (n : ℕ) (b : Bool) → length (slice_set old n b) ≡ length old
set_length [] n b = refl
set_length (x ∷ old) zero b = refl
set_length (x ∷ old) (suc n) b = omega (arith, set_length old n b)

-- the chunk of the place of an id is marked
pub marked_at : (g : Partition) (rows : List Obj) (id : ℤ) (chunk row : ℕ) (old new : List Bool) → IsPlaceOf g rows id chunk row → length old ≡ chunk_count g
    → new ≡ slice_set old chunk true → Marked g rows id old new
marked_at g rows id chunk row old new place long e = record {
  all = ap length e ∙ set_length old chunk true;
  each = λ c there.
      ap (λ l. get_or l c false) e ∙ set_marks old chunk c (subst (λ n. chunk < n) (sym long) place.there)
      ∙ ap (λ b. get_or old c false || b) (sym (held g rows c id chunk row there place));
}

-- of an id that no row has none is
pub marked_none : (g : Partition) (rows : List Obj) (id : ℤ) (old new : List Bool) → has_id rows id ≡ false → new ≡ old → Marked g rows id old new
marked_none g rows id old new none e = record {
  all = ap length e;
  each = λ c there.
      ap (λ l. get_or l c false) e
      ∙ sym (ap (λ b. get_or old c false || b) (unheld g rows c id none) ∙ or_none (get_or old c false));
}

-- of chunks of the partition, those with a mark are those that hold one of the ids
pub marks_choose : (g : Partition) (rows : List Obj) (ids : List ℤ) (marks : List Bool) (chunks : List ℕ) → AreMarks g rows ids marks → All (λ c. c < chunk_count g) chunks
    → filter (λ c. get_or marks c false) chunks ≡ filter (λ c. holds_id g rows c ids) chunks
marks_choose g rows ids marks [] are there = refl
marks_choose g rows ids marks (c ∷ chunks) are there =
    ap (λ b. cond b (c ∷ filter (λ d. get_or marks d false) chunks) (filter (λ d. get_or marks d false) chunks)) (are.each c (All-head (λ d. d < chunk_count g) c chunks there))
    ∙ ap (λ l. cond (holds_id g rows c ids) (c ∷ l) l) (marks_choose g rows ids marks chunks are (All-tail (λ d. d < chunk_count g) c chunks there))
