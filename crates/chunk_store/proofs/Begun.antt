-- The blocks of chunks while they are filled by turns.
use Rattle.std.proofs.Common.{◌≡◌, ◌∙◌, sym, ap, subst, ℕ, ◌+◌, ◌<◌, arith, suc, List, [], ◌∷◌, ◌++◌, length, map, take, drop, get_or, below_more}
use Rattle.std.proofs.lemmas.List.{get_or_append_left, get_or_push, drop_more, length_push, map-append, take-append-drop}
use Rattle.std.proofs.Math.Seq.{append_snoc}
use Rattle.column_lists.specs.Columns.{Parts, no_rows}
use Rattle.column_lists.specs.Filling.{AreBegun}
use Rattle.column_lists.proofs.Filling.{none_begun}

-- the places of a chunk's rows, by its number among the chunks
abbrev places_of : List (List ℕ) → List ℕ → ℕ → List ℕ
places_of lists chunks k = get_or lists (get_or chunks k 0) []

-- one chunk more has columns over no row
pub one_more_begun : (table : Parts) (lists : List (List ℕ)) (chunks : List ℕ) (blocks new : List Parts) (i width : ℕ) (p : Parts) → length blocks ≡ i → new ≡ blocks ++ p ∷ []
    → length table.further ≡ width → p ≡ no_rows width
    → ((k : ℕ) → k < i → AreBegun table (get_or lists (get_or chunks k 0) []) (get_or blocks k (no_rows 0)))
    → (k : ℕ) → k < i + 1 → AreBegun table (get_or lists (get_or chunks k 0) []) (get_or new k (no_rows 0))
one_more_begun table lists chunks blocks new i width p count is wide none each =
    below_more (λ k. AreBegun table (places_of lists chunks k) (get_or new k (no_rows 0))) i
    (λ k low. subst (AreBegun table (places_of lists chunks k))
    (sym (ap (λ l. get_or l k (no_rows 0)) is ∙ get_or_append_left blocks (p ∷ []) (no_rows 0) k (omega (arith, low, count)))) (each k low))
    (subst (AreBegun table (places_of lists chunks i)) (sym (ap (λ l. get_or l i (no_rows 0)) is ∙ get_or_push blocks p (no_rows 0) i count))
    (none_begun table (places_of lists chunks i) p width (sym wide) none))

-- the chunks behind the next one are begun as they were
pub next_begun : (table : Parts) (lists : List (List ℕ)) (chunks : List ℕ) (n m : ℕ) (old new : List Parts) (p : Parts) → m ≡ n + 1 → old ≡ p ∷ new
    → ((k : ℕ) → k < length old → AreBegun table (get_or lists (get_or chunks (n + k) 0) []) (get_or old k (no_rows 0)))
    → (k : ℕ) → k < length new → AreBegun table (get_or lists (get_or chunks (m + k) 0) []) (get_or new k (no_rows 0))
next_begun table lists chunks n m old new p more is each k low =
    let same : n + suc k ≡ m + k = omega (arith, more) in
    let there : suc k < length old = omega (arith, low, ap length is) in
    subst (AreBegun table (places_of lists chunks (m + k))) (ap (λ l. get_or l (suc k) (no_rows 0)) is)
    (subst (λ j. AreBegun table (places_of lists chunks j) (get_or old (suc k) (no_rows 0))) same (each (suc k) there))

-- one block more, with those of the chunks behind it, are the blocks of all
pub next_block : {X : Type 0} (f : ℕ → X) (blocks new whole : List X) (chunks : List ℕ) (x : X) → length blocks < length chunks → x ≡ f (get_or chunks (length blocks) 0) → new ≡ blocks ++ x ∷ []
    → blocks ++ map f (drop (length blocks) chunks) ≡ whole → new ++ map f (drop (length new) chunks) ≡ whole
next_block f blocks new whole chunks x low own is so_far =
    let more : length new ≡ length blocks + 1 = ap length is ∙ length_push blocks x in
    ap (λ n. new ++ map f (drop n chunks)) more
    ∙ (ap (λ l. l ++ map f (drop (length blocks + 1) chunks)) is
    ∙ (append_snoc blocks x (map f (drop (length blocks + 1) chunks))
    ∙ (ap (λ y. blocks ++ y ∷ map f (drop (length blocks + 1) chunks)) own
    ∙ (ap (λ l. blocks ++ map f l) (sym (drop_more chunks (length blocks) 0 low)) ∙ so_far))))

-- the next chunk is begun as it was
pub this_begun : (table : Parts) (lists : List (List ℕ)) (chunks : List ℕ) (n m : ℕ) (old new : List Parts) (p : Parts) → m ≡ n → old ≡ p ∷ new
    → ((k : ℕ) → k < length old → AreBegun table (get_or lists (get_or chunks (n + k) 0) []) (get_or old k (no_rows 0)))
    → AreBegun table (get_or lists (get_or chunks m 0) []) p
this_begun table lists chunks n m old new p same is each =
    subst (AreBegun table (places_of lists chunks m)) (ap (λ l. get_or l 0 (no_rows 0)) is)
    (subst (λ j. AreBegun table (places_of lists chunks j) (get_or old 0 (no_rows 0))) (omega (arith, same)) (each 0 (omega (arith, ap length is))))

-- the blocks of the first chunks and of the others are those of all
pub blocks_both : {X : Type 0} (f : ℕ → X) (chunks : List ℕ) (at : ℕ) (first second blocks : List X) → first ≡ map f (take at chunks) → second ≡ map f (drop at chunks)
    → blocks ≡ first ++ second → blocks ≡ map f chunks
blocks_both f chunks at first second blocks a b is =
    is
    ∙ (ap (λ l. l ++ second) a
    ∙ (ap (λ l. map f (take at chunks) ++ l) b
    ∙ (sym (map-append f (take at chunks) (drop at chunks)) ∙ ap (map f) (take-append-drop at chunks))))
