-- The chunk that holds one id.
use Rattle.std.proofs.Common.{◌≡◌, ℕ, zero, suc, ◌<◌, ◌==◌, ℤ, Bool, true, false, cond, ◌||◌, List, [], ◌∷◌, filter, refl, sym, ap, subst, ◌∙◌, arith, ⊎_elim}
use Rattle.std.specs.Prelude.{All, AllPairs}
use Rattle.std.specs.List.{list_any}
use Rattle.std.proofs.lemmas.Bool.{cases_Bool}
use Rattle.std.proofs.lemmas.List.Elements.{All-head, All-tail}
use Rattle.table_rules.specs.Objects.{Obj}
use Rattle.table_rules.specs.Ordered.{has_id}
use Rattle.sky_rules.specs.Partition.{Partition, chunk_count}
use Rattle.object_index.specs.Indexes.{IsPlaceOf}
use Rattle.answer_rules.specs.Plans.{holds_id}
use Rattle.area_analyser.proofs.Held.{held, unheld}

-- a chunk is not among chunks that are all above it
none_above : (chunk : ℕ) (chunks : List ℕ) → All (λ c. chunk < c) chunks → filter (λ c. chunk == c) chunks ≡ []
none_above chunk [] above = refl
none_above chunk (c ∷ chunks) above =
    let over : chunk < c = All-head (λ d. chunk < d) c chunks above in
    let other : (chunk == c) ≡ false = grind (arith, over) in
    ap (λ b. cond b (c ∷ filter (λ d. chunk == d) chunks) (filter (λ d. chunk == d) chunks)) other
    ∙ none_above chunk chunks (All-tail (λ d. chunk < d) c chunks above)

module _ (chunk c : ℕ) (chunks : List ℕ) (up : AllPairs (λ a b. a < b) (c ∷ chunks)) where
  abbrev rest : List ℕ
  rest = filter (λ d. chunk == d) chunks

  abbrev later : Bool
  later = list_any (λ d. d == chunk) chunks

  -- if the first chunk is it, no later one is
  first_is : (chunk == c) ≡ true → cond (chunk == c) (c ∷ rest) rest ≡ cond ((c == chunk) || later) (chunk ∷ []) []
  first_is is =
      let same : c ≡ chunk = grind (arith, is) in
      let first : (c == chunk) ≡ true = grind (arith, is) in
      let above : All (λ d. c < d) chunks = λ k d low. up zero (suc k) d (omega arith) (omega (arith, low)) in
      ap (λ b. cond b (c ∷ rest) rest) is
      ∙ ap (λ (l : List ℕ). c ∷ l) (none_above chunk chunks (subst (λ n. All (λ d. n < d) chunks) same above))
      ∙ ap (λ n. n ∷ []) same
      ∙ sym (ap (λ b. cond (b || later) (chunk ∷ []) []) first)

  -- if the first chunk is another, only later ones can be it
  later_is : (chunk == c) ≡ false → rest ≡ cond later (chunk ∷ []) [] → cond (chunk == c) (c ∷ rest) rest ≡ cond ((c == chunk) || later) (chunk ∷ []) []
  later_is is e =
      let other : (c == chunk) ≡ false = grind (arith, is) in
      ap (λ b. cond b (c ∷ rest) rest) is ∙ e ∙ sym (ap (λ b. cond (b || later) (chunk ∷ []) []) other)

-- filtering ascending chunks for one chunk gives that chunk, or nothing
pub one_at_most : (chunk : ℕ) (chunks : List ℕ) → AllPairs (λ a b. a < b) chunks
    → filter (λ c. chunk == c) chunks ≡ cond (list_any (λ c. c == chunk) chunks) (chunk ∷ []) []
one_at_most chunk [] up = refl
one_at_most chunk (c ∷ chunks) up = ⊎_elim
    (λ is. first_is chunk c chunks up is)
    (λ is. later_is chunk c chunks up is (one_at_most chunk chunks (λ i j d low within. up (suc i) (suc j) d (omega (arith, low)) (omega (arith, within)))))
    (cases_Bool (chunk == c))

-- a chunk holds an id exactly if it is the chunk of the id's place
pub its_chunk : (g : Partition) (rows : List Obj) (id : ℤ) (chunk row : ℕ) (chunks : List ℕ) → IsPlaceOf g rows id chunk row → All (λ c. c < chunk_count g) chunks
    → filter (λ c. holds_id g rows c (id ∷ [])) chunks ≡ filter (λ c. chunk == c) chunks
its_chunk g rows id chunk row [] place low = refl
its_chunk g rows id chunk row (c ∷ chunks) place low =
    ap (λ b. cond b (c ∷ filter (λ d. holds_id g rows d (id ∷ [])) chunks) (filter (λ d. holds_id g rows d (id ∷ [])) chunks))
    (held g rows c id chunk row (All-head (λ d. d < chunk_count g) c chunks low) place)
    ∙ ap (λ (l : List ℕ). cond (chunk == c) (c ∷ l) l) (its_chunk g rows id chunk row chunks place (All-tail (λ d. d < chunk_count g) c chunks low))

-- no chunk holds an id that no row has
pub no_chunk : (g : Partition) (rows : List Obj) (id : ℤ) (chunks : List ℕ) → has_id rows id ≡ false → filter (λ c. holds_id g rows c (id ∷ [])) chunks ≡ []
no_chunk g rows id [] none = refl
no_chunk g rows id (c ∷ chunks) none =
    ap (λ b. cond b (c ∷ filter (λ d. holds_id g rows d (id ∷ [])) chunks) (filter (λ d. holds_id g rows d (id ∷ [])) chunks)) (unheld g rows c id none)
    ∙ no_chunk g rows id chunks none
