-- Lists that a loop builds from one end to the other.
use Rattle.std.proofs.Common.{◌≡◌, ℕ, ◌+◌, ◌<◌, List, [], ◌∷◌, ◌++◌, length, drop, get_or, true, false}
use Rattle.std.proofs.Common.{refl, sym, ap, ◌∙◌, subst, append_assoc, append-nil, drop-cons, add-one, arith}
use Rattle.std.specs.List.{flat_map}
use Rattle.std.proofs.lemmas.List.{drop_all, length-append}
use Rattle.sql_bound.specs.declared.expr.BoundCol.{BoundCol}
use Rattle.sql_bound.specs.declared.query.BoundItem.{BoundItem}
use Rattle.sql_bound.specs.declared.query.Shape.{Shape}
use Rattle.answer_rules.specs.ChunkQueries.{chunk_items_of}
use Rattle.answer_rules.specs.Rewriting.{key_place, merged_at, merged_from}
use Rattle.answer_rules.specs.declared.rewritten.ChunkItem.{ChunkItem}
use Rattle.answer_rules.specs.declared.rewritten.MergeItem.{MergeItem}
use Rattle.value_rules.specs.Sound.{same_col}

-- the rest from some place on is what stands there, and those behind it
drop_there : {A : Type 0} (xs : List A) (i : ℕ) (d : A) → i < length xs → drop i xs ≡ get_or xs i d ∷ drop (i + 1) xs
drop_there xs i d low = rw add-one (drop-cons xs i d low)

-- the same of the element that stands there
drop_at : {A : Type 0} (xs : List A) (i : ℕ) (x : A) → i < length xs → x ≡ get_or xs i x
    → drop i xs ≡ x ∷ drop (i + 1) xs
drop_at xs i x low is = subst (λ y. drop i xs ≡ y ∷ drop (i + 1) xs) (sym is) (drop_there xs i x low)

-- one more is taken over
pub one_more : {A : Type 0} (xs : List A) (i : ℕ) (x y : A) (done : List A) → i < length xs → x ≡ get_or xs i x → y ≡ x
    → xs ≡ done ++ drop i xs → xs ≡ (done ++ (y ∷ [])) ++ drop (i + 1) xs
one_more xs i x y done low is same h =
    h ∙ ap (λ t. done ++ t) (drop_at xs i x low is)
    ∙ ap (λ z. done ++ (z ∷ drop (i + 1) xs)) (sym same)
    ∙ sym (append_assoc done (y ∷ []) (drop (i + 1) xs))

-- the parts of one more item
pub parts_more : (shape : Shape) (items : List BoundItem) (i : ℕ) (x : BoundItem) (done now : List ChunkItem)
    → i < length items → x ≡ get_or items i x → now ≡ done ++ chunk_items_of shape x
    → flat_map (chunk_items_of shape) items ≡ done ++ flat_map (chunk_items_of shape) (drop i items)
    → flat_map (chunk_items_of shape) items ≡ now ++ flat_map (chunk_items_of shape) (drop (i + 1) items)
parts_more shape items i x done now low is made h =
    h ∙ ap (λ t. done ++ flat_map (chunk_items_of shape) t) (drop_at items i x low is)
    ∙ sym (append_assoc done (chunk_items_of shape x) (flat_map (chunk_items_of shape) (drop (i + 1) items)))
    ∙ ap (λ t. t ++ flat_map (chunk_items_of shape) (drop (i + 1) items)) (sym made)

-- how one more item is merged
pub merged_more : (shape : Shape) (items : List BoundItem) (i : ℕ) (x : BoundItem) (done now : List ChunkItem)
    → (merged new : List MergeItem) → i < length items → x ≡ get_or items i x → now ≡ done ++ chunk_items_of shape x
    → new ≡ merged ++ merged_at shape (length done) x ∷ []
    → merged_from shape 0 items ≡ merged ++ merged_from shape (length done) (drop i items)
    → merged_from shape 0 items ≡ new ++ merged_from shape (length now) (drop (i + 1) items)
merged_more shape items i x done now merged new low is made put h =
    h ∙ ap (λ t. merged ++ merged_from shape (length done) t) (drop_at items i x low is)
    ∙ ap (λ n. merged ++ (merged_at shape (length done) x ∷ merged_from shape n (drop (i + 1) items)))
    (sym (ap length made ∙ length-append done (chunk_items_of shape x)))
    ∙ sym (append_assoc merged (merged_at shape (length done) x ∷ [])
    (merged_from shape (length now) (drop (i + 1) items)))
    ∙ ap (λ t. t ++ merged_from shape (length now) (drop (i + 1) items)) (sym put)

-- nothing is put behind a list
pub nothing_more : {A : Type 0} (xs : List A) → xs ≡ xs ++ []
nothing_more xs = sym (append-nil xs)

-- two are put behind a list, one after the other
pub two_more : {A : Type 0} (old first now : List A) (x y : A) → first ≡ old ++ x ∷ [] → now ≡ first ++ y ∷ []
    → now ≡ old ++ x ∷ (y ∷ [])
two_more old first now x y h k = k ∙ ap (λ t. t ++ y ∷ []) h ∙ append_assoc old (x ∷ []) (y ∷ [])

-- the first place of a column among the rest of the keys, where the key there is that column
place_first : (keys : List BoundCol) (c d : BoundCol) (i : ℕ) → i < length keys → same_col (get_or keys i d) c ≡ true
    → key_place (drop i keys) c ≡ 0
place_first keys c d i low same = rw (drop_there keys i d low, same) refl

-- and where it is another one
place_further : (keys : List BoundCol) (c d : BoundCol) (i : ℕ) → i < length keys
    → same_col (get_or keys i d) c ≡ false → key_place (drop i keys) c ≡ 1 + key_place (drop (i + 1) keys) c
place_further keys c d i low other = rw (drop_there keys i d low, other) refl

-- the column is here
pub place_here : (keys : List BoundCol) (c d : BoundCol) (i : ℕ) → i < length keys
    → same_col (get_or keys i d) c ≡ true → key_place keys c ≡ i + key_place (drop i keys) c → i ≡ key_place keys c
place_here keys c d i low same h =
    let first = place_first keys c d i low same in omega (arith, first, h)

-- the column is further on
pub place_behind : (keys : List BoundCol) (c d : BoundCol) (i : ℕ) → i < length keys
    → same_col (get_or keys i d) c ≡ false → key_place keys c ≡ i + key_place (drop i keys) c
    → key_place keys c ≡ i + 1 + key_place (drop (i + 1) keys) c
place_behind keys c d i low other h =
    let further = place_further keys c d i low other in omega (arith, further, h)

-- the column is no key
pub place_nowhere : (keys : List BoundCol) (c : BoundCol) (n : ℕ) → n ≡ length keys
    → key_place keys c ≡ n + key_place (drop n keys) c → n ≡ key_place keys c
place_nowhere keys c n end h =
    let none : key_place (drop n keys) c ≡ 0 = rw (drop_all n keys (omega (arith, end))) refl in omega (arith, none, h)
