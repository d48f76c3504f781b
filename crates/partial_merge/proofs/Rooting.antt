-- A base with one chunk query more is a base.
use Rattle.std.proofs.Common.{◌≡◌, ◌∙◌, ℕ, ◌<◌, ◌≤◌, List, [], ◌∷◌, ◌++◌, ap, length, subst, sym}
use Rattle.std.proofs.lemmas.List.{length-map, map-append}
use Rattle.std.specs.List.{All}
use Rattle.std.specs.Prelude.{Err, Ok, OnErr, OnOk, Result}
use Rattle.std.proofs.lemmas.List.Elements.{All-from_recursion, recursion_from_All}
use Rattle.std.proofs.lemmas.List.Quantifiers.{all_pairs_push}
use Rattle.scan_rules.specs.declared.limits.TheConstants.{QUERY_MOST}
use Rattle.answer_rules.specs.declared.rewritten.ChunkQuery.{ChunkQuery}
use Rattle.answer_rules.specs.Bases.{Base, IsBase, columns_in}
use Rattle.answer_rules.specs.SoundChunks.{IsSoundChunk}
use Rattle.answer_rules.proofs.Apart.{each-append}
use Rattle.partial_merge.specs.Roots.{shown, with_query}

-- what is shown of entries with one more
pub shown_more : {S X : Type 0} (old new : List (ℕ × S)) (value : S → X) (q : ℕ) (s : S) (x : X) → new ≡ old ++ (q, s) ∷ []
    → value s ≡ x → shown new value ≡ shown old value ++ (q, x) ∷ []
shown_more {S} {X} old new value q s x more is =
    ap (λ es. shown es value) more ∙ map-append {B = ℕ × X} (λ (e : ℕ × S). (e.0, value e.1)) old ((q, s) ∷ [])
    ∙ ap (λ z. shown old value ++ (q, z) ∷ []) is

-- as many entries are shown
pub shown_long : {S X : Type 0} (entries : List (ℕ × S)) (value : S → X) (n : ℕ) → n ≡ length entries
    → n ≡ length (shown entries value)
shown_long {S} {X} entries value n is = is ∙ sym (length-map {B = ℕ × X} entries (λ (e : ℕ × S). (e.0, value e.1)))

-- what is so of each element is so of one more
pub one_more : {X : Type 0} (P : X → Type 0) (xs : List X) (x : X) → All P xs → P x → All P (xs ++ x ∷ [])
one_more P xs x h k = All-from_recursion P (xs ++ x ∷ []) (each-append P xs (x ∷ []) (recursion_from_All P xs h) (k, tt))

pub rooted : (b : Base) (q : ℕ) (query : ChunkQuery) → IsBase b → All (λ (e : ℕ × ChunkQuery). e.0 < q) b.queries → 1 ≤ q → q ≤ QUERY_MOST → IsSoundChunk (columns_in b) query → IsBase (with_query b q query)
rooted b q query i above least most sound = record {
  sky = i.sky;
  rows = i.rows;
  ascend = all_pairs_push (λ (e f : ℕ × ChunkQuery). e.0 < f.0) b.queries (q, query) i.ascend above;
  from_1 = one_more (λ (e : ℕ × ChunkQuery). 1 ≤ e.0) b.queries (q, query) i.from_1 least;
  to_255 = one_more (λ (e : ℕ × ChunkQuery). e.0 ≤ QUERY_MOST) b.queries (q, query) i.to_255 most;
  sound = one_more (λ (e : ℕ × ChunkQuery). IsSoundChunk (columns_in b) e.1) b.queries (q, query) i.sound sound;
}

-- so is it where there was memory for the chunk query, and where there was none
pub rooted_if : {A E : Type 0} (b : Base) (q : ℕ) (query : ChunkQuery) (result : Result A E) (now : List (ℕ × ChunkQuery)) → OnOk result (now ≡ b.queries ++ (q, query) ∷ []) → OnErr result (now ≡ b.queries) → IsBase b → All (λ (e : ℕ × ChunkQuery). e.0 < q) b.queries → 1 ≤ q → q ≤ QUERY_MOST → IsSoundChunk (columns_in b) query → IsBase (record { plan = b.plan; rows = b.rows; queries = now })
rooted_if b q query (Ok a) now given same i above least most sound =
    subst (λ (es : List (ℕ × ChunkQuery)). IsBase (record { plan = b.plan; rows = b.rows; queries = es })) (sym given) (rooted b q query i above least most sound)
rooted_if b q query (Err e) now given same i above least most sound =
    subst (λ (es : List (ℕ × ChunkQuery)). IsBase (record { plan = b.plan; rows = b.rows; queries = es })) (sym same) i
