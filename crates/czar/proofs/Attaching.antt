-- The root of a session's pieces, from the plans of its queries.
use denote.Ref.{Bor}
use Rattle.std.proofs.Common.{◌≡◌, ◌∙◌, sym, ap, subst, ℕ, zero, suc, ◌+◌, ◌<◌, ◌≤◌, arith, List, [], ◌∷◌, ◌++◌, All}
use Rattle.std.proofs.Common.{AllPairs, IfSome, length, map, take, get_or, Some, Option, option_map, refl, slice_get}
use Rattle.std.proofs.lemmas.List.{length-map, length-take, map-append, take_more}
use Rattle.std.proofs.lemmas.Option.{slice_get-map}
use Rattle.table_rules.specs.Objects.{Catalogue, IsCatalogue}
use Rattle.sky_rules.specs.Limits.{IsSky}
use Rattle.sky_rules.specs.Partition.{Partition}
use Rattle.scan_rules.specs.declared.limits.TheConstants.{QUERY_MOST}
use Rattle.answer_rules.specs.declared.rewritten.ChunkQuery.{ChunkQuery}
use Rattle.answer_rules.specs.declared.rewritten.Rewritten.{Rewritten}
use Rattle.answer_rules.specs.Bases.{Base, IsBase, query_at}
use Rattle.answer_rules.specs.SoundChunks.{IsSoundChunk}
use Rattle.session_rules.specs.Numbers.{numbered_from}
use Rattle.session_rules.proofs.Numbers.{ascend_from, below_from, from_number, holds_from, known_at, numbered_more}
use Rattle.sql_tree.specs.declared.query.Query.{Query}
use Rattle.czar.specs.Attached.{base_of, base_over, chunk_query, numbered}
use Rattle.czar.specs.QueryPlans.{Plan}
use Rattle.query_ends.specs.declared.plan.QueryPlan.TheVariants.{Planned, Refused}

-- ---- the chunk queries with their numbers

-- one query more
queries_more : (plans : List Plan) (p : Plan)
    → numbered_from 1 (map chunk_query (plans ++ p ∷ []))
    ≡ numbered_from 1 (map chunk_query plans) ++ numbered_from (1 + length (map chunk_query plans)) (chunk_query p ∷ [])
queries_more plans p =
    ap (λ xs. numbered_from 1 xs) (map-append chunk_query plans (p ∷ [])) ∙ numbered_more 1 (map chunk_query plans) (chunk_query p)

-- so of the list that grows
pub given_more : (plans : List Plan) (place q : ℕ) (d : Plan) (es new : List (ℕ × ChunkQuery))
    → es ≡ numbered_from 1 (map chunk_query (take place plans)) → place < length plans → q ≡ place + 1
    → new ≡ es ++ numbered_from q (chunk_query (get_or plans place d) ∷ []) → new ≡ numbered_from 1 (map chunk_query (take (place + 1) plans))
given_more plans place q d es new is low number given =
    let p = get_or plans place d in
    let on : q ≡ 1 + length (map chunk_query (take place plans)) =
    omega (arith, number, low, length-map (take place plans) chunk_query, length-take place plans) in
    given ∙ ap (λ xs. xs ++ numbered_from q (chunk_query p ∷ [])) is
    ∙ ap (λ n. numbered_from 1 (map chunk_query (take place plans)) ++ numbered_from n (chunk_query p ∷ [])) on
    ∙ sym (queries_more (take place plans) p)
    ∙ ap (λ ps. numbered_from 1 (map chunk_query ps)) (sym (take_more plans place d low))

-- the root over the list is that of the plans
pub same_base : (g : Partition) (c : Catalogue) (plans : List Plan) (es : List (ℕ × Bor ChunkQuery))
    → numbered es ≡ numbered_from 1 (map chunk_query plans) → base_over g c es ≡ base_of g c plans
same_base g c plans es is = ap (λ (queries : List (ℕ × ChunkQuery)). record { plan = g; rows = c; queries = queries }) is

-- the chunk query of a planned query is found under its number
pub known_under : (plans : List Plan) (i : ℕ) (head : Query) (query : Rewritten) (chunks : List ℕ)
    → slice_get plans i ≡ Some (Planned head query chunks)
    → query_at (numbered_from 1 (map chunk_query plans)) (suc i) ≡ Some query.chunk
known_under plans i head query chunks there =
    let on : suc i ≡ 1 + i = omega arith in
    ap (query_at (numbered_from 1 (map chunk_query plans))) on
    ∙ known_at 1 (map chunk_query plans) i query.chunk (slice_get-map chunk_query plans i ∙ ap (option_map chunk_query) there)

-- ---- the base is one

-- the chunk query of a query, if that is planned, can be run over a table with the given number of columns
abbrev pub IsSoundPlan : ℕ → Plan → Type 0
IsSoundPlan columns (Planned head query chunks) = IsSoundChunk columns query.chunk
IsSoundPlan columns (Refused why) = Unit {0}

-- the chunk queries that are present can be run
sound_there : (columns : ℕ) (plans : List Plan) → All (IsSoundPlan columns) plans
    → All (λ (x : Option ChunkQuery). IfSome x (IsSoundChunk columns)) (map chunk_query plans)
sound_there columns [] all i d low = absurd (omega (arith, low))
sound_there columns (p ∷ plans) all zero d low = of_plan p (all 0 p (omega arith))
  where
    of_plan : (p : Plan) → IsSoundPlan columns p → IfSome (chunk_query p) (IsSoundChunk columns)
    of_plan (Planned head query chunks) sound = sound
    of_plan (Refused why) sound = tt
sound_there columns (p ∷ plans) all (suc i) d low =
    sound_there columns plans (λ n e l. all (suc n) e (omega (arith, l))) i d (omega (arith, low))

pub is_base : (g : Partition) (c : Catalogue) (plans : List Plan) → IsSky g → IsCatalogue c → length plans ≤ QUERY_MOST
    → All (IsSoundPlan (4 + length c.names)) plans → IsBase (base_of g c plans)
is_base g c plans sky rows few sound =
    let xs = map chunk_query plans in
    record {
      sky = sky;
      rows = rows;
      ascend = ascend_from 1 xs;
      from_1 = from_number 1 1 xs (omega arith);
      to_255 = λ i d low.
          let below = below_from 1 xs (1 + length xs) (omega arith) i d low in omega (arith, below, few, length-map plans chunk_query);
      sound = holds_from (IsSoundChunk (4 + length c.names)) 1 xs (sound_there (4 + length c.names) plans sound);
    }

-- so of the list that was made of them
pub is_base_over : (g : Partition) (c : Catalogue) (plans : List Plan) (es : List (ℕ × Bor ChunkQuery)) → IsSky g → IsCatalogue c
    → length plans ≤ QUERY_MOST → All (IsSoundPlan (4 + length c.names)) plans
    → numbered es ≡ numbered_from 1 (map chunk_query plans) → IsBase (base_over g c es)
is_base_over g c plans es sky rows few sound is =
    subst (λ (b : Base). IsBase b) (sym (same_base g c plans es is)) (is_base g c plans sky rows few sound)

-- ---- the root grows

-- as many are shown
pub shown_len : (es : List (ℕ × Bor ChunkQuery)) → length (numbered es) ≡ length es
shown_len [] = refl
shown_len (e ∷ es) = ap suc (shown_len es)

-- what is shown at an index
pub shown_at : (es : List (ℕ × Bor ChunkQuery)) (i : ℕ) (d : ℕ × Bor ChunkQuery) (x : ℕ × ChunkQuery) → i < length es
    → get_or (numbered es) i x ≡ ((get_or es i d).0, (get_or es i d).1.now)
shown_at [] i d x low = absurd (omega (arith, low))
shown_at (e ∷ es) zero d x low = refl
shown_at (e ∷ es) (suc i) d x low = shown_at es i d x (omega (arith, low))

-- what holds of all entries that are shown holds of that at an index
pub held_at : (P : ℕ × ChunkQuery → Type 0) (es : List (ℕ × Bor ChunkQuery)) (i : ℕ) (d : ℕ × Bor ChunkQuery)
    → i < length es → All P (numbered es) → P ((get_or es i d).0, (get_or es i d).1.now)
held_at P es i d low all =
    let x : ℕ × ChunkQuery = (d.0, d.1.now) in
    subst P (shown_at es i d x low) (all i x (omega (arith, low, shown_len es)))

-- the numbers before an entry are below its own
pub above_before : (es : List (ℕ × Bor ChunkQuery)) (i : ℕ) (d : ℕ × Bor ChunkQuery) → i < length es
    → AllPairs (λ (e f : ℕ × ChunkQuery). e.0 < f.0) (numbered es)
    → All (λ (e : ℕ × ChunkQuery). e.0 < (get_or es i d).0) (numbered (take i es))
above_before [] i d low ascend k x before = absurd (omega (arith, low))
above_before (e ∷ es) zero d low ascend k x before = absurd (omega (arith, before))
above_before (e ∷ es) (suc i) d low ascend zero x before =
    let y : ℕ × ChunkQuery = (d.0, d.1.now) in
    let less = ascend 0 (suc i) y (omega arith) (omega (arith, low, shown_len es)) in
    let last = ap (λ (f : ℕ × ChunkQuery). f.0) (shown_at es i d y (omega (arith, low))) in
    omega (arith, less, last)
above_before (e ∷ es) (suc i) d low ascend (suc k) x before =
    above_before es i d (omega (arith, low)) (λ m n y first most. ascend (suc m) (suc n) y (omega (arith, first)) (omega (arith, most)))
    k x (omega (arith, before))
