-- The piece of a chunk, after all of its sources.
use Rattle.std.proofs.Common.{◌≡◌, ℕ, suc, ◌<◌, ◌≤◌, arith, Bool, true, false, cond, List, [], ◌∷◌, ◌++◌, length, get_or, take, filter, refl, sym, ap, subst, ◌∙◌, None, IsPermutation}
use Rattle.std.specs.Prelude.{All, slice_get}
use Rattle.std.specs.List.{flat_map, range_with_len}
use Rattle.std.proofs.lemmas.List.{get_or-map, length-map, map-append}
use Rattle.std.proofs.lemmas.List.Elements.{All-filter}
use Rattle.std.proofs.lemmas.List.FromFn.{length-range_with_len}
use Rattle.std.proofs.lemmas.List.Sorted.{IsPermutation-map, IsPermutation-refl, IsPermutation-trans}
use Rattle.table_rules.specs.Objects.{Catalogue, IsCatalogue, Obj, IdsAscend}
use Rattle.sky_rules.specs.Limits.{IsSky}
use Rattle.sky_rules.specs.Partition.{Partition, chunk_count}
use Rattle.sky_rules.proofs.Ranges.{range_below}
use Rattle.source_rules.specs.Sources.{IsSource, IsSourceTable, Source, SourceTable}
use Rattle.source_rules.specs.SourcePlaces.{chunk_sources, object_is_in, source_passes}
use Rattle.source_row.specs.SourceColumns.{AreEven, SourceParts, no_source, source_at, sources_at, sources_in}
use Rattle.source_row.proofs.Sourced.{source_there, sources_count}
use Rattle.sql_bound.specs.declared.query.Bound.{Bound}
use Rattle.value_rules.specs.Values.{Pick}
use Rattle.answer_rules.specs.declared.row.OutRow.{OutRow}
use Rattle.answer_rules.specs.Coverage.{AreInTheSky}
use Rattle.answer_rules.specs.Pieces.{OfGroups, OfRows, PieceView}
use Rattle.answer_rules.specs.Rows.{bound_lines, out_row}
use Rattle.child_rules.specs.ChildLaws.{met_pairs}
use Rattle.child_rules.specs.ChildPieces.{ChildFor, HasAllRows, rows_of_picks}
use Rattle.child_rules.proofs.Scanning.{child_found_in_one}
use Rattle.child_scan.specs.ChunkSources.{AreChunkSources}
use Rattle.child_scan.specs.AddsRows.{AddsRows}
use Rattle.child_scan.specs.Scans.{pairs_at, pairs_of}
use Rattle.child_scan.proofs.Taking.{blocks_more, blocks_of_map, places_taken}

-- no rows yet
pub begun : (q : Bound) (view : PieceView) → view ≡ OfRows None [] → HasAllRows (rows_of_picks q []) view
begun q view e = subst (λ v. HasAllRows [] v) (sym e) (refl, IsPermutation-refl [])

-- one more source
pub one_source : (table : List Obj) (p : SourceParts) (q : Bound) (numbers : List ℕ) (k i : ℕ) (old new : PieceView) → k < length numbers → i ≡ get_or numbers k 0
    → HasAllRows (rows_of_picks q (pairs_at table q p (take k numbers))) old
    → AddsRows (rows_of_picks q (met_pairs table q.conds (source_at p i))) old new
    → HasAllRows (rows_of_picks q (pairs_at table q p (take (suc k) numbers))) new
one_source table p q numbers k i old new low e h g =
    let f : ℕ → List Pick = λ i. met_pairs table q.conds (source_at p i) in
    let more : rows_of_picks q (pairs_at table q p (take (suc k) numbers)) ≡ rows_of_picks q (pairs_at table q p (take k numbers)) ++ rows_of_picks q (f i) =
    ap (rows_of_picks q) (blocks_more f numbers k 0 low ∙ ap (λ i. flat_map f (take k numbers) ++ f i) (sym e)) ∙ map-append (out_row (bound_lines q)) (flat_map f (take k numbers)) (f i) in
    subst (λ l. HasAllRows l new) (sym more) (g (rows_of_picks q (pairs_at table q p (take k numbers))) h)

moved : (a b : List OutRow) (view : PieceView) → IsPermutation b a → HasAllRows a view → HasAllRows b view
moved a b (OfRows pushed rows) p h = (h.0, IsPermutation-trans _ _ _ p h.1)
moved a b (OfGroups parts) p h = absurd h

-- the columns have the sources of the chunk
pub pairs_of_chunk : (g : Partition) (table : List Obj) (sources : List Source) (q : Bound) (c : ℕ) (p : SourceParts) → sources_in p ≡ sources_at sources (chunk_sources g table sources c)
    → pairs_of table q p ≡ flat_map (met_pairs table q.conds) (filter (object_is_in g table c) sources)
pairs_of_chunk g table sources q c p is =
    ap (flat_map (met_pairs table q.conds)) is
    ∙ blocks_of_map (met_pairs table q.conds) (λ place. get_or sources place no_source) (chunk_sources g table sources c)
    ∙ places_taken (met_pairs table q.conds) (object_is_in g table c) sources

-- all sources of the chunk
pub all_sources : (g : Partition) (table : List Obj) (sources : List Source) (q : Bound) (c : ℕ) (p : SourceParts) (view : PieceView) → IsSky g → AreInTheSky table → IdsAscend table
    → c < chunk_count g → sources_in p ≡ sources_at sources (chunk_sources g table sources c) → HasAllRows (rows_of_picks q (pairs_of table q p)) view
    → ChildFor g table sources q (c ∷ []) view
all_sources g table sources q c p view sky at up low is h =
    moved _ _ view (IsPermutation-map (out_row (bound_lines q)) _ _ (child_found_in_one g table sources q.conds c sky at up low))
    (subst (λ ps. HasAllRows (rows_of_picks q ps) view) (pairs_of_chunk g table sources q c p is) h)

-- the rows of a catalogue are in the sky
pub in_sky : (c : Catalogue) → IsCatalogue c → AreInTheSky c.objects
in_sky c rows k d low = (rows.rows k d low).at

-- ---- the columns of a chunk's sources

filter_short : {X : Type 0} (test : X → Bool) (xs : List X) → length (filter test xs) ≤ length xs
filter_short test [] = omega arith
filter_short test (x ∷ xs) = by_first (test x) (filter_short test xs)
  where
    by_first : (b : Bool) → length (filter test xs) ≤ length xs → length (cond b (x ∷ filter test xs) (filter test xs)) ≤ suc (length xs)
    by_first true h = omega (arith, h)
    by_first false h = omega (arith, h)

numbers_there : (test : ℕ → Bool) (n : ℕ) → All (λ k. k < n) (filter test (range_with_len 0 n))
numbers_there test n = All-filter test (λ k. k < n) (range_with_len 0 n) (range_below n)

numbers_few : (test : ℕ → Bool) (n : ℕ) → length (filter test (range_with_len 0 n)) ≤ n
numbers_few test n =
    let short = filter_short test (range_with_len 0 n) in
    let long = length-range_with_len 0 n in omega (arith, short, long)

-- some sources of a table, in columns
pub are_chunk_sources : (t : SourceTable) (numbers : List ℕ) (p : SourceParts) → IsSourceTable t → AreEven p → length p.further ≡ length t.names → sources_in p ≡ sources_at t.sources numbers
    → All (λ k. k < length t.sources) numbers → length numbers ≤ length t.sources → AreChunkSources p
are_chunk_sources t numbers p h even wide is there few =
    let long : length p.ids ≡ length numbers = sym (sources_count p) ∙ ap length is ∙ length-map numbers (λ k. get_or t.sources k no_source) in
    record {
      names = t.names;
      are = record {
        few_names = h.few_names;
        few = omega (arith, long, few, h.few);
        wide = wide;
        even = even;
        rows = λ i low.
            let within : i < length numbers = omega (arith, low, long) in
            subst IsSource (sym (get_or-map (λ k. get_or t.sources k no_source) numbers i 0 no_source within) ∙ ap (λ (l : List Source). get_or l i no_source) (sym is) ∙ source_there p i no_source low)
            (h.rows (get_or numbers i 0) no_source (there i 0 within));
      };
    }

pub chunk_columns : (g : Partition) (table : List Obj) (t : SourceTable) (c : ℕ) (p : SourceParts) → IsSourceTable t → AreEven p → length p.further ≡ length t.names
    → sources_in p ≡ sources_at t.sources (chunk_sources g table t.sources c) → AreChunkSources p
chunk_columns g table t c p h even wide is =
    let test : ℕ → Bool = λ i. source_passes (object_is_in g table c) (slice_get t.sources i) in
    are_chunk_sources t (chunk_sources g table t.sources c) p h even wide is (numbers_there test (length t.sources)) (numbers_few test (length t.sources))
