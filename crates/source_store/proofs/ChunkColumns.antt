-- The columns of the sources of each chunk while they are made.
use Rattle.std.proofs.Common.{◌≡◌, ◌∙◌, ⊎_elim, ap, sym, subst, ℕ, ◌+◌, ◌<◌, List, [], ◌∷◌, ◌++◌, length, get_or, arith}
use Rattle.std.specs.Prelude.{All}
use Rattle.std.proofs.lemmas.List.{get_or_append_left, get_or_push, length_push}
use Rattle.std.proofs.Math.Nat.{eq-or-lt_of_le}
use Rattle.source_rules.specs.Sources.{SourceTable}
use Rattle.source_row.specs.SourceColumns.{AreSourceColumns, SourceParts, no_sources, parts_at, sources_at, sources_in}
use Rattle.source_row.proofs.Sourced.{even_at_places, sources_at_places, sources_count, wide_at_places}
use Rattle.source_store.specs.ChunkColumns.{AreChunkColumns, AreColumnsOf}

-- numbers of sources of the table are numbers of sources in its columns
pub places_there : (t : SourceTable) (p : SourceParts) (places : List ℕ) → sources_in p ≡ t.sources → All (λ place. place < length t.sources) places
    → All (λ place. place < length p.ids) places
places_there t p places is there = λ k d low. omega (arith, there k d low, ap length is, sources_count p)

-- the columns of a table's sources with these numbers
pub columns_of : (t : SourceTable) (p made : SourceParts) (places : List ℕ) → AreSourceColumns t.names p → sources_in p ≡ t.sources → All (λ place. place < length t.sources) places
    → made ≡ parts_at p places → AreColumnsOf t places made
columns_of t p made places are is there same =
    subst (AreColumnsOf t places) (sym same) (record {
      even = even_at_places p places are.even;
      wide = wide_at_places p places ∙ are.wide;
      sources = sources_at_places p places (places_there t p places is there) ∙ ap (λ l. sources_at l places) is;
    })

-- one chunk more
pub columns_more : (t : SourceTable) (lists : List (List ℕ)) (n : ℕ) (columns new : List SourceParts) (p : SourceParts) → AreChunkColumns t lists n columns
    → new ≡ columns ++ p ∷ [] → AreColumnsOf t (get_or lists n []) p → AreChunkColumns t lists (n + 1) new
columns_more t lists n columns new p are is one = record { all = ap length is ∙ (length_push columns p ∙ ap (λ k. k + 1) are.all); each = at }
  where
    last : get_or new n (no_sources 0) ≡ p
    last = ap (λ l. get_or l n (no_sources 0)) is ∙ get_or_push columns p (no_sources 0) n are.all

    at : (c : ℕ) → c < n + 1 → AreColumnsOf t (get_or lists c []) (get_or new c (no_sources 0))
    at c low =
        ⊎_elim
        (λ same. subst (λ k. AreColumnsOf t (get_or lists k []) (get_or new k (no_sources 0))) (sym same) (subst (AreColumnsOf t (get_or lists n [])) (sym last) one))
        (λ before. subst (AreColumnsOf t (get_or lists c []))
        (sym (ap (λ l. get_or l c (no_sources 0)) is ∙ get_or_append_left columns (p ∷ []) (no_sources 0) c (omega (arith, before, are.all)))) (are.each c before))
        (eq-or-lt_of_le (omega (arith, low)))
