-- Lists of source numbers while sources are appended to them.
use Rattle.std.proofs.Common.{◌≡◌, ◌∙◌, refl, ap, sym, subst, ℕ, ◌+◌, ◌<◌, ◌==◌, Bool, true, false, List, [], ◌∷◌, ◌++◌, map, get_or, cond, slice_get, Option, None, Some}
use Rattle.std.specs.Prelude.{option_to_list}
use Rattle.sky_rules.specs.Partition.{Partition, chunk_count}
use Rattle.table_rules.specs.Objects.{Obj}
use Rattle.chunk_store.specs.Lists.{Pushed, as_often, kept_if}
use Rattle.chunk_store.proofs.Ranges.{filter_more}
use Rattle.source_rules.specs.Sources.{Source}
use Rattle.source_rules.specs.SourcePlaces.{object_is_in, source_passes, source_places}
use Rattle.source_store.specs.NumbersByChunk.{AreNumbersByChunk, LeadsTo, is_chunk}

once : (place d : ℕ) (t : Bool) → map (λ e. place) (cond t (d ∷ []) []) ≡ kept_if t place
once place d true = refl
once place d false = refl

-- the number is appended to the list of the chunk alone, if there is one
often : (place c : ℕ) (chunk : Option ℕ) → as_often place c (option_to_list chunk) ≡ kept_if (is_chunk c chunk) place
often place c None = refl
often place c (Some d) = once place d (d == c)

-- one more source
pub lists_more : (g : Partition) (objects : List Obj) (sources : List Source) (n : ℕ) (chunk : Option ℕ) (s : Source) (old new : List (List ℕ))
    → slice_get sources n ≡ Some s → LeadsTo g objects s.object chunk
    → AreNumbersByChunk g objects sources n old → Pushed (option_to_list chunk) n old new → AreNumbersByChunk g objects sources (n + 1) new
lists_more g objects sources n chunk s old new is leads are pushed = record { all = pushed.same ∙ are.all; each = at }
  where
    at : (c : ℕ) → c < chunk_count g → get_or new c [] ≡ source_places 0 (n + 1) (object_is_in g objects c) sources
    at c h =
        let test = object_is_in g objects c in
        pushed.each c (subst (λ k. c < k) (sym are.all) h)
        ∙ (ap (λ l. l ++ as_often n c (option_to_list chunk)) (are.each c h)
        ∙ (ap (λ l. source_places 0 n test sources ++ l) (often n c chunk)
        ∙ (ap (λ b. source_places 0 n test sources ++ kept_if b n) (sym (ap (source_passes test) is ∙ leads.each c h))
        ∙ sym (filter_more (λ i. source_passes test (slice_get sources i)) n))))
