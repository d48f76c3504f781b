-- The pairs of a chunk's sources, by the numbers of the sources.
use Rattle.std.proofs.Common.{◌≡◌, ℕ, zero, suc, ◌+◌, ◌<◌, Bool, true, false, cond, List, [], ◌∷◌, ◌++◌, append_assoc, length, get_or, take, map, filter, Option, Some, None, slice_get, refl, sym, ap, subst, ◌∙◌, arith}
use Rattle.std.specs.Prelude.{All, find, option_map, option_to_list, unwrap_or}
use Rattle.std.specs.Ordering.{int_eq}
use Rattle.std.specs.List.{flat_map, range_with_len}
use Rattle.std.proofs.lemmas.Option.{unwrap_or-slice_get}
use Rattle.std.proofs.lemmas.List.{append-nil}
use Rattle.std.proofs.lemmas.List.Elements.{All-filter}
use Rattle.sky_rules.proofs.Ranges.{range_below}
use Rattle.table_rules.specs.Objects.{Obj}
use Rattle.source_rules.specs.Sources.{Source}
use Rattle.source_rules.specs.SourcePlaces.{source_passes, source_places}
use Rattle.source_row.specs.SourceColumns.{SourceParts, no_source, source_at}
use Rattle.sql_bound.specs.declared.cond.BoundCond.{BoundCond}
use Rattle.sql_bound.specs.declared.query.Bound.{Bound}
use Rattle.value_rules.specs.Truth.{meets}
use Rattle.value_rules.specs.Values.{Pick}
use Rattle.answer_rules.specs.Plans.{row_of_id}
use Rattle.child_rules.specs.Children.{child_pair}
use Rattle.child_rules.specs.ChildLaws.{met_pairs}
use Rattle.child_rules.proofs.Crossing.{blocks_same}
use Rattle.source_filter.specs.Candidates.{AreCandidates, IsUnmet}
use Rattle.child_scan.specs.Scans.{pairs_at, pairs_of}

-- ---- blocks of a list, one more at a time

pub blocks_more : {X Y : Type 0} (f : X → List Y) (xs : List X) (k : ℕ) (d : X) → k < length xs → flat_map f (take (suc k) xs) ≡ flat_map f (take k xs) ++ f (get_or xs k d)
blocks_more f [] k d h = absurd (omega (arith, h))
blocks_more f (x ∷ xs) zero d h = append-nil (f x)
blocks_more f (x ∷ xs) (suc k) d h = ap (λ l. f x ++ l) (blocks_more f xs k d (omega (arith, h))) ∙ sym (append_assoc (f x) (flat_map f (take k xs)) (f (get_or xs k d)))

-- ---- the sources with these numbers

first_taken : {Y : Type 0} (f : Source → List Y) (at : ℕ → Option Source) (a : ℕ) (s : Source) (rest : List ℕ) (kept : List Source) (b : Bool) → at a ≡ Some s
    → flat_map (λ i. f (unwrap_or (at i) no_source)) rest ≡ flat_map f kept → flat_map (λ i. f (unwrap_or (at i) no_source)) (cond b (a ∷ rest) rest) ≡ flat_map f (cond b (s ∷ kept) kept)
first_taken f at a s rest kept true e h = ap (λ x. f (unwrap_or x no_source) ++ flat_map (λ i. f (unwrap_or (at i) no_source)) rest) e ∙ ap (λ l. f s ++ l) h
first_taken f at a s rest kept false e h = h

taken_from : {Y : Type 0} (f : Source → List Y) (test : Source → Bool) (at : ℕ → Option Source) (a : ℕ) (sources : List Source) → ((i : ℕ) → at (a + i) ≡ slice_get sources i)
    → flat_map (λ i. f (unwrap_or (at i) no_source)) (filter (λ i. source_passes test (at i)) (range_with_len a (length sources))) ≡ flat_map f (filter test sources)
taken_from f test at a [] h = refl
taken_from f test at a (s ∷ sources) h =
    let here : at a ≡ Some s = subst (λ n. at n ≡ Some s) (omega arith) (h 0) in
    let later : (i : ℕ) → at ((a + 1) + i) ≡ slice_get sources i = λ i. subst (λ n. at n ≡ slice_get sources i) (omega arith) (h (suc i)) in
    let rest : List ℕ = filter (λ i. source_passes test (at i)) (range_with_len (a + 1) (length sources)) in
    ap (λ b. flat_map (λ i. f (unwrap_or (at i) no_source)) (cond b (a ∷ rest) rest)) (ap (source_passes test) here)
    ∙ first_taken f at a s rest (filter test sources) (test s) here (taken_from f test at (a + 1) sources later)

-- the blocks of the sources with these numbers are those of the sources that pass
pub places_taken : {Y : Type 0} (f : Source → List Y) (test : Source → Bool) (sources : List Source) → flat_map (λ i. f (get_or sources i no_source)) (source_places 0 (length sources) test sources) ≡ flat_map f (filter test sources)
places_taken f test sources =
    blocks_same (λ i. f (get_or sources i no_source)) (λ i. f (unwrap_or (slice_get sources i) no_source)) (λ i. ap f (sym (unwrap_or-slice_get sources i no_source))) (source_places 0 (length sources) test sources)
    ∙ taken_from f test (λ i. slice_get sources i) 0 sources (λ i. ap (λ n. slice_get sources n) (omega arith))

-- ---- sources that are left out

pub blocks_of_map : {X Y Z : Type 0} (f : Y → List Z) (g : X → Y) (xs : List X) → flat_map f (map g xs) ≡ flat_map (λ x. f (g x)) xs
blocks_of_map f g [] = refl
blocks_of_map f g (x ∷ xs) = ap (λ l. f (g x) ++ l) (blocks_of_map f g xs)

one_left_out : {Y : Type 0} (f : ℕ → List Y) (a : ℕ) (b : Bool) (us vs : List ℕ) → (b ≡ false → f a ≡ []) → flat_map f us ≡ flat_map f vs → flat_map f (cond b (a ∷ us) us) ≡ f a ++ flat_map f vs
one_left_out f a true us vs e h = ap (λ l. f a ++ l) h
one_left_out f a false us vs e h = h ∙ ap (λ l. l ++ flat_map f vs) (sym (e refl))

blocks_left_out : {Y : Type 0} (f : ℕ → List Y) (kept : ℕ → Bool) (a n : ℕ) → ((k : ℕ) → k < a + n → kept k ≡ false → f k ≡ [])
    → flat_map f (filter kept (range_with_len a n)) ≡ flat_map f (range_with_len a n)
blocks_left_out f kept a zero h = refl
blocks_left_out f kept a (suc n) h =
    one_left_out f a (kept a) (filter kept (range_with_len (a + 1) n)) (range_with_len (a + 1) n) (h a (omega arith))
    (blocks_left_out f kept (a + 1) n (λ k low. h k (omega (arith, low))))

found_first : (test : Obj → Bool) (u o : Obj) (b : Bool) (rest : Option Obj) → test u ≡ b → (rest ≡ Some o → test o ≡ true) → cond b (Some u) rest ≡ Some o → test o ≡ true
found_first test u o true rest e later h = cc (e, h)
found_first test u o false rest e later h = later h

found_passes : (test : Obj → Bool) (os : List Obj) (o : Obj) → find test os ≡ Some o → test o ≡ true
found_passes test [] o h = absurd cc
found_passes test (u ∷ os) o h = found_first test u o (test u) (find test os) refl (found_passes test os o) h

none_met : (conds : List BoundCond) (s : Source) (r : Option Obj) → ((o : Obj) → r ≡ Some o → meets conds (child_pair o s) ≡ false)
    → filter (meets conds) (option_to_list (option_map (λ o. child_pair o s) r)) ≡ []
none_met conds s None h = refl
none_met conds s (Some o) h = ap (λ b. cond b (child_pair o s ∷ []) []) (h o refl)

unmet_none : (table : List Obj) (conds : List BoundCond) (s : Source) → IsUnmet conds s → met_pairs table conds s ≡ []
unmet_none table conds s h =
    none_met conds s (row_of_id table s.object) (λ o is. h o (found_passes (λ o. int_eq s.object o.id) table o is))

-- the pairs of the candidates are those of all sources
pub candidates_cover : (table : List Obj) (q : Bound) (p : SourceParts) (numbers : List ℕ) → AreCandidates q.conds p numbers → pairs_at table q p numbers ≡ pairs_of table q p
candidates_cover table q p numbers h =
    let f : ℕ → List Pick = λ i. met_pairs table q.conds (source_at p i) in
    ap (flat_map f) h.ascend
    ∙ blocks_left_out f h.kept 0 (length p.ids) (λ k low off. unmet_none table q.conds (source_at p k) (h.unmet k (omega (arith, low)) off))
    ∙ sym (blocks_of_map (met_pairs table q.conds) (source_at p) (range_with_len 0 (length p.ids)))

-- and they are numbers of sources
pub candidates_there : (conds : List BoundCond) (p : SourceParts) (numbers : List ℕ) → AreCandidates conds p numbers → All (λ i. i < length p.ids) numbers
candidates_there conds p numbers h =
    subst (λ l. All (λ i. i < length p.ids) l) (sym h.ascend) (All-filter h.kept (λ i. i < length p.ids) (range_with_len 0 (length p.ids)) (range_below (length p.ids)))
