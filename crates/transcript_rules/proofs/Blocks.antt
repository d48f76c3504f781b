-- The blocks of a transcript, each at its place, and what ends that fit say of it.
use Rattle.std.proofs.Common.{◌≡◌, refl, sym, ap, ◌∙◌, ℕ, zero, suc, ◌+◌, arith, Bool, true, false, ◌&&◌}
use Rattle.std.proofs.Common.{List, [], ◌∷◌, length, map, zip, min, Option, Some, option_map, slice_get}
use Rattle.std.proofs.lemmas.List.{length-map}
use Rattle.std.proofs.lemmas.Slice.Zip.{length-zip}
use Rattle.std.proofs.lemmas.Option.{slice_get-map}
use Rattle.table_rules.specs.Objects.{Catalogue}
use Rattle.sky_rules.specs.Partition.{Partition}
use Rattle.sql_rules.specs.PrintedExprs.{Bytes}
use Rattle.session_script.specs.Scripts.{query_spans}
use Rattle.session_script.specs.Views.{ScriptView, query_lines}
use Rattle.session_script.specs.declared.step.Step.{Step}
use Rattle.session_rules.specs.Ends.{Judged, may_end, may_end_from}
use Rattle.session_rules.specs.declared.end.EndKind.{EndKind}
use Rattle.transcript_rules.specs.Blocks.{block, blocks_by, end_lines}
use Rattle.transcript_rules.specs.Explained.{explain_block}
use Rattle.transcript_rules.specs.Laws.{BlocksAreNumbered, BlocksInOrder, ExplainedInOrder, OneBlockEach}
use Rattle.transcript_rules.specs.Laws.{OneExplainedEach}
use Rattle.transcript_rules.specs.RefusalLines.{quoted}
use Rattle.transcript_rules.specs.Transcripts.{blocks_from, judged_of, FitEnds}

-- both parts of what holds together
pub split_and : (a b : Bool) → (a && b) ≡ true → (a ≡ true) × (b ≡ true)
split_and true b h = (refl, h)
split_and false b h = absurd (cc h)

-- the number behind a list's first element
next : (k i : ℕ) → k + 1 + i ≡ k + suc i
next k i = omega (arith)

-- the number of a list's first element
first_of : (k : ℕ) → k + zero ≡ k
first_of k = omega (arith)

some_same : {A : Type 0} (x y : A) → ◌≡◌ {A = Option A} (Some x) (Some y) → x ≡ y
some_same x y h = cc h

-- the block at an index is that of the query there
pub by_at : {X : Type 0} (block_of : ℕ → X → Bytes) (k i : ℕ) (xs : List X) (x : X) → slice_get xs i ≡ Some x
    → slice_get (blocks_by block_of k xs) i ≡ Some (block_of (k + i) x)
by_at block_of k i [] x there = absurd (cc there)
by_at block_of k zero (y ∷ xs) x there =
    ap (λ z. Some (block_of k z)) (some_same y x there) ∙ ap (λ n. Some (block_of n x)) (sym (first_of k))
by_at block_of k (suc i) (y ∷ xs) x there =
    by_at block_of (k + 1) i xs x there ∙ ap (λ n. Some (block_of n x)) (next k i)

-- there are as many blocks as queries
pub as_many_by : {X : Type 0} (block_of : ℕ → X → Bytes) (k : ℕ) (xs : List X)
    → length (blocks_by block_of k xs) ≡ length xs
as_many_by block_of k [] = refl
as_many_by block_of k (x ∷ xs) = ap suc (as_many_by block_of (k + 1) xs)

-- what two lists have at an index
pub zip_at : {X Y : Type 0} (i : ℕ) (xs : List X) (ys : List Y) (x : X) (y : Y) → slice_get xs i ≡ Some x
    → slice_get ys i ≡ Some y → slice_get (zip xs ys) i ≡ Some (x, y)
zip_at i [] ys x y there ended = absurd (cc there)
zip_at i (a ∷ xs) [] x y there ended = absurd (cc ended)
zip_at zero (a ∷ xs) (b ∷ ys) x y there ended =
    ap (λ z. Some (z, b)) (some_same a x there) ∙ ap (λ z. Some (x, z)) (some_same b y ended)
zip_at (suc i) (a ∷ xs) (b ∷ ys) x y there ended = zip_at i xs ys x y there ended

-- counted from 1
pub from_one : (i : ℕ) → 1 + i ≡ i + 1
from_one i = omega (arith)

-- the blocks stand in the order of the script
pub blocks_in_order : BlocksInOrder
blocks_in_order g c s ends i text end there ended =
    by_at (λ n query. block g c n query.0 query.1) 1 i (zip (query_lines s) ends) (text, end)
    (zip_at i (query_lines s) ends text end there ended)
    ∙ ap (λ n. Some (block g c n text end)) (from_one i)

-- each begins with its number
pub blocks_are_numbered : BlocksAreNumbered
unfolding block
blocks_are_numbered g c k text end = record { rest = end_lines g c text end; begins = refl }

-- the explaining blocks stand in the order of the script
pub explained_in_order : ExplainedInOrder
explained_in_order g c s i text there =
    by_at (explain_block g c) 1 i (query_lines s) text there ∙ ap (λ n. Some (explain_block g c n text)) (from_one i)

-- one explaining block for each query
pub one_explained_each : OneExplainedEach
one_explained_each g c s =
    as_many_by (explain_block g c) 1 (query_lines s) ∙ length-map (query_spans s.steps) (quoted s.text)

-- ends that may be are as many as the queries
pub as_many : (w : ℕ) (steps : List Step) (k : ℕ) (js : List Judged) (es : List EndKind)
    → may_end_from w steps k js es ≡ true → length js ≡ length es
as_many w steps k [] [] h = refl
as_many w steps k [] (e ∷ es) h = absurd (cc h)
as_many w steps k (j ∷ js) [] h = absurd (cc h)
as_many w steps k (j ∷ js) (e ∷ es) h = ap suc (as_many w steps (k + 1) js es (split_and _ _ h).1)

-- and the one at a place may be
pub may_at : (w : ℕ) (steps : List Step) (k i : ℕ) (js : List Judged) (es : List EndKind) (j : Judged) (e : EndKind)
    → may_end_from w steps k js es ≡ true → slice_get js i ≡ Some j → slice_get es i ≡ Some e
    → may_end w steps (k + i) j e ≡ true
may_at w steps k i [] es j e h judged ended = absurd (cc judged)
may_at w steps k i (x ∷ js) [] j e h judged ended = absurd (cc ended)
may_at w steps k zero (x ∷ js) (y ∷ es) j e h judged ended =
    ap (λ n. may_end w steps n j e) (first_of k)
    ∙ sym (ap (λ z. may_end w steps k z e) (some_same x j judged))
    ∙ sym (ap (λ z. may_end w steps k x z) (some_same y e ended))
    ∙ (split_and _ _ h).0
may_at w steps k (suc i) (x ∷ js) (y ∷ es) j e h judged ended =
    sym (ap (λ n. may_end w steps n j e) (next k i))
    ∙ may_at w steps (k + 1) i js es j e (split_and _ _ h).1 judged ended

-- as many blocks as queries, if there are as many ends
pub as_many_blocks : (g : Partition) (c : Catalogue) (k : ℕ) (texts : List Bytes) (ends : List EndKind)
    → length texts ≡ length ends → length (blocks_from g c k texts ends) ≡ length texts
as_many_blocks g c k texts ends h =
    as_many_by (λ n query. block g c n query.0 query.1) k (zip texts ends)
    ∙ omega (arith, h, length-zip texts ends)

-- the ends that fit, each at its place
pub fits_from : (w : ℕ) (g : Partition) (c : Catalogue) (s : ScriptView) (ends : List EndKind) → FitEnds w g c s ends
    → may_end_from w s.steps 1 (map (judged_of g c) (query_lines s)) ends ≡ true
fits_from w g c s ends h = (split_and _ _ h).1

-- one block for each query
pub one_block_each : OneBlockEach
one_block_each w g c s ends h =
    as_many_blocks g c 1 (query_lines s) ends
    (sym (length-map (query_lines s) (judged_of g c))
    ∙ as_many w s.steps 1 (map (judged_of g c) (query_lines s)) ends (fits_from w g c s ends h))
    ∙ length-map (query_spans s.steps) (quoted s.text)

-- what holds of a query at a place allows its end
pub may_be : (w : ℕ) (g : Partition) (c : Catalogue) (s : ScriptView) (ends : List EndKind) (i : ℕ) (text : Bytes)
    (end : EndKind) → FitEnds w g c s ends → slice_get (query_lines s) i ≡ Some text → slice_get ends i ≡ Some end
    → may_end w s.steps (1 + i) (judged_of g c text) end ≡ true
may_be w g c s ends i text end h there ended =
    may_at w s.steps 1 i (map (judged_of g c) (query_lines s)) ends (judged_of g c text) end (fits_from w g c s ends h)
    (slice_get-map (judged_of g c) (query_lines s) i ∙ ap (option_map (judged_of g c)) there) ended
