-- The block of each query of a script, by its end.
use Rattle.std.proofs.Common.{◌≡◌, ◌∙◌, refl, sym, ap, ℕ, ◌+◌, arith, List, [], ◌∷◌, length, map, zip, Some, slice_get, get_or}
use Rattle.std.specs.List.{AllZip}
use Rattle.std.proofs.lemmas.Slice.Zip.{length-zip}
use Rattle.std.proofs.lemmas.Option.{get_or_from_slice_get}
use Rattle.sql_rules.specs.PrintedExprs.{Bytes}
use Rattle.session_rules.specs.declared.end.EndKind.{EndKind}
use Rattle.session_script.specs.Scripts.{query_count}
use Rattle.session_script.specs.Views.{ScriptView, query_lines}
use Rattle.transcript_rules.specs.Blocks.{blocks_by}
use Rattle.transcript_rules.proofs.Blocks.{as_many_by, by_at, from_one, zip_at}
use Rattle.query_ends.specs.EndTexts.{end_block, end_blocks}
use Rattle.query_ends.specs.Ends.{kind_of}
use Rattle.query_ends.specs.declared.end.End.{End}
use Rattle.query_ends.proofs.Lines.{lines_count}

-- there are as many blocks as queries
pub as_many_blocks : (names : List Bytes) (s : ScriptView) (ends : List End) → length ends ≡ query_count s.steps
    → length (end_blocks names s ends) ≡ query_count s.steps
as_many_blocks names s ends each =
    as_many_by (λ k query. end_block names k query.0 query.1) 1 (zip (query_lines s) ends)
    ∙ omega (arith, each, lines_count s, length-zip (query_lines s) ends)

-- the block at a place is that of the line and the end there
pub block_there : (names : List Bytes) (s : ScriptView) (ends : List End) (i : ℕ) (text : Bytes) (end : End)
    → slice_get (query_lines s) i ≡ Some text → slice_get ends i ≡ Some end
    → end_block names (i + 1) text end ≡ get_or (end_blocks names s ends) i []
block_there names s ends i text end there ended =
    sym (get_or_from_slice_get (end_blocks names s ends) i (end_block names (i + 1) text end) []
    (by_at (λ k query. end_block names k query.0 query.1) 1 i (zip (query_lines s) ends) (text, end)
    (zip_at i (query_lines s) ends text end there ended)
    ∙ ap (λ n. Some (end_block names n text end)) (from_one i)))

-- blocks that are defined by how the queries ended are those of the ends, where each block is
pub same_blocks : (block_of : ℕ → Bytes → EndKind → Bytes) (names : List Bytes) (shows : Bytes → End → Type 0)
    → ((k : ℕ) (text : Bytes) (end : End) → shows text end → end_block names k text end ≡ block_of k text (kind_of end))
    → (k : ℕ) (texts : List Bytes) (ends : List End) → AllZip shows texts ends
    → blocks_by (λ n query. end_block names n query.0 query.1) k (zip texts ends)
    ≡ blocks_by (λ n query. block_of n query.0 query.1) k (zip texts (map kind_of ends))
same_blocks block_of names shows same k [] [] show = refl
same_blocks block_of names shows same k [] (e ∷ ends) show = absurd show
same_blocks block_of names shows same k (t ∷ texts) [] show = absurd show
same_blocks block_of names shows same k (t ∷ texts) (e ∷ ends) show =
    ap (λ (b : Bytes). b ∷ blocks_by (λ n query. end_block names n query.0 query.1) (k + 1) (zip texts ends)) (same k t e show.0)
    ∙ ap (λ (bs : List Bytes). block_of k t (kind_of e) ∷ bs) (same_blocks block_of names shows same (k + 1) texts ends show.1)
