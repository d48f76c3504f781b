-- A run of rows of one key is put into the piece of the rows before it.
use Rattle.std.proofs.Common.{◌≡◌, ◌∙◌, refl, sym, ap, subst, ℕ, ◌-◌, ◌<◌, ◌≤◌, arith, Bool, false, List, [], ◌++◌, length, get_or, map, take, slice_range}
use Rattle.std.specs.Prelude.{All}
use Rattle.std.specs.List.{AllByRecursion}
use Rattle.std.proofs.lemmas.List.{length-map, length-take-le, map-append, take_all}
use Rattle.std.proofs.lemmas.List.Edits.{length-between}
use Rattle.table_rules.specs.Objects.{Obj}
use Rattle.sky_row.specs.Columns.{no_row}
use Rattle.sql_bound.specs.declared.expr.BoundCol.{BoundCol}
use Rattle.value_rules.specs.Values.{row}
use Rattle.answer_rules.specs.declared.rewritten.ChunkItem.{ChunkItem}
use Rattle.answer_rules.specs.Keys.{Key, key_of}
use Rattle.answer_rules.specs.Parts.{Part, part_over, partials_of}
use Rattle.answer_rules.specs.Pieces.{PieceView, OfGroups}
use Rattle.answer_rules.specs.Small.{IsSmallPart}
use Rattle.partial_groups.specs.Groups.{group_by, most_rows}
use Rattle.partial_merge.specs.Joining.{MayTakeGroup, with_group}
use Rattle.chunk_group_scan.specs.Runs.{AreStarts}
use Rattle.chunk_group_scan.proofs.Groups.{may_take, run_put}
use Rattle.chunk_group_scan.proofs.Marking.{run_of}
use Rattle.chunk_group_scan.proofs.GroupStates.{take_between}

-- as many rows as the run is long
run_length : (objects : List Obj) (from to : ℕ) → to ≤ length objects → length (map row (slice_range objects from to)) ≡ to - from
run_length objects from to there = omega (arith, length-between objects from to there, length-map (slice_range objects from to) row)

-- the piece can take it in
pub run_may : (keys : List BoundCol) (items : List ChunkItem) (objects : List Obj) (from to : ℕ) (cells : Key) (parts : List Part) (view : PieceView) → from ≤ to → to ≤ length objects
    → to ≤ most_rows → parts ≡ map (part_over (map row (slice_range objects from to))) items
    → AllByRecursion (IsSmallPart (to - from)) (map (part_over (map row (slice_range objects from to))) items)
    → view ≡ OfGroups (partials_of keys items (map row (take from objects))) → MayTakeGroup view (group_by cells (to - from) parts)
run_may keys items objects from to cells parts view order there few are small is =
    subst (λ ps. MayTakeGroup view (group_by cells (to - from) ps)) (sym are)
    (may_take keys items (map row (take from objects)) (map row (slice_range objects from to)) cells (to - from) view is
    (omega (arith, few, order, length-map (take from objects) row, length-take-le from objects (omega (arith, order, there)))) small)

-- and is then of the rows up to its end
pub run_more : (keys : List BoundCol) (items : List ChunkItem) (objects : List Obj) (starts : List Bool) (from to : ℕ) (cells : Key) (parts : List Part) (old new : PieceView) → from < to
    → to ≤ length objects → AreStarts keys objects starts → ((j : ℕ) → from < j → j < to → get_or starts j false ≡ false)
    → cells ≡ key_of keys (row (get_or objects from no_row)) → parts ≡ map (part_over (map row (slice_range objects from to))) items
    → new ≡ with_group old (group_by cells (to - from) parts) → old ≡ OfGroups (partials_of keys items (map row (take from objects)))
    → new ≡ OfGroups (partials_of keys items (map row (take to objects)))
run_more keys items objects starts from to cells parts old new order there marks none own are put before =
    let xs = map row (take from objects) in
    let ys = map row (slice_range objects from to) in
    let ps = map (part_over ys) items in
    let view : PieceView = OfGroups (partials_of keys items xs) in
    let some : length ys ≡ to - from = run_length objects from to there in
    let alike : All (λ p. key_of keys p ≡ cells) ys = subst (λ (k : Key). All (λ p. key_of keys p ≡ k) ys) (sym own) (run_of keys objects starts from to marks there none) in
    let both : xs ++ ys ≡ map row (take to objects) =
    sym (ap (map row) (take_between objects from to (omega (arith, order))) ∙ map-append row (take from objects) (slice_range objects from to)) in
    put
    ∙ (ap (λ v. with_group v (group_by cells (to - from) parts)) before
    ∙ (ap (λ p. with_group view (group_by cells (to - from) p)) are
    ∙ (ap (λ n. with_group view (group_by cells n ps)) (sym some)
    ∙ (run_put keys items xs ys cells (omega (arith, some, order)) alike ∙ ap (λ l. OfGroups (partials_of keys items l)) both))))

-- all rows, without a key
pub all_put : (items : List ChunkItem) (objects : List Obj) (n : ℕ) (cells : Key) (parts : List Part) (old new : PieceView) → 0 < n → n ≡ length objects → cells ≡ []
    → parts ≡ map (part_over (map row (slice_range objects 0 n))) items → new ≡ with_group old (group_by cells n parts) → old ≡ OfGroups []
    → new ≡ OfGroups (partials_of [] items (map row objects))
all_put items objects n cells parts old new some is own are put before =
    let less : n ≡ n - 0 = omega arith in
    run_more [] items objects [] 0 n cells parts old new some (omega (arith, is)) (λ j low same. refl) (λ j low high. refl) own are
    (put ∙ ap (λ m. with_group old (group_by cells m parts)) less) before
    ∙ ap (λ l. OfGroups (partials_of [] items (map row l))) (take_all n objects (omega (arith, is)))
