-- Pieces of child queries join over disjoint sets of chunks, and their rows are apart.
use Rattle.std.proofs.Common.{◌≡◌, ℕ, ◌<ℤ◌, suc, Bool, true, false, cond, ◌&&◌, List, [], ◌∷◌, ◌++◌, map, filter, refl, sym, ap, subst, arith, IsPermutation, None, Less}
use Rattle.std.specs.List.{AllByRecursion as Each}
use Rattle.std.proofs.lemmas.List.Elements.{recursion_from_All, All-from_get_or}
use Rattle.std.proofs.lemmas.List.Sorted.{IsPermutation-refl, IsPermutation-append, IsPermutation-map, IsPermutation-trans}
use Rattle.table_rules.specs.Objects.{Obj, IdsAscend}
use Rattle.sky_rules.specs.Partition.{Partition}
use Rattle.source_rules.specs.Sources.{Source}
use Rattle.sql_bound.specs.declared.cond.BoundCond.{BoundCond}
use Rattle.sql_bound.specs.declared.query.Bound.{Bound}
use Rattle.value_rules.specs.Truth.{meets}
use Rattle.answer_rules.specs.declared.row.OutRow.{OutRow}
use Rattle.answer_rules.specs.Keeps.{AreApart, IsLate, KeepsFirst}
use Rattle.answer_rules.specs.PieceLaws.{AreDisjoint, AreSame}
use Rattle.answer_rules.specs.Picks.{chunk_holding, lies_in}
use Rattle.answer_rules.specs.Pieces.{OfRows, OfGroups}
use Rattle.answer_rules.specs.Ranks.{row_order}
use Rattle.answer_rules.specs.Rows.{bound_lines, out_row}
use Rattle.answer_rules.proofs.Apart.{IdsClimb, ids_climb, ids_total, pick_ids, row_ids, each-append, each_always, each_filter, each_map, first_below, lines_rise, rise-append, rise_filter, second_below, tie_step}
use Rattle.answer_rules.proofs.Finding.{filter_none, filter_same, filter_split, map-append, nowhere, there_same}
use Rattle.answer_rules.proofs.Keeping.{keeps_all}
use Rattle.answer_rules.proofs.KeptPieces.{apart_kept}
use Rattle.answer_rules.proofs.Orders.{each_weaker}
use Rattle.answer_rules.proofs.Sorting.{Rises, apart_by_ids}
use Rattle.child_rules.specs.Children.{child_found, child_pair, child_picks, is_source_of, as_row, source_pairs}
use Rattle.child_rules.specs.ChildLaws.{ChildPieceIsForASet, ChildRowsAreApart, ChildPiecesJoin, EmptyChildPiece, SourcesAscend}
use Rattle.child_rules.specs.ChildPieces.{child_lines, rows_of_picks}

-- ---- what is found

found_split : (g : Partition) (table : List Obj) (sources : List Source) (conds : List BoundCond) (B B' : List ℕ) → AreDisjoint B B' → IsPermutation (child_found g table sources conds (B ++ B')) (child_found g table sources conds B ++ child_found g table sources conds B')
found_split g table sources conds B B' d = filter_split (meets conds) (λ p. chunk_holding g p.first.at) B B' d (child_picks table sources)

lines_split : (g : Partition) (table : List Obj) (sources : List Source) (q : Bound) (B B' : List ℕ) → AreDisjoint B B' → IsPermutation (child_lines g table sources q (B ++ B')) (child_lines g table sources q B ++ child_lines g table sources q B')
lines_split g table sources q B B' d =
    subst (IsPermutation (child_lines g table sources q (B ++ B'))) (map-append (out_row (bound_lines q)) (child_found g table sources q.conds B) (child_found g table sources q.conds B'))
    (IsPermutation-map (out_row (bound_lines q)) _ _ (found_split g table sources q.conds B B' d))

-- ---- what is kept without a limit is all

all_by : {X : Type 0} (full kept left : List X) → Each (λ x. ⊥) left → IsPermutation full (left ++ kept) → IsPermutation full kept
all_by full kept [] h p = p
all_by full kept (x ∷ left) h p = absurd h.0

pub kept_all : (full kept : List OutRow) → KeepsFirst row_order None full kept → IsPermutation full kept
kept_all full kept k = all_by full kept k.left_out (recursion_from_All (IsLate row_order None kept) k.left_out k.late) k.all

pub child_pieces_join : ChildPiecesJoin
child_pieces_join g table sources q B B' mine other kept d h k keeps =
    (refl, IsPermutation-trans _ _ _ (lines_split g table sources q B B' d) (IsPermutation-trans _ _ _ (IsPermutation-append _ _ _ _ h.1 k.1) (kept_all (mine ++ other) kept keeps)))

found_same : (g : Partition) (table : List Obj) (sources : List Source) (conds : List BoundCond) (B B' : List ℕ) → AreSame B B' → child_found g table sources conds B ≡ child_found g table sources conds B'
found_same g table sources conds B B' s =
    filter_same (λ p. meets conds p && lies_in g B p.first.at) (λ p. meets conds p && lies_in g B' p.first.at)
    (λ p. ap (λ b. meets conds p && b) (there_same B B' s (chunk_holding g p.first.at))) (child_picks table sources)

pub child_piece_is_for_a_set : ChildPieceIsForASet
child_piece_is_for_a_set g table sources q B B' (OfRows pushed rows) s h =
    (h.0, subst (λ ps. IsPermutation (rows_of_picks q ps) rows) (found_same g table sources q.conds B B' s) h.1)
child_piece_is_for_a_set g table sources q B B' (OfGroups parts) s h = absurd h

pub empty_child_piece : EmptyChildPiece
empty_child_piece g table sources q =
    (refl, subst (λ ps. IsPermutation (rows_of_picks q ps) []) (sym (filter_none (λ p. meets q.conds p && lies_in g [] p.first.at) (λ p. nowhere (chunk_holding g p.first.at) (meets q.conds p)) (child_picks table sources))) (IsPermutation-refl []))

-- ---- the pairs ascend by their two ids

-- the ids of sources ascend, by recursion
abbrev SourcesClimb : List Source → Type 0
SourcesClimb [] = Unit {0}
SourcesClimb (s ∷ ss) = Each (λ t. s.id <ℤ t.id) ss × SourcesClimb ss

tail_ascends : (s : Source) (ss : List Source) → SourcesAscend (s ∷ ss) → SourcesAscend ss
tail_ascends s ss h = λ i j d a b. h (suc i) (suc j) d (omega (arith, a)) (omega (arith, b))

sources_climb : (ss : List Source) → SourcesAscend ss → SourcesClimb ss
sources_climb [] h = tt
sources_climb (s ∷ ss) h =
    (recursion_from_All (λ t. s.id <ℤ t.id) ss (All-from_get_or (λ t. s.id <ℤ t.id) ss s (λ i l. h 0 (suc i) s (omega arith) (omega (arith, l)))), sources_climb ss (tail_ascends s ss h))

climb_step : (s : Source) (ss : List Source) (b : Bool) → Each (λ t. s.id <ℤ t.id) ss → SourcesClimb ss → SourcesClimb (cond b (s ∷ ss) ss)
climb_step s ss true h k = (h, k)
climb_step s ss false h k = k

climb_kept : (p : Source → Bool) (ss : List Source) → SourcesClimb ss → SourcesClimb (filter p ss)
climb_kept p [] h = tt
climb_kept p (s ∷ ss) h = climb_step s (filter p ss) (p s) (each_filter (λ t. s.id <ℤ t.id) p ss h.0) (climb_kept p ss h.1)

pairs_rise : (o : Obj) (ss : List Source) → SourcesClimb ss → Rises pick_ids (map (child_pair o) ss)
pairs_rise o [] h = tt
pairs_rise o (s ∷ ss) h =
    (each_map (λ q. pick_ids (child_pair o s) q ≡ Less) (child_pair o) ss (each_weaker (λ t. s.id <ℤ t.id) (λ t. pick_ids (child_pair o s) (child_pair o t) ≡ Less) (λ t k. second_below o (as_row o s) (as_row o t) k) ss h.0), pairs_rise o ss h.1)

blocks_above : (o : Obj) (sources : List Source) (os : List Obj) → Each (λ p. o.id <ℤ p.id) os → Each (λ q. o.id <ℤ q.first.id) (child_picks os sources)
blocks_above o sources [] h = tt
blocks_above o sources (u ∷ os) h =
    each-append (λ q. o.id <ℤ q.first.id) (source_pairs sources u) (child_picks os sources)
    (each_map (λ q. o.id <ℤ q.first.id) (child_pair u) (filter (is_source_of u) sources) (each_always (λ s. o.id <ℤ u.id) (λ s. h.0) (filter (is_source_of u) sources)))
    (blocks_above o sources os h.1)

picks_rise : (sources : List Source) (os : List Obj) → SourcesClimb sources → IdsClimb os → Rises pick_ids (child_picks os sources)
picks_rise sources [] t h = tt
picks_rise sources (u ∷ os) t h =
    rise-append pick_ids (source_pairs sources u) (child_picks os sources) (pairs_rise u (filter (is_source_of u) sources) (climb_kept (is_source_of u) sources t)) (picks_rise sources os t h.1)
    (each_map (λ x. Each (λ y. pick_ids x y ≡ Less) (child_picks os sources)) (child_pair u) (filter (is_source_of u) sources)
    (each_always (λ s. Each (λ y. pick_ids (child_pair u s) y ≡ Less) (child_picks os sources))
    (λ s. each_weaker (λ q. u.id <ℤ q.first.id) (λ y. pick_ids (child_pair u s) y ≡ Less) (λ q k. first_below (child_pair u s) q k) (child_picks os sources) (blocks_above u sources os h.0)) (filter (is_source_of u) sources)))

-- the rows of what is found are apart
pub lines_apart : (g : Partition) (table : List Obj) (sources : List Source) (q : Bound) (B : List ℕ) → IdsAscend table → SourcesAscend sources → AreApart row_order (child_lines g table sources q B)
lines_apart g table sources q B up rise =
    apart_by_ids row_order row_ids ids_total (λ x y e. tie_step _ _ _ e) (child_lines g table sources q B)
    (lines_rise (bound_lines q) (child_found g table sources q.conds B)
    (rise_filter pick_ids (λ p. meets q.conds p && lies_in g B p.first.at) (child_picks table sources) (picks_rise sources table (sources_climb sources rise) (ids_climb table up))))

pub child_rows_are_apart : ChildRowsAreApart
child_rows_are_apart g table sources q B rows up rise h =
    apart_kept None (child_lines g table sources q B) rows (lines_apart g table sources q B up rise) (keeps_all row_order None (child_lines g table sources q B) rows h.1)
