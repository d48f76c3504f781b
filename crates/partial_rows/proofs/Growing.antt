-- Rows keep their values when more values come behind, and find them when they are moved themselves.
use Rattle.std.proofs.Common.{◌≡◌, ℕ, ◌+◌, ◌-◌, ◌≤◌, ℤ, List, [], ◌∷◌, ◌++◌, map, length, length-append, take, drop, Option, refl, sym, ap, subst, ◌∙◌, arith}
use Rattle.std.specs.List.{All, AllByRecursion as Each}
use Rattle.std.proofs.Math.Seq.{drop-append-add}
use Rattle.std.proofs.lemmas.List.{map-append, take-append-le}
use Rattle.std.proofs.lemmas.List.Elements.{All-from_recursion, recursion_from_All}
use Rattle.std.proofs.lemmas.Slice.{between_is}
use Rattle.answer_rules.specs.declared.row.OutRow.{OutRow}
use Rattle.answer_rules.specs.Keeps.{KeepsFirst}
use Rattle.answer_rules.specs.Ranks.{row_order}
use Rattle.answer_rules.proofs.KeptTwice.{keeps_map}
use Rattle.partial_rows.specs.declared.ranked.Ranked.{Ranked}
use Rattle.partial_rows.specs.Rows.{IsIn, moved, rank_order, row_of}

-- ---- one row

abbrev row_with : Ranked → List (Option ℤ) → OutRow
row_with r cells = record { class = r.class; value = r.value; first = r.first; second = r.second; cells = cells }

-- more values behind change nothing
pub row_grows : (cells more : List (Option ℤ)) (r : Ranked) → IsIn (length cells) r → row_of (cells ++ more) r ≡ row_of cells r
row_grows cells more r h =
    ap (row_with r)
    (between_is (cells ++ more) r.from r.to ∙ ap (drop r.from) (take-append-le r.to cells more h.there) ∙ sym (between_is cells r.from r.to))

-- a moved row has its own values
pub row_moves : (cells more : List (Option ℤ)) (r : Ranked) → row_of (cells ++ more) (moved (length cells) r) ≡ row_of more r
row_moves cells more r =
    let n : ℕ = length cells in
    let width : (r.to + n) - (r.from + n) ≡ r.to - r.from = omega arith in
    let place : r.from + n ≡ n + r.from = omega arith in
    ap (row_with r)
    (ap (λ k. take k (drop (r.from + n) (cells ++ more))) width
    ∙ ap (take (r.to - r.from)) (ap (λ k. drop k (cells ++ more)) place ∙ drop-append-add cells more r.from))

-- ---- all rows

pub rows_grow : (cells more : List (Option ℤ)) (rows : List Ranked) → Each (IsIn (length cells)) rows → map (row_of (cells ++ more)) rows ≡ map (row_of cells) rows
rows_grow cells more [] h = refl
rows_grow cells more (r ∷ rows) h = ap (λ x. x ∷ map (row_of (cells ++ more)) rows) (row_grows cells more r h.0) ∙ ap (λ l. row_of cells r ∷ l) (rows_grow cells more rows h.1)

rows_move : (cells more : List (Option ℤ)) (rows : List Ranked) → map (row_of (cells ++ more)) (map (moved (length cells)) rows) ≡ map (row_of more) rows
rows_move cells more [] = refl
rows_move cells more (r ∷ rows) =
    ap (λ x. x ∷ map (row_of (cells ++ more)) (map (moved (length cells)) rows)) (row_moves cells more r) ∙ ap (λ l. row_of more r ∷ l) (rows_move cells more rows)

-- the rows of both, over the values of both
pub rows_joined : (cells more : List (Option ℤ)) (mine theirs : List Ranked) → All (IsIn (length cells)) mine → map (row_of (cells ++ more)) (mine ++ map (moved (length cells)) theirs) ≡ map (row_of cells) mine ++ map (row_of more) theirs
rows_joined cells more mine theirs h =
    map-append (row_of (cells ++ more)) mine (map (moved (length cells)) theirs)
    ∙ ap (λ l. l ++ map (row_of (cells ++ more)) (map (moved (length cells)) theirs)) (rows_grow cells more mine (recursion_from_All (IsIn (length cells)) mine h))
    ∙ ap (λ l. map (row_of cells) mine ++ l) (rows_move cells more theirs)

-- ---- their values are there

more_there : (a b : ℕ) (r : Ranked) → a ≤ b → IsIn a r → IsIn b r
more_there a b r l h = record { order = h.order; there = omega (arith, l, h.there) }

moved_there : (a b : ℕ) (r : Ranked) → IsIn b r → IsIn (a + b) (moved a r)
moved_there a b r h = record { order = omega (arith, h.order); there = omega (arith, h.there) }

each_there : (a b : ℕ) (mine theirs : List Ranked) → Each (IsIn a) mine → Each (IsIn b) theirs → Each (IsIn (a + b)) (mine ++ map (moved a) theirs)
each_there a b [] [] h k = tt
each_there a b [] (r ∷ theirs) h k = (moved_there a b r k.0, each_there a b [] theirs h k.1)
each_there a b (r ∷ mine) theirs h k = (more_there a (a + b) r (omega arith) h.0, each_there a b mine theirs h.1 k)

pub joined_there : (cells more : List (Option ℤ)) (mine theirs : List Ranked) → All (IsIn (length cells)) mine → All (IsIn (length more)) theirs → All (IsIn (length (cells ++ more))) (mine ++ map (moved (length cells)) theirs)
joined_there cells more mine theirs h k =
    let there : Each (IsIn (length cells + length more)) (mine ++ map (moved (length cells)) theirs) =
    each_there (length cells) (length more) mine theirs (recursion_from_All (IsIn (length cells)) mine h) (recursion_from_All (IsIn (length more)) theirs k)
    in
    All-from_recursion (IsIn (length (cells ++ more))) _ (subst (λ n. Each (IsIn n) (mine ++ map (moved (length cells)) theirs)) (sym (length-append cells more)) there)

-- ---- what is kept of rows by their ranks is kept of the rows

pub rows_kept : (cells : List (Option ℤ)) (limit : Option ℕ) (full kept : List Ranked) → KeepsFirst rank_order limit full kept → KeepsFirst row_order limit (map (row_of cells) full) (map (row_of cells) kept)
rows_kept cells limit full kept k = keeps_map rank_order row_order (row_of cells) (λ a b. refl) limit full kept k
