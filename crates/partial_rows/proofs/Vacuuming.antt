-- Rows whose values are copied, one row behind the other, are the rows that they were.
use Rattle.std.proofs.Common.{◌≡◌, ℕ, ◌+◌, ◌-◌, ◌<◌, ℤ, List, [], ◌∷◌, ◌++◌, map, length, length-append, take, drop, get_or, Option, refl, sym, ap, subst, ◌∙◌, arith}
use Rattle.std.specs.Prelude.{slice_range}
use Rattle.std.specs.List.{All, AllByRecursion as Each}
use Rattle.std.proofs.Math.Seq.{drop-append_seam}
use Rattle.std.proofs.lemmas.List.{append_assoc, length-drop, length-take, map-append, take_more}
use Rattle.std.proofs.lemmas.List.Elements.{All-from_recursion, All-get_or, recursion_from_All}
use Rattle.std.proofs.lemmas.List.Sorted.{IsPermutation-refl}
use Rattle.answer_rules.specs.declared.row.OutRow.{OutRow}
use Rattle.answer_rules.specs.Keeps.{KeepsFirst}
use Rattle.answer_rules.specs.Ranks.{row_order}
use Rattle.answer_rules.proofs.Apart.{each-append}
use Rattle.answer_rules.proofs.Keeping.{keeps_all}
use Rattle.answer_rules.proofs.KeptTwice.{keeps_again}
use Rattle.answer_rules.proofs.Orders.{each_weaker}
use Rattle.answer_rules.proofs.Totals.{row_total}
use Rattle.partial_rows.specs.declared.ranked.Ranked.{Ranked}
use Rattle.partial_rows.specs.Rows.{IsIn, placed, row_of}
use Rattle.partial_rows.proofs.Growing.{rows_grow}

take_all : (xs : List (Option ℤ)) → take (length xs) xs ≡ xs
take_all [] = refl
take_all (x ∷ xs) = ap (λ l. x ∷ l) (take_all xs)

pub all_taken : (xs ys : List (Option ℤ)) (i : ℕ) → i ≡ length ys → xs ++ take i ys ≡ xs ++ ys
all_taken xs ys i e = ap (λ n. xs ++ take n ys) e ∙ ap (λ l. xs ++ l) (take_all ys)

abbrev row_with : Ranked → List (Option ℤ) → OutRow
row_with r cells = record { class = r.class; value = r.value; first = r.first; second = r.second; cells = cells }

abbrev pub values_of : List (Option ℤ) → Ranked → List (Option ℤ)
values_of cells r = slice_range cells r.from r.to

pub values_long : (cells : List (Option ℤ)) (r : Ranked) → IsIn (length cells) r → length (values_of cells r) ≡ r.to - r.from
values_long cells r h = omega (arith, h.order, h.there, length-take (r.to - r.from) (drop r.from cells), length-drop r.from cells)

-- the row with its values behind others
row_copied : (live cells : List (Option ℤ)) (r : Ranked) → IsIn (length cells) r → row_of (live ++ values_of cells r) (placed (length live) r) ≡ row_of cells r
row_copied live cells r h =
    let n : ℕ = length live in
    let more : List (Option ℤ) = values_of cells r in
    let width : (n + (r.to - r.from)) - n ≡ length more = omega (arith, values_long cells r h) in
    ap (row_with r) (ap (λ k. take k (drop n (live ++ more))) width ∙ ap (take (length more)) (drop-append_seam live more) ∙ take_all more)

-- one row more
pub one_row_more : (cells live now : List (Option ℤ)) (start : List OutRow) (rows new others : List Ranked) (i : ℕ) (d : Ranked) → i < length others → All (IsIn (length cells)) others → All (IsIn (length live)) rows → now ≡ live ++ values_of cells (get_or others i d) → new ≡ rows ++ placed (length live) (get_or others i d) ∷ [] → map (row_of live) rows ≡ start ++ map (row_of cells) (take i others) → map (row_of now) new ≡ start ++ map (row_of cells) (take (i + 1) others)
one_row_more cells live now start rows new others i d l all mine e f h =
    let r : Ranked = get_or others i d in
    let there : IsIn (length cells) r = All-get_or (IsIn (length cells)) others i d l all in
    let more : List (Option ℤ) = values_of cells r in
    ap (λ cs. map (row_of cs) new) e ∙ ap (map (row_of (live ++ more))) f
    ∙ map-append (row_of (live ++ more)) rows (placed (length live) r ∷ [])
    ∙ ap (λ rs. rs ++ row_of (live ++ more) (placed (length live) r) ∷ []) (rows_grow live more rows (recursion_from_All (IsIn (length live)) rows mine))
    ∙ ap (λ x. map (row_of live) rows ++ x ∷ []) (row_copied live cells r there)
    ∙ ap (λ rs. rs ++ row_of cells r ∷ []) h
    ∙ append_assoc start (map (row_of cells) (take i others)) (row_of cells r ∷ [])
    ∙ ap (λ rs. start ++ rs) (sym (ap (map (row_of cells)) (take_more others i d l) ∙ map-append (row_of cells) (take i others) (r ∷ [])))

-- and its values are there
pub one_row_there : (cells live now : List (Option ℤ)) (rows new others : List Ranked) (i : ℕ) (d : Ranked) → i < length others → All (IsIn (length cells)) others → All (IsIn (length live)) rows → now ≡ live ++ values_of cells (get_or others i d) → new ≡ rows ++ placed (length live) (get_or others i d) ∷ [] → All (IsIn (length now)) new
one_row_there cells live now rows new others i d l all mine e f =
    let r : Ranked = get_or others i d in
    let there : IsIn (length cells) r = All-get_or (IsIn (length cells)) others i d l all in
    let n : ℕ = length (live ++ values_of cells r) in
    let long : n ≡ length live + (r.to - r.from) = length-append live (values_of cells r) ∙ ap (λ k. length live + k) (values_long cells r there) in
    let last : IsIn n (placed (length live) r) = record { order = omega arith; there = omega (arith, long) } in
    let others : Each (IsIn n) rows = each_weaker (IsIn (length live)) (IsIn n) (λ x h. (let w : IsIn n x = record { order = IsIn.order h; there = omega (arith, long, IsIn.there h) } in w)) rows (recursion_from_All (IsIn (length live)) rows mine) in
    subst (λ (cs : List (Option ℤ)). All (IsIn (length cs)) new) (sym e)
    (subst (λ (rs : List Ranked). All (IsIn n) rs) (sym f) (All-from_recursion (IsIn n) (rows ++ placed (length live) r ∷ []) (each-append (IsIn n) rows (placed (length live) r ∷ []) others (last, tt))))

-- what is not vacuumed keeps its rows
pub keeps_itself : (limit : Option ℕ) (rows : List OutRow) → KeepsFirst row_order limit rows rows
keeps_itself limit rows = keeps_all row_order limit rows rows (IsPermutation-refl rows)

pub keeps_same : (limit : Option ℕ) (rows new : List OutRow) → new ≡ rows → KeepsFirst row_order limit rows new
keeps_same limit rows new e = subst (KeepsFirst row_order limit rows) (sym e) (keeps_itself limit rows)

-- what was kept, and then vacuumed
pub keeps_then : (limit mid : Option ℕ) (full old new : List OutRow) → mid ≡ limit → KeepsFirst row_order limit full old → KeepsFirst row_order mid old new → KeepsFirst row_order limit full new
keeps_then limit mid full old new e h k = keeps_again row_order row_total limit full old new h (subst (λ (n : Option ℕ). KeepsFirst row_order n old new) e k)

-- the rows of a heap, copied and put into a new heap
pub vacuumed_kept : (limit : Option ℕ) (cells shown live0 live1 fresh0 fresh1 : List (Option ℤ)) (heap seen rows0 rows1 given left0 left1 : List Ranked) → seen ≡ heap → shown ≡ cells → rows0 ≡ [] → left0 ≡ [] → given ≡ rows1 → map (row_of live1) rows1 ≡ map (row_of live0) rows0 ++ map (row_of shown) seen → KeepsFirst row_order limit (map (row_of fresh0) left0 ++ map (row_of live1) given) (map (row_of fresh1) left1) → KeepsFirst row_order limit (map (row_of cells) heap) (map (row_of fresh1) left1)
vacuumed_kept limit cells shown live0 live1 fresh0 fresh1 heap seen rows0 rows1 given left0 left1 a b c d e same k =
    let full : map (row_of fresh0) left0 ++ map (row_of live1) given ≡ map (row_of cells) heap =
    ap (λ l. map (row_of fresh0) l ++ map (row_of live1) given) d ∙ ap (map (row_of live1)) e ∙ same
    ∙ ap (λ l. map (row_of live0) l ++ map (row_of shown) seen) c ∙ ap (λ cs. map (row_of cs) seen) b ∙ ap (map (row_of cells)) a
    in
    subst (λ (rs : List OutRow). KeepsFirst row_order limit rs (map (row_of fresh1) left1)) full k

pub none_there : (n : ℕ) (rows : List Ranked) → rows ≡ [] → All (IsIn n) rows
none_there n rows e = subst (λ (rs : List Ranked). All (IsIn n) rs) (sym e) (All-from_recursion (IsIn n) [] tt)
