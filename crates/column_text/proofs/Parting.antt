-- Texts parted by commas, and the parts of a list from some place on.
use Rattle.std.proofs.Common.{codes, ◌≡◌, ℕ, ◌+◌, ◌<◌, List, [], ◌∷◌, ◌++◌, length, drop, get_or, refl, sym, ap, ◌∙◌, subst, append_assoc, append-nil, Some, slice_get, Bool, true, false}
use Rattle.std.specs.Prelude.{◌||◌}
use Rattle.std.specs.List.{flat_map}
use Rattle.std.proofs.lemmas.Grind.{flat_map-append}
use Rattle.std.proofs.lemmas.List.{map-id}
use Rattle.std.proofs.lemmas.Option.{get_or_from_slice_get, slice_get_within}
use Rattle.sky_io.specs.Sinks.{Wrote, SinkState}
use Rattle.sky_io.specs.declared.sink.Put.{Put}
use Rattle.table_rules.specs.Names.{column_names}
use Rattle.sql_tree.specs.declared.query.TableRef.{TableRef}
use Rattle.sql_rules.specs.PrintedExprs.{Bytes, behind_each, text_if}
use Rattle.sql_rules.proofs.Listed.{next_at, next_listed}
use Rattle.bind_rules.specs.Columns.{qualifier}
use Rattle.transcript_rules.specs.Tables.{by_commas, star_columns}
use Rattle.column_text.specs.Parted.{columns_from, dotted, has_any, parted}

-- ---- a text under another form

-- what was written is the text in any form of it
pub as_text : (old new : SinkState) (text same : Bytes) (r : Put) → text ≡ same → Wrote old new same r → Wrote old new text r
as_text old new text same r is wrote = subst (λ w. Wrote old new w r) (sym is) wrote

-- ---- lists from a place on

-- the lists of the parts from a place on are that of the part there, and those of the parts behind it
pub next_text : {A B : Type 0} (text : A → List B) (xs : List A) (i : ℕ) (x : A) → i < length xs → x ≡ get_or xs i x
    → flat_map text (drop i xs) ≡ text x ++ flat_map text (drop (i + 1) xs)
next_text text xs i x low is =
    subst (λ y. flat_map text (drop i xs) ≡ text y ++ flat_map text (drop (i + 1) xs)) (sym is) (next_listed text xs i x low)

-- the same, of a part that is found there
pub next_found : {A B : Type 0} (text : A → List B) (xs : List A) (i : ℕ) (x : A) → slice_get xs i ≡ Some x
    → flat_map text (drop i xs) ≡ text x ++ flat_map text (drop (i + 1) xs)
next_found text xs i x found =
    let low : i < length xs = slice_get_within xs i x found in
    let is : get_or xs i x ≡ x = get_or_from_slice_get xs i x x found in
    next_text text xs i x low (sym is)

-- texts behind one or more are each behind a comma
pub commas_more : (t : Bytes) (ts us : List Bytes)
    → by_commas (t ∷ (ts ++ us)) ≡ by_commas (t ∷ ts) ++ behind_each (codes ",") us
commas_more t ts us =
    ap (λ w. t ++ w) (flat_map-append (λ part. codes "," ++ part) ts us)
    ∙ sym (append_assoc t (behind_each (codes ",") ts) (behind_each (codes ",") us))

-- ---- columns

-- the columns from a place on are the one there, and those behind it
pub next_column : (side dot : Bytes) (names : List Bytes) (col : ℕ) (name : Bytes)
    → slice_get (column_names names) col ≡ Some name
    → behind_each (codes ",") (columns_from side dot names col)
    ≡ (codes "," ++ dotted side dot name) ++ behind_each (codes ",") (columns_from side dot names (col + 1))
next_column side dot names col name found =
    let low : col < length (column_names names) = slice_get_within (column_names names) col name found in
    let is : get_or (column_names names) col [] ≡ name = get_or_from_slice_get (column_names names) col name [] found in
    subst
    (λ n. behind_each (codes ",") (columns_from side dot names col)
    ≡ (codes "," ++ dotted side dot n) ++ behind_each (codes ",") (columns_from side dot names (col + 1)))
    is (next_at (codes ",") (dotted side dot) (column_names names) col [] low)

-- all columns are the first, and those behind it
pub first_column : (side dot : Bytes) (names : List Bytes) (name : Bytes) → slice_get (column_names names) 0 ≡ Some name
    → by_commas (columns_from side dot names 0)
    ≡ dotted side dot name ++ behind_each (codes ",") (columns_from side dot names 1)
first_column side dot names name found =
    let is : codes "objectId" ≡ name = get_or_from_slice_get (column_names names) 0 name [] found in
    subst
    (λ n. by_commas (columns_from side dot names 0)
    ≡ dotted side dot n ++ behind_each (codes ",") (columns_from side dot names 1))
    is refl

-- in a join come all columns of the first table, and then all of the second
pub both_columns : (names : List Bytes) (first second : TableRef)
    → by_commas (star_columns names first (Some second))
    ≡ by_commas (columns_from (qualifier first) (codes ".") names 0)
    ++ behind_each (codes ",") (columns_from (qualifier second) (codes ".") names 0)
both_columns names first second =
    commas_more (dotted (qualifier first) (codes ".") (codes "objectId")) (columns_from (qualifier first) (codes ".") names 1)
    (columns_from (qualifier second) (codes ".") names 0)

-- without a qualifier a column is its name
pub bare_columns : (names : List Bytes) → by_commas (column_names names) ≡ by_commas (columns_from [] [] names 0)
bare_columns names = ap by_commas (sym (map-id (column_names names)))

-- ---- texts of which some may have gone before

-- texts behind any others are each behind a comma
pub any_more : (xs ys : List Bytes) → has_any xs ≡ true → by_commas (xs ++ ys) ≡ by_commas xs ++ behind_each (codes ",") ys
any_more [] ys there = absurd (cc there)
any_more (x ∷ xs) ys there = commas_more x xs ys

-- texts and others behind them
pub parted_more : (begun : Bool) (xs ys : List Bytes) → parted begun (xs ++ ys) ≡ parted begun xs ++ parted (begun || has_any xs) ys
parted_more true xs ys = flat_map-append (λ part. codes "," ++ part) xs ys
parted_more false [] ys = refl
parted_more false (x ∷ xs) ys = commas_more x xs ys

-- one text
pub one_part : (begun : Bool) (x : Bytes) → parted begun (x ∷ []) ≡ text_if begun (codes ",") ++ x
one_part true x = append-nil (codes "," ++ x)
one_part false x = append-nil x

-- two texts
pub two_parts : (begun : Bool) (x y : Bytes) → parted begun (x ∷ y ∷ []) ≡ (text_if begun (codes ",") ++ x) ++ (codes "," ++ y)
two_parts true x y = ap (λ w. (codes "," ++ x) ++ w) (append-nil (codes "," ++ y))
two_parts false x y = ap (λ w. x ++ w) (append-nil (codes "," ++ y))

-- what the further items give, from a place on
pub next_given : {A : Type 0} (begun : Bool) (gives : A → List Bytes) (xs : List A) (i : ℕ) (x : A) → i < length xs → x ≡ get_or xs i x
    → parted begun (flat_map gives (drop i xs))
    ≡ parted begun (gives x) ++ parted (begun || has_any (gives x)) (flat_map gives (drop (i + 1) xs))
next_given begun gives xs i x low is =
    ap (parted begun) (next_text gives xs i x low is) ∙ parted_more begun (gives x) (flat_map gives (drop (i + 1) xs))
