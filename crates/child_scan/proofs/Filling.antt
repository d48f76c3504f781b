-- The extra values of a row, written one by one into as many as a row can have.
use Rattle.std.proofs.Common.{◌≡◌, ℕ, zero, suc, ◌+◌, ◌<◌, ◌≤◌, ◌-◌, ℤ, true, List, [], ◌∷◌, length, get_or, set, replicate, refl, sym, ap, ◌∙◌, arith, ◌⊎◌, inl, inr}
use Rattle.std.specs.Prelude.{Option, None}
use Rattle.std.specs.List.{list_all}
use Rattle.std.proofs.lemmas.Bool.{and_parts, and_from, cases_lt}
use Rattle.std.proofs.lemmas.List.{get_or-map, get_or-replicate, get_or-set_other, get_or-set_same, length-map, length-replicate, length-set}
use Rattle.std.proofs.lemmas.Option.{unwrap_or-slice_get}
use Rattle.std.proofs.Math.ListN.{get_or-eq_default}
use Rattle.table_rules.specs.Objects.{Obj, cell, is_further}
use Rattle.table_rules.specs.declared.limits.TheConstants.{FURTHER_COLUMNS_MOST}
use Rattle.source_row.specs.SourceColumns.{SourceParts, source_at}
use Rattle.child_rules.proofs.Reading.{cell_later}
use Rattle.child_scan.specs.Wide.{AreWide}

-- The first n of the values, and NULL after them.
pub record AreFirst (n : ℕ) (values found : List (Option ℤ)) : Type 0 where
  pub long : length found ≡ FURTHER_COLUMNS_MOST
  pub first : (j : ℕ) → j < n → get_or found j None ≡ get_or values j None
  pub rest : (j : ℕ) → n ≤ j → get_or found j None ≡ None

null_there : (n j : ℕ) → get_or (let all : List (Option ℤ) = replicate n None in all) j None ≡ None
null_there n j = by (cases_lt j n)
  where
    by : (j < n) ⊎ (n ≤ j) → get_or (let all : List (Option ℤ) = replicate n None in all) j None ≡ None
    by (inl h) = get_or-replicate n j None None h
    by (inr h) = get_or-eq_default (replicate n None) None (omega (arith, h, length-replicate n (let x : Option ℤ = None in x)))

pub none_yet : (values found : List (Option ℤ)) → found ≡ replicate FURTHER_COLUMNS_MOST None → AreFirst 0 values found
none_yet values found e = record {
  long = ap length e ∙ length-replicate FURTHER_COLUMNS_MOST (let x : Option ℤ = None in x);
  first = λ j h. absurd (omega (arith, h));
  rest = λ j h. ap (λ l. get_or l j None) e ∙ null_there FURTHER_COLUMNS_MOST j;
}

pub one_more : (n : ℕ) (values found : List (Option ℤ)) (v : Option ℤ) → n < length found → v ≡ get_or values n None → AreFirst n values found → AreFirst (suc n) values (set found n v)
one_more n values found v low e h = record {
  long = length-set found n v ∙ h.long;
  first = λ j k. by_place j (cases_lt j n) k;
  rest = λ j k. get_or-set_other found n j v None (λ e. absurd (omega (arith, k, e))) ∙ h.rest j (omega (arith, k));
}
  where
    by_place : (j : ℕ) → (j < n) ⊎ (n ≤ j) → j < suc n → get_or (set found n v) j None ≡ get_or values j None
    by_place j (inl l) k = get_or-set_other found n j v None (λ e. absurd (omega (arith, l, e))) ∙ h.first j l
    by_place j (inr l) k =
        let same : j ≡ n = omega (arith, l, k) in
        ap (λ i. get_or (set found n v) i None) same ∙ get_or-set_same found n v None low ∙ e ∙ ap (λ i. get_or values i None) (sym same)

pub all_done : (n : ℕ) (values found : List (Option ℤ)) → length values ≤ n → AreFirst n values found → AreWide values found
all_done n values found high h = record { long = h.long; each = λ j. by_place j (cases_lt j n) }
  where
    by_place : (j : ℕ) → (j < n) ⊎ (n ≤ j) → get_or found j None ≡ get_or values j None
    by_place j (inl l) = h.first j l
    by_place j (inr l) = h.rest j l ∙ sym (get_or-eq_default values None (omega (arith, l, high)))

-- ---- the values are within their limits

further_at : (values : List (Option ℤ)) (j : ℕ) → list_all is_further values ≡ true → is_further (get_or values j None) ≡ true
further_at [] j h = refl
further_at (v ∷ values) zero h = (and_parts (is_further v) (list_all is_further values) h).0
further_at (v ∷ values) (suc j) h = further_at values j (and_parts (is_further v) (list_all is_further values) h).1

all_further : (found : List (Option ℤ)) → ((j : ℕ) → is_further (get_or found j None) ≡ true) → list_all is_further found ≡ true
all_further [] h = refl
all_further (v ∷ found) h = and_from (is_further v) (list_all is_further found) (h 0) (all_further found (λ j. h (suc j)))

pub wide_further : (values found : List (Option ℤ)) → AreWide values found → list_all is_further values ≡ true → list_all is_further found ≡ true
wide_further values found w h = all_further found (λ j. ap is_further (w.each j) ∙ further_at values j h)

-- ---- the values of an object and of a source

pub object_value : (o : Obj) (k : ℕ) → cell o (k + 4) ≡ get_or o.further k None
object_value o k =
    let place : (k + 4) - 4 ≡ k = omega arith in
    cell_later o (k + 4) (omega arith) ∙ unwrap_or-slice_get o.further ((k + 4) - 4) None ∙ ap (λ n. get_or o.further n None) place

pub source_value : (p : SourceParts) (i k : ℕ) → k < length p.further → get_or (get_or p.further k []) i None ≡ get_or (source_at p i).further k None
source_value p i k low = sym (get_or-map (λ column. get_or column i None) p.further k [] None low)

-- a source has a value or NULL in each extra column
pub source_width : (p : SourceParts) (i : ℕ) → length (source_at p i).further ≡ length p.further
source_width p i = length-map p.further (λ column. get_or column i None)
