-- Short pairs beside wide ones, in order, and in a table.
use Rattle.std.proofs.Common.{◌≡◌, ℕ, ◌*◌, ◌≤◌, false, List, [], ◌∷◌, ◌++◌, map, length, Option, Some, None, refl, sym, ap, subst, ◌∙◌, arith, is_lt, IsPermutation, IsSorted}
use Rattle.std.specs.Ordering.{nat_cmp}
use Rattle.std.specs.Bool.{OnTrue}
use Rattle.std.specs.List.{All, flat_map}
use Rattle.std.specs.Prelude.{◌==◌, IfSome}
use Rattle.std.proofs.lemmas.Bool.{OnTrue_from, eqb-false, eqb-true}
use Rattle.std.proofs.lemmas.Cmp.{nat_cmp_total}
use Rattle.std.proofs.lemmas.List.{length-map, map-append, nil_from_length, take-map}
use Rattle.std.proofs.lemmas.List.Elements.{All-from_recursion}
use Rattle.std.proofs.lemmas.List.Sorted.{IsPermutation-map, IsPermutation-sym}
use Rattle.answer_rules.specs.declared.rewritten.MergeItem.{MergeItem}
use Rattle.answer_rules.specs.Finish.{column_value}
use Rattle.answer_rules.specs.InOrder.{first, in_order}
use Rattle.answer_rules.specs.Keeps.{AreApart}
use Rattle.answer_rules.specs.Ranks.{row_order}
use Rattle.answer_rules.proofs.Apart.{each_map}
use Rattle.answer_rules.proofs.Ascending.{sorted_ascends}
use Rattle.answer_rules.proofs.Orders.{each_weaker}
use Rattle.answer_rules.proofs.Sorting.{Ascends, only_order}
use Rattle.answer_rules.proofs.Totals.{row_total}
use Rattle.partial_rows.specs.PackedKeys.{pair_in}
use Rattle.partial_rows.specs.Pairs.{pair_row, short_pair_values}
use Rattle.answer_table.specs.Tables.{IsShort, table_of}
use Rattle.partial_rows.proofs.Pairs.{at_least, in_order_too, row_among, swap_middle}
use Rattle.partial_rows.proofs.Tabling.{columns_short}
use Rattle.answer_table.proofs.Tabling.{flat_long, flat_short, flat_table, map_map}

-- ---- beside wide ones

-- a wide pair is added
pub wide_put : (wide : List ℕ) (pair : ℕ) (short : List ℕ) → IsPermutation ((wide ++ map pair_in short) ++ pair ∷ []) ((wide ++ pair ∷ []) ++ map pair_in short)
wide_put wide pair short = IsPermutation-sym _ _ (row_among wide (map pair_in short) pair)

-- the pairs of two multisets
pub pairs_joined : (wide short more others : List ℕ) → IsPermutation ((wide ++ map pair_in short) ++ (more ++ map pair_in others)) ((wide ++ more) ++ map pair_in (short ++ others))
pairs_joined wide short more others =
    subst (λ (l : List ℕ). IsPermutation ((wide ++ map pair_in short) ++ (more ++ map pair_in others)) ((wide ++ more) ++ l)) (sym (map-append pair_in short others))
    (swap_middle wide (map pair_in short) more (map pair_in others))

-- a list without elements
pub none_by_length : (pairs : List ℕ) → OnTrue (length pairs == 0) (pairs ≡ [])
none_by_length pairs = OnTrue_from (length pairs == 0) (pairs ≡ []) (λ e. nil_from_length pairs (eqb-true (length pairs) 0 e))

-- with pairs there is no limit
pub no_limit : (limit : Option ℕ) (pairs : List ℕ) → IfSome limit (λ n. pairs ≡ []) → (length pairs == 0) ≡ false → limit ≡ None
no_limit None pairs none some = refl
no_limit (Some n) pairs none some = absurd (eqb-false (length pairs) 0 some (ap length none))

-- ---- in order

-- packed keys compare as their pairs do
keys_rise : (a b : ℕ) → b ≤ a → pair_in b ≤ pair_in a
keys_rise a b le = omega (arith, le)

-- the pairs of ascending packed keys are in order
keys_ascend : (keys : List ℕ) → Ascends nat_cmp keys → Ascends row_order (map pair_row (map pair_in keys))
keys_ascend [] h = tt
keys_ascend (k ∷ keys) h = (
  each_map (λ y. is_lt (row_order y (pair_row (pair_in k))) ≡ false) pair_row (map pair_in keys)
      (each_map (λ p. is_lt (row_order (pair_row p) (pair_row (pair_in k))) ≡ false) pair_in keys
      (each_weaker (λ q. is_lt (nat_cmp q k) ≡ false) (λ q. is_lt (row_order (pair_row (pair_in q)) (pair_row (pair_in k))) ≡ false) (λ q e. in_order_too (pair_in q) (pair_in k) (keys_rise q k (at_least q k e))) keys h.0)),
  keys_ascend keys h.1,
)

-- the pairs of sorted packed keys are the rows in order
pub sorted_keys : (keys sorted : List ℕ) → AreApart row_order (map pair_row (map pair_in keys)) → IsPermutation keys sorted → IsSorted nat_cmp sorted → map pair_row (map pair_in sorted) ≡ in_order row_order (map pair_row (map pair_in keys))
sorted_keys keys sorted apart p s =
    only_order row_order row_total (map pair_row (map pair_in keys)) (map pair_row (map pair_in sorted)) apart
    (IsPermutation-map pair_row _ _ (IsPermutation-map pair_in keys sorted p))
    (keys_ascend sorted (sorted_ascends nat_cmp nat_cmp_total sorted s))

-- the first of them
pub first_keys : (limit : Option ℕ) (keys : List ℕ) → map pair_row (map pair_in (first limit keys)) ≡ first limit (map pair_row (map pair_in keys))
first_keys None keys = refl
first_keys (Some n) keys = ap (map pair_row) (sym (take-map pair_in n keys)) ∙ sym (take-map pair_row n (map pair_in keys))

-- ---- their table

pub keys_long : (items : List MergeItem) (keys : List ℕ) → length (flat_map (short_pair_values items) keys) ≡ length keys * length items
keys_long items keys = flat_long (short_pair_values items) (length items) (λ k. length-map items (column_value (pair_row (pair_in k)).cells)) keys

pub keys_short : (items : List MergeItem) (keys : List ℕ) → All IsShort (flat_map (short_pair_values items) keys)
keys_short items keys = All-from_recursion IsShort _ (flat_short (short_pair_values items) (λ k. columns_short (pair_row (pair_in k)).cells items) keys)

pub keys_table : (items : List MergeItem) (keys : List ℕ) → table_of (length keys) (length items) (flat_map (short_pair_values items) keys) ≡ map (λ r. map (column_value r.cells) items) (map pair_row (map pair_in keys))
keys_table items keys =
    flat_table (short_pair_values items) (length items) (λ k. length-map items (column_value (pair_row (pair_in k)).cells)) keys
    ∙ sym (map_map pair_row (λ r. map (column_value r.cells) items) (map pair_in keys) ∙ map_map pair_in (λ p. map (column_value (pair_row p).cells) items) keys)
