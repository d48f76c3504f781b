-- Neighbours of a row: what is told of them, and the pairs that they make.
use Rattle.std.proofs.Common.{◌≡◌, ℕ, zero, suc, ◌+◌, ◌<◌, ℤ, Bool, true, cond, ◌&&◌, int_lt, List, [], ◌∷◌, ◌++◌, length, get_or, map, take, refl, sym, ap, subst, ◌∙◌, arith}
use Rattle.std.specs.Prelude.{All, Option}
use Rattle.std.specs.List.{flat_map}
use Rattle.std.proofs.lemmas.List.{append-nil, get_or-map, length-map, take_more}
use Rattle.std.proofs.lemmas.List.Concat.{flat_map-append}
use Rattle.std.proofs.lemmas.List.Elements.{All-append}
use Rattle.table_rules.specs.Objects.{Obj}
use Rattle.sky_rules.specs.Bounds.{Bounds, in_bounds}
use Rattle.sky_row.specs.Columns.{objects_at}
use Rattle.value_rules.specs.Values.{Pick, pair}
use Rattle.answer_rules.specs.Pieces.{chunk_down, chunk_key, chunk_lines}
use Rattle.answer_rules.specs.Ranks.{rank_class, rank_value}
use Rattle.answer_rules.specs.Rows.{out_row}
use Rattle.answer_rules.specs.declared.rewritten.ChunkOrder.{ChunkOrder}
use Rattle.answer_rules.specs.declared.rewritten.ChunkQuery.{ChunkQuery}
use Rattle.answer_rules.specs.declared.row.OutRow.{OutRow}
use Rattle.near_join.specs.declared.neighbour.Neighbour.{Neighbour}
use Rattle.near_join.specs.Bare.{IsBare, id_line}
use Rattle.near_join.specs.Gains.{both_orders, ordered_pair, upward_pairs, with_cells}
use Rattle.near_join.specs.Neighbours.{IsFlagged, IsRowOf, neighbour_pairs, pairs_with_neighbours, row_of}

-- what holds of what is made of elements holds of them
pub all_of_map : {X Y : Type 0} (P : Y → Type 0) (f : X → Y) (l : List X) → All P (map f l) → All (λ x. P (f x)) l
all_of_map P f l all = λ k d low. let long = length-map l f in subst P (get_or-map f l k d (f d) low) (all k (f d) (omega (arith, long, low)))

all_of_one : {X : Type 0} (P : X → Type 0) (x : X) → P x → All P (x ∷ [])
all_of_one P x is zero d low = is
all_of_one P x is (suc k) d low = absurd (omega (arith, low))

-- what holds of elements and of one more holds of all
pub all_with : {X : Type 0} (P : X → Type 0) (l : List X) (x : X) → All P l → P x → All P (l ++ x ∷ [])
all_with P l x all is = All-append P l (x ∷ []) all (all_of_one P x is)

-- those of which it is told are rows
pub rows_flagged : (objects : List Obj) (bounds : Bounds) (found : List Neighbour) → All (IsFlagged objects bounds) found → All (IsRowOf objects) found
rows_flagged objects bounds found all = λ k d low. IsFlagged.row (all k d low)

-- whether a pair is asked for, by ids that are those of its rows
pub ordered_is : (held rises is answer : Bool) (a b u v : ℤ) → is ≡ (held && cond rises (int_lt a b) true) → a ≡ u → b ≡ v → is ≡ answer → (held && cond rises (int_lt u v) true) ≡ answer
ordered_is held rises is answer a b u v e first second h =
    sym (ap (λ n. held && cond rises (int_lt n b) true) first ∙ ap (λ n. held && cond rises (int_lt u n) true) second) ∙ sym e ∙ h

-- one neighbour more
pub pairs_more : (f : Neighbour → List Pick) (found : List Neighbour) (i : ℕ) (n : Neighbour) → i < length found → n ≡ get_or found i n
    → flat_map f (take (i + 1) found) ≡ flat_map f (take i found) ++ f n
pairs_more f found i n l e =
    ap (flat_map f) (take_more found i n l ∙ ap (λ m. take i found ++ m ∷ []) (sym e))
    ∙ flat_map-append f (take i found) (n ∷ []) ∙ ap (λ l. flat_map f (take i found) ++ l) (append-nil (f n))

-- the pairs of a row with its neighbours are those with the rows at their places
orders_flagged : (cq : ChunkQuery) (limit : ℤ) (bounds : Bounds) (objects : List Obj) (held : Bool) (u : Obj) (found : List Neighbour) → held ≡ in_bounds bounds u.at → All (IsFlagged objects bounds) found
    → flat_map (neighbour_pairs cq limit objects held u) found ≡ flat_map (both_orders cq limit bounds u) (objects_at objects (map (λ n. n.place) found))
orders_flagged cq limit bounds objects held u [] e all = refl
orders_flagged cq limit bounds objects held u (n ∷ found) e all =
    let flagged : IsFlagged objects bounds n = all 0 n (omega arith) in
    let v : Obj = row_of objects n in
    let rest : List Pick = flat_map (neighbour_pairs cq limit objects held u) found in
    ap (λ b. (ordered_pair cq limit b u v ++ ordered_pair cq limit n.held v u) ++ rest) e
    ∙ ap (λ b. (ordered_pair cq limit (in_bounds bounds u.at) u v ++ ordered_pair cq limit b v u) ++ rest) (IsFlagged.held flagged)
    ∙ ap (λ l. both_orders cq limit bounds u v ++ l) (orders_flagged cq limit bounds objects held u found e (λ k d l. all (suc k) d (omega (arith, l))))

pub pairs_flagged : (cq : ChunkQuery) (limit : ℤ) (bounds : Bounds) (objects : List Obj) (n : Neighbour) (found : List Neighbour) → IsFlagged objects bounds n → All (IsFlagged objects bounds) found
    → pairs_with_neighbours cq limit objects n found ≡ upward_pairs cq limit bounds (row_of objects n) (objects_at objects (map (λ n. n.place) found))
pairs_flagged cq limit bounds objects n found flagged all =
    let u : Obj = row_of objects n in
    ap (λ b. ordered_pair cq limit b u u ++ flat_map (neighbour_pairs cq limit objects n.held u) found) (IsFlagged.held flagged)
    ∙ ap (λ l. ordered_pair cq limit (in_bounds bounds u.at) u u ++ l) (orders_flagged cq limit bounds objects n.held u found (IsFlagged.held flagged) all)

-- the line of a pair of a bare query is its two ids, and has no key
pub bare_line : (cq : ChunkQuery) (rises : Bool) (u v : Obj) (first second : ℤ) → IsBare rises cq → first ≡ u.id → second ≡ v.id → id_line first second ≡ out_row (chunk_lines cq) (pair u v)
bare_line cq rises u v first second bare e f =
    ap (λ a. id_line a second) e ∙ ap (λ b. id_line u.id b) f
    ∙ ap (λ cells. with_cells cells (id_line u.id v.id)) (sym (bare.ids u v))
    ∙ ap (λ order. with_cells ((chunk_lines cq).cells (pair u v)) (by_order order)) (sym bare.order)
  where
    by_order : Option ChunkOrder → OutRow
    by_order order = record {
      class = rank_class (chunk_down order) (chunk_key order (pair u v));
      value = rank_value (chunk_down order) (chunk_key order (pair u v));
      first = u.id;
      second = v.id;
      cells = [];
    }
