-- Groups of two aggregation tables, one appended to the other.
use Rattle.std.proofs.Common.{◌≡◌, ℕ, ◌+◌, ◌-◌, ◌≤◌, List, [], ◌∷◌, ◌++◌, map, length, length-append, take, drop, refl, sym, ap, subst, ◌∙◌, arith, Ordering, Less, Equal, Greater}
use Rattle.std.specs.List.{All, AllByRecursion as Each}
use Rattle.std.proofs.Math.Seq.{drop-append-add}
use Rattle.std.proofs.lemmas.List.{map-append, take-append-le}
use Rattle.std.proofs.lemmas.List.Elements.{All-from_recursion, recursion_from_All}
use Rattle.std.proofs.lemmas.List.Sums.{sum_by-append, sum_by-cons}
use Rattle.std.proofs.lemmas.Slice.{between_is}
use Rattle.answer_rules.specs.declared.way.Way.{Way}
use Rattle.answer_rules.specs.Gather.{Partial, gather, put_by, put_group}
use Rattle.answer_rules.specs.Keys.{Key, key_order}
use Rattle.answer_rules.specs.Parts.{Part, Sums, add_own_sums}
use Rattle.answer_rules.proofs.OwnWays.{gathered_have, own_joined, own_rows}
use Rattle.answer_rules.specs.Small.{IsSmallGroup, rows_in}
use Rattle.partial_groups.specs.declared.group_entry.GroupEntry.{GroupEntry}
use Rattle.partial_groups.specs.Groups.{AreAddable, AreAlike, Gathered, HaveWays, IsThere, gathered_of, group_by, group_of, most_rows, moved, ways_in}

-- ---- one group

abbrev group_with : GroupEntry → List Part → Partial Key Sums
group_with m parts = record { key = m.key; part = record { rows = m.rows; parts = parts } }

-- more parts behind change nothing
group_grows : (parts more : List Part) (m : GroupEntry) → IsThere (length parts) m → group_of (parts ++ more) m ≡ group_of parts m
group_grows parts more m h =
    ap (group_with m)
    (between_is (parts ++ more) m.from m.to ∙ ap (drop m.from) (take-append-le m.to parts more h.there) ∙ sym (between_is parts m.from m.to))

-- a moved group has its own parts
group_moves : (parts more : List Part) (m : GroupEntry) → group_of (parts ++ more) (moved (length parts) m) ≡ group_of more m
group_moves parts more m =
    let n : ℕ = length parts in
    let width : (m.to + n) - (m.from + n) ≡ m.to - m.from = omega arith in
    let place : m.from + n ≡ n + m.from = omega arith in
    ap (group_with m)
    (ap (λ k. take k (drop (m.from + n) (parts ++ more))) width
    ∙ ap (take (m.to - m.from)) (ap (λ k. drop k (parts ++ more)) place ∙ drop-append-add parts more m.from))

-- ---- all groups

pub groups_grow : (parts more : List Part) (groups : List GroupEntry) → Each (IsThere (length parts)) groups → map (group_of (parts ++ more)) groups ≡ map (group_of parts) groups
groups_grow parts more [] h = refl
groups_grow parts more (m ∷ groups) h =
    ap (λ g. g ∷ map (group_of (parts ++ more)) groups) (group_grows parts more m h.0) ∙ ap (λ l. group_of parts m ∷ l) (groups_grow parts more groups h.1)

groups_move : (parts more : List Part) (groups : List GroupEntry) → map (group_of (parts ++ more)) (map (moved (length parts)) groups) ≡ map (group_of more) groups
groups_move parts more [] = refl
groups_move parts more (m ∷ groups) =
    ap (λ g. g ∷ map (group_of (parts ++ more)) (map (moved (length parts)) groups)) (group_moves parts more m) ∙ ap (λ l. group_of more m ∷ l) (groups_move parts more groups)

groups_joined : (parts more : List Part) (mine theirs : List GroupEntry) → All (IsThere (length parts)) mine → map (group_of (parts ++ more)) (mine ++ map (moved (length parts)) theirs) ≡ map (group_of parts) mine ++ map (group_of more) theirs
groups_joined parts more mine theirs h =
    map-append (group_of (parts ++ more)) mine (map (moved (length parts)) theirs)
    ∙ ap (λ l. l ++ map (group_of (parts ++ more)) (map (moved (length parts)) theirs)) (groups_grow parts more mine (recursion_from_All (IsThere (length parts)) mine h))
    ∙ ap (λ l. map (group_of parts) mine ++ l) (groups_move parts more theirs)

-- ---- their parts are there

more_there : (a b : ℕ) (m : GroupEntry) → a ≤ b → IsThere a m → IsThere b m
more_there a b m l h = record { order = h.order; there = omega (arith, l, h.there) }

moved_there : (a b : ℕ) (m : GroupEntry) → IsThere b m → IsThere (a + b) (moved a m)
moved_there a b m h = record { order = omega (arith, h.order); there = omega (arith, h.there) }

each_there : (a b : ℕ) (mine theirs : List GroupEntry) → Each (IsThere a) mine → Each (IsThere b) theirs → Each (IsThere (a + b)) (mine ++ map (moved a) theirs)
each_there a b [] [] h k = tt
each_there a b [] (m ∷ theirs) h k = (moved_there a b m k.0, each_there a b [] theirs h k.1)
each_there a b (m ∷ mine) theirs h k = (more_there a (a + b) m (omega arith) h.0, each_there a b mine theirs h.1 k)

joined_there : (parts more : List Part) (mine theirs : List GroupEntry) → All (IsThere (length parts)) mine → All (IsThere (length more)) theirs → All (IsThere (length (parts ++ more))) (mine ++ map (moved (length parts)) theirs)
joined_there parts more mine theirs h k =
    let there : Each (IsThere (length parts + length more)) (mine ++ map (moved (length parts)) theirs) =
    each_there (length parts) (length more) mine theirs (recursion_from_All (IsThere (length parts)) mine h) (recursion_from_All (IsThere (length more)) theirs k)
    in
    All-from_recursion (IsThere (length (parts ++ more))) _ (subst (λ n. Each (IsThere n) (mine ++ map (moved (length parts)) theirs)) (sym (length-append parts more)) there)

-- ---- their ways

both_have : (own : List Way) (xs ys : Gathered) → HaveWays own xs → HaveWays own ys → HaveWays own (xs ++ ys)
both_have own [] ys h k = k
both_have own (x ∷ xs) ys h k = (h.0, both_have own xs ys h.1 k)

pub alike_from : (own : List Way) (gs : Gathered) → HaveWays own gs → AreAlike gs
alike_from own [] h = tt
alike_from own (g ∷ gs) h = subst (λ w. HaveWays w (g ∷ gs)) (sym h.0) h

-- what is put into a list has ways
put_ways : (w own : List Way) (g h : Partial Key Sums) (hs put : Gathered) (o : Ordering) → HaveWays w (put_by add_own_sums o g h hs put) → HaveWays own (put_by add_own_sums o g h hs put) → w ≡ own
put_ways w own g h hs put Less a b = sym a.0 ∙ b.0
put_ways w own g h hs put Equal a b = sym a.0 ∙ b.0
put_ways w own g h hs put Greater a b = sym a.0 ∙ b.0

one_way : (w own : List Way) (g : Partial Key Sums) (hs : Gathered) → HaveWays w (put_group key_order add_own_sums g hs) → HaveWays own (put_group key_order add_own_sums g hs) → w ≡ own
one_way w own g [] a b = sym a.0 ∙ b.0
one_way w own g (h ∷ hs) a b = put_ways w own g h hs (put_group key_order add_own_sums g hs) (key_order g.key h.key) a b

-- alike groups have the ways that they have when they are gathered
pub have_from : (own : List Way) (gs : Gathered) → AreAlike gs → HaveWays own (gather key_order add_own_sums gs) → HaveWays own gs
have_from own [] a h = tt
have_from own (g ∷ gs) a h =
    subst (λ w. HaveWays w (g ∷ gs)) (one_way (ways_in g) own g (gather key_order add_own_sums gs) (gathered_have (ways_in g) (g ∷ gs) a) h) a

-- ---- both aggregation tables

each_behind : (xs ys : Gathered) → Each IsSmallGroup xs → Each IsSmallGroup ys → Each IsSmallGroup (xs ++ ys)
each_behind [] ys h k = k
each_behind (x ∷ xs) ys h k = (h.0, each_behind xs ys h.1 k)

-- the rows of both are few where those of the gathered are
few_joined : (own : List Way) (xs ys : Gathered) → HaveWays own xs → HaveWays own ys → rows_in (gather key_order add_own_sums xs) + rows_in (gather key_order add_own_sums ys) ≤ most_rows → rows_in (xs ++ ys) ≤ most_rows
few_joined own xs ys h k f = omega (arith, f, own_rows own xs h, own_rows own ys k, sum_by-append (λ (g : Partial Key Sums). g.part.rows) xs ys)

pub gathered_of_joins : (own : List Way) (parts more : List Part) (mine theirs : List GroupEntry) → AreAddable parts mine → AreAddable more theirs → HaveWays own (gathered_of parts mine) → HaveWays own (gathered_of more theirs) → gathered_of (parts ++ more) (mine ++ map (moved (length parts)) theirs) ≡ gather key_order add_own_sums (gathered_of parts mine ++ gathered_of more theirs)
gathered_of_joins own parts more mine theirs h k a b =
    ap (gather key_order add_own_sums) (groups_joined parts more mine theirs h.there)
    ∙ sym (own_joined own (map (group_of parts) mine) (map (group_of more) theirs) (have_from own _ h.alike a) (have_from own _ k.alike b))

pub both_addable : (own : List Way) (parts more : List Part) (mine theirs : List GroupEntry) → AreAddable parts mine → AreAddable more theirs → HaveWays own (gathered_of parts mine) → HaveWays own (gathered_of more theirs) → rows_in (gathered_of parts mine) + rows_in (gathered_of more theirs) ≤ most_rows → AreAddable (parts ++ more) (mine ++ map (moved (length parts)) theirs)
both_addable own parts more mine theirs h k a b f = record {
  there = joined_there parts more mine theirs h.there k.there;
  alike = subst AreAlike (sym (groups_joined parts more mine theirs h.there))
      (alike_from own _ (both_have own (map (group_of parts) mine) (map (group_of more) theirs) (have_from own _ h.alike a) (have_from own _ k.alike b)));
  small = subst (Each IsSmallGroup) (sym (groups_joined parts more mine theirs h.there)) (each_behind (map (group_of parts) mine) (map (group_of more) theirs) h.small k.small);
  few = subst (λ gs. rows_in gs ≤ most_rows) (sym (groups_joined parts more mine theirs h.there))
      (few_joined own (map (group_of parts) mine) (map (group_of more) theirs) (have_from own _ h.alike a) (have_from own _ k.alike b) f);
}

-- ---- one group more

abbrev pub alone : Key → ℕ → List Part → GroupEntry
alone key rows parts = record { key = key; rows = rows; from = 0; to = length parts }

take_all : (xs : List Part) → take (length xs) xs ≡ xs
take_all [] = refl
take_all (x ∷ xs) = ap (λ l. x ∷ l) (take_all xs)

alone_is : (key : Key) (rows : ℕ) (parts : List Part) → map (group_of parts) (alone key rows parts ∷ []) ≡ group_by key rows parts ∷ []
alone_is key rows parts =
    let all : length parts - 0 ≡ length parts = omega arith in
    ap (λ n. group_by key rows (take n parts) ∷ []) all ∙ ap (λ ps. group_by key rows ps ∷ []) (take_all parts)

alone_addable : (key : Key) (rows : ℕ) (parts : List Part) → IsSmallGroup (group_by key rows parts) → rows ≤ most_rows → AreAddable parts (alone key rows parts ∷ [])
alone_addable key rows parts small few =
    let there : IsThere (length parts) (alone key rows parts) = record { order = omega arith; there = omega arith } in
    record {
      there = All-from_recursion (IsThere (length parts)) (alone key rows parts ∷ []) (there, tt);
      alike = (refl, tt);
      small = subst (Each IsSmallGroup) (sym (alone_is key rows parts)) (small, tt);
      few = omega (arith, few, sum_by-cons (λ (g : Partial Key Sums). g.part.rows) (group_of parts (alone key rows parts)) []);
    }

abbrev pub group_entry_from : Key → ℕ → ℕ → ℕ → GroupEntry
group_entry_from key rows from to = record { key = key; rows = rows; from = from; to = to }

-- the entry of the group after the others
pub put_group_entry : (key : Key) (rows : ℕ) (old more : List Part) → group_entry_from key rows (length old) (length old + length more) ≡ moved (length old) (alone key rows more)
put_group_entry key rows old more =
    let from : length old ≡ 0 + length old = omega arith in
    let to : length old + length more ≡ length more + length old = omega arith in
    ap (λ n. group_entry_from key rows n (length old + length more)) from ∙ ap (group_entry_from key rows (0 + length old)) to

pub put_joins : (own : List Way) (old more : List Part) (groups : List GroupEntry) (key : Key) (rows : ℕ) → IsSmallGroup (group_by key rows more) → rows ≤ most_rows → AreAddable old groups → HaveWays own (gathered_of old groups) → HaveWays own (group_by key rows more ∷ []) → gathered_of (old ++ more) (groups ++ group_entry_from key rows (length old) (length old + length more) ∷ []) ≡ gather key_order add_own_sums (gathered_of old groups ++ group_by key rows more ∷ [])
put_joins own old more groups key rows small few h a b =
    let one : gathered_of more (alone key rows more ∷ []) ≡ group_by key rows more ∷ [] = ap (gather key_order add_own_sums) (alone_is key rows more) in
    ap (λ m. gathered_of (old ++ more) (groups ++ m ∷ [])) (put_group_entry key rows old more)
    ∙ gathered_of_joins own old more groups (alone key rows more ∷ []) h (alone_addable key rows more small few) a (subst (HaveWays own) (sym one) b)
    ∙ ap (λ gs. gather key_order add_own_sums (gathered_of old groups ++ gs)) one

pub put_addable : (own : List Way) (old more : List Part) (groups : List GroupEntry) (key : Key) (rows : ℕ) → IsSmallGroup (group_by key rows more) → rows ≤ most_rows → AreAddable old groups → HaveWays own (gathered_of old groups) → HaveWays own (group_by key rows more ∷ []) → rows_in (gathered_of old groups) + rows ≤ most_rows → AreAddable (old ++ more) (groups ++ group_entry_from key rows (length old) (length old + length more) ∷ [])
put_addable own old more groups key rows small few h a b f =
    let one : gathered_of more (alone key rows more ∷ []) ≡ group_by key rows more ∷ [] = ap (gather key_order add_own_sums) (alone_is key rows more) in
    subst (λ m. AreAddable (old ++ more) (groups ++ m ∷ [])) (sym (put_group_entry key rows old more))
    (both_addable own old more groups (alone key rows more ∷ []) h (alone_addable key rows more small few) a (subst (HaveWays own) (sym one) b)
    (omega (arith, f, ap rows_in one, sum_by-cons (λ (g : Partial Key Sums). g.part.rows) (group_by key rows more) [])))
