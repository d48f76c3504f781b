-- Consolidating an aggregation table: the groups are gathered from the last one on.
use Rattle.std.proofs.Common.{◌≡◌, ℕ, suc, ◌+◌, ◌-◌, ◌*◌, ◌^◌, ◌<◌, ◌≤◌, ℤ, ◌+ℤ◌, nat_abs, int_le, Bool, true, false, List, [], ◌∷◌, ◌++◌, map, reverse, length, length-append, get_or, take, drop, Option, Some, None, refl, sym, ap, subst, ◌∙◌, arith, Ordering, Less, Equal, Greater, is_eq, is_lt, IsPermutation, IsSorted}
use Rattle.std.specs.List.{All, AllByRecursion as Each}
use Rattle.std.specs.Prelude.{if◌then◌else◌}
use Rattle.std.specs.Cmp.{IsTotalOrder}
use Rattle.std.specs.Ordering.{on, ordering_reverse}
use Rattle.std.proofs.Math.Seq.{drop-append_seam}
use Rattle.std.proofs.lemmas.Cmp.{on_total}
use Rattle.std.proofs.lemmas.Int.{ints}
use Rattle.std.proofs.lemmas.List.{append-nil, append_assoc, length-drop, length-map, length-take, map-append, reverse-append}
use Rattle.std.proofs.lemmas.List.Elements.{All-from_recursion, recursion_from_All}
use Rattle.std.proofs.lemmas.List.Sums.{sum_by-append, sum_by-cons}
use Rattle.std.proofs.lemmas.List.Sorted.{All-permutation, IsPermutation-map, sum_by-IsPermutation}
use Rattle.value_rules.specs.Widths.{IsOfSize, most}
use Rattle.answer_rules.specs.declared.way.Way.{Way}
use Rattle.answer_rules.specs.declared.way.Way.TheVariants.{Added, Least, Greatest}
use Rattle.answer_rules.specs.Gather.{Partial, gather, plus, put_by, put_group}
use Rattle.answer_rules.specs.Keys.{Key, key_order}
use Rattle.answer_rules.specs.Parts.{Part, Sums, add_own, add_own_parts, add_own_sums, join_by}
use Rattle.answer_rules.specs.Small.{IsSmallGroup, IsSmallPart, part_bound, rows_in}
use Rattle.answer_rules.proofs.Ascending.{sorted_ascends}
use Rattle.answer_rules.proofs.Gathering.{put_each}
use Rattle.answer_rules.proofs.OwnWays.{gathered_have, own_again, own_permuted, own_rows}
use Rattle.answer_rules.proofs.Sorting.{Ascends}
use Rattle.answer_rules.proofs.Totals.{key_total}
use Rattle.partial_groups.specs.Adding.{AllMayAdd, IsAs, MayAdd, MayPut, TwoFit, parts_of, placed, stacked, summed, width_in}
use Rattle.partial_groups.specs.declared.group_entry.GroupEntry.{GroupEntry}
use Rattle.partial_groups.specs.Groups.{AreAddable, AreAlike, Gathered, HaveWays, IsThere, gathered_of, group_of, most_rows, ways_in, width_of}
use Rattle.partial_groups.specs.Sharing.{HaveOwnParts}
use Rattle.partial_groups.proofs.Appending.{alike_from, groups_grow}
use Rattle.partial_groups.proofs.Summing.{add_long}

-- ---- bounds

sum_size : (a b : ℤ) → nat_abs (a +ℤ b) ≤ nat_abs a + nat_abs b
sum_size a b = omega (arith, ints)

either : (b : Bool) (x y : ℤ) → nat_abs x ≤ most → nat_abs y ≤ most → nat_abs (if b then x else y) ≤ most
either true x y h k = h
either false x y h k = k

add_bound : (w : Way) (n m : ℕ) (u v : Option ℤ) → IsOfSize (part_bound w n) u → IsOfSize (part_bound w m) v → IsOfSize (part_bound w (n + m)) (plus (join_by w) u v)
add_bound w n m None None h k = tt
add_bound Added n m None (Some v) h k = omega (arith, k)
add_bound Least n m None (Some v) h k = k
add_bound Greatest n m None (Some v) h k = k
add_bound Added n m (Some u) None h k = omega (arith, h)
add_bound Least n m (Some u) None h k = h
add_bound Greatest n m (Some u) None h k = h
add_bound Added n m (Some u) (Some v) h k = omega (arith, h, k, sum_size u v)
add_bound Least n m (Some u) (Some v) h k = either (int_le u v) u v h k
add_bound Greatest n m (Some u) (Some v) h k = either (int_le u v) v u k h

add_small : (r s : ℕ) (a b : Part) → b.way ≡ a.way → IsSmallPart r a → IsSmallPart s b → IsSmallPart (r + s) (add_own a b)
add_small r s a b e h k = record {
  seen = omega (arith, h.seen, k.seen);
  value = add_bound a.way a.seen b.seen a.value b.value h.value (subst (λ w. IsOfSize (part_bound w b.seen) b.value) e k.value);
}

bound_most : (w : Way) (n : ℕ) → n ≤ most_rows → part_bound w n ≤ 2 ^ 124
bound_most Added n h = omega (arith, h)
bound_most Least n h = omega arith
bound_most Greatest n h = omega arith

size_up : (n m : ℕ) (v : Option ℤ) → n ≤ m → IsOfSize n v → IsOfSize m v
size_up n m None l h = tt
size_up n m (Some v) l h = omega (arith, l, h)

may_add : (r s : ℕ) (a b : Part) → r + s ≤ most_rows → IsSmallPart r a → IsSmallPart s b → MayAdd a b
may_add r s a b l h k = record {
  few = omega (arith, l, h.seen, k.seen);
  mine = size_up _ _ a.value (bound_most a.way a.seen (omega (arith, l, h.seen))) h.value;
  theirs = size_up _ _ b.value (bound_most b.way b.seen (omega (arith, l, k.seen))) k.value;
}

-- ---- parts of two groups of the same ways

abbrev ways : List Part → List Way
ways ps = map (λ p. p.way) ps

abbrev head_or : Way → List Way → Way
head_or w [] = w
head_or w (x ∷ xs) = x

abbrev rest_of : List Way → List Way
rest_of [] = []
rest_of (x ∷ xs) = xs

pub all_may_add : (r s : ℕ) (xs ys : List Part) → r + s ≤ most_rows → Each (IsSmallPart r) xs → Each (IsSmallPart s) ys → AllMayAdd xs ys
all_may_add r s [] ys l h k = tt
all_may_add r s (x ∷ xs) [] l h k = tt
all_may_add r s (x ∷ xs) (y ∷ ys) l h k = (may_add r s x y l h.0 k.0, all_may_add r s xs ys l h.1 k.1)

pub all_small : (r s : ℕ) (xs ys : List Part) → ways xs ≡ ways ys → Each (IsSmallPart r) xs → Each (IsSmallPart s) ys → Each (IsSmallPart (r + s)) (add_own_parts xs ys)
all_small r s [] ys e h k = tt
all_small r s (x ∷ xs) [] e h k = tt
all_small r s (x ∷ xs) (y ∷ ys) e h k = (add_small r s x y (sym (ap (head_or x.way) e)) h.0 k.0, all_small r s xs ys (ap rest_of e) h.1 k.1)

pub sum_ways : (xs ys : List Part) → ways xs ≡ ways ys → ways (add_own_parts xs ys) ≡ ways xs
sum_ways [] ys e = refl
sum_ways (x ∷ xs) [] e = absurd (cc e)
sum_ways (x ∷ xs) (y ∷ ys) e = ap (λ l. x.way ∷ l) (sum_ways xs ys (ap rest_of e))

pub same_long : (xs ys : List Part) → ways xs ≡ ways ys → length xs ≡ length ys
same_long xs ys e = sym (length-map xs (λ p. p.way)) ∙ ap length e ∙ length-map ys (λ p. p.way)

-- ---- the order of two keys

pub is_equal : (o : Ordering) → is_eq o ≡ true → o ≡ Equal
is_equal Less h = absurd (cc h)
is_equal Equal h = refl
is_equal Greater h = absurd (cc h)

less_by : (o p : Ordering) → o ≡ ordering_reverse p → is_lt p ≡ false → is_eq o ≡ false → o ≡ Less
less_by Less p e a b = refl
less_by Equal p e a b = absurd (cc b)
less_by Greater Less e a b = absurd (cc a)
less_by Greater Equal e a b = absurd (cc e)
less_by Greater Greater e a b = absurd (cc e)

is_less : (a b : Key) → is_lt (key_order b a) ≡ false → is_eq (key_order a b) ≡ false → key_order a b ≡ Less
is_less a b h k = less_by (key_order a b) (key_order b a) (IsTotalOrder.antisymm key_total a b) h k

-- ---- a group is put before another one, or added to it

abbrev pub onto : Partial Key Sums → Partial Key Sums → Partial Key Sums
onto g h = record { key = h.key; part = add_own_sums g.part h.part }

put_before : (g h : Partial Key Sums) (hs : Gathered) → key_order g.key h.key ≡ Less → put_group key_order add_own_sums g (h ∷ hs) ≡ g ∷ (h ∷ hs)
put_before g h hs e = ap (λ o. put_by add_own_sums o g h hs (put_group key_order add_own_sums g hs)) e

pub put_onto : (g h : Partial Key Sums) (hs : Gathered) → key_order g.key h.key ≡ Equal → put_group key_order add_own_sums g (h ∷ hs) ≡ onto g h ∷ hs
put_onto g h hs e = ap (λ o. put_by add_own_sums o g h hs (put_group key_order add_own_sums g hs)) e

-- ---- lists

each_front : {X : Type 0} (P : X → Type 0) (xs ys : List X) → Each P (xs ++ ys) → Each P xs
each_front P [] ys h = tt
each_front P (x ∷ xs) ys h = (h.0, each_front P xs ys h.1)

each_back : {X : Type 0} (P : X → Type 0) (xs ys : List X) → Each P (xs ++ ys) → Each P ys
each_back P [] ys h = h
each_back P (x ∷ xs) ys h = each_back P xs ys h.1

each_both : {X : Type 0} (P : X → Type 0) (xs ys : List X) → Each P xs → Each P ys → Each P (xs ++ ys)
each_both P [] ys h k = k
each_both P (x ∷ xs) ys h k = (h.0, each_both P xs ys h.1 k)

each_reversed : {X : Type 0} (P : X → Type 0) (xs : List X) → Each P xs → Each P (reverse xs)
each_reversed P [] h = tt
each_reversed P (x ∷ xs) h = subst (Each P) (sym (reverse-append (x ∷ []) xs)) (each_both P (reverse xs) (x ∷ []) (each_reversed P xs h.1) (h.0, tt))

abbrev pub first_ways : Gathered → List Way
first_ways [] = []
first_ways (g ∷ gs) = ways_in g

pub have_first : (gs : Gathered) → AreAlike gs → HaveWays (first_ways gs) gs
have_first [] a = tt
have_first (g ∷ gs) a = a

pub parts_long : (parts : List Part) (m : GroupEntry) → IsThere (length parts) m → length (parts_of parts m) ≡ m.to - m.from
parts_long parts m h = omega (arith, h.order, h.there, length-take (m.to - m.from) (drop m.from parts), length-drop m.from parts)

take_all : (ps : List Part) → take (length ps) ps ≡ ps
take_all [] = refl
take_all (p ∷ ps) = ap (λ l. p ∷ l) (take_all ps)

pub none_left : (ms : List GroupEntry) → length ms ≡ 0 → ms ≡ []
none_left [] e = refl
none_left (m ∷ ms) e = absurd (omega (arith, e))

-- ---- the new aggregation table

abbrev group_with : Key → ℕ → List Part → Partial Key Sums
group_with key rows parts = record { key = key; part = record { rows = rows; parts = parts } }

-- so many parts behind all others
behind_is : (fresh more : List Part) (w : ℕ) → length more ≡ w → take ((length fresh + w) - length fresh) (drop (length fresh) (fresh ++ more)) ≡ more
behind_is fresh more w e =
    let width : (length fresh + w) - length fresh ≡ length more = omega (arith, e) in
    ap (λ k. take k (drop (length fresh) (fresh ++ more))) width ∙ ap (take (length more)) (drop-append_seam fresh more) ∙ take_all more

stacked_push : (fresh more : List Part) (out : List GroupEntry) (m : GroupEntry) → Each (IsThere (length fresh)) out → stacked (fresh ++ more) (out ++ m ∷ []) ≡ group_of (fresh ++ more) m ∷ stacked fresh out
stacked_push fresh more out m h =
    ap (map (group_of (fresh ++ more))) (reverse-append out (m ∷ []))
    ∙ ap (λ l. group_of (fresh ++ more) m ∷ l) (groups_grow fresh more (reverse out) (each_reversed (IsThere (length fresh)) out h))

stacked_last : (fresh : List Part) (out : List GroupEntry) (last : GroupEntry) → stacked fresh (out ++ last ∷ []) ≡ group_of fresh last ∷ stacked fresh out
stacked_last fresh out last = ap (map (group_of fresh)) (reverse-append out (last ∷ []))

alone_put : (parts fresh : List Part) (out : List GroupEntry) (group : GroupEntry) → IsThere (length parts) group → Each (IsThere (length fresh)) out → stacked (fresh ++ parts_of parts group) (out ++ placed (length fresh) group ∷ []) ≡ group_of parts group ∷ stacked fresh out
alone_put parts fresh out group h k =
    stacked_push fresh (parts_of parts group) out (placed (length fresh) group) k
    ∙ ap (λ g. g ∷ stacked fresh out) (ap (group_with group.key group.rows) (behind_is fresh (parts_of parts group) (width_of group) (parts_long parts group h)))

fit_long : (parts fresh : List Part) (group last : GroupEntry) → TwoFit parts group fresh last → length (add_own_parts (parts_of parts group) (parts_of fresh last)) ≡ width_of group
fit_long parts fresh group last f =
    let mine : length (parts_of parts group) ≡ width_of group = parts_long parts group f.group_there in
    add_long (parts_of parts group) (parts_of fresh last) (mine ∙ sym f.wide ∙ sym (parts_long fresh last f.last_there)) ∙ mine

sum_put : (parts fresh : List Part) (out : List GroupEntry) (group last : GroupEntry) → TwoFit parts group fresh last → Each (IsThere (length fresh)) out → stacked (fresh ++ add_own_parts (parts_of parts group) (parts_of fresh last)) (out ++ summed (length fresh) group last ∷ []) ≡ onto (group_of parts group) (group_of fresh last) ∷ stacked fresh out
sum_put parts fresh out group last f k =
    let sums : List Part = add_own_parts (parts_of parts group) (parts_of fresh last) in
    stacked_push fresh sums out (summed (length fresh) group last) k
    ∙ ap (λ g. g ∷ stacked fresh out) (ap (group_with last.key (group.rows + last.rows)) (behind_is fresh sums (width_of group) (fit_long parts fresh group last f)))

-- ---- where the parts stand

more_there : (a b : ℕ) (ms : List GroupEntry) → a ≤ b → Each (IsThere a) ms → Each (IsThere b) ms
more_there a b [] l h = tt
more_there a b (m ∷ ms) l h = (record { order = IsThere.order h.0; there = omega (arith, l, IsThere.there h.0) }, more_there a b ms l h.1)

behind_there : (fresh more : List Part) (out : List GroupEntry) (m : GroupEntry) → m.from ≡ length fresh → m.to ≡ length fresh + length more → Each (IsThere (length fresh)) out → All (IsThere (length (fresh ++ more))) (out ++ m ∷ [])
behind_there fresh more out m a b h =
    let long : length (fresh ++ more) ≡ length fresh + length more = length-append fresh more in
    All-from_recursion (IsThere (length (fresh ++ more))) (out ++ m ∷ [])
    (each_both (IsThere (length (fresh ++ more))) out (m ∷ []) (more_there (length fresh) (length (fresh ++ more)) out (omega (arith, long)) h) (record { order = omega (arith, a, b); there = omega (arith, b, long) }, tt))

pub alone_there : (parts fresh : List Part) (out : List GroupEntry) (group : GroupEntry) → IsThere (length parts) group → All (IsThere (length fresh)) out → All (IsThere (length (fresh ++ parts_of parts group))) (out ++ placed (length fresh) group ∷ [])
alone_there parts fresh out group h k =
    behind_there fresh (parts_of parts group) out (placed (length fresh) group) refl (ap (λ n. length fresh + n) (sym (parts_long parts group h))) (recursion_from_All (IsThere (length fresh)) out k)

pub sum_there : (parts fresh : List Part) (out : List GroupEntry) (group last : GroupEntry) → TwoFit parts group fresh last → All (IsThere (length fresh)) (out ++ last ∷ []) → All (IsThere (length (fresh ++ add_own_parts (parts_of parts group) (parts_of fresh last)))) (out ++ summed (length fresh) group last ∷ [])
sum_there parts fresh out group last f k =
    behind_there fresh (add_own_parts (parts_of parts group) (parts_of fresh last)) out (summed (length fresh) group last) refl (ap (λ n. length fresh + n) (sym (fit_long parts fresh group last f)))
    (each_front (IsThere (length fresh)) out (last ∷ []) (recursion_from_All (IsThere (length fresh)) (out ++ last ∷ []) k))

-- ---- one group more

pub put_first : (parts fresh : List Part) (group : GroupEntry) → IsThere (length parts) group → stacked (fresh ++ parts_of parts group) ([] ++ placed (length fresh) group ∷ []) ≡ put_group key_order add_own_sums (group_of parts group) (stacked fresh [])
put_first parts fresh group h = alone_put parts fresh [] group h tt

may_first : (parts fresh : List Part) (out : List GroupEntry) (group last : GroupEntry) → MayPut (group_of parts group) (stacked fresh (out ++ last ∷ [])) → MayPut (group_of parts group) (group_of fresh last ∷ stacked fresh out)
may_first parts fresh out group last m = subst (MayPut (group_of parts group)) (stacked_last fresh out last) m

-- the group and the last one may be added up
pub two_fit : (parts fresh : List Part) (out : List GroupEntry) (group last : GroupEntry) → IsThere (length parts) group → All (IsThere (length fresh)) (out ++ last ∷ []) → MayPut (group_of parts group) (stacked fresh (out ++ last ∷ [])) → TwoFit parts group fresh last
two_fit parts fresh out group last h k may =
    let m = may_first parts fresh out group last may in
    let there : IsThere (length fresh) last = (each_back (IsThere (length fresh)) out (last ∷ []) (recursion_from_All (IsThere (length fresh)) (out ++ last ∷ []) k)).0 in
    let same : ways (parts_of parts group) ≡ ways (parts_of fresh last) = m.1 in
    record {
      group_there = h;
      last_there = there;
      wide = sym (parts_long fresh last there) ∙ sym (same_long (parts_of parts group) (parts_of fresh last) same) ∙ parts_long parts group h;
      rows = m.4;
      add = all_may_add group.rows last.rows (parts_of parts group) (parts_of fresh last) m.4 m.2 m.3;
    }

pub put_sums_up : (parts fresh : List Part) (out : List GroupEntry) (group last : GroupEntry) → IsThere (length parts) group → All (IsThere (length fresh)) (out ++ last ∷ []) → MayPut (group_of parts group) (stacked fresh (out ++ last ∷ [])) → is_eq (key_order group.key last.key) ≡ true → stacked (fresh ++ add_own_parts (parts_of parts group) (parts_of fresh last)) (out ++ summed (length fresh) group last ∷ []) ≡ put_group key_order add_own_sums (group_of parts group) (stacked fresh (out ++ last ∷ []))
put_sums_up parts fresh out group last h k may e =
    let front : Each (IsThere (length fresh)) out = each_front (IsThere (length fresh)) out (last ∷ []) (recursion_from_All (IsThere (length fresh)) (out ++ last ∷ []) k) in
    sum_put parts fresh out group last (two_fit parts fresh out group last h k may) front
    ∙ sym (ap (put_group key_order add_own_sums (group_of parts group)) (stacked_last fresh out last) ∙ put_onto (group_of parts group) (group_of fresh last) (stacked fresh out) (is_equal (key_order group.key last.key) e))

pub put_before_last : (parts fresh : List Part) (out : List GroupEntry) (group last : GroupEntry) → IsThere (length parts) group → All (IsThere (length fresh)) (out ++ last ∷ []) → MayPut (group_of parts group) (stacked fresh (out ++ last ∷ [])) → is_eq (key_order group.key last.key) ≡ false → stacked (fresh ++ parts_of parts group) ((out ++ last ∷ []) ++ placed (length fresh) group ∷ []) ≡ put_group key_order add_own_sums (group_of parts group) (stacked fresh (out ++ last ∷ []))
put_before_last parts fresh out group last h k may e =
    let m = may_first parts fresh out group last may in
    alone_put parts fresh (out ++ last ∷ []) group h (recursion_from_All (IsThere (length fresh)) (out ++ last ∷ []) k)
    ∙ ap (λ s. group_of parts group ∷ s) (stacked_last fresh out last)
    ∙ sym (ap (put_group key_order add_own_sums (group_of parts group)) (stacked_last fresh out last) ∙ put_before (group_of parts group) (group_of fresh last) (stacked fresh out) (is_less group.key last.key m.0 e))

-- ---- what is gathered of small groups is small

small_by : (own : List Way) (g h : Partial Key Sums) (hs put : Gathered) → ways_in g ≡ own → ways_in h ≡ own → IsSmallGroup g → IsSmallGroup h → Each IsSmallGroup hs → Each IsSmallGroup put → (o : Ordering) → Each IsSmallGroup (put_by add_own_sums o g h hs put)
small_by own g h hs put a b sg sh shs sp Less = (sg, (sh, shs))
small_by own g h hs put a b sg sh shs sp Equal = (all_small g.part.rows h.part.rows g.part.parts h.part.parts (a ∙ sym b) sg sh, shs)
small_by own g h hs put a b sg sh shs sp Greater = (sh, sp)

put_small : (own : List Way) (g : Partial Key Sums) (hs : Gathered) → ways_in g ≡ own → HaveWays own hs → IsSmallGroup g → Each IsSmallGroup hs → Each IsSmallGroup (put_group key_order add_own_sums g hs)
put_small own g [] a b sg shs = (sg, tt)
put_small own g (h ∷ hs) a b sg shs = small_by own g h hs (put_group key_order add_own_sums g hs) a b.0 sg shs.0 shs.1 (put_small own g hs a b.1 sg shs.1) (key_order g.key h.key)

gathered_small : (own : List Way) (gs : Gathered) → HaveWays own gs → Each IsSmallGroup gs → Each IsSmallGroup (gather key_order add_own_sums gs)
gathered_small own [] h s = tt
gathered_small own (g ∷ gs) h s = put_small own g (gather key_order add_own_sums gs) h.0 (gathered_have own gs h.1) s.0 (gathered_small own gs h.1 s.1)

-- what holds of all keys holds of those that are gathered
gathered_keys : (Q : Key → Type 0) (gs : Gathered) → Each (λ g. Q g.key) gs → Each (λ g. Q g.key) (gather key_order add_own_sums gs)
gathered_keys Q [] h = tt
gathered_keys Q (g ∷ gs) h = put_each key_order add_own_sums Q g (gather key_order add_own_sums gs) h.0 (gathered_keys Q gs h.1)

-- the order plays no part
pub as_permuted : (parts : List Part) (xs ys : List GroupEntry) → AreAddable parts xs → IsPermutation xs ys → IsAs parts xs parts ys
as_permuted parts xs ys p m =
    let G : GroupEntry → Partial Key Sums = group_of parts in
    let own : List Way = first_ways (map G xs) in
    let grouped : IsPermutation (map G xs) (map G ys) = IsPermutation-map G xs ys m in
    let have : HaveWays own (map G xs) = have_first (map G xs) p.alike in
    record {
      addable = record {
        there = All-permutation (IsThere (length parts)) xs ys m p.there;
        alike = alike_from own (map G ys) (recursion_from_All (λ g. ways_in g ≡ own) (map G ys) (All-permutation (λ g. ways_in g ≡ own) (map G xs) (map G ys) grouped (All-from_recursion (λ g. ways_in g ≡ own) (map G xs) have)));
        small = recursion_from_All IsSmallGroup (map G ys) (All-permutation IsSmallGroup (map G xs) (map G ys) grouped (All-from_recursion IsSmallGroup (map G xs) p.small));
        few = omega (arith, p.few, sum_by-IsPermutation (λ (g : Partial Key Sums). g.part.rows) (map G xs) (map G ys) grouped);
      };
      same = own_permuted own (map G xs) (map G ys) have grouped;
    }

-- ---- how many parts a group has

abbrev HaveWidth : ℕ → List GroupEntry → Type 0
HaveWidth n groups = Each (λ m. width_of m ≡ n) groups

ways_long : (parts : List Part) (m : GroupEntry) (own : List Way) → IsThere (length parts) m → ways_in (group_of parts m) ≡ own → width_of m ≡ length own
ways_long parts m own h e = sym (parts_long parts m h) ∙ sym (length-map (parts_of parts m) (λ p. p.way)) ∙ ap length e

each_width : (parts : List Part) (own : List Way) (n : ℕ) (groups : List GroupEntry) → n ≡ length own → Each (IsThere (length parts)) groups → HaveWays own (map (group_of parts) groups) → HaveWidth n groups
each_width parts own n [] e h w = tt
each_width parts own n (m ∷ groups) e h w = (ways_long parts m own h.0 w.0 ∙ sym e, each_width parts own n groups e h.1 w.1)

pub same_width : (parts : List Part) (groups : List GroupEntry) → AreAddable parts groups → HaveWidth (width_in groups) groups
same_width parts [] p = tt
same_width parts (m ∷ groups) p =
    let there : Each (IsThere (length parts)) (m ∷ groups) = recursion_from_All (IsThere (length parts)) (m ∷ groups) p.there in
    each_width parts (ways_in (group_of parts m)) (width_of m) (m ∷ groups) (ways_long parts m (ways_in (group_of parts m)) there.0 refl) there p.alike

-- the first of some groups
pub first_width : (groups : List GroupEntry) (d : GroupEntry) → 0 < length groups → width_of (get_or groups 0 d) ≡ width_in groups
first_width [] d h = absurd (omega (arith, h))
first_width (m ∷ groups) d h = refl

pub no_width : (groups : List GroupEntry) → length groups ≡ 0 → 0 ≡ width_in groups
no_width [] e = refl
no_width (m ∷ groups) e = absurd (omega (arith, e))

-- ---- the loop

abbrev group_entry_order : GroupEntry → GroupEntry → Ordering
group_entry_order = on (λ m. m.key) key_order

-- The groups that were taken are gathered in the new table; the others are left.
pub record Halfway (parts : List Part) (groups left : List GroupEntry) (fresh : List Part) (out : List GroupEntry) : Type 0 where
  pub taken : List GroupEntry
  pub addable : AreAddable parts (left ++ taken)
  pub same : gathered_of parts (left ++ taken) ≡ gathered_of parts groups
  pub up : Ascends group_entry_order (left ++ taken)
  pub wide : HaveWidth (width_in groups) left
  pub done : stacked fresh out ≡ gathered_of parts taken
  pub there : All (IsThere (length fresh)) out
  pub own : HaveOwnParts out

pub at_first : (parts : List Part) (groups sorted : List GroupEntry) (fresh : List Part) (out : List GroupEntry) → AreAddable parts groups → IsPermutation groups sorted → IsSorted group_entry_order sorted → fresh ≡ [] → out ≡ [] → Halfway parts groups sorted fresh out
at_first parts groups sorted fresh out p m s e f =
    let same : IsAs parts groups parts sorted = as_permuted parts groups sorted p m in
    let whole : sorted ++ [] ≡ sorted = append-nil sorted in
    record {
      taken = [];
      addable = subst (AreAddable parts) (sym whole) same.addable;
      same = ap (gathered_of parts) whole ∙ same.same;
      up = subst (Ascends group_entry_order) (sym whole) (sorted_ascends group_entry_order (on_total (λ (x : GroupEntry). x.key) key_total) sorted s);
      wide = recursion_from_All (λ x. width_of x ≡ width_in groups) sorted (All-permutation (λ x. width_of x ≡ width_in groups) groups sorted m (All-from_recursion (λ x. width_of x ≡ width_in groups) groups (same_width parts groups p)));
      done = ap (λ o. stacked fresh o) f;
      there = subst (λ o. All (IsThere (length fresh)) o) (sym f) (All-from_recursion (IsThere (length fresh)) [] tt);
      own = subst HaveOwnParts (sym f) tt;
    }

ascends_back : (xs ys : List GroupEntry) → Ascends group_entry_order (xs ++ ys) → Ascends group_entry_order ys
ascends_back [] ys h = h
ascends_back (x ∷ xs) ys h = ascends_back xs ys h.1

-- What is known of the next group.
pub record Next (parts : List Part) (groups rest taken : List GroupEntry) (group : GroupEntry) : Type 0 where
  pub addable : AreAddable parts (rest ++ (group ∷ taken))
  pub same : gathered_of parts (rest ++ (group ∷ taken)) ≡ gathered_of parts groups
  pub up : Ascends group_entry_order (rest ++ (group ∷ taken))
  pub wide : HaveWidth (width_in groups) (rest ++ (group ∷ []))

pub next_of : (parts : List Part) (groups left rest : List GroupEntry) (group : GroupEntry) (fresh : List Part) (out : List GroupEntry) (h : Halfway parts groups left fresh out) → left ≡ rest ++ (group ∷ []) → Next parts groups rest h.taken group
next_of parts groups left rest group fresh out h e =
    let whole : left ++ h.taken ≡ rest ++ (group ∷ h.taken) = ap (λ l. l ++ h.taken) e ∙ append_assoc rest (group ∷ []) h.taken in
    record {
      addable = subst (AreAddable parts) whole h.addable;
      same = ap (gathered_of parts) (sym whole) ∙ h.same;
      up = subst (Ascends group_entry_order) whole h.up;
      wide = subst (HaveWidth (width_in groups)) e h.wide;
    }

pub next_there : (parts : List Part) (groups rest taken : List GroupEntry) (group : GroupEntry) → Next parts groups rest taken group → IsThere (length parts) group
next_there parts groups rest taken group n = (each_back (IsThere (length parts)) rest (group ∷ taken) (recursion_from_All (IsThere (length parts)) (rest ++ (group ∷ taken)) n.addable.there)).0

pub next_wide : (parts : List Part) (groups rest taken : List GroupEntry) (group : GroupEntry) → Next parts groups rest taken group → width_of group ≡ width_in groups
next_wide parts groups rest taken group n = (each_back (λ m. width_of m ≡ width_in groups) rest (group ∷ []) n.wide).0

each_key : (parts : List Part) (Q : Key → Type 0) (groups : List GroupEntry) → Each (λ m. Q m.key) groups → Each (λ g. Q g.key) (map (group_of parts) groups)
each_key parts Q [] h = tt
each_key parts Q (m ∷ groups) h = (h.0, each_key parts Q groups h.1)

-- by the first of what is gathered
may_by : (own : List Way) (g : Partial Key Sums) (hs : Gathered) → Each (λ h. is_lt (key_order h.key g.key) ≡ false) hs → ways_in g ≡ own → HaveWays own hs → IsSmallGroup g → Each IsSmallGroup hs → g.part.rows + rows_in hs ≤ most_rows → MayPut g hs
may_by own g [] k a b s t r = tt
may_by own g (h ∷ hs) k a b s t r = (k.0, a ∙ sym b.0, s, t.0, omega (arith, r, sum_by-cons (λ (x : Partial Key Sums). x.part.rows) h hs))

pub may_put : (parts : List Part) (groups rest taken : List GroupEntry) (group : GroupEntry) → Next parts groups rest taken group → MayPut (group_of parts group) (gathered_of parts taken)
may_put parts groups rest taken group n =
    let G : GroupEntry → Partial Key Sums = group_of parts in
    let all : List GroupEntry = rest ++ (group ∷ taken) in
    let grouped : map G all ≡ map G rest ++ (G group ∷ map G taken) = map-append G rest (group ∷ taken) in
    let own : List Way = first_ways (map G all) in
    let w = each_back (λ g. ways_in g ≡ own) (map G rest) (G group ∷ map G taken) (subst (HaveWays own) grouped (have_first (map G all) n.addable.alike)) in
    let s = each_back IsSmallGroup (map G rest) (G group ∷ map G taken) (subst (Each IsSmallGroup) grouped n.addable.small) in
    let u = ascends_back rest (group ∷ taken) n.up in
    may_by own (G group) (gathered_of parts taken)
    (gathered_keys (λ k. is_lt (key_order k group.key) ≡ false) (map G taken) (each_key parts (λ k. is_lt (key_order k group.key) ≡ false) taken u.0))
    w.0 (gathered_have own (map G taken) w.1) s.0 (gathered_small own (map G taken) w.1 s.1)
    (omega (arith, n.addable.few, ap rows_in grouped, sum_by-append (λ (x : Partial Key Sums). x.part.rows) (map G rest) (G group ∷ map G taken), sum_by-cons (λ (x : Partial Key Sums). x.part.rows) (G group) (map G taken), own_rows own (map G taken) w.1))

pub one_more : (parts : List Part) (groups left rest : List GroupEntry) (group : GroupEntry) (fresh now : List Part) (out new : List GroupEntry) (h : Halfway parts groups left fresh out) → Next parts groups rest h.taken group → stacked now new ≡ put_group key_order add_own_sums (group_of parts group) (stacked fresh out) → All (IsThere (length now)) new → HaveOwnParts new → Halfway parts groups rest now new
one_more parts groups left rest group fresh now out new h n e t o = record {
  taken = group ∷ h.taken;
  addable = n.addable;
  same = n.same;
  up = n.up;
  wide = each_front (λ m. width_of m ≡ width_in groups) rest (group ∷ []) n.wide;
  done = e ∙ ap (put_group key_order add_own_sums (group_of parts group)) h.done;
  there = t;
  own = o;
}

-- room for the parts of one group goes
pub mul_less : (n m w : ℕ) → m + 1 ≡ n → n * w ≡ m * w + w
mul_less n m w e =
    let next : n ≡ suc m = omega (arith, e) in
    ap (λ k. k * w) next ∙ omega arith

-- ---- what is left in the end

pub consolidated_is : (parts : List Part) (groups left : List GroupEntry) (fresh : List Part) (out : List GroupEntry) → Halfway parts groups left fresh out → left ≡ [] → stacked fresh out ≡ gathered_of parts groups
consolidated_is parts groups left fresh out h e = h.done ∙ sym (ap (λ l. gathered_of parts (l ++ h.taken)) e) ∙ h.same

-- a consolidated table can be added to
pub consolidated_addable : (parts : List Part) (groups : List GroupEntry) (fresh : List Part) (new : List GroupEntry) → AreAddable parts groups → map (group_of fresh) new ≡ gathered_of parts groups → All (IsThere (length fresh)) new → AreAddable fresh new
consolidated_addable parts groups fresh new p e t =
    let gs : Gathered = map (group_of parts) groups in
    let own : List Way = first_ways gs in
    let have : HaveWays own gs = have_first gs p.alike in
    record {
      there = t;
      alike = subst AreAlike (sym e) (alike_from own (gathered_of parts groups) (gathered_have own gs have));
      small = subst (Each IsSmallGroup) (sym e) (gathered_small own gs have p.small);
      few = omega (arith, p.few, ap rows_in e, own_rows own gs have);
    }

pub reversed_there : (fresh : List Part) (out : List GroupEntry) → All (IsThere (length fresh)) out → All (IsThere (length fresh)) (reverse out)
reversed_there fresh out h = All-from_recursion (IsThere (length fresh)) (reverse out) (each_reversed (IsThere (length fresh)) out (recursion_from_All (IsThere (length fresh)) out h))

-- a table that was consolidated has the same view
pub consolidated_as : (parts : List Part) (groups : List GroupEntry) (fresh : List Part) (new : List GroupEntry) → AreAddable parts groups → AreAddable fresh new → map (group_of fresh) new ≡ gathered_of parts groups → IsAs parts groups fresh new
consolidated_as parts groups fresh new p q e =
    let gs : Gathered = map (group_of parts) groups in
    record {
      addable = q;
      same = ap (gather key_order add_own_sums) e ∙ own_again (first_ways gs) gs (have_first gs p.alike);
    }

-- so has a table that stayed
pub stayed_as : (parts : List Part) (groups : List GroupEntry) (now : List Part) (left : List GroupEntry) → AreAddable parts groups → now ≡ parts → left ≡ groups → IsAs parts groups now left
stayed_as parts groups now left p e f =
    subst (λ (ps : List Part). IsAs parts groups ps left) (sym e) (subst (λ (ms : List GroupEntry). IsAs parts groups parts ms) (sym f) (record { addable = p; same = refl }))

-- ---- consolidation leaves at most as many groups as there were

put_length : (g h : Partial Key Sums) (hs put : Gathered) (o : Ordering) → length put ≤ length hs + 1 → length (put_by add_own_sums o g h hs put) ≤ length (h ∷ hs) + 1
put_length g h hs put Less k = omega arith
put_length g h hs put Equal k = omega arith
put_length g h hs put Greater k = omega (arith, k)

put_short : (g : Partial Key Sums) (hs : Gathered) → length (put_group key_order add_own_sums g hs) ≤ length hs + 1
put_short g [] = omega arith
put_short g (h ∷ hs) = put_length g h hs (put_group key_order add_own_sums g hs) (key_order g.key h.key) (put_short g hs)

pub gathered_short : (gs : Gathered) → length (gather key_order add_own_sums gs) ≤ length gs
gathered_short [] = omega arith
gathered_short (g ∷ gs) = omega (arith, put_short g (gather key_order add_own_sums gs), gathered_short gs)

pub gathered_of_short : (parts : List Part) (groups : List GroupEntry) → length (gathered_of parts groups) ≤ length groups
gathered_of_short parts groups = omega (arith, gathered_short (map (group_of parts) groups), length-map groups (group_of parts))
