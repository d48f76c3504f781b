-- A group of another aggregation table is added to the one of its key.
use Rattle.std.proofs.Common.{◌≡◌, ℕ, ◌+◌, ◌<◌, ◌≤◌, true, List, [], ◌∷◌, ◌++◌, map, length, take, drop, set, refl, sym, ap, subst, ◌∙◌, arith, suc, is_eq, IsPermutation, Equal}
use Rattle.std.specs.List.{AllByRecursion as Each}
use Rattle.std.specs.Prelude.{slice_range}
use Rattle.std.proofs.lemmas.List.{map-append, set-get_or, set_split}
use Rattle.std.proofs.lemmas.List.Elements.{All-from_recursion, recursion_from_All}
use Rattle.std.proofs.lemmas.List.Sums.{sum_by-append, sum_by-cons}
use Rattle.std.proofs.lemmas.List.Sorted.{IsPermutation-append_comm, IsPermutation-cons, IsPermutation-middle, IsPermutation-sym, IsPermutation-to_front, IsPermutation-trans}
use Rattle.answer_rules.specs.declared.way.Way.{Way}
use Rattle.answer_rules.specs.Gather.{Partial, gather}
use Rattle.answer_rules.specs.Keys.{Key, key_order}
use Rattle.answer_rules.specs.Parts.{Part, Sums, add_own_parts, add_own_sums}
use Rattle.answer_rules.specs.Small.{IsSmallGroup, rows_in}
use Rattle.answer_rules.proofs.OwnWays.{own_alike, own_joined, own_permuted, own_rows}
use Rattle.partial_groups.specs.Adding.{AllMayAdd, parts_of}
use Rattle.partial_groups.specs.declared.group_entry.GroupEntry.{GroupEntry}
use Rattle.partial_groups.specs.Groups.{AreAddable, AreAlike, Gathered, HaveWays, IsThere, MayGather, gathered_of, group_of, most_rows, ways_in, width_of}
use Rattle.partial_groups.specs.Sharing.{HaveOwnParts, KeepsRest, group_entry_in, grown}
use Rattle.partial_groups.proofs.Owning.{each_other, kept_groups, own_around, own_grown}
use Rattle.partial_groups.proofs.Appending.{alike_from, have_from}
use Rattle.partial_groups.proofs.Consolidating.{all_may_add, all_small, is_equal, onto, parts_long, put_onto, same_long, sum_ways}

-- ---- the groups around one

pub parted_at : (groups : List GroupEntry) (i : ℕ) → i < length groups → groups ≡ take i groups ++ group_entry_in groups i ∷ drop (suc i) groups
parted_at groups i l =
    sym (set-get_or groups i (record { key = []; rows = 0; from = 0; to = 0 })) ∙ set_split groups i (group_entry_in groups i) l

each_here : {X : Type 0} (P : X → Type 0) (xs ys : List X) (a : X) → Each P (xs ++ a ∷ ys) → P a
each_here P [] ys a h = h.0
each_here P (x ∷ xs) ys a h = each_here P xs ys a h.1

each_around : {X : Type 0} (P : X → Type 0) (xs ys : List X) (a : X) → Each P (xs ++ a ∷ ys) → Each P xs × Each P ys
each_around P [] ys a h = (tt, h.1)
each_around P (x ∷ xs) ys a h = ((h.0, (each_around P xs ys a h.1).0), (each_around P xs ys a h.1).1)

-- ---- one of some groups is added up with a further one

-- the order of two lists of groups
at_end : (A B : Gathered) (x : Partial Key Sums) → IsPermutation (A ++ x ∷ B) ((A ++ B) ++ x ∷ [])
at_end A B x =
    IsPermutation-trans (A ++ x ∷ B) (x ∷ (A ++ B)) ((A ++ B) ++ x ∷ []) (IsPermutation-middle A x B)
    (IsPermutation-sym ((A ++ B) ++ x ∷ []) (x ∷ (A ++ B)) (IsPermutation-to_front (A ++ B) x))

both_at_end : (A B : Gathered) (g h : Partial Key Sums) → IsPermutation ((A ++ h ∷ B) ++ g ∷ []) ((A ++ B) ++ g ∷ (h ∷ []))
both_at_end A B g h =
    IsPermutation-trans ((A ++ h ∷ B) ++ g ∷ []) (g ∷ (A ++ h ∷ B)) ((A ++ B) ++ g ∷ (h ∷ [])) (IsPermutation-to_front (A ++ h ∷ B) g)
    (IsPermutation-trans (g ∷ (A ++ h ∷ B)) (g ∷ (h ∷ (A ++ B))) ((A ++ B) ++ g ∷ (h ∷ [])) (IsPermutation-cons g (A ++ h ∷ B) (h ∷ (A ++ B)) (IsPermutation-middle A h B))
    (IsPermutation-append_comm (g ∷ (h ∷ [])) (A ++ B)))

have_both : (own : List Way) (xs ys : Gathered) → HaveWays own xs → HaveWays own ys → HaveWays own (xs ++ ys)
have_both own [] ys h k = k
have_both own (x ∷ xs) ys h k = (h.0, have_both own xs ys h.1 k)

onto_ways : (own : List Way) (g h : Partial Key Sums) → ways_in g ≡ own → ways_in h ≡ own → ways_in (onto g h) ≡ own
onto_ways own g h a b = sum_ways g.part.parts h.part.parts (a ∙ sym b) ∙ a

pub added_up : (own : List Way) (A B : Gathered) (g h : Partial Key Sums) → HaveWays own (A ++ h ∷ B) → ways_in g ≡ own → key_order g.key h.key ≡ Equal → gather key_order add_own_sums (A ++ onto g h ∷ B) ≡ gather key_order add_own_sums (gather key_order add_own_sums (A ++ h ∷ B) ++ g ∷ [])
added_up own A B g h w a e =
    let b : ways_in h ≡ own = each_here (λ x. ways_in x ≡ own) A B h w in
    let around = each_around (λ x. ways_in x ≡ own) A B h w in
    let rest : HaveWays own (A ++ B) = have_both own A B around.0 around.1 in
    let sum : HaveWays own (onto g h ∷ []) = (onto_ways own g h a b, tt) in
    let two : HaveWays own (g ∷ (h ∷ [])) = (a, (b, tt)) in
    let one : HaveWays own (g ∷ []) = (a, tt) in
    let most : HaveWays own ((A ++ h ∷ B) ++ g ∷ []) = have_both own (A ++ h ∷ B) (g ∷ []) w one in
    sym (own_permuted own (A ++ onto g h ∷ B) ((A ++ B) ++ onto g h ∷ []) (each_other (λ x. ways_in x ≡ own) A B h (onto g h) sum.0 w) (at_end A B (onto g h)))
    ∙ own_alike own (A ++ B) (g ∷ (h ∷ [])) (A ++ B) (onto g h ∷ []) rest two rest sum refl (sym (put_onto g h [] e))
    ∙ own_permuted own ((A ++ h ∷ B) ++ g ∷ []) ((A ++ B) ++ g ∷ (h ∷ [])) most (both_at_end A B g h)
    ∙ sym (own_joined own (A ++ h ∷ B) (g ∷ []) w one)

-- ---- the aggregation table

-- What is known of a group, of the one of its key in an aggregation table, and of that table.
pub record Meets (own : List Way) (parts : List Part) (xs ys : List GroupEntry) (m : GroupEntry) (more : List Part) (other : GroupEntry) : Type 0 where
  pub addable : AreAddable parts (xs ++ m ∷ ys)
  pub apart : HaveOwnParts (xs ++ m ∷ ys)
  pub have : HaveWays own (map (group_of parts) (xs ++ m ∷ ys))
  pub there : IsThere (length more) other
  pub ways : ways_in (group_of more other) ≡ own
  pub small : IsSmallGroup (group_of more other)
  pub few : rows_in (map (group_of parts) (xs ++ m ∷ ys)) + other.rows ≤ most_rows
  pub key : key_order other.key m.key ≡ Equal

-- What the aggregate states of the table became.
pub record Became (parts now : List Part) (m : GroupEntry) (more : List Part) (other : GroupEntry) : Type 0 where
  pub long : length now ≡ length parts
  pub sums : parts_of now m ≡ add_own_parts (parts_of more other) (parts_of parts m)
  pub rest : KeepsRest parts now m.from m.to

groups_around : (parts : List Part) (xs ys : List GroupEntry) (m : GroupEntry) → map (group_of parts) (xs ++ m ∷ ys) ≡ map (group_of parts) xs ++ group_of parts m ∷ map (group_of parts) ys
groups_around parts xs ys m = map-append (group_of parts) xs (m ∷ ys)

all_there : (parts : List Part) (xs ys : List GroupEntry) (m : GroupEntry) → AreAddable parts (xs ++ m ∷ ys) → Each (IsThere (length parts)) (xs ++ m ∷ ys)
all_there parts xs ys m p = recursion_from_All (IsThere (length parts)) (xs ++ m ∷ ys) p.there

pub grown_groups : (own : List Way) (parts now : List Part) (xs ys : List GroupEntry) (m : GroupEntry) (more : List Part) (other : GroupEntry) → Meets own parts xs ys m more other → Became parts now m more other → map (group_of now) (xs ++ grown other.rows m ∷ ys) ≡ map (group_of parts) xs ++ onto (group_of more other) (group_of parts m) ∷ map (group_of parts) ys
grown_groups own parts now xs ys m more other k b =
    let apart = own_around xs ys m k.apart in
    let there = each_around (IsThere (length parts)) xs ys m (all_there parts xs ys m k.addable) in
    groups_around now xs ys (grown other.rows m)
    ∙ ap (λ gs. gs ++ group_of now (grown other.rows m) ∷ map (group_of now) ys) (kept_groups parts now m xs b.long b.rest apart.0 there.0)
    ∙ ap (λ gs. map (group_of parts) xs ++ group_of now (grown other.rows m) ∷ gs) (kept_groups parts now m ys b.long b.rest apart.1 there.1)
    ∙ ap (λ (ps : List Part). let g : Partial Key Sums = record { key = m.key; part = record { rows = other.rows + m.rows; parts = ps } } in map (group_of parts) xs ++ g ∷ map (group_of parts) ys) b.sums

around_have : (own : List Way) (parts : List Part) (xs ys : List GroupEntry) (m : GroupEntry) (more : List Part) (other : GroupEntry) → Meets own parts xs ys m more other → HaveWays own (map (group_of parts) xs ++ group_of parts m ∷ map (group_of parts) ys)
around_have own parts xs ys m more other k = subst (HaveWays own) (groups_around parts xs ys m) k.have

pub grown_gathered_of : (own : List Way) (parts now : List Part) (xs ys : List GroupEntry) (m : GroupEntry) (more : List Part) (other : GroupEntry) → Meets own parts xs ys m more other → Became parts now m more other → gathered_of now (xs ++ grown other.rows m ∷ ys) ≡ gather key_order add_own_sums (gathered_of parts (xs ++ m ∷ ys) ++ group_of more other ∷ [])
grown_gathered_of own parts now xs ys m more other k b =
    ap (gather key_order add_own_sums) (grown_groups own parts now xs ys m more other k b)
    ∙ added_up own (map (group_of parts) xs) (map (group_of parts) ys) (group_of more other) (group_of parts m) (around_have own parts xs ys m more other k) k.ways k.key
    ∙ ap (λ gs. gather key_order add_own_sums (gather key_order add_own_sums gs ++ group_of more other ∷ [])) (sym (groups_around parts xs ys m))

rows_around : (A B : Gathered) (h : Partial Key Sums) → rows_in (A ++ h ∷ B) ≡ rows_in A + (h.part.rows + rows_in B)
rows_around A B h = omega (arith, sum_by-append (λ (x : Partial Key Sums). x.part.rows) A (h ∷ B), sum_by-cons (λ (x : Partial Key Sums). x.part.rows) h B)

pub grown_addable : (own : List Way) (parts now : List Part) (xs ys : List GroupEntry) (m : GroupEntry) (more : List Part) (other : GroupEntry) → Meets own parts xs ys m more other → Became parts now m more other → AreAddable now (xs ++ grown other.rows m ∷ ys)
grown_addable own parts now xs ys m more other k b =
    let A : Gathered = map (group_of parts) xs in
    let B : Gathered = map (group_of parts) ys in
    let g : Partial Key Sums = group_of more other in
    let h : Partial Key Sums = group_of parts m in
    let is : map (group_of now) (xs ++ grown other.rows m ∷ ys) ≡ A ++ onto g h ∷ B = grown_groups own parts now xs ys m more other k b in
    let have : HaveWays own (A ++ h ∷ B) = around_have own parts xs ys m more other k in
    let way : ways_in h ≡ own = each_here (λ x. ways_in x ≡ own) A B h have in
    let small : Each IsSmallGroup (A ++ h ∷ B) = subst (Each IsSmallGroup) (groups_around parts xs ys m) k.addable.small in
    let there : Each (IsThere (length parts)) (xs ++ m ∷ ys) = all_there parts xs ys m k.addable in
    let at : IsThere (length parts) m = each_here (IsThere (length parts)) xs ys m there in
    record {
      there = All-from_recursion (IsThere (length now)) (xs ++ grown other.rows m ∷ ys)
          (subst (λ n. Each (IsThere n) (xs ++ grown other.rows m ∷ ys)) (sym b.long)
          (each_other (IsThere (length parts)) xs ys m (grown other.rows m) (record { order = at.order; there = at.there }) there));
      alike = subst AreAlike (sym is) (alike_from own (A ++ onto g h ∷ B) (each_other (λ x. ways_in x ≡ own) A B h (onto g h) (onto_ways own g h k.ways way) have));
      small = subst (Each IsSmallGroup) (sym is)
          (each_other IsSmallGroup A B h (onto g h)
          (all_small g.part.rows h.part.rows g.part.parts h.part.parts (k.ways ∙ sym way) k.small (each_here IsSmallGroup A B h small))
          small);
      few = omega (arith, k.few, ap rows_in (groups_around parts xs ys m), ap rows_in is, rows_around A B h, rows_around A B (onto g h));
    }

-- the parts of both may be added up, and so may their rows
pub meets_add : (own : List Way) (parts : List Part) (xs ys : List GroupEntry) (m : GroupEntry) (more : List Part) (other : GroupEntry) → Meets own parts xs ys m more other → AllMayAdd (parts_of more other) (parts_of parts m) × (other.rows + m.rows ≤ most_rows) × (width_of m ≡ width_of other) × IsThere (length parts) m
meets_add own parts xs ys m more other k =
    let A : Gathered = map (group_of parts) xs in
    let B : Gathered = map (group_of parts) ys in
    let h : Partial Key Sums = group_of parts m in
    let small : Each IsSmallGroup (A ++ h ∷ B) = subst (Each IsSmallGroup) (groups_around parts xs ys m) k.addable.small in
    let way : ways_in h ≡ own = each_here (λ x. ways_in x ≡ own) A B h (around_have own parts xs ys m more other k) in
    let at : IsThere (length parts) m = each_here (IsThere (length parts)) xs ys m (all_there parts xs ys m k.addable) in
    let rows : other.rows + m.rows ≤ most_rows = omega (arith, k.few, ap rows_in (groups_around parts xs ys m), rows_around A B h) in (
      all_may_add other.rows m.rows (parts_of more other) (parts_of parts m) rows k.small (each_here IsSmallGroup A B h small),
      rows,
      sym (parts_long parts m at) ∙ same_long (parts_of parts m) (parts_of more other) (way ∙ sym k.ways) ∙ parts_long more other k.there,
      at,
    )

-- what is known of a group, of one of its key, and of the aggregation table
pub meets_of : (parts : List Part) (groups : List GroupEntry) (i : ℕ) (more : List Part) (other : GroupEntry) → (a : MayGather (gathered_of parts groups) (group_of more other ∷ [])) → i < length groups → is_eq (key_order other.key (group_entry_in groups i).key) ≡ true → AreAddable parts groups → HaveOwnParts groups → IsThere (length more) other → IsSmallGroup (group_of more other) → Meets a.own parts (take i groups) (drop (suc i) groups) (group_entry_in groups i) more other
meets_of parts groups i more other a l key addable apart there small =
    let is : groups ≡ take i groups ++ group_entry_in groups i ∷ drop (suc i) groups = parted_at groups i l in
    let have : HaveWays a.own (map (group_of parts) groups) = have_from a.own (map (group_of parts) groups) addable.alike a.this in
    record {
      addable = subst (AreAddable parts) is addable;
      apart = subst HaveOwnParts is apart;
      have = subst (λ (ms : List GroupEntry). HaveWays a.own (map (group_of parts) ms)) is have;
      there = there;
      ways = a.that.0;
      small = small;
      few = omega (
        arith,
        a.few,
        own_rows a.own (map (group_of parts) groups) have,
        ap (λ (ms : List GroupEntry). rows_in (map (group_of parts) ms)) is,
        sum_by-cons (λ (x : Partial Key Sums). x.part.rows) (group_of more other) [],
      );
      key = is_equal (key_order other.key (group_entry_in groups i).key) key;
    }

-- ---- at the position of a group of the table

-- the parts of the group are those of these places
pub became_of : (parts now more : List Part) (m other : GroupEntry) (from w : ℕ) → from ≡ m.from → w ≡ width_of other → width_of m ≡ width_of other → IsThere (length parts) m → IsThere (length more) other → length now ≡ length parts → slice_range now from (from + w) ≡ add_own_parts (slice_range more other.from (other.from + w)) (slice_range parts from (from + w)) → KeepsRest parts now from (from + w) → Became parts now m more other
became_of parts now more m other from w e f g h k long sums rest =
    let mine : from + w ≡ m.to = omega (arith, e, f, g, h.order) in
    let theirs : other.from + w ≡ other.to = omega (arith, f, k.order) in
    let begin : m.from ≡ from = sym e in
    record {
      long = long;
      sums = ap (λ n. slice_range now n m.to) begin
          ∙ ap (slice_range now from) (sym mine)
          ∙ sums
          ∙ ap (λ n. add_own_parts (slice_range more other.from n) (slice_range parts from (from + w))) theirs
          ∙ ap (λ n. add_own_parts (parts_of more other) (slice_range parts from n)) mine
          ∙ ap (λ n. add_own_parts (parts_of more other) (slice_range parts n m.to)) e;
      rest = λ i out. rest i (λ p q. out (omega (arith, p, e)) (omega (arith, q, mine)));
    }

-- so are the parts that may be added up
pub add_of : (parts more : List Part) (m other : GroupEntry) (from w : ℕ) → from ≡ m.from → w ≡ width_of other → width_of m ≡ width_of other → IsThere (length parts) m → IsThere (length more) other → AllMayAdd (parts_of more other) (parts_of parts m) → AllMayAdd (slice_range more other.from (other.from + w)) (slice_range parts from (from + w))
add_of parts more m other from w e f g h k a =
    let mine : from + w ≡ m.to = omega (arith, e, f, g, h.order) in
    let theirs : other.from + w ≡ other.to = omega (arith, f, k.order) in
    subst (λ n. AllMayAdd (slice_range more other.from n) (slice_range parts from (from + w))) (sym theirs)
    (subst (λ n. AllMayAdd (parts_of more other) (slice_range parts from n)) (sym mine)
    (subst (λ n. AllMayAdd (parts_of more other) (slice_range parts n m.to)) (sym e) a))

-- What the aggregation table became.
pub record Grew (parts : List Part) (groups : List GroupEntry) (more : List Part) (other : GroupEntry) (now : List Part) (new : List GroupEntry) : Type 0 where
  pub addable : AreAddable now new
  pub own : HaveOwnParts new
  pub put : gathered_of now new ≡ gather key_order add_own_sums (gathered_of parts groups ++ group_of more other ∷ [])

pub grew : (parts : List Part) (groups : List GroupEntry) (i : ℕ) (more : List Part) (other : GroupEntry) → (a : MayGather (gathered_of parts groups) (group_of more other ∷ [])) → i < length groups → is_eq (key_order other.key (group_entry_in groups i).key) ≡ true → AreAddable parts groups → HaveOwnParts groups → IsThere (length more) other → IsSmallGroup (group_of more other) → (now : List Part) (new : List GroupEntry) → Became parts now (group_entry_in groups i) more other → new ≡ set groups i (grown other.rows (group_entry_in groups i)) → Grew parts groups more other now new
grew parts groups i more other a l key addable apart there small now new b f =
    let xs : List GroupEntry = take i groups in
    let ys : List GroupEntry = drop (suc i) groups in
    let m : GroupEntry = group_entry_in groups i in
    let k : Meets a.own parts xs ys m more other = meets_of parts groups i more other a l key addable apart there small in
    let e : new ≡ xs ++ grown other.rows m ∷ ys = f ∙ set_split groups i (grown other.rows m) l in
    record {
      addable = subst (AreAddable now) (sym e) (grown_addable a.own parts now xs ys m more other k b);
      own = subst HaveOwnParts (sym e) (own_grown xs ys m other.rows k.apart);
      put = ap (gathered_of now) e ∙ grown_gathered_of a.own parts now xs ys m more other k b
          ∙ ap (λ (ms : List GroupEntry). gather key_order add_own_sums (gathered_of parts ms ++ group_of more other ∷ [])) (sym (parted_at groups i l));
    }

-- What may be done with a group and the one of its key.
pub record MayGrow (parts : List Part) (m : GroupEntry) (more : List Part) (other : GroupEntry) : Type 0 where
  pub add : AllMayAdd (parts_of more other) (parts_of parts m)
  pub rows : other.rows + m.rows ≤ most_rows
  pub wide : width_of m ≡ width_of other
  pub at : IsThere (length parts) m

pub may_grow : (parts : List Part) (groups : List GroupEntry) (i : ℕ) (more : List Part) (other : GroupEntry) → (a : MayGather (gathered_of parts groups) (group_of more other ∷ [])) → i < length groups → is_eq (key_order other.key (group_entry_in groups i).key) ≡ true → AreAddable parts groups → HaveOwnParts groups → IsThere (length more) other → IsSmallGroup (group_of more other) → MayGrow parts (group_entry_in groups i) more other
may_grow parts groups i more other a l key addable apart there small =
    let r = meets_add a.own parts (take i groups) (drop (suc i) groups) (group_entry_in groups i) more other (meets_of parts groups i more other a l key addable apart there small) in
    record { add = r.0; rows = r.1; wide = r.2; at = r.3 }
