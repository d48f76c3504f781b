-- The groups of another aggregation table are added one by one.
use Rattle.std.proofs.Common.{◌≡◌, ◌+◌, ◌≤◌, List, [], ◌∷◌, ◌++◌, map, length, sym, ap, subst, ◌∙◌, arith}
use Rattle.std.specs.List.{AllByRecursion as Each}
use Rattle.std.proofs.lemmas.List.{append-nil, append_assoc, map-append}
use Rattle.std.proofs.lemmas.List.Elements.{recursion_from_All}
use Rattle.std.proofs.lemmas.List.Sums.{sum_by-append, sum_by-cons}
use Rattle.answer_rules.specs.declared.way.Way.{Way}
use Rattle.answer_rules.specs.Gather.{Partial, gather}
use Rattle.answer_rules.specs.Keys.{Key, key_order}
use Rattle.answer_rules.specs.Parts.{Part, Sums, add_own_sums}
use Rattle.answer_rules.specs.Small.{IsSmallGroup, rows_in}
use Rattle.answer_rules.proofs.OwnWays.{gathered_have, own_joined, own_rows}
use Rattle.partial_groups.specs.Adding.{parts_of, placed, width_in}
use Rattle.partial_groups.specs.declared.group_entry.GroupEntry.{GroupEntry}
use Rattle.partial_groups.specs.Groups.{AreAddable, Gathered, HaveWays, IsThere, MayGather, gathered_of, group_of, most_rows, ways_in, width_of}
use Rattle.partial_groups.specs.Sharing.{HaveOwnParts}
use Rattle.partial_groups.proofs.Owning.{own_push}
use Rattle.partial_groups.proofs.Appending.{group_entry_from, have_from, put_addable, put_joins}
use Rattle.partial_groups.proofs.Consolidating.{parts_long, same_width}

-- ---- a group is put behind the others

pub behind_is : (more old : List Part) (other : GroupEntry) → IsThere (length more) other → placed (length old) other ≡ group_entry_from other.key other.rows (length old) (length old + length (parts_of more other))
behind_is more old other h = ap (λ w. group_entry_from other.key other.rows (length old) (length old + w)) (sym (parts_long more other h))

abbrev few_of : (parts : List Part) (groups : List GroupEntry) (more : List Part) (other : GroupEntry) → MayGather (gathered_of parts groups) (group_of more other ∷ []) → (other.rows ≤ most_rows) × (rows_in (gathered_of parts groups) + other.rows ≤ most_rows)
few_of parts groups more other a =
    let one = sum_by-cons (λ (g : Partial Key Sums). g.part.rows) (group_of more other) [] in
    (omega (arith, a.few, one), omega (arith, a.few, one))

pub alone_addable : (parts : List Part) (groups : List GroupEntry) (more : List Part) (other : GroupEntry) → MayGather (gathered_of parts groups) (group_of more other ∷ []) → IsSmallGroup (group_of more other) → AreAddable parts groups → IsThere (length more) other → AreAddable (parts ++ parts_of more other) (groups ++ placed (length parts) other ∷ [])
alone_addable parts groups more other a small addable there =
    let few = few_of parts groups more other a in
    subst (λ (m : GroupEntry). AreAddable (parts ++ parts_of more other) (groups ++ m ∷ [])) (sym (behind_is more parts other there))
    (put_addable a.own parts (parts_of more other) groups other.key other.rows small few.0 addable a.this a.that few.1)

pub alone_gathered_of : (parts : List Part) (groups : List GroupEntry) (more : List Part) (other : GroupEntry) → MayGather (gathered_of parts groups) (group_of more other ∷ []) → IsSmallGroup (group_of more other) → AreAddable parts groups → IsThere (length more) other → gathered_of (parts ++ parts_of more other) (groups ++ placed (length parts) other ∷ []) ≡ gather key_order add_own_sums (gathered_of parts groups ++ group_of more other ∷ [])
alone_gathered_of parts groups more other a small addable there =
    let few = few_of parts groups more other a in
    ap (λ (m : GroupEntry). gathered_of (parts ++ parts_of more other) (groups ++ m ∷ [])) (behind_is more parts other there)
    ∙ put_joins a.own parts (parts_of more other) groups other.key other.rows small few.0 addable a.this a.that

pub alone_own : (parts : List Part) (groups : List GroupEntry) (other : GroupEntry) → AreAddable parts groups → HaveOwnParts groups → HaveOwnParts (groups ++ placed (length parts) other ∷ [])
alone_own parts groups other addable own = own_push (length parts) groups (placed (length parts) other) (omega arith) addable.there own

-- ---- the loop

-- The groups that were taken are in the aggregation table.
pub record Midway (parts : List Part) (groups : List GroupEntry) (more : List Part) (taken : List GroupEntry) (now : List Part) (new : List GroupEntry) : Type 0 where
  pub addable : AreAddable now new
  pub own : HaveOwnParts new
  pub same : gathered_of now new ≡ gather key_order add_own_sums (map (group_of parts) groups ++ map (group_of more) taken)

pub none_taken : (parts : List Part) (groups : List GroupEntry) (more now : List Part) (new : List GroupEntry) → AreAddable parts groups → HaveOwnParts groups → now ≡ parts → new ≡ groups → Midway parts groups more [] now new
none_taken parts groups more now new p o e f =
    subst (λ (ps : List Part). Midway parts groups more [] ps new) (sym e)
    (subst (λ (ms : List GroupEntry). Midway parts groups more [] parts ms) (sym f)
    (record { addable = p; own = o; same = ap (gather key_order add_own_sums) (sym (append-nil (map (group_of parts) groups))) }))

each_split : {X : Type 0} (P : X → Type 0) (xs ys : List X) → Each P (xs ++ ys) → Each P xs × Each P ys
each_split P [] ys h = (tt, h)
each_split P (x ∷ xs) ys h = ((h.0, (each_split P xs ys h.1).0), (each_split P xs ys h.1).1)

have_both : (own : List Way) (xs ys : Gathered) → HaveWays own xs → HaveWays own ys → HaveWays own (xs ++ ys)
have_both own [] ys h k = k
have_both own (x ∷ xs) ys h k = (h.0, have_both own xs ys h.1 k)

-- What is known of the next group.
pub record Comes (parts : List Part) (groups : List GroupEntry) (more : List Part) (taken others : List GroupEntry) (other : GroupEntry) (now : List Part) (new : List GroupEntry) : Type 0 where
  pub there : IsThere (length more) other
  pub small : IsSmallGroup (group_of more other)
  pub alike : MayGather (gathered_of now new) (group_of more other ∷ [])
  pub wide : width_of other ≡ width_in others
  pub mine : HaveWays alike.own (map (group_of parts) groups ++ map (group_of more) taken)

pub comes : (parts : List Part) (groups : List GroupEntry) (more : List Part) (taken rest others : List GroupEntry) (other : GroupEntry) (now : List Part) (new : List GroupEntry) → AreAddable parts groups → AreAddable more others → MayGather (gathered_of parts groups) (gathered_of more others) → others ≡ taken ++ other ∷ rest → Midway parts groups more taken now new → Comes parts groups more taken others other now new
comes parts groups more taken rest others other now new p q a e h =
    let G : GroupEntry → Partial Key Sums = group_of more in
    let mine : HaveWays a.own (map (group_of parts) groups) = have_from a.own (map (group_of parts) groups) p.alike a.this in
    let theirs : HaveWays a.own (map G others) = have_from a.own (map G others) q.alike a.that in
    let grouped : map G others ≡ map G taken ++ (G other ∷ map G rest) = ap (map G) e ∙ map-append G taken (other ∷ rest) in
    let w = each_split (λ g. ways_in g ≡ a.own) (map G taken) (G other ∷ map G rest) (subst (HaveWays a.own) grouped theirs) in
    let s = each_split IsSmallGroup (map G taken) (G other ∷ map G rest) (subst (Each IsSmallGroup) grouped q.small) in
    let t = each_split (IsThere (length more)) taken (other ∷ rest) (subst (λ (ms : List GroupEntry). Each (IsThere (length more)) ms) e (recursion_from_All (IsThere (length more)) others q.there)) in
    let v = each_split (λ m. width_of m ≡ width_in others) taken (other ∷ rest) (subst (λ (ms : List GroupEntry). Each (λ m. width_of m ≡ width_in others) ms) e (same_width more others q)) in
    let both : HaveWays a.own (map (group_of parts) groups ++ map G taken) = have_both a.own (map (group_of parts) groups) (map G taken) mine w.0 in
    record {
      there = t.1.0;
      small = s.1.0;
      alike = record {
        own = a.own;
        this = subst (HaveWays a.own) (sym h.same) (gathered_have a.own (map (group_of parts) groups ++ map G taken) both);
        that = (w.1.0, tt);
        few = omega (
          arith,
          a.few,
          own_rows a.own (map (group_of parts) groups) mine,
          own_rows a.own (map G others) theirs,
          own_rows a.own (map (group_of parts) groups ++ map G taken) both,
          ap rows_in h.same,
          ap rows_in grouped,
          sum_by-append (λ (x : Partial Key Sums). x.part.rows) (map (group_of parts) groups) (map G taken),
          sum_by-append (λ (x : Partial Key Sums). x.part.rows) (map G taken) (G other ∷ map G rest),
          sum_by-cons (λ (x : Partial Key Sums). x.part.rows) (G other) (map G rest),
          sum_by-cons (λ (x : Partial Key Sums). x.part.rows) (G other) [],
        );
      };
      wide = v.1.0;
      mine = both;
    }

pub one_taken : (parts : List Part) (groups : List GroupEntry) (more : List Part) (taken others : List GroupEntry) (other : GroupEntry) (now after : List Part) (new last : List GroupEntry) → Midway parts groups more taken now new → Comes parts groups more taken others other now new → AreAddable after last → HaveOwnParts last → gathered_of after last ≡ gather key_order add_own_sums (gathered_of now new ++ group_of more other ∷ []) → Midway parts groups more (taken ++ other ∷ []) after last
one_taken parts groups more taken others other now after new last h k p o e =
    let all : Gathered = map (group_of parts) groups ++ map (group_of more) taken in
    record {
      addable = p;
      own = o;
      same = e
          ∙ ap (λ gs. gather key_order add_own_sums (gs ++ group_of more other ∷ [])) h.same
          ∙ own_joined k.alike.own all (group_of more other ∷ []) k.mine (k.alike.that.0, tt)
          ∙ ap (gather key_order add_own_sums) (append_assoc (map (group_of parts) groups) (map (group_of more) taken) (group_of more other ∷ []) ∙ ap (λ gs. map (group_of parts) groups ++ gs) (sym (map-append (group_of more) taken (other ∷ []))));
    }

pub all_taken : (parts : List Part) (groups : List GroupEntry) (more : List Part) (taken others : List GroupEntry) (now : List Part) (new : List GroupEntry) → AreAddable parts groups → AreAddable more others → MayGather (gathered_of parts groups) (gathered_of more others) → others ≡ taken → Midway parts groups more taken now new → gathered_of now new ≡ gather key_order add_own_sums (gathered_of parts groups ++ gathered_of more others)
all_taken parts groups more taken others now new p q a e h =
    h.same
    ∙ ap (λ (ms : List GroupEntry). gather key_order add_own_sums (map (group_of parts) groups ++ map (group_of more) ms)) (sym e)
    ∙ sym (own_joined a.own (map (group_of parts) groups) (map (group_of more) others) (have_from a.own (map (group_of parts) groups) p.alike a.this) (have_from a.own (map (group_of more) others) q.alike a.that))
