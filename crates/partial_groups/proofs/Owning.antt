-- Groups that share no part.
use Rattle.std.proofs.Common.{◌≡◌, ℕ, ◌+◌, ◌-◌, ◌<◌, ◌≤◌, List, [], ◌∷◌, ◌++◌, ◌⊎◌, inl, inr, map, reverse, length, take, drop, set, refl, sym, ap, subst, ◌∙◌, arith, suc}
use Rattle.std.specs.List.{All, AllByRecursion as Each}
use Rattle.std.specs.Prelude.{slice_range}
use Rattle.std.proofs.lemmas.Bool.{cases_eq, cases_order}
use Rattle.std.proofs.lemmas.List.{reverse-append, get_or-drop, get_or-set_other, get_or-set_same, get_or-take, length-drop, length-set, length-take}
use Rattle.std.proofs.lemmas.List.Elements.{recursion_from_All}
use Rattle.answer_rules.specs.Gather.{Partial}
use Rattle.answer_rules.specs.Keys.{Key}
use Rattle.answer_rules.specs.Parts.{Part, Sums, add_own, add_own_parts, count_part}
use Rattle.partial_groups.specs.Adding.{part_in, parts_of, placed, summed}
use Rattle.partial_groups.specs.declared.group_entry.GroupEntry.{GroupEntry}
use Rattle.partial_groups.specs.Groups.{IsThere, group_of}
use Rattle.partial_groups.specs.Sharing.{HaveOwnParts, KeepsRest, ShareNone, grown}
use Rattle.partial_groups.proofs.Summing.{add_at, range_long, range_own, sums_long}

-- ---- lists

each_front : {X : Type 0} (P : X → Type 0) (xs ys : List X) → Each P (xs ++ ys) → Each P xs
each_front P [] ys h = tt
each_front P (x ∷ xs) ys h = (h.0, each_front P xs ys h.1)

each_back : {X : Type 0} (P : X → Type 0) (xs ys : List X) → Each P (xs ++ ys) → Each P ys
each_back P [] ys h = h
each_back P (x ∷ xs) ys h = each_back P xs ys h.1

each_both : {X : Type 0} (P : X → Type 0) (xs ys : List X) → Each P xs → Each P ys → Each P (xs ++ ys)
each_both P [] ys h k = k
each_both P (x ∷ xs) ys h k = (h.0, each_both P xs ys h.1 k)

each_reversed : {X : Type 0} (P : X → Type 0) (xs : List X) → Each P xs → Each P (reverse xs)
each_reversed P [] h = tt
each_reversed P (x ∷ xs) h = subst (Each P) (sym (reverse-append (x ∷ []) xs)) (each_both P (reverse xs) (x ∷ []) (each_reversed P xs h.1) (h.0, tt))

-- one in the middle is another
pub each_other : {X : Type 0} (P : X → Type 0) (xs ys : List X) (a b : X) → P b → Each P (xs ++ a ∷ ys) → Each P (xs ++ b ∷ ys)
each_other P [] ys a b p h = (p, h.1)
each_other P (x ∷ xs) ys a b p h = (h.0, each_other P xs ys a b p h.1)

-- ---- groups that share no part

flipped : (m n : GroupEntry) → ShareNone m n → ShareNone n m
flipped m n s = λ i a b c d. s i c d a b

each_flipped : (m : GroupEntry) (ns : List GroupEntry) → Each (ShareNone m) ns → Each (λ n. Each (ShareNone n) (m ∷ [])) ns
each_flipped m [] h = tt
each_flipped m (n ∷ ns) h = ((flipped m n h.0, tt), each_flipped m ns h.1)

own_both : (xs ys : List GroupEntry) → HaveOwnParts xs → HaveOwnParts ys → Each (λ x. Each (ShareNone x) ys) xs → HaveOwnParts (xs ++ ys)
own_both [] ys h k b = k
own_both (x ∷ xs) ys h k b = (each_both (ShareNone x) xs ys h.0 b.0, own_both xs ys h.1 k b.1)

pub own_front : (xs ys : List GroupEntry) → HaveOwnParts (xs ++ ys) → HaveOwnParts xs
own_front [] ys h = tt
own_front (x ∷ xs) ys h = (each_front (ShareNone x) xs ys h.0, own_front xs ys h.1)

-- a group whose parts stand behind all others
behind : (n : ℕ) (ms : List GroupEntry) (m : GroupEntry) → n ≤ m.from → Each (IsThere n) ms → Each (λ x. Each (ShareNone x) (m ∷ [])) ms
behind n [] m l h = tt
behind n (x ∷ ms) m l h = (((λ i a b c d. omega (arith, l, b, c, IsThere.there h.0)), tt), behind n ms m l h.1)

pub own_push : (n : ℕ) (ms : List GroupEntry) (m : GroupEntry) → n ≤ m.from → All (IsThere n) ms → HaveOwnParts ms → HaveOwnParts (ms ++ m ∷ [])
own_push n ms m l h k = own_both ms (m ∷ []) k (tt, tt) (behind n ms m l (recursion_from_All (IsThere n) ms h))

pub own_reversed : (ms : List GroupEntry) → HaveOwnParts ms → HaveOwnParts (reverse ms)
own_reversed [] h = tt
own_reversed (m ∷ ms) h =
    subst HaveOwnParts (sym (reverse-append (m ∷ []) ms))
    (own_both (reverse ms) (m ∷ []) (own_reversed ms h.1) (tt, tt) (each_reversed (λ n. Each (ShareNone n) (m ∷ [])) ms (each_flipped m ms h.0)))

-- those before it and those behind it
pub own_around : (xs ys : List GroupEntry) (m : GroupEntry) → HaveOwnParts (xs ++ m ∷ ys) → Each (ShareNone m) xs × Each (ShareNone m) ys
own_around [] ys m h = (tt, h.0)
own_around (x ∷ xs) ys m h =
    let rest = own_around xs ys m h.1 in
    ((flipped x m (each_back (ShareNone x) xs (m ∷ ys) h.0).0, rest.0), rest.1)

-- a group that has more rows
pub own_grown : (xs ys : List GroupEntry) (m : GroupEntry) (n : ℕ) → HaveOwnParts (xs ++ m ∷ ys) → HaveOwnParts (xs ++ grown n m ∷ ys)
own_grown [] ys m n h = (h.0, h.1)
own_grown (x ∷ xs) ys m n h = (each_other (ShareNone x) xs ys m (grown n m) (each_back (ShareNone x) xs (m ∷ ys) h.0).0 h.0, own_grown xs ys m n h.1)

-- ---- the parts of another group

pub same_parts : (xs ys : List Part) → length xs ≡ length ys → ((k : ℕ) → k < length xs → part_in xs k ≡ part_in ys k) → xs ≡ ys
same_parts [] [] e h = refl
same_parts [] (y ∷ ys) e h = absurd (omega (arith, e))
same_parts (x ∷ xs) [] e h = absurd (omega (arith, e))
same_parts (x ∷ xs) (y ∷ ys) e h =
    ap (λ p. p ∷ xs) (h 0 (omega arith)) ∙ ap (λ l. y ∷ l) (same_parts xs ys (omega (arith, e)) (λ k l. h (suc k) (omega (arith, l))))

pub in_range : (xs : List Part) (a b i : ℕ) → i < b - a → part_in (take (b - a) (drop a xs)) i ≡ part_in xs (a + i)
in_range xs a b i l = get_or-take (b - a) (drop a xs) i (count_part 0) l ∙ get_or-drop a xs i (count_part 0)

pub range_length : (xs : List Part) (m : GroupEntry) → IsThere (length xs) m → length (parts_of xs m) ≡ m.to - m.from
range_length xs m h = omega (arith, h.order, h.there, length-take (m.to - m.from) (drop m.from xs), length-drop m.from xs)

abbrev group_with : GroupEntry → List Part → Partial Key Sums
group_with m parts = record { key = m.key; part = record { rows = m.rows; parts = parts } }

kept : (old new : List Part) (m n : GroupEntry) → length new ≡ length old → KeepsRest old new m.from m.to → ShareNone m n → IsThere (length old) n → group_of new n ≡ group_of old n
kept old new m n e k s h =
    let long : length (parts_of old n) ≡ n.to - n.from = range_length old n h in
    let there : IsThere (length new) n = record { order = h.order; there = omega (arith, h.there, e) } in
    let long_new : length (parts_of new n) ≡ n.to - n.from = range_length new n there in
    ap (group_with n)
    (same_parts (parts_of new n) (parts_of old n) (long_new ∙ sym long)
    (λ i l.
    let in' : i < n.to - n.from = omega (arith, l, long_new) in
    in_range new n.from n.to i in'
    ∙ k (n.from + i) (λ a b. s (n.from + i) a b (omega arith) (omega (arith, in', h.order)))
    ∙ sym (in_range old n.from n.to i in')))

pub kept_groups : (old new : List Part) (m : GroupEntry) (ns : List GroupEntry) → length new ≡ length old → KeepsRest old new m.from m.to → Each (ShareNone m) ns → Each (IsThere (length old)) ns → map (group_of new) ns ≡ map (group_of old) ns
kept_groups old new m [] e k s h = refl
kept_groups old new m (n ∷ ns) e k s h =
    ap (λ g. g ∷ map (group_of new) ns) (kept old new m n e k s.0 h.0) ∙ ap (λ l. group_of old n ∷ l) (kept_groups old new m ns e k s.1 h.1)

-- ---- a group after the others of a new aggregation table

pub alone_owns : (fresh : List Part) (out : List GroupEntry) (group : GroupEntry) → All (IsThere (length fresh)) out → HaveOwnParts out → HaveOwnParts (out ++ placed (length fresh) group ∷ [])
alone_owns fresh out group h k = own_push (length fresh) out (placed (length fresh) group) (omega arith) h k

pub sum_owns : (fresh : List Part) (out : List GroupEntry) (group last : GroupEntry) → All (IsThere (length fresh)) (out ++ last ∷ []) → HaveOwnParts (out ++ last ∷ []) → HaveOwnParts (out ++ summed (length fresh) group last ∷ [])
sum_owns fresh out group last h k =
    own_both out (summed (length fresh) group last ∷ []) (own_front out (last ∷ []) k) (tt, tt)
    (behind (length fresh) out (summed (length fresh) group last) (omega arith) (each_front (IsThere (length fresh)) out (last ∷ []) (recursion_from_All (IsThere (length fresh)) (out ++ last ∷ []) h)))

-- ---- sums in the place of parts

one_sum : (more old now new : List Part) (a b i : ℕ) → b + i < length now → ((k : ℕ) → k < i → part_in now (b + k) ≡ add_own (part_in more (a + k)) (part_in old (b + k))) → KeepsRest old now b (b + i) → new ≡ set now (b + i) (add_own (part_in more (a + i)) (part_in now (b + i))) → (k : ℕ) → k < i + 1 → part_in new (b + k) ≡ add_own (part_in more (a + k)) (part_in old (b + k))
one_sum more old now new a b i l sums rest e k n = which (cases_eq (b + k) (b + i))
  where
    sum : Part
    sum = add_own (part_in more (a + i)) (part_in now (b + i))

    here : k ≡ i → part_in new (b + k) ≡ add_own (part_in more (a + k)) (part_in old (b + k))
    here same =
        ap (λ ps. part_in ps (b + k)) e
        ∙ ap (λ j. part_in (set now (b + i) sum) (b + j)) same
        ∙ get_or-set_same now (b + i) sum (count_part 0) l
        ∙ ap (add_own (part_in more (a + i))) (rest (b + i) (λ p q. omega (arith, q)))
        ∙ ap (λ j. add_own (part_in more (a + j)) (part_in old (b + j))) (sym same)

    which : (b + k ≡ b + i) ⊎ ((b + k ≡ b + i) → ⊥) → part_in new (b + k) ≡ add_own (part_in more (a + k)) (part_in old (b + k))
    which (inl same) = here (omega (arith, same))
    which (inr other) =
        ap (λ ps. part_in ps (b + k)) e
        ∙ get_or-set_other now (b + i) (b + k) sum (count_part 0) other
        ∙ sums k (before (cases_order k i))
      where
        before : (k ≡ i) ⊎ ((k < i) ⊎ (i < k)) → k < i
        before (inl same) = absurd (other (ap (λ j. b + j) same))
        before (inr (inl less)) = less
        before (inr (inr more')) = omega (arith, n, more')

one_rest : (old now new : List Part) (sum : Part) (b i : ℕ) → KeepsRest old now b (b + i) → new ≡ set now (b + i) sum → KeepsRest old new b (b + (i + 1))
one_rest old now new sum b i rest e = λ k out.
    ap (λ ps. part_in ps k) e
    ∙ get_or-set_other now (b + i) k sum (count_part 0) (λ same. out (omega (arith, same)) (omega (arith, same)))
    ∙ rest k (λ p q. out p (omega (arith, q)))

-- What became of the parts so far.
pub record Summed (more old now : List Part) (a b i : ℕ) : Type 0 where
  pub long : length now ≡ length old
  pub sums : (k : ℕ) → k < i → part_in now (b + k) ≡ add_own (part_in more (a + k)) (part_in old (b + k))
  pub rest : KeepsRest old now b (b + i)

pub none_summed : (more old now : List Part) (a b : ℕ) → now ≡ old → Summed more old now a b 0
none_summed more old now a b e = record {
  long = ap length e;
  sums = λ k l. absurd (omega (arith, l));
  rest = λ k out. ap (λ ps. part_in ps k) e;
}

pub one_summed : (more old now new : List Part) (a b i : ℕ) → b + i < length now → Summed more old now a b i → new ≡ set now (b + i) (add_own (part_in more (a + i)) (part_in now (b + i))) → Summed more old new a b (i + 1)
one_summed more old now new a b i l s e = record {
  long = ap length e ∙ length-set now (b + i) (add_own (part_in more (a + i)) (part_in now (b + i))) ∙ s.long;
  sums = one_sum more old now new a b i l s.sums s.rest e;
  rest = one_rest old now new (add_own (part_in more (a + i)) (part_in now (b + i))) b i s.rest e;
}

pub all_summed : (more old now : List Part) (a b w : ℕ) → a + w ≤ length more → b + w ≤ length old → Summed more old now a b w → slice_range now b (b + w) ≡ add_own_parts (slice_range more a (a + w)) (slice_range old b (b + w))
all_summed more old now a b w h k s =
    let mine : List Part = slice_range more a (a + w) in
    let theirs : List Part = slice_range old b (b + w) in
    let long : length (slice_range now b (b + w)) ≡ w = range_long now b w (omega (arith, k, s.long)) in
    same_parts (slice_range now b (b + w)) (add_own_parts mine theirs) (long ∙ sym (sums_long more old a b w h k))
    (λ i l.
    let in' : i < w = omega (arith, l, long) in
    sym (range_own now b w i in')
    ∙ s.sums i in'
    ∙ ap (λ p. add_own p (part_in old (b + i))) (range_own more a w i in')
    ∙ ap (add_own (part_in mine i)) (range_own old b w i in')
    ∙ sym (add_at mine theirs i (count_part 0) (omega (arith, in', range_long more a w h)) (omega (arith, in', range_long old b w k))))
