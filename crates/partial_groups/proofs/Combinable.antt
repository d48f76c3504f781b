-- Groups, and rows that are not in a group yet: what both add up to.
use Rattle.std.proofs.Common.{◌≡◌, ℕ, ◌+◌, ◌≤◌, List, [], ◌∷◌, ◌++◌, length, refl, sym, ap, subst, ◌∙◌, arith, IsPermutation, Result, Ok, Err, OnOk, OnErr, take}
use Rattle.std.proofs.lemmas.List.{append-nil, append_assoc, take_all}
use Rattle.std.proofs.lemmas.List.Sums.{sum_by-append}
use Rattle.std.proofs.lemmas.List.Sorted.{IsPermutation-append_comm, IsPermutation-append_left, IsPermutation-append_right}
use Rattle.answer_rules.specs.declared.way.Way.{Way}
use Rattle.answer_rules.specs.Gather.{Partial, gather}
use Rattle.answer_rules.specs.Keys.{Key, key_order}
use Rattle.answer_rules.specs.Parts.{Sums, add_own_sums}
use Rattle.answer_rules.specs.Small.{rows_in}
use Rattle.answer_rules.proofs.OwnWays.{gathered_have, own_again, own_alike, own_permuted, own_rows}
use Rattle.partial_groups.specs.Groups.{Gathered, HaveWays, MayGather}
use Rattle.partial_groups.specs.Ungrouped.{AreCombinable, AreBothCombinable, IsJoined}
use Rattle.partial_groups.proofs.Appending.{alike_from, have_from}
use Rattle.partial_groups.proofs.Consolidating.{first_ways, have_first}

abbrev gather_own : Gathered → Gathered
gather_own gs = gather key_order add_own_sums gs

-- ---- one list behind another

pub have_both : (own : List Way) (xs ys : Gathered) → HaveWays own xs → HaveWays own ys → HaveWays own (xs ++ ys)
have_both own [] ys h k = k
have_both own (x ∷ xs) ys h k = (h.0, have_both own xs ys h.1 k)

pub have_front : (own : List Way) (xs ys : Gathered) → HaveWays own (xs ++ ys) → HaveWays own xs
have_front own [] ys h = tt
have_front own (x ∷ xs) ys h = (h.0, have_front own xs ys h.1)

pub have_back : (own : List Way) (xs ys : Gathered) → HaveWays own (xs ++ ys) → HaveWays own ys
have_back own [] ys h = h
have_back own (x ∷ xs) ys h = have_back own xs ys h.1

pub rows_both : (xs ys : Gathered) → rows_in (xs ++ ys) ≡ rows_in xs + rows_in ys
rows_both xs ys = sum_by-append (λ (g : Partial Key Sums). g.part.rows) xs ys

-- ---- gathered in two steps

pub own_left : (own : List Way) (xs ys : Gathered) → HaveWays own xs → HaveWays own ys → gather_own (gather_own xs ++ ys) ≡ gather_own (xs ++ ys)
own_left own xs ys h k = own_alike own xs ys (gather_own xs) ys h k (gathered_have own xs h) k (own_again own xs h) refl

pub own_right : (own : List Way) (xs ys : Gathered) → HaveWays own xs → HaveWays own ys → gather_own (xs ++ gather_own ys) ≡ gather_own (xs ++ ys)
own_right own xs ys h k = own_alike own xs ys xs (gather_own ys) h k h (gathered_have own ys k) refl (own_again own ys k)

-- the second of four lists changes places with the third
swapped : (a b c d : Gathered) → IsPermutation ((a ++ b) ++ (c ++ d)) ((a ++ c) ++ (b ++ d))
swapped a b c d =
    let inner : IsPermutation (b ++ c) (c ++ b) = IsPermutation-append_comm b c in
    let before : (a ++ b) ++ (c ++ d) ≡ a ++ ((b ++ c) ++ d) = append_assoc a b (c ++ d) ∙ ap (λ l. a ++ l) (sym (append_assoc b c d)) in
    let after : a ++ ((c ++ b) ++ d) ≡ (a ++ c) ++ (b ++ d) = ap (λ l. a ++ l) (append_assoc c b d) ∙ sym (append_assoc a c (b ++ d)) in
    subst (λ l. IsPermutation l ((a ++ c) ++ (b ++ d))) (sym before)
    (subst (IsPermutation (a ++ ((b ++ c) ++ d))) after (IsPermutation-append_right a ((b ++ c) ++ d) ((c ++ b) ++ d) (IsPermutation-append_left d (b ++ c) (c ++ b) inner)))

-- groups and rows that are each put behind those of another piece come to what both pieces come to
pub rows_join : (own : List Way) (groups rows more others : Gathered) → HaveWays own (groups ++ rows) → HaveWays own (more ++ others)
    → gather_own (gather_own (groups ++ more) ++ (rows ++ others)) ≡ gather_own (gather_own (groups ++ rows) ++ (more ++ others))
rows_join own groups rows more others h k =
    let a : HaveWays own groups = have_front own groups rows h in
    let b : HaveWays own rows = have_back own groups rows h in
    let c : HaveWays own more = have_front own more others k in
    let d : HaveWays own others = have_back own more others k in
    own_left own (groups ++ more) (rows ++ others) (have_both own groups more a c) (have_both own rows others b d)
    ∙ own_permuted own ((groups ++ rows) ++ (more ++ others)) ((groups ++ more) ++ (rows ++ others)) (have_both own (groups ++ rows) (more ++ others) h k) (swapped groups rows more others)
    ∙ sym (own_left own (groups ++ rows) (more ++ others) h k)

-- ---- combinable groups and rows have the ways of what they add up to

pub combinable_have : (own : List Way) (groups rows : Gathered) → AreCombinable groups rows → HaveWays own (gather_own (groups ++ rows)) → HaveWays own (groups ++ rows)
combinable_have own groups rows combinable h = have_from own (groups ++ rows) combinable.alike h

-- so the groups of other groups and rows may be added, one by one
pub may_combine : (mine groups rows : Gathered) → AreCombinable groups rows → MayGather mine (gather_own (groups ++ rows)) → MayGather mine (groups ++ rows)
may_combine mine groups rows combinable m =
    let that : HaveWays m.own (groups ++ rows) = combinable_have m.own groups rows combinable m.that in
    record {
      own = m.own;
      this = m.this;
      that = that;
      few = omega (arith, m.few, own_rows m.own (groups ++ rows) that);
    }

-- what is known of two pieces that may be joined
pub both_combinable : (groups rows more others : Gathered) → AreCombinable groups rows → MayGather (gather_own (groups ++ rows)) (more ++ others) → AreBothCombinable groups rows more others
both_combinable groups rows more others combinable m =
    let this : HaveWays m.own (groups ++ rows) = combinable_have m.own groups rows combinable m.this in
    record {
      own = m.own;
      this = this;
      that = m.that;
      few = omega (arith, m.few, own_rows m.own (groups ++ rows) this);
    }

-- groups may be put to the groups
pub may_join : (groups rows more others : Gathered) → AreBothCombinable groups rows more others → MayGather groups more
may_join groups rows more others b = record {
  own = b.own;
  this = have_front b.own groups rows b.this;
  that = have_front b.own more others b.that;
  few = omega (arith, b.few, rows_both groups rows, rows_both more others);
}

-- and then are combinable with all rows
joined_combinable : (groups rows more others now : Gathered) → AreBothCombinable groups rows more others → now ≡ gather_own (groups ++ more) → AreCombinable now (rows ++ others)
joined_combinable groups rows more others now b e =
    let mine : HaveWays b.own (groups ++ more) = have_both b.own groups more (have_front b.own groups rows b.this) (have_front b.own more others b.that) in
    let rest : HaveWays b.own (rows ++ others) = have_both b.own rows others (have_back b.own groups rows b.this) (have_back b.own more others b.that) in
    let all : HaveWays b.own (now ++ (rows ++ others)) = have_both b.own now (rows ++ others) (subst (HaveWays b.own) (sym e) (gathered_have b.own (groups ++ more) mine)) rest in
    record {
      alike = alike_from b.own (now ++ (rows ++ others)) all;
      few = omega (
        arith,
        b.few,
        ap rows_in e,
        own_rows b.own (groups ++ more) mine,
        rows_both groups rows,
        rows_both more others,
        rows_both groups more,
        rows_both rows others,
        rows_both now (rows ++ others),
      );
    }

-- and come to what both come to
joined_view : (groups rows more others now : Gathered) → AreBothCombinable groups rows more others → now ≡ gather_own (groups ++ more)
    → gather_own (now ++ (rows ++ others)) ≡ gather_own (gather_own (groups ++ rows) ++ (more ++ others))
joined_view groups rows more others now b e = ap (λ gs. gather_own (gs ++ (rows ++ others))) e ∙ rows_join b.own groups rows more others b.this b.that

-- the groups are put to the groups, and the rows to the rows
pub is_joined : (groups rows more others now : Gathered) → AreBothCombinable groups rows more others → now ≡ gather_own (groups ++ more) → IsJoined groups rows more others now (rows ++ others)
is_joined groups rows more others now b e = record {
  combinable = joined_combinable groups rows more others now b e;
  same = joined_view groups rows more others now b e;
}

-- the other groups and rows may be grouped first
others_alone : (groups rows more others whole : Gathered) → AreBothCombinable groups rows more others → whole ≡ gather_own (more ++ others) → AreBothCombinable groups rows whole []
others_alone groups rows more others whole b e = record {
  own = b.own;
  this = b.this;
  that = have_both b.own whole [] (subst (HaveWays b.own) (sym e) (gathered_have b.own (more ++ others) b.that)) tt;
  few = omega (arith, b.few, ap rows_in e, own_rows b.own (more ++ others) b.that, ap rows_in (append-nil whole));
}

-- and then they are groups alone
pub may_join_whole : (groups rows more others whole : Gathered) → AreBothCombinable groups rows more others → whole ≡ gather_own (more ++ others) → MayGather groups whole
may_join_whole groups rows more others whole b e = may_join groups rows whole [] (others_alone groups rows more others whole b e)

pub is_joined_whole : (groups rows more others whole now : Gathered) → AreBothCombinable groups rows more others → whole ≡ gather_own (more ++ others) → now ≡ gather_own (groups ++ whole) → IsJoined groups rows more others now rows
is_joined_whole groups rows more others whole now b e f =
    let j : IsJoined groups rows whole [] now (rows ++ []) = is_joined groups rows whole [] now (others_alone groups rows more others whole b e) f in
    let view : Gathered = gather_own (groups ++ rows) in
    record {
      combinable = subst (AreCombinable now) (append-nil rows) j.combinable;
      same =
          ap (λ l. gather_own (now ++ l)) (sym (append-nil rows))
          ∙ j.same
          ∙ ap (λ l. gather_own (view ++ l)) (append-nil whole ∙ e)
          ∙ own_right b.own view (more ++ others) (gathered_have b.own (groups ++ rows) b.this) b.that;
    }

-- the rows of a piece may be put to its own groups
pub others_may : (groups rows more others : Gathered) → AreBothCombinable groups rows more others → MayGather more others
others_may groups rows more others b = record {
  own = b.own;
  this = have_front b.own more others b.that;
  that = have_back b.own more others b.that;
  few = omega (arith, b.few, rows_both more others);
}

-- as another piece
pub absorbed : (mine groups rows new : Gathered) → AreCombinable groups rows → MayGather mine (gather_own (groups ++ rows)) → new ≡ gather_own (mine ++ (groups ++ rows))
    → new ≡ gather_own (mine ++ gather_own (groups ++ rows))
absorbed mine groups rows new combinable m e = e ∙ sym (own_right m.own mine (groups ++ rows) m.this (combinable_have m.own groups rows combinable m.that))

-- groups alone are put to the groups
pub alone_joined : (groups rows more now : Gathered) → AreBothCombinable groups rows more [] → now ≡ gather_own (groups ++ more) → IsJoined groups rows more [] now rows
alone_joined groups rows more now b e = subst (IsJoined groups rows more [] now) (append-nil rows) (is_joined groups rows more [] now b e)

-- after a success and after a failure, what is left is combinable
pub combinable_if : {T E : Type 0} (r : Result T E) (groups rows now : Gathered) {P : Type 0} → AreCombinable groups rows → (P → AreCombinable now rows) → OnOk r P → OnErr r (now ≡ groups) → AreCombinable now rows
combinable_if (Ok x) groups rows now combinable done ok err = done ok
combinable_if (Err x) groups rows now combinable done ok err = subst (λ gs. AreCombinable gs rows) (sym err) combinable

-- lists of one length that agree in all their elements are one list
pub same_taken : {X : Type 0} (xs ys : List X) (n : ℕ) → length xs ≤ n → length xs ≡ length ys → take n xs ≡ take n ys → xs ≡ ys
same_taken xs ys n h e f = sym (take_all n xs h) ∙ f ∙ take_all n ys (omega (arith, h, e))

-- combinable groups may be grouped with their rows
pub may_group : (groups rows : Gathered) → AreCombinable groups rows → MayGather groups rows
may_group groups rows combinable =
    let own : List Way = first_ways (groups ++ rows) in
    let all : HaveWays own (groups ++ rows) = have_first (groups ++ rows) combinable.alike in
    record {
      own = own;
      this = have_front own groups rows all;
      that = have_back own groups rows all;
      few = omega (arith, combinable.few, rows_both groups rows);
    }
