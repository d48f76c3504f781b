-- What is gathered part by part is gathered of the whole.
use Rattle.std.proofs.Common.{◌≡◌, ℕ, ℤ, ◌+◌, ◌<◌, Bool, true, false, List, [], ◌∷◌, ◌++◌, map, length, drop, get_or, refl, sym, ap, ◌∙◌, subst, append_assoc, append-nil, arith}
use Rattle.std.specs.Prelude.{◌&&◌, ◌==◌, not}
use Rattle.std.specs.List.{fold}
use Rattle.std.proofs.lemmas.List.{map-append}
use Rattle.std.proofs.lemmas.List.Sums.{fold-append}
use Rattle.sql_token.specs.declared.token.Span.{Span}
use Rattle.sql_tree.specs.declared.cond.AreaKind.{AreaKind}
use Rattle.sql_tree.specs.declared.cond.Cmp.{Cmp}
use Rattle.sql_tree.specs.declared.cond.Cond.{Cond, out-Cond}
use Rattle.sql_tree.specs.declared.cond.Conj.{Conj, out-Conj}
use Rattle.sql_tree.specs.declared.cond.IntList.{IntList}
use Rattle.sql_tree.specs.declared.cond.Neg.{Neg, out-Neg}
use Rattle.sql_tree.specs.declared.cond.Pred.TheFolds.{fold_out-Cond, fold_out-Conj, fold_out-Neg}
use Rattle.sql_tree.specs.declared.cond.Pred.TheOpen.{Pred-F}
use Rattle.sql_tree.specs.declared.cond.Pred.TheVariants as pred
use Rattle.sql_tree.specs.declared.expr.Expr.{Expr}
use Rattle.sql_tree.specs.declared.name.Name.{Name}
use Rattle.text_rules.specs.Readings.{joined}
use Rattle.query_walks.proofs.Loops.{drop_at}
use Rattle.bind_rules.proofs.Folds.{fold_group, fold_compare, fold_between, fold_among, fold_null, fold_area, fold_chord}
use Rattle.bind_rules.specs.Tops.{Test, Area, Chord, Found}
use Rattle.query_walks.specs.Walks.{Founds, kept_if, is_alone, at_top, tests_at_pred, tests_at_cond, tests_at_conj, tests_at_neg, tests_of}
use Rattle.query_walks.specs.Gathering.{Gathers, tests_of_conj, tests_of_neg, tests_of_pred}

module _ {S : Type 0} (kept : S → Bool) (after : S → Found → S) where
  -- no test was looked at
  pub nothing_gathered : (s : S) → Gathers kept after s [] s
  nothing_gathered s = record { so = λ k. (k, refl) }

  -- tests were looked at, and then others
  pub gathers_two : (old mid new : S) (ts us : Founds) → Gathers kept after old ts mid → Gathers kept after mid us new → Gathers kept after old (ts ++ us) new
  gathers_two old mid new ts us first second = record {
    so = λ k.
        let b = second.so k in
        let a = first.so b.0 in
        (a.0, b.1 ∙ ap (λ s. fold after s us) a.1 ∙ sym (fold-append after old ts us));
  }

-- ---- at the top or not

and_assoc : (a b c : Bool) → (a && (b && c)) ≡ ((a && b) && c)
and_assoc true b c = refl
and_assoc false b c = refl

pub kept_twice : (a b : Bool) (ts : Founds) → kept_if a (kept_if b ts) ≡ kept_if (a && b) ts
kept_twice a b [] = refl
kept_twice a b (t ∷ ts) = rw (kept_twice a b ts, and_assoc a b t.top) refl

pub kept_both : (a : Bool) (ts us : Founds) → kept_if a (ts ++ us) ≡ kept_if a ts ++ kept_if a us
kept_both a ts us = map-append _ ts us

pub kept_at_top : (ts : Founds) → kept_if true ts ≡ ts
kept_at_top [] = refl
kept_at_top (t ∷ ts) = ap (λ us. t ∷ us) (kept_at_top ts)

-- ---- the tests of a condition, part by part

alone_after : {A B : Type 0} (f : A → B) (xs : List A) → is_alone (map f xs) ≡ is_alone xs
alone_after f [] = refl
alone_after f (x ∷ xs) = refl

-- a list without an element is that of a part alone
pub alone_length : {A : Type 0} (xs : List A) → (length xs == 0) ≡ is_alone xs
alone_length [] = refl
alone_length (x ∷ xs) = grind arith

pub cond_tests : (top : Bool) (c : Cond) → kept_if top (tests_of c) ≡ kept_if (top && is_alone (out-Cond c).rest) (tests_of_conj (out-Cond c).first) ++ kept_if (top && is_alone (out-Cond c).rest) (joined (map tests_of_conj (out-Cond c).rest))
unfolding tests_of tests_of_conj
cond_tests top c =
    ap (kept_if top) (fold_out-Cond Founds Founds Founds Founds tests_at_pred tests_at_cond tests_at_conj tests_at_neg c)
    ∙ kept_twice top (is_alone (map tests_of_conj (out-Cond c).rest)) (tests_of_conj (out-Cond c).first ++ joined (map tests_of_conj (out-Cond c).rest))
    ∙ ap (λ b. kept_if (top && b) (tests_of_conj (out-Cond c).first ++ joined (map tests_of_conj (out-Cond c).rest))) (alone_after tests_of_conj (out-Cond c).rest)
    ∙ kept_both (top && is_alone (out-Cond c).rest) (tests_of_conj (out-Cond c).first) (joined (map tests_of_conj (out-Cond c).rest))

pub conj_tests : (top : Bool) (c : Conj) → kept_if top (tests_of_conj c) ≡ kept_if top (tests_of_neg (out-Conj c).first) ++ kept_if top (joined (map tests_of_neg (out-Conj c).rest))
unfolding tests_of_conj tests_of_neg
conj_tests top c =
    ap (kept_if top) (fold_out-Conj Founds Founds Founds Founds tests_at_pred tests_at_cond tests_at_conj tests_at_neg c)
    ∙ kept_both top (tests_of_neg (out-Conj c).first) (joined (map tests_of_neg (out-Conj c).rest))

pub neg_tests : (top : Bool) (n : Neg) → kept_if top (tests_of_neg n) ≡ kept_if (top && not (out-Neg n).not) (tests_of_pred (out-Neg n).pred)
unfolding tests_of_neg tests_of_pred
neg_tests top n =
    ap (kept_if top) (fold_out-Neg Founds Founds Founds Founds tests_at_pred tests_at_cond tests_at_conj tests_at_neg n)
    ∙ kept_twice top (not (out-Neg n).not) (tests_of_pred (out-Neg n).pred)

-- ---- several parts, one behind another

-- A whole of which some first part is gathered, and this rest isn't.
abbrev pub Under : {S : Type 0} → (S → Bool) → (S → Found → S) → S → S → Founds → Founds → Type 0
Under kept after old new rest whole = (done : Founds) × Gathers kept after old done new × (done ++ rest ≡ whole)

module _ {S : Type 0} (kept : S → Bool) (after : S → Found → S) where
  pub under_start : (old : S) (whole : Founds) → Under kept after old old whole whole
  under_start old whole = ([], nothing_gathered kept after old, refl)

  pub under_more : (old mid new : S) (ts rest whole : Founds) → Under kept after old mid (ts ++ rest) whole → Gathers kept after mid ts new → Under kept after old new rest whole
  under_more old mid new ts rest whole (done, so_far, is) next = (done ++ ts, gathers_two kept after old mid new done ts so_far next, append_assoc done ts rest ∙ is)

  pub under_end : (old new : S) (whole : Founds) → Under kept after old new [] whole → Gathers kept after old whole new
  under_end old new whole (done, so_far, is) = subst (λ w. Gathers kept after old w new) (sym (append-nil done) ∙ is) so_far

-- the tests of the parts from a place on are those of the part there, and of those behind it
pub next_part : {A : Type 0} (top : Bool) (tests : A → Founds) (xs : List A) (i : ℕ) (x : A) → i < length xs
    → x ≡ get_or xs i x
    → kept_if top (joined (map tests (drop i xs)))
    ≡ kept_if top (tests x) ++ kept_if top (joined (map tests (drop (i + 1) xs)))
next_part top tests xs i x low is =
    ap (λ ys. kept_if top (joined (map tests ys))) (drop_at xs i x low is)
    ∙ kept_both top (tests x) (joined (map tests (drop (i + 1) xs)))

-- ---- the tests of a predicate

pub group_tests : (c : Cond) → tests_of_pred (pred.Bracket c) ≡ tests_of c
unfolding tests_of tests_of_pred
group_tests c = fold_group tests_at_pred tests_at_cond tests_at_conj tests_at_neg c

pub compare_tests : (left : Expr) (op : Cmp) (right : Expr) → tests_of_pred (pred.Compare left op right) ≡ tests_at_pred (Pred-F.Compare left op right)
unfolding tests_of_pred
compare_tests left op right = fold_compare tests_at_pred tests_at_cond tests_at_conj tests_at_neg left op right

pub between_tests : (without : Bool) (value low high : Expr) → tests_of_pred (pred.Between without value low high) ≡ []
unfolding tests_of_pred
between_tests without value low high = fold_between tests_at_pred tests_at_cond tests_at_conj tests_at_neg without value low high

pub among_tests : (without : Bool) (value : Expr) (list : IntList) → tests_of_pred (pred.Among without value list) ≡ tests_at_pred (Pred-F.Among without value list)
unfolding tests_of_pred
among_tests without value list = fold_among tests_at_pred tests_at_cond tests_at_conj tests_at_neg without value list

pub null_tests : (without : Bool) (value : Expr) → tests_of_pred (pred.IsNull without value) ≡ []
unfolding tests_of_pred
null_tests without value = fold_null tests_at_pred tests_at_cond tests_at_conj tests_at_neg without value

at_top_kept : (top : Bool) (t : Test) → kept_if top (at_top t) ≡ record { test = t; top = top } ∷ []
at_top_kept true t = refl
at_top_kept false t = refl

pub area_tests : (top : Bool) (kind : AreaKind) (span : Span) (args : IntList) → kept_if top (tests_of_pred (pred.Area kind span args)) ≡ record { test = Area kind span args; top = top } ∷ []
unfolding tests_of_pred
area_tests top kind span args = ap (kept_if top) (fold_area tests_at_pred tests_at_cond tests_at_conj tests_at_neg kind span args) ∙ at_top_kept top (Area kind span args)

pub chord_tests : (top : Bool) (left right : Name) (strict : Bool) (n : ℤ) → kept_if top (tests_of_pred (pred.Chord left right strict n)) ≡ record { test = Chord left right strict n; top = top } ∷ []
unfolding tests_of_pred
chord_tests top left right strict n = ap (kept_if top) (fold_chord tests_at_pred tests_at_cond tests_at_conj tests_at_neg left right strict n) ∙ at_top_kept top (Chord left right strict n)
