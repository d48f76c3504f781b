-- Conditions at other places.
use Rattle.std.proofs.Common.{◌≡◌, refl, sym, ap, ◌∙◌, Bool, true, false, not, ◌&&◌, List, [], ◌∷◌, ◌++◌, map, ℤ, pos}
use Rattle.std.specs.List.{flat_map}
use Rattle.std.specs.Ordering.{int_eq}
use Rattle.sql_token.specs.declared.keyword.Keyword.TheVariants as keyword
use Rattle.sql_token.specs.declared.sign.Sign.TheVariants as sign
use Rattle.sql_token.specs.declared.token.Span.{Span}
use Rattle.sql_tree.specs.Bare.{nowhere, bare_name, bare_expr, bare_int, bare_ints, bare_pred, bare_cond, bare_conj, bare_neg}
use Rattle.sql_tree.specs.declared.cond.AreaKind.{AreaKind}
use Rattle.sql_tree.specs.declared.cond.Cmp.{Cmp}
use Rattle.sql_tree.specs.declared.cond.Cond.{Cond, roll-Cond}
use Rattle.sql_tree.specs.declared.cond.Conj.{Conj, roll-Conj}
use Rattle.sql_tree.specs.declared.cond.IntList.{IntList}
use Rattle.sql_tree.specs.declared.cond.Neg.{Neg, roll-Neg}
use Rattle.sql_tree.specs.declared.cond.Pred.{Pred}
use Rattle.sql_tree.specs.declared.cond.Pred.TheOpen.{Cond-F, Conj-F, Neg-F}
use Rattle.sql_tree.specs.declared.cond.Pred.TheVariants as pred
use Rattle.sql_tree.specs.declared.cond.SignedInt.{SignedInt}
use Rattle.sql_tree.specs.declared.expr.Expr.{Expr}
use Rattle.sql_tree.specs.declared.name.Name.{Name}
use Rattle.sql_rules.proofs.Opened.{anded, ored, spell_bracket_pred, spell_compare_pred, spell_between_pred, spell_among_pred}
use Rattle.sql_rules.proofs.Opened.{spell_null_pred, spell_area_pred, spell_chord_pred, spell_neg_roll, spell_conj_roll, spell_cond_roll}
use Rattle.sql_rules.specs.Symbols.{Named, Number, Adds, Compares, AreaName, of_keyword, of_sign}
use Rattle.sql_rules.specs.Spelling.{optional, led_by, bracketed, spell_expr}
use Rattle.sql_rules.specs.SpellingConds.{spell_int, spell_ints, chord_op, spell_cond, spell_conj}
use Rattle.sql_rules.specs.SpellingConds.{spell_neg, spell_pred}
use Rattle.print_rules.proofs.Bared.{bare_bracket_pred, bare_compare_pred, bare_between_pred, bare_among_pred, bare_null_pred, bare_area_pred}
use Rattle.print_rules.proofs.Bared.{bare_chord_pred, bare_neg_roll, bare_conj_roll, bare_cond_roll, shown_expr, shown_ints, shown_pred, shown_neg}
use Rattle.print_rules.proofs.Bared.{shown_conj, shown_cond, shown_bracket_pred, shown_compare_pred, shown_between_pred, shown_among_pred}
use Rattle.print_rules.proofs.Bared.{shown_null_pred, shown_area_pred, shown_chord_pred, shown_neg_roll, shown_conj_roll, shown_cond_roll}
use Rattle.print_rules.proofs.ExprLifts.{lift_expr}
use Rattle.print_rules.proofs.Lifted.{Lifts, split, append_both, last_symbol, headed, optional_front, worded, placed, inside, each_lifts}
use Rattle.print_rules.proofs.Lifted.{led_lifts, led_list_lifts}
use Rattle.print_rules.proofs.Walks.{Each, each_map, every, every_cond}

-- ---- ints

same_minus : (m z : Bool) → ((m && not z) && not z) ≡ (m && not z)
same_minus true true = refl
same_minus true false = refl
same_minus false z = refl

lift_int : (i : SignedInt) → Lifts spell_int bare_int i
unfolding bare_int
lift_int i ps e =
    let zero' = int_eq i.size (pos 0) in
    let front = optional_front (i.minus && not zero') (Adds true) (Number i.size ∷ []) ps refl e in
    record {
      value = bare_int i;
      spelled = front.whole ∙ ap (λ t. optional (i.minus && not zero') (Adds true) ++ t) (last_symbol (Number i.size) front.tail refl front.rest);
      same = ap (λ m. record { minus = m; size = i.size }) (same_minus i.minus zero');
    }

made_ints : (i j : SignedInt) (is js : List SignedInt) → i ≡ j → is ≡ js → ◌≡◌ {A = IntList} (record { first = i; rest = is }) (record { first = j; rest = js })
made_ints i j is js e f = rw (e, f) refl

lift_ints : (l : IntList) → Lifts spell_ints bare_ints l
lift_ints l ps e =
    let i = inside _ ps e in
    let two = split (spell_int (bare_int l.first)) (led_by (of_sign sign.Comma) (map spell_int (map bare_int l.rest))) i.inner i.is in
    let one = lift_int l.first two.front two.first in
    let more = led_list_lifts (of_sign sign.Comma) spell_int bare_int l.rest refl (every (Lifts spell_int bare_int) lift_int l.rest) two.back two.rest in
    record {
      value = record { first = one.value; rest = more.value };
      spelled = i.whole ∙ ap bracketed (two.whole ∙ append_both two.front two.back (spell_int one.value) (led_by (of_sign sign.Comma) (map spell_int more.value)) one.spelled more.spelled);
      same = made_ints (bare_int one.value) (bare_int l.first) (map bare_int more.value) (map bare_int l.rest) one.same more.same;
    }

-- ---- predicates

-- what is proved of each part
abbrev pub PredLifts : Pred → Type 0
PredLifts = Lifts spell_pred bare_pred

abbrev pub NegLifts : Neg → Type 0
NegLifts = Lifts spell_neg bare_neg

abbrev pub ConjLifts : Conj → Type 0
ConjLifts = Lifts spell_conj bare_conj

abbrev pub CondLifts : Cond → Type 0
CondLifts = Lifts spell_cond bare_cond

lift_bracket : (c : Cond) → CondLifts c → PredLifts (pred.Bracket c)
lift_bracket c h ps e =
    let i = inside (shown_cond c) ps (e ∙ shown_bracket_pred c) in
    let one = h i.inner i.is in
    record { value = pred.Bracket one.value; spelled = i.whole ∙ ap bracketed one.spelled ∙ sym (spell_bracket_pred one.value); same = bare_bracket_pred one.value ∙ ap pred.Bracket one.same ∙ sym (bare_bracket_pred c) }

made_compare : (a b c d : Expr) (op : Cmp) → a ≡ c → b ≡ d → pred.Compare a op b ≡ pred.Compare c op d
made_compare a b c d op e f = rw (e, f) refl

lift_compare : (left : Expr) (op : Cmp) (right : Expr) → PredLifts (pred.Compare left op right)
lift_compare left op right ps e =
    let two = split (shown_expr left) (Compares op ∷ shown_expr right) ps (e ∙ shown_compare_pred left op right) in
    let a = lift_expr left two.front two.first in
    let sign' = headed (Compares op) (shown_expr right) two.back refl two.rest in
    let b = lift_expr right sign'.tail sign'.rest in
    record {
      value = pred.Compare a.value op b.value;
      spelled = two.whole ∙ append_both two.front two.back (spell_expr a.value) (Compares op ∷ spell_expr b.value) a.spelled (sign'.whole ∙ ap (λ t. Compares op ∷ t) b.spelled) ∙ sym (spell_compare_pred a.value op b.value);
      same = bare_compare_pred a.value op b.value ∙ made_compare (bare_expr a.value) (bare_expr b.value) (bare_expr left) (bare_expr right) op a.same b.same ∙ sym (bare_compare_pred left op right);
    }

made_between : (without : Bool) (a b c d e f : Expr) → a ≡ d → b ≡ e → c ≡ f → pred.Between without a b c ≡ pred.Between without d e f
made_between without a b c d e f x y z = rw (x, y, z) refl

lift_between : (without : Bool) (value low high : Expr) → PredLifts (pred.Between without value low high)
lift_between without value low high ps e =
    let two = split (shown_expr value) _ ps (e ∙ shown_between_pred without value low high) in
    let a = lift_expr value two.front two.first in
    let front = optional_front without (of_keyword keyword.Not) _ two.back refl two.rest in
    let between' = headed (of_keyword keyword.Between) _ front.tail refl front.rest in
    let range = split (shown_expr low) (of_keyword keyword.And ∷ shown_expr high) between'.tail between'.rest in
    let b = lift_expr low range.front range.first in
    let and' = headed (of_keyword keyword.And) (shown_expr high) range.back refl range.rest in
    let c = lift_expr high and'.tail and'.rest in
    let end = append_both range.front range.back (spell_expr b.value) (of_keyword keyword.And ∷ spell_expr c.value) b.spelled (and'.whole ∙ ap (λ t. of_keyword keyword.And ∷ t) c.spelled) in
    let later = front.whole ∙ ap (λ t. optional without (of_keyword keyword.Not) ++ t) (between'.whole ∙ ap (λ t. of_keyword keyword.Between ∷ t) (range.whole ∙ end)) in
    record {
      value = pred.Between without a.value b.value c.value;
      spelled = two.whole ∙ append_both two.front two.back (spell_expr a.value) _ a.spelled later ∙ sym (spell_between_pred without a.value b.value c.value);
      same = bare_between_pred without a.value b.value c.value ∙ made_between without (bare_expr a.value) (bare_expr b.value) (bare_expr c.value) (bare_expr value) (bare_expr low) (bare_expr high) a.same b.same c.same ∙ sym (bare_between_pred without value low high);
    }

made_among : (without : Bool) (a b : Expr) (l m : IntList) → a ≡ b → l ≡ m → pred.Among without a l ≡ pred.Among without b m
made_among without a b l m x y = rw (x, y) refl

lift_among : (without : Bool) (value : Expr) (list : IntList) → PredLifts (pred.Among without value list)
lift_among without value list ps e =
    let two = split (shown_expr value) _ ps (e ∙ shown_among_pred without value list) in
    let a = lift_expr value two.front two.first in
    let front = optional_front without (of_keyword keyword.Not) _ two.back refl two.rest in
    let in' = headed (of_keyword keyword.In) (shown_ints list) front.tail refl front.rest in
    let b = lift_ints list in'.tail in'.rest in
    let later = front.whole ∙ ap (λ t. optional without (of_keyword keyword.Not) ++ t) (in'.whole ∙ ap (λ t. of_keyword keyword.In ∷ t) b.spelled) in
    record {
      value = pred.Among without a.value b.value;
      spelled = two.whole ∙ append_both two.front two.back (spell_expr a.value) _ a.spelled later ∙ sym (spell_among_pred without a.value b.value);
      same = bare_among_pred without a.value b.value ∙ made_among without (bare_expr a.value) (bare_expr value) (bare_ints b.value) (bare_ints list) a.same b.same ∙ sym (bare_among_pred without value list);
    }

lift_null : (without : Bool) (value : Expr) → PredLifts (pred.IsNull without value)
lift_null without value ps e =
    let two = split (shown_expr value) _ ps (e ∙ shown_null_pred without value) in
    let a = lift_expr value two.front two.first in
    let is' = headed (of_keyword keyword.Is) _ two.back refl two.rest in
    let front = optional_front without (of_keyword keyword.Not) (of_keyword keyword.Null ∷ []) is'.tail refl is'.rest in
    let later = is'.whole ∙ ap (λ t. of_keyword keyword.Is ∷ t) (front.whole ∙ ap (λ t. optional without (of_keyword keyword.Not) ++ t) (last_symbol (of_keyword keyword.Null) front.tail refl front.rest)) in
    record {
      value = pred.IsNull without a.value;
      spelled = two.whole ∙ append_both two.front two.back (spell_expr a.value) _ a.spelled later ∙ sym (spell_null_pred without a.value);
      same = bare_null_pred without a.value ∙ ap (λ t. pred.IsNull without t) a.same ∙ sym (bare_null_pred without value);
    }

lift_area : (kind : AreaKind) (span : Span) (args : IntList) → PredLifts (pred.Area kind span args)
lift_area kind span args ps e =
    let word = placed kind (shown_ints args) ps (e ∙ shown_area_pred kind span args) in
    let a = lift_ints args word.tail word.rest in
    record {
      value = pred.Area kind word.span a.value;
      spelled = word.whole ∙ ap (λ t. AreaName kind word.span ∷ t) a.spelled ∙ sym (spell_area_pred kind word.span a.value);
      same = bare_area_pred kind word.span a.value ∙ ap (λ t. pred.Area kind nowhere t) a.same ∙ sym (bare_area_pred kind span args);
    }

made_chord : (a b c d : Name) (strict : Bool) (n : ℤ) → a ≡ c → b ≡ d → pred.Chord a b strict n ≡ pred.Chord c d strict n
made_chord a b c d strict n x y = rw (x, y) refl

lift_chord : (left right : Name) (strict : Bool) (n : ℤ) → PredLifts (pred.Chord left right strict n)
lift_chord left right strict n ps e =
    let word = headed (of_keyword keyword.Chord2) _ ps refl (e ∙ shown_chord_pred left right strict n) in
    let open' = headed (of_sign sign.Open) _ word.tail refl word.rest in
    let a = worded left _ open'.tail open'.rest in
    let comma = headed (of_sign sign.Comma) _ a.tail refl a.rest in
    let b = worded right _ comma.tail comma.rest in
    let close = headed (of_sign sign.Close) _ b.tail refl b.rest in
    let op = headed (Compares (chord_op strict)) (Number n ∷ []) close.tail refl close.rest in
    let end = close.whole ∙ ap (λ t. of_sign sign.Close ∷ t) (op.whole ∙ ap (λ t. Compares (chord_op strict) ∷ t) (last_symbol (Number n) op.tail refl op.rest)) in
    let inner = a.whole ∙ ap (λ t. Named a.name ∷ t) (comma.whole ∙ ap (λ t. of_sign sign.Comma ∷ t) (b.whole ∙ ap (λ t. Named b.name ∷ t) end)) in
    record {
      value = pred.Chord a.name b.name strict n;
      spelled = word.whole ∙ ap (λ t. of_keyword keyword.Chord2 ∷ t) (open'.whole ∙ ap (λ t. of_sign sign.Open ∷ t) inner) ∙ sym (spell_chord_pred a.name b.name strict n);
      same = bare_chord_pred a.name b.name strict n ∙ made_chord (bare_name a.name) (bare_name b.name) (bare_name left) (bare_name right) strict n a.same b.same ∙ sym (bare_chord_pred left right strict n);
    }

-- ---- conditions

lift_neg : (x : Neg-F Pred Cond Conj Neg) → PredLifts x.pred → NegLifts (roll-Neg x)
lift_neg x h ps e =
    let front = optional_front x.not (of_keyword keyword.Not) (shown_pred x.pred) ps refl (e ∙ shown_neg_roll x) in
    let one = h front.tail front.rest in
    record {
      value = roll-Neg (record { not = x.not; pred = one.value });
      spelled = front.whole ∙ ap (λ t. optional x.not (of_keyword keyword.Not) ++ t) one.spelled ∙ sym (spell_neg_roll (record { not = x.not; pred = one.value }));
      same = bare_neg_roll (record { not = x.not; pred = one.value }) ∙ ap (λ t. roll-Neg (record { not = x.not; pred = t })) one.same ∙ sym (bare_neg_roll x);
    }

made_conj : (f g : Neg) (fs gs : List Neg) → f ≡ g → fs ≡ gs → roll-Conj (record { first = f; rest = fs }) ≡ roll-Conj (record { first = g; rest = gs })
made_conj f g fs gs e h = rw (e, h) refl

lift_conj : (x : Conj-F Pred Cond Conj Neg) → NegLifts x.first → Each NegLifts x.rest → ConjLifts (roll-Conj x)
lift_conj x first rest ps e =
    let two = split (shown_neg x.first) (flat_map (λ n. of_keyword keyword.And ∷ shown_neg n) x.rest) ps (e ∙ shown_conj_roll x) in
    let one = first two.front two.first in
    let more = each_lifts anded bare_neg x.rest (each_map NegLifts (Lifts anded bare_neg) (λ n h. led_lifts (of_keyword keyword.And) spell_neg bare_neg n refl h) x.rest rest) two.back two.rest in
    record {
      value = roll-Conj (record { first = one.value; rest = more.value });
      spelled = two.whole ∙ append_both two.front two.back (spell_neg one.value) (flat_map anded more.value) one.spelled more.spelled ∙ sym (spell_conj_roll (record { first = one.value; rest = more.value }));
      same = bare_conj_roll (record { first = one.value; rest = more.value }) ∙ made_conj (bare_neg one.value) (bare_neg x.first) (map bare_neg more.value) (map bare_neg x.rest) one.same more.same ∙ sym (bare_conj_roll x);
    }

made_cond : (f g : Conj) (fs gs : List Conj) → f ≡ g → fs ≡ gs → roll-Cond (record { first = f; rest = fs }) ≡ roll-Cond (record { first = g; rest = gs })
made_cond f g fs gs e h = rw (e, h) refl

lift_any : (x : Cond-F Pred Cond Conj Neg) → ConjLifts x.first → Each ConjLifts x.rest → CondLifts (roll-Cond x)
lift_any x first rest ps e =
    let two = split (shown_conj x.first) (flat_map (λ c. of_keyword keyword.Or ∷ shown_conj c) x.rest) ps (e ∙ shown_cond_roll x) in
    let one = first two.front two.first in
    let more = each_lifts ored bare_conj x.rest (each_map ConjLifts (Lifts ored bare_conj) (λ c h. led_lifts (of_keyword keyword.Or) spell_conj bare_conj c refl h) x.rest rest) two.back two.rest in
    record {
      value = roll-Cond (record { first = one.value; rest = more.value });
      spelled = two.whole ∙ append_both two.front two.back (spell_conj one.value) (flat_map ored more.value) one.spelled more.spelled ∙ sym (spell_cond_roll (record { first = one.value; rest = more.value }));
      same = bare_cond_roll (record { first = one.value; rest = more.value }) ∙ made_cond (bare_conj one.value) (bare_conj x.first) (map bare_conj more.value) (map bare_conj x.rest) one.same more.same ∙ sym (bare_cond_roll x);
    }

-- every condition
pub lift_cond : (c : Cond) → CondLifts c
lift_cond = every_cond (record { bracket = lift_bracket; compare = lift_compare; between = lift_between; among = lift_among; is_null = lift_null; area = lift_area; chord = lift_chord; neg = lift_neg; conj = lift_conj; cond = lift_any })
