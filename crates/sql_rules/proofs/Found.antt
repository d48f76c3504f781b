-- What is read is spelled by the tokens that it takes.
use Rattle.std.proofs.Common.{◌≡◌, ℕ, suc, zero, List, [], ◌∷◌, ◌++◌, map, refl, sym, ap, ◌∙◌, Bool, true, false}
use Rattle.std.proofs.Common.{append_assoc, length}
use Rattle.std.specs.List.{flat_map}
use Rattle.sql_tree.specs.declared.cond.Cmp.{Cmp}
use Rattle.sql_tree.specs.declared.cond.Cond.{Cond}
use Rattle.sql_tree.specs.declared.cond.Pred.{Pred}
use Rattle.sql_tree.specs.declared.cond.SignedInt.{SignedInt}
use Rattle.sql_tree.specs.declared.expr.Expr.{Expr}
use Rattle.sql_tree.specs.declared.expr.Signed.{Signed}
use Rattle.sql_tree.specs.declared.name.Name.{Name}
use Rattle.sql_rules.proofs.Opened.{flat_map-map, starred, anded, ored, spell_int_atom, spell_col_atom}
use Rattle.sql_rules.proofs.Opened.{spell_bracket_atom, spell_factor_roll, spell_prod_roll, spell_signed_roll}
use Rattle.sql_rules.proofs.Opened.{spell_expr_roll, spell_bracket_pred, spell_compare_pred, spell_between_pred}
use Rattle.sql_rules.proofs.Opened.{spell_among_pred, spell_null_pred, spell_area_pred, spell_chord_pred}
use Rattle.sql_rules.proofs.Opened.{spell_neg_roll, spell_conj_roll, spell_cond_roll}
use Rattle.sql_rules.proofs.Tokens.{bind_got, either_got, takes_both, mark_takes, name_takes, number_takes}
use Rattle.sql_rules.proofs.Tokens.{adds_takes, cmp_takes, area_takes, minus_takes, maybe_takes, many_takes}
use Rattle.sql_rules.specs.Symbols.{of_keyword, of_sign, Mark, Symbol, OfKeyword, OfSign, Named, Number, Adds, Compares, AreaName, Fixed}
use Rattle.sql_rules.specs.ReadConds.{between_with, range_with, null_at, said_with, chord_by, chord_behind, chord_at}
use Rattle.sql_rules.specs.ReadConds.{area_with, group_with, other_with, pred_with, neg_with, conj_with, any_with}
use Rattle.sql_rules.specs.ReadConds.{cond_at}
use Rattle.sql_rules.specs.ReadExprs.{col_at, bracket_with, atom_with, factor_with, prod_with, signed_with, sum_with}
use Rattle.sql_rules.specs.ReadExprs.{expr_at, int_at, more_ints_at, ints_at}
use Rattle.sql_rules.specs.Readers.{Reader, mark_at, name_at, number_at, adds_at, cmp_at, area_at, minus_at, maybe_at}
use Rattle.sql_rules.specs.Readers.{each, AreaWord, Got}
use Rattle.sql_rules.specs.Spelling.{Symbols, optional, spell_col, spell_atom, spell_expr, spell_factor, spell_prod}
use Rattle.sql_rules.specs.Spelling.{spell_signed}
use Rattle.sql_rules.specs.SpellingConds.{spell_int, spell_ints, spell_cond, spell_conj, spell_neg}
use Rattle.sql_rules.specs.SpellingConds.{spell_pred}
use Rattle.sql_token.specs.declared.keyword.Keyword.TheVariants as keyword
use Rattle.sql_token.specs.declared.sign.Sign.TheVariants as sign
use Rattle.sql_tree.specs.declared.cond.Cmp.TheVariants as cmp

abbrev pub Takes : {A : Type 0} → (A → Symbols) → Reader A → Type 0
Takes {A} spell read = (ts : List Symbol) (x : A) (rest : List Symbol) → read ts ≡ Got x rest → ts ≡ spell x ++ rest

-- the answer at the end of a reading
pub ends : {A : Type 0} (spell : A → Symbols) (v x : A) (text : Symbols) (r rest ts : List Symbol) → Got v r ≡ Got x rest → spell v ≡ text → ts ≡ text ++ r → ts ≡ spell x ++ rest
ends spell v x text r rest ts e made h = let a : v ≡ x = cc in let b : r ≡ rest = cc in rw (← a, ← b, made) h

pub col_takes : Takes spell_col col_at
unfolding col_at
col_takes ts x rest e =
    bind_got (name_at ts) _ x rest e (λ first us is e1.
    either_got (mark_at (OfSign sign.Dot) us) _ _ x rest e1
    (λ m vs dot e2. bind_got (name_at vs) _ x rest e2 (λ second r is2 e3.
    ends spell_col _ x _ r rest ts e3 refl (let a = name_takes ts first us is in let b = mark_takes (OfSign sign.Dot) us m vs dot in let c = name_takes vs second r is2 in cc)))
    (λ none e2. ends spell_col _ x _ us rest ts e2 refl (name_takes ts first us is)))

pub atom_takes : (inner : Reader Expr) → Takes spell_expr inner → Takes spell_atom (atom_with inner)
unfolding atom_with bracket_with
atom_takes inner h ts x rest e =
    either_got (mark_at (OfSign sign.Open) ts) _ _ x rest e
    (λ m us open' e1. bind_got (inner us) _ x rest e1 (λ y vs is e2. bind_got (mark_at (OfSign sign.Close) vs) _ x rest e2 (λ k r close e3.
    ends spell_atom _ x _ r rest ts e3 (spell_bracket_atom y)
    (takes_both ts (of_sign sign.Open ∷ []) us (spell_expr y ++ (of_sign sign.Close ∷ [])) r (mark_takes (OfSign sign.Open) ts m us open')
    (takes_both us (spell_expr y) vs (of_sign sign.Close ∷ []) r (h us y vs is) (mark_takes (OfSign sign.Close) vs k r close))))))
    (λ none e1. either_got (number_at ts) _ _ x rest e1
    (λ n r is e2. ends spell_atom _ x _ r rest ts e2 (spell_int_atom n) (number_takes ts n r is))
    (λ none2 e2. bind_got (col_at ts) _ x rest e2 (λ c r is e3. ends spell_atom _ x _ r rest ts e3 (spell_col_atom c) (col_takes ts c r is))))

pub factor_takes : (inner : Reader Expr) → Takes spell_expr inner → Takes spell_factor (factor_with inner)
unfolding factor_with
factor_takes inner h ts x rest e =
    bind_got (atom_with inner (minus_at ts).1) _ x rest e (λ a r is e1.
    ends spell_factor _ x _ r rest ts e1 (spell_factor_roll (record { minus = (minus_at ts).0; atom = a }))
    (takes_both ts (optional (minus_at ts).0 (Adds true)) (minus_at ts).1 (spell_atom a) r (minus_takes ts) (atom_takes inner h (minus_at ts).1 a r is)))

-- several, each led by one mark
pub each_takes : {A : Type 0} (m : Mark) (item : Reader A) (spell : A → Symbols) → Takes spell item → Takes (flat_map (λ x. Fixed m ∷ spell x)) (each (mark_at m) (λ _. item))
each_takes m item spell h ts xs rest e = many_takes (mark_at m) (λ _. item) (λ x. Fixed m ∷ spell x) (λ ts' k us a r led is. mark_takes m ts' k us led ∙ ap (λ t. Fixed m ∷ t) (h us a r is)) (length ts) ts xs rest e

pub prod_takes : (inner : Reader Expr) → Takes spell_expr inner → Takes spell_prod (prod_with inner)
unfolding prod_with
prod_takes inner h ts x rest e =
    bind_got (factor_with inner ts) _ x rest e (λ f us is e1.
    bind_got (each (mark_at (OfSign sign.Star)) (λ _. factor_with inner) us) _ x rest e1 (λ fs r more e2.
    ends spell_prod _ x _ r rest ts e2 (spell_prod_roll (record { first = f; rest = fs }))
    (takes_both ts (spell_factor f) us (flat_map starred fs) r (factor_takes inner h ts f us is) (each_takes (OfSign sign.Star) (factor_with inner) spell_factor (factor_takes inner h) us fs r more))))

pub signed_takes : (inner : Reader Expr) → Takes spell_expr inner → (s : Bool) (us : List Symbol) (x : Signed) (rest : List Symbol) → signed_with inner s us ≡ Got x rest → Adds s ∷ us ≡ spell_signed x ++ rest
unfolding signed_with
signed_takes inner h s us x rest e =
    bind_got (prod_with inner us) _ x rest e (λ p r is e1.
    ends spell_signed _ x _ r rest (Adds s ∷ us) e1 (spell_signed_roll (record { minus = s; prod = p })) (ap (λ t. Adds s ∷ t) (prod_takes inner h us p r is)))

pub sum_takes : (inner : Reader Expr) → Takes spell_expr inner → Takes spell_expr (sum_with inner)
unfolding sum_with
sum_takes inner h ts x rest e =
    bind_got (prod_with inner ts) _ x rest e (λ p us is e1.
    bind_got (each adds_at (signed_with inner) us) _ x rest e1 (λ ps r more e2.
    ends spell_expr _ x _ r rest ts e2 (spell_expr_roll (record { first = p; rest = ps }))
    (takes_both ts (spell_prod p) us (flat_map spell_signed ps) r (prod_takes inner h ts p us is)
    (many_takes adds_at (signed_with inner) spell_signed (λ ts' s vs a r' led is'. adds_takes ts' s vs led ∙ signed_takes inner h s vs a r' is') (length us) us ps r more))))

pub expr_takes : (n : ℕ) → Takes spell_expr (expr_at n)
unfolding expr_at
expr_takes zero ts x rest e = absurd cc
expr_takes (suc n) ts x rest e = sum_takes (expr_at n) (expr_takes n) ts x rest e

-- ---- conditions

pub int_takes : Takes spell_int int_at
unfolding int_at
int_takes ts x rest e =
    bind_got (number_at (minus_at ts).1) _ x rest e (λ n r is e1.
    ends spell_int _ x _ r rest ts e1 refl
    (takes_both ts (optional (minus_at ts).0 (Adds true)) (minus_at ts).1 (Number n ∷ []) r (minus_takes ts) (number_takes (minus_at ts).1 n r is)))

-- what is read behind a front
abbrev pub TakesAfter : {A : Type 0} → Symbols → (A → Symbols) → Reader A → Type 0
TakesAfter {A} front spell read = (ts : List Symbol) (x : A) (rest : List Symbol) → read ts ≡ Got x rest → front ++ ts ≡ spell x ++ rest

-- a part behind a front, and behind a front of two
pub after_one : (a ts b r : Symbols) → ts ≡ b ++ r → a ++ ts ≡ (a ++ b) ++ r
after_one a ts b r h = ap (λ t. a ++ t) h ∙ sym (append_assoc a b r)

pub after_two : (a b ts c r : Symbols) → ts ≡ c ++ r → (a ++ b) ++ ts ≡ (a ++ (b ++ c)) ++ r
after_two a b ts c r h = append_assoc a b ts ∙ after_one a (b ++ ts) (b ++ c) r (after_one b ts c r h)

-- a front that goes on by one symbol
shift : (a b : Symbols) (p : Symbol) (us : Symbols) → (a ++ b) ++ (p ∷ us) ≡ (a ++ (b ++ (p ∷ []))) ++ us
shift a b p us = after_two a b (p ∷ us) (p ∷ []) us refl

-- two parts and a last symbol
closed_two : (a b : Symbols) (p : Symbol) (ts us r : Symbols) → ts ≡ b ++ us → us ≡ p ∷ r → a ++ ts ≡ ((a ++ b) ++ (p ∷ [])) ++ r
closed_two a b p ts us r h k = ap (λ t. a ++ t) (h ∙ ap (λ t. b ++ t) k) ∙ sym (append_assoc a b (p ∷ r)) ∙ sym (append_assoc (a ++ b) (p ∷ []) r)

more_ints_takes : (first : SignedInt) → TakesAfter (of_sign sign.Open ∷ spell_int first) spell_ints (more_ints_at first)
unfolding more_ints_at
more_ints_takes first ts x rest e =
    bind_got (each (mark_at (OfSign sign.Comma)) (λ _. int_at) ts) _ x rest e (λ ints us more e1.
    bind_got (mark_at (OfSign sign.Close) us) _ x rest e1 (λ k r close e2.
    let c = each_takes (OfSign sign.Comma) int_at spell_int int_takes ts ints us more in
    let d = mark_takes (OfSign sign.Close) us k r close in
    let all : flat_map (λ t. of_sign sign.Comma ∷ t) (map spell_int ints) ≡ flat_map (λ t. of_sign sign.Comma ∷ spell_int t) ints = flat_map-map (λ t. of_sign sign.Comma ∷ t) spell_int ints in
    ends spell_ints _ x _ r rest _ e2 refl (rw all (ap (λ t. of_sign sign.Open ∷ t) (closed_two (spell_int first) (flat_map (λ t. of_sign sign.Comma ∷ spell_int t) ints) (of_sign sign.Close) ts us r c d)))))

pub ints_takes : Takes spell_ints ints_at
unfolding ints_at
ints_takes ts x rest e =
    bind_got (mark_at (OfSign sign.Open) ts) _ x rest e (λ m us open' e1.
    bind_got (int_at us) _ x rest e1 (λ i vs is e2.
    mark_takes (OfSign sign.Open) ts m us open' ∙ ap (λ t. of_sign sign.Open ∷ t) (int_takes us i vs is) ∙ more_ints_takes i vs x rest e2))

between_takes : (n : ℕ) (value : Expr) (without : Bool) → TakesAfter (spell_expr value ++ (optional without (of_keyword keyword.Not) ++ (of_keyword keyword.Between ∷ []))) spell_pred (between_with (expr_at n) value without)
unfolding between_with
between_takes n value without ts x rest e =
    bind_got (expr_at n ts) _ x rest e (λ low us is e1.
    bind_got (mark_at (OfKeyword keyword.And) us) _ x rest e1 (λ m vs and e2.
    bind_got (expr_at n vs) _ x rest e2 (λ high r is2 e3.
    let a = expr_takes n ts low us is in
    let b = mark_takes (OfKeyword keyword.And) us m vs and in
    let c = expr_takes n vs high r is2 in
    ends spell_pred _ x _ r rest _ e3 (spell_between_pred without value low high) (simp append_assoc (rw (a, b, c) refl)))))

range_takes : (n : ℕ) (value : Expr) (without : Bool) → TakesAfter (spell_expr value ++ optional without (of_keyword keyword.Not)) spell_pred (range_with (expr_at n) value without)
unfolding range_with
range_takes n value without ts x rest e =
    either_got (mark_at (OfKeyword keyword.Between) ts) _ _ x rest e
    (λ m us led e1. rw (mark_takes (OfKeyword keyword.Between) ts m us led) (shift (spell_expr value) (optional without (of_keyword keyword.Not)) (of_keyword keyword.Between) us ∙ between_takes n value without us x rest e1))
    (λ none e1. bind_got (mark_at (OfKeyword keyword.In) ts) _ x rest e1 (λ m us led e2. bind_got (ints_at us) _ x rest e2 (λ list r is e3.
    ends spell_pred _ x _ r rest _ e3 (spell_among_pred without value list)
    (after_two (spell_expr value) (optional without (of_keyword keyword.Not)) ts (of_keyword keyword.In ∷ spell_ints list) r
    (mark_takes (OfKeyword keyword.In) ts m us led ∙ ap (λ t. of_keyword keyword.In ∷ t) (ints_takes us list r is))))))

null_takes : (value : Expr) → TakesAfter (spell_expr value ++ (of_keyword keyword.Is ∷ [])) spell_pred (null_at value)
unfolding null_at
null_takes value ts x rest e =
    bind_got (mark_at (OfKeyword keyword.Null) (maybe_at (OfKeyword keyword.Not) ts).1) _ x rest e (λ m r null e1.
    ends spell_pred _ x _ r rest _ e1 (spell_null_pred (maybe_at (OfKeyword keyword.Not) ts).0 value)
    (after_two (spell_expr value) (of_keyword keyword.Is ∷ []) ts (optional (maybe_at (OfKeyword keyword.Not) ts).0 (of_keyword keyword.Not) ++ (of_keyword keyword.Null ∷ [])) r
    (takes_both ts (optional (maybe_at (OfKeyword keyword.Not) ts).0 (of_keyword keyword.Not)) (maybe_at (OfKeyword keyword.Not) ts).1 (of_keyword keyword.Null ∷ []) r (maybe_takes (OfKeyword keyword.Not) ts) (mark_takes (OfKeyword keyword.Null) (maybe_at (OfKeyword keyword.Not) ts).1 m r null))))

said_takes : (n : ℕ) (value : Expr) → TakesAfter (spell_expr value) spell_pred (said_with (expr_at n) value)
unfolding said_with
said_takes n value ts x rest e =
    either_got (cmp_at ts) _ _ x rest e
    (λ c us led e1. bind_got (expr_at n us) _ x rest e1 (λ y r is e2.
    ends spell_pred _ x _ r rest _ e2 (spell_compare_pred value c y) (after_one (spell_expr value) ts (Compares c ∷ spell_expr y) r (cmp_takes ts c us led ∙ ap (λ t. Compares c ∷ t) (expr_takes n us y r is)))))
    (λ none e1. either_got (mark_at (OfKeyword keyword.Is) ts) _ _ x rest e1
    (λ m us led e2. after_one (spell_expr value) ts (of_keyword keyword.Is ∷ []) us (mark_takes (OfKeyword keyword.Is) ts m us led) ∙ null_takes value us x rest e2)
    (λ none2 e2. after_one (spell_expr value) ts (optional (maybe_at (OfKeyword keyword.Not) ts).0 (of_keyword keyword.Not)) (maybe_at (OfKeyword keyword.Not) ts).1 (maybe_takes (OfKeyword keyword.Not) ts) ∙ range_takes n value (maybe_at (OfKeyword keyword.Not) ts).0 (maybe_at (OfKeyword keyword.Not) ts).1 x rest e2))

-- CHORD2 ( left , right ), and what follows it
abbrev chord_front : Name → Name → Symbols → Symbols
chord_front left right ts = of_keyword keyword.Chord2 ∷ of_sign sign.Open ∷ Named left ∷ of_sign sign.Comma ∷ Named right ∷ of_sign sign.Close ∷ ts

chord_by_takes : (left right : Name) (op : Cmp) (ts : List Symbol) (x : Pred) (rest : List Symbol) → chord_by left right op ts ≡ Got x rest → chord_front left right (Compares op ∷ ts) ≡ spell_pred x ++ rest
chord_by_takes left right cmp.AtMost ts x rest e = bind_got (number_at ts) _ x rest e (λ n r is e1. ends spell_pred _ x _ r rest _ e1 (spell_chord_pred left right false n) (ap (λ t. chord_front left right (Compares cmp.AtMost ∷ t)) (number_takes ts n r is)))
chord_by_takes left right cmp.Less ts x rest e = bind_got (number_at ts) _ x rest e (λ n r is e1. ends spell_pred _ x _ r rest _ e1 (spell_chord_pred left right true n) (ap (λ t. chord_front left right (Compares cmp.Less ∷ t)) (number_takes ts n r is)))
chord_by_takes left right cmp.Equal ts x rest e = absurd cc
chord_by_takes left right cmp.Differs ts x rest e = absurd cc
chord_by_takes left right cmp.More ts x rest e = absurd cc
chord_by_takes left right cmp.AtLeast ts x rest e = absurd cc

chord_behind_takes : (left : Name) → TakesAfter (of_keyword keyword.Chord2 ∷ of_sign sign.Open ∷ Named left ∷ []) spell_pred (chord_behind left)
unfolding chord_behind
chord_behind_takes left ts x rest e =
    bind_got (mark_at (OfSign sign.Comma) ts) _ x rest e (λ m us comma e1.
    bind_got (name_at us) _ x rest e1 (λ right vs is e2.
    bind_got (mark_at (OfSign sign.Close) vs) _ x rest e2 (λ k ws close e3.
    bind_got (cmp_at ws) _ x rest e3 (λ op r led e4.
    let a = mark_takes (OfSign sign.Comma) ts m us comma in
    let b = name_takes us right vs is in
    let c = mark_takes (OfSign sign.Close) vs k ws close in
    let d = cmp_takes ws op r led in
    rw (a, b, c, d) (chord_by_takes left right op r x rest e4)))))

chord_takes : TakesAfter (of_keyword keyword.Chord2 ∷ []) spell_pred chord_at
unfolding chord_at
chord_takes ts x rest e =
    bind_got (mark_at (OfSign sign.Open) ts) _ x rest e (λ m us open' e1.
    bind_got (name_at us) _ x rest e1 (λ left vs is e2.
    ap (λ t. of_keyword keyword.Chord2 ∷ t) (mark_takes (OfSign sign.Open) ts m us open' ∙ ap (λ t. of_sign sign.Open ∷ t) (name_takes us left vs is)) ∙ chord_behind_takes left vs x rest e2))

area_test_takes : (word : AreaWord) → TakesAfter (AreaName word.kind word.span ∷ []) spell_pred (area_with word)
unfolding area_with
area_test_takes word ts x rest e =
    bind_got (ints_at ts) _ x rest e (λ args r is e1.
    ends spell_pred _ x _ r rest _ e1 (spell_area_pred word.kind word.span args) (ap (λ t. AreaName word.kind word.span ∷ t) (ints_takes ts args r is)))

other_takes : (inner : Reader Cond) → Takes spell_cond inner → Takes spell_pred (other_with inner)
unfolding other_with group_with
other_takes inner h ts x rest e =
    either_got (area_at ts) _ _ x rest e
    (λ word us led e1. area_takes ts word us led ∙ area_test_takes word us x rest e1)
    (λ none e1. either_got (mark_at (OfKeyword keyword.Chord2) ts) _ _ x rest e1
    (λ m us led e2. mark_takes (OfKeyword keyword.Chord2) ts m us led ∙ chord_takes us x rest e2)
    (λ none2 e2. bind_got (mark_at (OfSign sign.Open) ts) _ x rest e2 (λ m us open' e3. bind_got (inner us) _ x rest e3 (λ c vs is e4. bind_got (mark_at (OfSign sign.Close) vs) _ x rest e4 (λ k r close e5.
    ends spell_pred _ x _ r rest ts e5 (spell_bracket_pred c)
    (takes_both ts (of_sign sign.Open ∷ []) us (spell_cond c ++ (of_sign sign.Close ∷ [])) r (mark_takes (OfSign sign.Open) ts m us open')
    (takes_both us (spell_cond c) vs (of_sign sign.Close ∷ []) r (h us c vs is) (mark_takes (OfSign sign.Close) vs k r close))))))))

pub pred_takes : (n : ℕ) (inner : Reader Cond) → Takes spell_cond inner → Takes spell_pred (pred_with (expr_at n) inner)
unfolding pred_with
pred_takes n inner h ts x rest e =
    either_got (expr_at n ts) _ _ x rest e
    (λ y us is e1. expr_takes n ts y us is ∙ said_takes n y us x rest e1)
    (λ none e1. other_takes inner h ts x rest e1)

pub neg_takes : (n : ℕ) (inner : Reader Cond) → Takes spell_cond inner → Takes spell_neg (neg_with (expr_at n) inner)
unfolding neg_with
neg_takes n inner h ts x rest e =
    bind_got (pred_with (expr_at n) inner (maybe_at (OfKeyword keyword.Not) ts).1) _ x rest e (λ p r is e1.
    ends spell_neg _ x _ r rest ts e1 (spell_neg_roll (record { not = (maybe_at (OfKeyword keyword.Not) ts).0; pred = p }))
    (takes_both ts (optional (maybe_at (OfKeyword keyword.Not) ts).0 (of_keyword keyword.Not)) (maybe_at (OfKeyword keyword.Not) ts).1 (spell_pred p) r (maybe_takes (OfKeyword keyword.Not) ts) (pred_takes n inner h (maybe_at (OfKeyword keyword.Not) ts).1 p r is)))

pub conj_takes : (n : ℕ) (inner : Reader Cond) → Takes spell_cond inner → Takes spell_conj (conj_with (expr_at n) inner)
unfolding conj_with
conj_takes n inner h ts x rest e =
    bind_got (neg_with (expr_at n) inner ts) _ x rest e (λ f us is e1.
    bind_got (each (mark_at (OfKeyword keyword.And)) (λ _. neg_with (expr_at n) inner) us) _ x rest e1 (λ fs r more e2.
    ends spell_conj _ x _ r rest ts e2 (spell_conj_roll (record { first = f; rest = fs }))
    (takes_both ts (spell_neg f) us (flat_map anded fs) r (neg_takes n inner h ts f us is) (each_takes (OfKeyword keyword.And) (neg_with (expr_at n) inner) spell_neg (neg_takes n inner h) us fs r more))))

pub any_takes : (n : ℕ) (inner : Reader Cond) → Takes spell_cond inner → Takes spell_cond (any_with (expr_at n) inner)
unfolding any_with
any_takes n inner h ts x rest e =
    bind_got (conj_with (expr_at n) inner ts) _ x rest e (λ f us is e1.
    bind_got (each (mark_at (OfKeyword keyword.Or)) (λ _. conj_with (expr_at n) inner) us) _ x rest e1 (λ fs r more e2.
    ends spell_cond _ x _ r rest ts e2 (spell_cond_roll (record { first = f; rest = fs }))
    (takes_both ts (spell_conj f) us (flat_map ored fs) r (conj_takes n inner h ts f us is) (each_takes (OfKeyword keyword.Or) (conj_with (expr_at n) inner) spell_conj (conj_takes n inner h) us fs r more))))

pub cond_takes : (n : ℕ) → Takes spell_cond (cond_at n)
unfolding cond_at
cond_takes zero ts x rest e = absurd cc
cond_takes (suc n) ts x rest e = any_takes (suc n) (cond_at n) (cond_takes n) ts x rest e
