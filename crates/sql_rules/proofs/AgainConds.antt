-- The same of conditions. A bracket opens a condition where no expression can be read there.
use Rattle.std.proofs.Common.{◌≡◌, ℕ, ℤ, suc, zero, ◌≤◌, List, [], ◌∷◌, ◌++◌, map, refl, Bool, true, false}
use Rattle.std.proofs.Common.{append_assoc, arith}
use Rattle.std.specs.List.{flat_map}
use Rattle.sql_token.specs.declared.token.Span.{Span}
use Rattle.sql_tree.specs.declared.cond.AreaKind.{AreaKind}
use Rattle.sql_tree.specs.declared.cond.Cmp.{Cmp}
use Rattle.sql_tree.specs.declared.cond.Cond.{Cond}
use Rattle.sql_tree.specs.declared.cond.Conj.{Conj}
use Rattle.sql_tree.specs.declared.cond.IntList.{IntList}
use Rattle.sql_tree.specs.declared.cond.Neg.{Neg, roll-Neg}
use Rattle.sql_tree.specs.declared.cond.Pred.{Pred}
use Rattle.sql_tree.specs.declared.cond.SignedInt.{SignedInt}
use Rattle.sql_tree.specs.declared.expr.Atom.{Atom}
use Rattle.sql_tree.specs.declared.expr.Expr.{Expr}
use Rattle.sql_tree.specs.declared.name.Name.{Name}
use Rattle.sql_rules.proofs.Again.{each_again, expr_again, starts_expr, EndsExpr}
use Rattle.sql_rules.proofs.Found.{ends}
use Rattle.sql_rules.proofs.Nesting.{most, nest_expr, nest_pred, nest_cond, nest_conj, nest_neg}
use Rattle.sql_rules.proofs.Opened.{flat_map-map, anded, ored, spell_bracket_pred, spell_compare_pred}
use Rattle.sql_rules.proofs.Opened.{spell_between_pred, spell_among_pred, spell_null_pred, spell_area_pred}
use Rattle.sql_rules.proofs.Opened.{spell_chord_pred, spell_neg_roll, spell_conj_roll, spell_cond_roll}
use Rattle.sql_rules.proofs.Opened.{nest_bracket_pred, nest_compare_pred, nest_between_pred, nest_among_pred}
use Rattle.sql_rules.proofs.Opened.{nest_null_pred, nest_neg_roll, nest_conj_roll, nest_cond_roll, pred_cases}
use Rattle.sql_rules.proofs.Opened.{neg_cases, conj_cases, cond_cases}
use Rattle.sql_rules.proofs.Tokens.{Again}
use Rattle.sql_rules.specs.Symbols.{of_keyword, of_sign, Mark, Symbol, OfKeyword, OfSign, Named, Number, Adds, Compares, AreaName, Fixed}
use Rattle.sql_rules.specs.ReadConds.{between_with, range_with, null_at, said_with, chord_behind, chord_at, area_with}
use Rattle.sql_rules.specs.ReadConds.{group_with, other_with, pred_with, neg_with, conj_with, any_with, cond_at}
use Rattle.sql_rules.specs.ReadExprs.{col_at, bracket_with, atom_with, factor_with, prod_with, sum_with, expr_at}
use Rattle.sql_rules.specs.ReadExprs.{int_at, more_ints_at, ints_at}
use Rattle.sql_rules.specs.Readers.{Reader, ◌>>=◌, mark_at, maybe_at, Answer, Got, Stuck}
use Rattle.sql_rules.specs.Spelling.{Symbols, optional, spell_expr}
use Rattle.sql_rules.specs.SpellingConds.{spell_int, spell_ints, chord_op, spell_cond}
use Rattle.sql_rules.specs.SpellingConds.{spell_conj, spell_neg, spell_pred}
use Rattle.sql_token.specs.declared.keyword.Keyword.TheVariants as keyword
use Rattle.sql_token.specs.declared.sign.Sign.TheVariants as sign
use Rattle.sql_tree.specs.declared.expr.Atom.TheVariants as atom
use Rattle.sql_tree.specs.declared.cond.Pred.TheVariants as pred

-- ---- what follows the first expression of a predicate

abbrev Nothing : List Symbol → Type 0
Nothing ts = Unit {0}

int_parts : (m : Bool) (n : ℤ) (rest : List Symbol) → int_at ((optional m (Adds true) ++ (Number n ∷ [])) ++ rest) ≡ Got (record { minus = m; size = n }) rest
unfolding int_at
int_parts true n rest = refl
int_parts false n rest = refl

int_again : Again spell_int (λ _. 0) 0 Nothing int_at
int_again i rest deep ends = int_parts i.minus i.size rest

zeros : (xs : List SignedInt) → most (map (λ _. 0) xs) ≤ 0
zeros [] = omega arith
zeros (x ∷ xs) = omega (arith, zeros xs)

pub ints_again : (l : IntList) (rest : List Symbol) → ints_at (spell_ints l ++ rest) ≡ Got l rest
unfolding ints_at more_ints_at
ints_again l rest =
    let text = flat_map (λ t. of_sign sign.Comma ∷ spell_int t) l.rest in
    let one = int_again l.first (text ++ (of_sign sign.Close ∷ rest)) (omega arith) tt in
    let more = each_again (OfSign sign.Comma) int_at spell_int (λ _. 0) 0 Nothing int_again (λ ts. tt) l.rest (of_sign sign.Close ∷ rest) (zeros l.rest) tt refl in
    rw (flat_map-map (λ t. of_sign sign.Comma ∷ t) spell_int l.rest, append_assoc (spell_int l.first ++ text) (of_sign sign.Close ∷ []) rest, append_assoc (spell_int l.first) text (of_sign sign.Close ∷ rest), one, more) refl

-- what is said of an expression cannot go on with it, nor close a bracket
record Said (ts : List Symbol) : Type 0 where
  ends : EndsExpr ts
  open' : mark_at (OfSign sign.Close) ts ≡ Stuck

said_cmp : (op : Cmp) (ts : List Symbol) → Said (Compares op ∷ ts)
said_cmp op ts = record { ends = record { prod = record { col = record { dot = refl }; star = refl }; sign = refl }; open' = refl }

said_is : (ts : List Symbol) → Said (of_keyword keyword.Is ∷ ts)
said_is ts = record { ends = record { prod = record { col = record { dot = refl }; star = refl }; sign = refl }; open' = refl }

said_between : (without : Bool) (ts : Symbols) (rest : List Symbol) → Said ((optional without (of_keyword keyword.Not) ++ (of_keyword keyword.Between ∷ ts)) ++ rest)
said_between true ts rest = record { ends = record { prod = record { col = record { dot = refl }; star = refl }; sign = refl }; open' = refl }
said_between false ts rest = record { ends = record { prod = record { col = record { dot = refl }; star = refl }; sign = refl }; open' = refl }

said_in : (without : Bool) (ts : Symbols) (rest : List Symbol) → Said ((optional without (of_keyword keyword.Not) ++ (of_keyword keyword.In ∷ ts)) ++ rest)
said_in true ts rest = record { ends = record { prod = record { col = record { dot = refl }; star = refl }; sign = refl }; open' = refl }
said_in false ts rest = record { ends = record { prod = record { col = record { dot = refl }; star = refl }; sign = refl }; open' = refl }

between_again : (n : ℕ) (value : Expr) (without : Bool) (low high : Expr) (rest : List Symbol) → suc (nest_expr low) ≤ n → suc (nest_expr high) ≤ n → EndsExpr rest →
    between_with (expr_at n) value without ((spell_expr low ++ (of_keyword keyword.And ∷ spell_expr high)) ++ rest) ≡ Got (pred.Between without value low high) rest
unfolding between_with
between_again n value without low high rest deep1 deep2 ends =
    let first = expr_again n low (of_keyword keyword.And ∷ (spell_expr high ++ rest)) deep1 (record { prod = record { col = record { dot = refl }; star = refl }; sign = refl }) in
    let second = expr_again n high rest deep2 ends in
    rw (append_assoc (spell_expr low) (of_keyword keyword.And ∷ spell_expr high) rest, first, second) refl

-- what is said of an expression is read behind it
compare_said : (n : ℕ) (value : Expr) (op : Cmp) (right : Expr) (rest : List Symbol) → suc (nest_expr right) ≤ n → EndsExpr rest →
    said_with (expr_at n) value ((Compares op ∷ spell_expr right) ++ rest) ≡ Got (pred.Compare value op right) rest
unfolding said_with
compare_said n value op right rest deep ends = rw (expr_again n right rest deep ends) refl

between_said : (n : ℕ) (value : Expr) (without : Bool) (low high : Expr) (rest : List Symbol) → suc (nest_expr low) ≤ n → suc (nest_expr high) ≤ n → EndsExpr rest →
    said_with (expr_at n) value ((optional without (of_keyword keyword.Not) ++ (of_keyword keyword.Between ∷ (spell_expr low ++ (of_keyword keyword.And ∷ spell_expr high)))) ++ rest) ≡ Got (pred.Between without value low high) rest
unfolding said_with range_with
between_said n value true low high rest deep1 deep2 ends = between_again n value true low high rest deep1 deep2 ends
between_said n value false low high rest deep1 deep2 ends = between_again n value false low high rest deep1 deep2 ends

among_said : (n : ℕ) (value : Expr) (without : Bool) (list : IntList) (rest : List Symbol) →
    said_with (expr_at n) value ((optional without (of_keyword keyword.Not) ++ (of_keyword keyword.In ∷ spell_ints list)) ++ rest) ≡ Got (pred.Among without value list) rest
unfolding said_with range_with
among_said n value true list rest = rw (ints_again list rest) refl
among_said n value false list rest = rw (ints_again list rest) refl

null_said : (n : ℕ) (value : Expr) (without : Bool) (rest : List Symbol) →
    said_with (expr_at n) value ((of_keyword keyword.Is ∷ (optional without (of_keyword keyword.Not) ++ (of_keyword keyword.Null ∷ []))) ++ rest) ≡ Got (pred.IsNull without value) rest
unfolding said_with null_at
null_said n value true rest = refl
null_said n value false rest = refl

-- ---- where a condition stands in a bracket, no expression does

-- what is read in a bracket, up to its end
abbrev closed : Answer Expr → Answer Atom
closed a = a >>= λ e vs. mark_at (OfSign sign.Close) vs >>= λ _ rest. Got (atom.Bracket e) rest

abbrev NoExpr : ℕ → Symbols → Type 0
NoExpr n text = (rest : List Symbol) → closed (expr_at n (text ++ rest)) ≡ Stuck

open_stuck : (n : ℕ) (text : Symbols) (rest : List Symbol) → closed (expr_at n (text ++ (of_sign sign.Close ∷ rest))) ≡ Stuck → expr_at (suc n) (of_sign sign.Open ∷ (text ++ (of_sign sign.Close ∷ rest))) ≡ Stuck
unfolding expr_at sum_with prod_with factor_with atom_with bracket_with
open_stuck n text rest none = rw none refl

not_stuck : (n : ℕ) (ts : List Symbol) → expr_at (suc n) (of_keyword keyword.Not ∷ ts) ≡ Stuck
unfolding expr_at sum_with prod_with factor_with atom_with bracket_with col_at
not_stuck n ts = refl

more_text : (n : ℕ) (a b : Symbols) → NoExpr n a → NoExpr n (a ++ b)
more_text n a b none rest = rw (append_assoc a b rest) (none (b ++ rest))

area_stuck : (n : ℕ) (area : AreaKind) (span : Span) (ts : List Symbol) → expr_at (suc n) (AreaName area span ∷ ts) ≡ Stuck
unfolding expr_at sum_with prod_with factor_with atom_with bracket_with col_at
area_stuck n area span ts = refl

chord_stuck : (n : ℕ) (ts : List Symbol) → expr_at (suc n) (of_keyword keyword.Chord2 ∷ ts) ≡ Stuck
unfolding expr_at sum_with prod_with factor_with atom_with bracket_with col_at
chord_stuck n ts = refl

-- an expression and what is said of it
none_said : (n : ℕ) (e : Expr) (tail : Symbols) → nest_expr e ≤ n → ((rest : List Symbol) → Said (tail ++ rest)) → NoExpr (suc n) (spell_expr e ++ tail)
none_said n e tail deep says rest =
    let is = expr_again (suc n) e (tail ++ rest) (omega arith) (says rest).ends in
    rw (append_assoc (spell_expr e) tail rest, is, (says rest).open') refl

no_pred : (n : ℕ) → ((c : Cond) → suc (nest_cond c) ≤ n → NoExpr n (spell_cond c)) → (p : Pred) → nest_pred p ≤ n → NoExpr (suc n) (spell_pred p)
no_pred n inner = pred_cases (λ p. nest_pred p ≤ n → NoExpr (suc n) (spell_pred p))
    (λ c deep rest. rw (spell_bracket_pred c, append_assoc (spell_cond c) (of_sign sign.Close ∷ []) rest, open_stuck n (spell_cond c) rest (inner c (rw (← nest_bracket_pred c) deep) (of_sign sign.Close ∷ rest))) refl)
    (λ left op right deep. let d = nest_compare_pred left op right in
    rw (spell_compare_pred left op right) (none_said n left (Compares op ∷ spell_expr right) (omega arith) (λ rest. said_cmp op (spell_expr right ++ rest))))
    (λ without value low high deep. let d = nest_between_pred without value low high in
    rw (spell_between_pred without value low high) (none_said n value (optional without (of_keyword keyword.Not) ++ (of_keyword keyword.Between ∷ (spell_expr low ++ (of_keyword keyword.And ∷ spell_expr high)))) (omega arith) (said_between without (spell_expr low ++ (of_keyword keyword.And ∷ spell_expr high)))))
    (λ without value list deep. let d = nest_among_pred without value list in
    rw (spell_among_pred without value list) (none_said n value (optional without (of_keyword keyword.Not) ++ (of_keyword keyword.In ∷ spell_ints list)) (omega arith) (said_in without (spell_ints list))))
    (λ without value deep. let d = nest_null_pred without value in
    rw (spell_null_pred without value) (none_said n value (of_keyword keyword.Is ∷ (optional without (of_keyword keyword.Not) ++ (of_keyword keyword.Null ∷ []))) (omega arith) (λ rest. said_is _)))
    (λ area span args deep rest. rw (spell_area_pred area span args, area_stuck n area span (spell_ints args ++ rest)) refl)
    (λ left right strict k deep rest. rw (spell_chord_pred left right strict k, chord_stuck n _) refl)

no_parts : (n : ℕ) (m : Bool) (p : Symbols) → NoExpr (suc n) p → NoExpr (suc n) (optional m (of_keyword keyword.Not) ++ p)
no_parts n true p none rest = rw (not_stuck n (p ++ rest)) refl
no_parts n false p none rest = none rest

no_neg : (n : ℕ) → ((c : Cond) → suc (nest_cond c) ≤ n → NoExpr n (spell_cond c)) → (x : Neg) → nest_neg x ≤ n → NoExpr (suc n) (spell_neg x)
no_neg n inner = neg_cases (λ x. nest_neg x ≤ n → NoExpr (suc n) (spell_neg x))
    (λ x deep. rw (spell_neg_roll x) (no_parts n x.not (spell_pred x.pred) (no_pred n inner x.pred (rw (← nest_neg_roll x) deep))))

no_conj : (n : ℕ) → ((c : Cond) → suc (nest_cond c) ≤ n → NoExpr n (spell_cond c)) → (x : Conj) → nest_conj x ≤ n → NoExpr (suc n) (spell_conj x)
no_conj n inner = conj_cases (λ x. nest_conj x ≤ n → NoExpr (suc n) (spell_conj x))
    (λ x deep. let d = nest_conj_roll x in rw (spell_conj_roll x) (more_text (suc n) (spell_neg x.first) (flat_map anded x.rest) (no_neg n inner x.first (omega arith))))

no_cond : (n : ℕ) → ((c : Cond) → suc (nest_cond c) ≤ n → NoExpr n (spell_cond c)) → (x : Cond) → nest_cond x ≤ n → NoExpr (suc n) (spell_cond x)
no_cond n inner = cond_cases (λ x. nest_cond x ≤ n → NoExpr (suc n) (spell_cond x))
    (λ x deep. let d = nest_cond_roll x in rw (spell_cond_roll x) (more_text (suc n) (spell_conj x.first) (flat_map ored x.rest) (no_conj n inner x.first (omega arith))))

pub no_expr : (n : ℕ) (c : Cond) → suc (nest_cond c) ≤ n → NoExpr n (spell_cond c)
no_expr zero c deep = absurd (omega arith)
no_expr (suc n) c deep = no_cond n (no_expr n) c (omega arith)

-- ---- conditions

-- what may follow a conjunction, a condition
pub record EndsConj (rest : List Symbol) : Type 0 where
  pub expr : EndsExpr rest
  pub and : mark_at (OfKeyword keyword.And) rest ≡ Stuck

pub record EndsCond (rest : List Symbol) : Type 0 where
  pub conj : EndsConj rest
  pub or : mark_at (OfKeyword keyword.Or) rest ≡ Stuck

-- the text does not begin with NOT
abbrev NoNot : Symbols → Type 0
NoNot text = (rest : List Symbol) → maybe_at (OfKeyword keyword.Not) (text ++ rest) ≡ (false, text ++ rest)

valued_no : (e : Expr) (tail : Symbols) → NoNot (spell_expr e ++ tail)
valued_no e tail rest = rw (append_assoc (spell_expr e) tail rest) (starts_expr e (tail ++ rest)).no

plain_pred : (p : Pred) → NoNot (spell_pred p)
plain_pred = pred_cases (λ p. NoNot (spell_pred p))
    (λ c rest. rw (spell_bracket_pred c) refl)
    (λ left op right. rw (spell_compare_pred left op right) (valued_no left (Compares op ∷ spell_expr right)))
    (λ without value low high. rw (spell_between_pred without value low high) (valued_no value (optional without (of_keyword keyword.Not) ++ (of_keyword keyword.Between ∷ (spell_expr low ++ (of_keyword keyword.And ∷ spell_expr high))))))
    (λ without value list. rw (spell_among_pred without value list) (valued_no value (optional without (of_keyword keyword.Not) ++ (of_keyword keyword.In ∷ spell_ints list))))
    (λ without value. rw (spell_null_pred without value) (valued_no value (of_keyword keyword.Is ∷ (optional without (of_keyword keyword.Not) ++ (of_keyword keyword.Null ∷ [])))))
    (λ area span args rest. rw (spell_area_pred area span args) refl)
    (λ left right strict k rest. rw (spell_chord_pred left right strict k) refl)

abbrev pub InnerCond : ℕ → Reader Cond → Type 0
InnerCond n inner = Again spell_cond (λ c. suc (nest_cond c)) n EndsCond inner

-- an expression and what is said of it are read
valued_again : (n : ℕ) (inner : Reader Cond) (e : Expr) (tail : Symbols) (p : Pred) (rest : List Symbol) → nest_expr e ≤ n → Said (tail ++ rest) →
    said_with (expr_at (suc n)) e (tail ++ rest) ≡ Got p rest → pred_with (expr_at (suc n)) inner ((spell_expr e ++ tail) ++ rest) ≡ Got p rest
unfolding pred_with
valued_again n inner e tail p rest deep says is =
    let first = expr_again (suc n) e (tail ++ rest) (omega arith) says.ends in
    rw (append_assoc (spell_expr e) tail rest, first) is

chord_again : (left right : Name) (strict : Bool) (k : ℤ) (rest : List Symbol) →
    chord_at (of_sign sign.Open ∷ Named left ∷ of_sign sign.Comma ∷ Named right ∷ of_sign sign.Close ∷ Compares (chord_op strict) ∷ Number k ∷ rest) ≡ Got (pred.Chord left right strict k) rest
unfolding chord_at chord_behind
chord_again left right true k rest = refl
chord_again left right false k rest = refl

pub pred_again : (n : ℕ) (inner : Reader Cond) → InnerCond n inner → Again spell_pred nest_pred n EndsExpr (pred_with (expr_at (suc n)) inner)
unfolding pred_with other_with group_with area_with
pred_again n inner h = pred_cases (λ p. (rest : List Symbol) → nest_pred p ≤ n → EndsExpr rest → pred_with (expr_at (suc n)) inner (spell_pred p ++ rest) ≡ Got p rest)
    (λ c rest deep ends.
    let deep' : suc (nest_cond c) ≤ n = rw (← nest_bracket_pred c) deep in
    let none = open_stuck n (spell_cond c) rest (no_expr n c deep' (of_sign sign.Close ∷ rest)) in
    let is = h c (of_sign sign.Close ∷ rest) deep' (record { conj = record { expr = record { prod = record { col = record { dot = refl }; star = refl }; sign = refl }; and = refl }; or = refl }) in
    rw (spell_bracket_pred c, append_assoc (spell_cond c) (of_sign sign.Close ∷ []) rest, none, is) refl)
    (λ left op right rest deep ends. let d = nest_compare_pred left op right in
    rw (spell_compare_pred left op right) (valued_again n inner left (Compares op ∷ spell_expr right) (pred.Compare left op right) rest (omega arith) (said_cmp op (spell_expr right ++ rest)) (compare_said (suc n) left op right rest (omega arith) ends)))
    (λ without value low high rest deep ends. let d = nest_between_pred without value low high in
    rw (spell_between_pred without value low high) (valued_again n inner value (optional without (of_keyword keyword.Not) ++ (of_keyword keyword.Between ∷ (spell_expr low ++ (of_keyword keyword.And ∷ spell_expr high)))) (pred.Between without value low high) rest (omega arith) (said_between without (spell_expr low ++ (of_keyword keyword.And ∷ spell_expr high)) rest) (between_said (suc n) value without low high rest (omega arith) (omega arith) ends)))
    (λ without value list rest deep ends. let d = nest_among_pred without value list in
    rw (spell_among_pred without value list) (valued_again n inner value (optional without (of_keyword keyword.Not) ++ (of_keyword keyword.In ∷ spell_ints list)) (pred.Among without value list) rest (omega arith) (said_in without (spell_ints list) rest) (among_said (suc n) value without list rest)))
    (λ without value rest deep ends. let d = nest_null_pred without value in
    rw (spell_null_pred without value) (valued_again n inner value (of_keyword keyword.Is ∷ (optional without (of_keyword keyword.Not) ++ (of_keyword keyword.Null ∷ []))) (pred.IsNull without value) rest (omega arith) (said_is _) (null_said (suc n) value without rest)))
    (λ area span args rest deep ends. rw (spell_area_pred area span args, area_stuck n area span (spell_ints args ++ rest), ints_again args rest) refl)
    (λ left right strict k rest deep ends. rw (spell_chord_pred left right strict k, chord_stuck n _, chord_again left right strict k rest) refl)

neg_parts : (n : ℕ) (inner : Reader Cond) → InnerCond n inner → (m : Bool) (p : Pred) (rest : List Symbol) → nest_pred p ≤ n → EndsExpr rest →
    neg_with (expr_at (suc n)) inner ((optional m (of_keyword keyword.Not) ++ spell_pred p) ++ rest) ≡ Got (roll-Neg (record { not = m; pred = p })) rest
unfolding neg_with
neg_parts n inner h true p rest deep ends = rw (pred_again n inner h p rest deep ends) refl
neg_parts n inner h false p rest deep ends = rw (plain_pred p rest, pred_again n inner h p rest deep ends) refl

pub neg_again : (n : ℕ) (inner : Reader Cond) → InnerCond n inner → Again spell_neg nest_neg n EndsExpr (neg_with (expr_at (suc n)) inner)
neg_again n inner h = neg_cases (λ x. (rest : List Symbol) → nest_neg x ≤ n → EndsExpr rest → neg_with (expr_at (suc n)) inner (spell_neg x ++ rest) ≡ Got x rest)
    (λ x rest deep ends. rw (spell_neg_roll x) (neg_parts n inner h x.not x.pred rest (rw (← nest_neg_roll x) deep) ends))

ends_mark : (m : Mark) (ts : List Symbol) → mark_at (OfSign sign.Dot) (Fixed m ∷ ts) ≡ Stuck → mark_at (OfSign sign.Star) (Fixed m ∷ ts) ≡ Stuck → EndsExpr (Fixed m ∷ ts)
ends_mark m ts dot star = record { prod = record { col = record { dot = dot }; star = star }; sign = refl }

pub conj_again : (n : ℕ) (inner : Reader Cond) → InnerCond n inner → Again spell_conj nest_conj n EndsConj (conj_with (expr_at (suc n)) inner)
unfolding conj_with
conj_again n inner h = conj_cases (λ x. (rest : List Symbol) → nest_conj x ≤ n → EndsConj rest → conj_with (expr_at (suc n)) inner (spell_conj x ++ rest) ≡ Got x rest)
    (λ x rest deep ends.
    let d = nest_conj_roll x in
    let after : EndsExpr (flat_map anded x.rest ++ rest) = elim x.rest as (λ xs. EndsExpr (flat_map anded xs ++ rest)) [ [] ↦ ends.expr | y ∷ ys ↦ ends_mark (OfKeyword keyword.And) _ refl refl ] in
    let first = neg_again n inner h x.first (flat_map anded x.rest ++ rest) (omega arith) after in
    let more = each_again (OfKeyword keyword.And) (neg_with (expr_at (suc n)) inner) spell_neg nest_neg n EndsExpr (neg_again n inner h) (λ ts. ends_mark (OfKeyword keyword.And) ts refl refl) x.rest rest (omega arith) ends.expr ends.and in
    rw (spell_conj_roll x, append_assoc (spell_neg x.first) (flat_map anded x.rest) rest, first, more) refl)

pub any_again : (n : ℕ) (inner : Reader Cond) → InnerCond n inner → Again spell_cond nest_cond n EndsCond (any_with (expr_at (suc n)) inner)
unfolding any_with
any_again n inner h = cond_cases (λ x. (rest : List Symbol) → nest_cond x ≤ n → EndsCond rest → any_with (expr_at (suc n)) inner (spell_cond x ++ rest) ≡ Got x rest)
    (λ x rest deep ends.
    let d = nest_cond_roll x in
    let after : EndsConj (flat_map ored x.rest ++ rest) = elim x.rest as (λ xs. EndsConj (flat_map ored xs ++ rest)) [ [] ↦ ends.conj | y ∷ ys ↦ record { expr = ends_mark (OfKeyword keyword.Or) _ refl refl; and = refl } ] in
    let first = conj_again n inner h x.first (flat_map ored x.rest ++ rest) (omega arith) after in
    let more = each_again (OfKeyword keyword.Or) (conj_with (expr_at (suc n)) inner) spell_conj nest_conj n EndsConj (conj_again n inner h) (λ ts. record { expr = ends_mark (OfKeyword keyword.Or) ts refl refl; and = refl }) x.rest rest (omega arith) ends.conj ends.or in
    rw (spell_cond_roll x, append_assoc (spell_conj x.first) (flat_map ored x.rest) rest, first, more) refl)

pub cond_again : (n : ℕ) → Again spell_cond (λ c. suc (nest_cond c)) n EndsCond (cond_at n)
unfolding cond_at
cond_again zero c rest deep ends = absurd (omega arith)
cond_again (suc n) c rest deep ends = any_again n (cond_at n) (cond_again n) c rest (omega arith) ends
