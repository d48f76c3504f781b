-- Conjunctions and disjunctions of flags as far as they have come.
use Rattle.std.proofs.Common.{◌≡◌, ◌∙◌, ℕ, ◌+◌, ◌<◌, drop, get_or, length, Bool, true, false, List, [], ◌∷◌, map, sym, ap, subst}
use Rattle.std.proofs.lemmas.Bool.{and_parts}
use Rattle.expr_eval.proofs.Layers.{all_parts, any_parts, cond_parts}
use Rattle.expr_eval.proofs.Steps.{next}
use Rattle.sql_bound.specs.declared.cond.BoundAll.{BoundAll, out-BoundAll}
use Rattle.sql_bound.specs.declared.cond.BoundAny.{BoundAny, out-BoundAny}
use Rattle.sql_bound.specs.declared.cond.BoundCond.{BoundCond, out-BoundCond}
use Rattle.sql_bound.specs.declared.expr.BoundCol.{BoundCol}
use Rattle.table_rules.specs.Objects.{Obj}
use Rattle.value_rules.specs.Formulas.{Formula, And, Or, all_from, any_from, negated_if, formula_of, formula_of_all}
use Rattle.value_rules.specs.Formulas.{formula_of_any, formula_of_pred}
use Rattle.value_rules.specs.Sound.{is_sound_formula}
use Rattle.column_vectors.specs.declared.flags.Flags.{Flags}
use Rattle.column_vectors.specs.Flags.{AreAnd, AreFlags, AreNegated, AreOr}
use Rattle.column_vectors.proofs.Flagged.{flags_and, flags_negated, flags_or}

-- ---- conjunctions

-- each front of a sound conjunction is sound, and so is what comes next
all_front : (allowed : BoundCol → Bool) (f : Formula) (rest : List Formula) → is_sound_formula allowed (all_from f rest) ≡ true
    → is_sound_formula allowed f ≡ true
all_front allowed f [] h = h
all_front allowed f (g ∷ rest) h =
    (and_parts (is_sound_formula allowed f) (is_sound_formula allowed g) (all_front allowed (And f g) rest h)).0

all_next : (allowed : BoundCol → Bool) (f g : Formula) (rest : List Formula)
    → is_sound_formula allowed (all_from f (g ∷ rest)) ≡ true → is_sound_formula allowed g ≡ true
all_next allowed f g rest h =
    (and_parts (is_sound_formula allowed f) (is_sound_formula allowed g) (all_front allowed (And f g) rest h)).1

-- the flags so far are those of a front of the conjunction
pub record AllSoFar (rows : List Obj) (flags : Flags) (rest : List Formula) (whole : Formula) : Type 0 where
  pub front : Formula
  pub flagged : AreFlags rows front flags
  pub goes_on : all_from front rest ≡ whole

pub all_more : (rows : List Obj) (a b c : Flags) (g : Formula) (rest : List Formula) (whole : Formula)
    → AllSoFar rows a (g ∷ rest) whole → AreFlags rows g b → AreAnd a b c → AllSoFar rows c rest whole
all_more rows a b c g rest whole h part made = record {
  front = And h.front g;
  flagged = flags_and rows h.front g a b c h.flagged part made;
  goes_on = h.goes_on;
}

pub all_sound : (allowed : BoundCol → Bool) (rows : List Obj) (a : Flags) (g : Formula) (rest : List Formula) (whole : Formula)
    → AllSoFar rows a (g ∷ rest) whole → is_sound_formula allowed whole ≡ true → is_sound_formula allowed g ≡ true
all_sound allowed rows a g rest whole h sound = all_next allowed h.front g rest (ap (is_sound_formula allowed) h.goes_on ∙ sound)

pub all_goes : (rows : List Obj) (a : Flags) (x : BoundAll) (xs : List BoundCond) (i : ℕ) (c : BoundCond) → i < length xs
    → c ≡ get_or xs i c → AllSoFar rows a (map formula_of (drop i xs)) (formula_of_all x)
    → AllSoFar rows a (formula_of c ∷ map formula_of (drop (i + 1) xs)) (formula_of_all x)
all_goes rows a x xs i c low is h = subst (λ r. AllSoFar rows a r (formula_of_all x)) (next formula_of xs i c low is) h

pub first_condition : (allowed : BoundCol → Bool) (a : BoundAll) → is_sound_formula allowed (formula_of_all a) ≡ true
    → is_sound_formula allowed (formula_of (out-BoundAll a).first) ≡ true
first_condition allowed a h =
    all_front allowed (formula_of (out-BoundAll a).first) (map formula_of (out-BoundAll a).rest)
    (sym (ap (is_sound_formula allowed) (all_parts a)) ∙ h)

pub all_begun : (rows : List Obj) (a : Flags) (x : BoundAll) (xs : List BoundCond) → xs ≡ (out-BoundAll x).rest
    → AreFlags rows (formula_of (out-BoundAll x).first) a → AllSoFar rows a (map formula_of xs) (formula_of_all x)
all_begun rows a x xs same h = record {
  front = formula_of (out-BoundAll x).first;
  flagged = h;
  goes_on = ap (λ l. all_from (formula_of (out-BoundAll x).first) (map formula_of l)) same ∙ sym (all_parts x);
}

pub all_done : (rows : List Obj) (a : Flags) (x : BoundAll) (rest : List BoundCond) → rest ≡ []
    → AllSoFar rows a (map formula_of rest) (formula_of_all x) → AreFlags rows (formula_of_all x) a
all_done rows a x rest none h =
    subst (λ f. AreFlags rows f a) (ap (λ l. all_from h.front (map formula_of l)) (sym none) ∙ h.goes_on) h.flagged

-- ---- disjunctions

any_front : (allowed : BoundCol → Bool) (f : Formula) (rest : List Formula) → is_sound_formula allowed (any_from f rest) ≡ true
    → is_sound_formula allowed f ≡ true
any_front allowed f [] h = h
any_front allowed f (g ∷ rest) h =
    (and_parts (is_sound_formula allowed f) (is_sound_formula allowed g) (any_front allowed (Or f g) rest h)).0

any_next : (allowed : BoundCol → Bool) (f g : Formula) (rest : List Formula)
    → is_sound_formula allowed (any_from f (g ∷ rest)) ≡ true → is_sound_formula allowed g ≡ true
any_next allowed f g rest h =
    (and_parts (is_sound_formula allowed f) (is_sound_formula allowed g) (any_front allowed (Or f g) rest h)).1

-- the flags so far are those of a front of the disjunction
pub record AnySoFar (rows : List Obj) (flags : Flags) (rest : List Formula) (whole : Formula) : Type 0 where
  pub front : Formula
  pub flagged : AreFlags rows front flags
  pub goes_on : any_from front rest ≡ whole

pub any_more : (rows : List Obj) (a b c : Flags) (g : Formula) (rest : List Formula) (whole : Formula)
    → AnySoFar rows a (g ∷ rest) whole → AreFlags rows g b → AreOr a b c → AnySoFar rows c rest whole
any_more rows a b c g rest whole h part made = record {
  front = Or h.front g;
  flagged = flags_or rows h.front g a b c h.flagged part made;
  goes_on = h.goes_on;
}

pub any_sound : (allowed : BoundCol → Bool) (rows : List Obj) (a : Flags) (g : Formula) (rest : List Formula) (whole : Formula)
    → AnySoFar rows a (g ∷ rest) whole → is_sound_formula allowed whole ≡ true → is_sound_formula allowed g ≡ true
any_sound allowed rows a g rest whole h sound = any_next allowed h.front g rest (ap (is_sound_formula allowed) h.goes_on ∙ sound)

pub any_goes : (rows : List Obj) (a : Flags) (x : BoundAny) (xs : List BoundAll) (i : ℕ) (c : BoundAll) → i < length xs
    → c ≡ get_or xs i c → AnySoFar rows a (map formula_of_all (drop i xs)) (formula_of_any x)
    → AnySoFar rows a (formula_of_all c ∷ map formula_of_all (drop (i + 1) xs)) (formula_of_any x)
any_goes rows a x xs i c low is h = subst (λ r. AnySoFar rows a r (formula_of_any x)) (next formula_of_all xs i c low is) h

pub first_conjunction : (allowed : BoundCol → Bool) (a : BoundAny) → is_sound_formula allowed (formula_of_any a) ≡ true
    → is_sound_formula allowed (formula_of_all (out-BoundAny a).first) ≡ true
first_conjunction allowed a h =
    any_front allowed (formula_of_all (out-BoundAny a).first) (map formula_of_all (out-BoundAny a).rest)
    (sym (ap (is_sound_formula allowed) (any_parts a)) ∙ h)

pub any_begun : (rows : List Obj) (a : Flags) (x : BoundAny) (xs : List BoundAll) → xs ≡ (out-BoundAny x).rest
    → AreFlags rows (formula_of_all (out-BoundAny x).first) a → AnySoFar rows a (map formula_of_all xs) (formula_of_any x)
any_begun rows a x xs same h = record {
  front = formula_of_all (out-BoundAny x).first;
  flagged = h;
  goes_on = ap (λ l. any_from (formula_of_all (out-BoundAny x).first) (map formula_of_all l)) same ∙ sym (any_parts x);
}

pub any_done : (rows : List Obj) (a : Flags) (x : BoundAny) (rest : List BoundAll) → rest ≡ []
    → AnySoFar rows a (map formula_of_all rest) (formula_of_any x) → AreFlags rows (formula_of_any x) a
any_done rows a x rest none h =
    subst (λ f. AreFlags rows f a) (ap (λ l. any_from h.front (map formula_of_all l)) (sym none) ∙ h.goes_on) h.flagged

-- ---- conditions

-- what may be negated is sound with it
sound_if : (allowed : BoundCol → Bool) (negated : Bool) (f : Formula) → is_sound_formula allowed (negated_if negated f) ≡ true
    → is_sound_formula allowed f ≡ true
sound_if allowed true f h = h
sound_if allowed false f h = h

-- the test of a condition
pub condition_test : (allowed : BoundCol → Bool) (c : BoundCond) → is_sound_formula allowed (formula_of c) ≡ true
    → is_sound_formula allowed (formula_of_pred (out-BoundCond c).pred) ≡ true
condition_test allowed c h =
    sound_if allowed (out-BoundCond c).not (formula_of_pred (out-BoundCond c).pred)
    (sym (ap (is_sound_formula allowed) (cond_parts c)) ∙ h)

pub condition_flags : (rows : List Obj) (c : BoundCond) (a b : Flags) → AreFlags rows (formula_of_pred (out-BoundCond c).pred) a
    → AreNegated (out-BoundCond c).not a b → AreFlags rows (formula_of c) b
condition_flags rows c a b h made =
    subst (λ f. AreFlags rows f b) (sym (cond_parts c))
    (flags_negated (out-BoundCond c).not rows (formula_of_pred (out-BoundCond c).pred) a b h made)
