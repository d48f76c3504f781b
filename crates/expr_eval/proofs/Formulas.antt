-- Conjunctions and disjunctions as far as they have come.
use Rattle.std.proofs.Common.{◌≡◌, ℕ, ◌+◌, ◌<◌, drop, get_or, length, Bool, true, false, List, [], ◌∷◌}
use Rattle.std.proofs.Common.{map, Option, Some, sym, ap, subst, ◌∙◌}
use Rattle.std.proofs.lemmas.Bool.{and_parts}
use Rattle.expr_eval.specs.Picks.{IsSoundTest, is_there, truth_on}
use Rattle.sql_bound.specs.declared.cond.BoundAll.{BoundAll, out-BoundAll}
use Rattle.sql_bound.specs.declared.cond.BoundAny.{BoundAny, out-BoundAny}
use Rattle.sql_bound.specs.declared.cond.BoundCond.{BoundCond, out-BoundCond}
use Rattle.value_rules.specs.Formulas.{Formula, And, Or, all_from, any_from, negated_if, formula_of, formula_of_all}
use Rattle.value_rules.specs.Formulas.{formula_of_any, formula_of_pred}
use Rattle.expr_eval.proofs.Layers.{all_parts, any_parts, cond_parts}
use Rattle.expr_eval.proofs.Steps.{next}
use Rattle.value_rules.specs.Sound.{is_sound_formula}
use Rattle.value_rules.specs.Truth.{truth_and, truth_or}
use Rattle.value_rules.specs.Values.{Pick}

-- a formula that may be negated is sound with it
pub sound_if : (p : Pick) (negated : Bool) (f : Formula) → IsSoundTest p (negated_if negated f) → IsSoundTest p f
sound_if p true f h = h
sound_if p false f h = h

-- ---- all of some formulas

-- each front of a sound conjunction is sound, and so is what comes next
pub all_front : (p : Pick) (f : Formula) (rest : List Formula) → IsSoundTest p (all_from f rest) → IsSoundTest p f
all_front p f [] h = h
all_front p f (g ∷ rest) h =
    (and_parts (is_sound_formula (is_there p) f) (is_sound_formula (is_there p) g) (all_front p (And f g) rest h)).0

all_next : (p : Pick) (f g : Formula) (rest : List Formula) → IsSoundTest p (all_from f (g ∷ rest)) → IsSoundTest p g
all_next p f g rest h =
    (and_parts (is_sound_formula (is_there p) f) (is_sound_formula (is_there p) g) (all_front p (And f g) rest h)).1

-- what is false stays false
all_false : (p : Pick) (f : Formula) (rest : List Formula) → truth_on p f ≡ Some false
    → truth_on p (all_from f rest) ≡ Some false
all_false p f [] h = h
all_false p f (g ∷ rest) h = all_false p (And f g) rest (ap (λ a. truth_and a (truth_on p g)) h)

-- the truth so far is that of a front of the conjunction
pub record AllSoFar (p : Pick) (so_far : Option Bool) (rest : List Formula) (whole : Formula) : Type 0 where
  pub front : Formula
  pub value : so_far ≡ truth_on p front
  pub goes_on : all_from front rest ≡ whole

-- a step of it, and an end where a part is false
pub all_more : (p : Pick) (v w x : Option Bool) (g : Formula) (rest : List Formula) (whole : Formula)
    → AllSoFar p v (g ∷ rest) whole → w ≡ truth_on p g → x ≡ truth_and v w → AllSoFar p x rest whole
all_more p v w x g rest whole h part is = record {
  front = And h.front g;
  value = is ∙ ap (λ a. truth_and a w) h.value ∙ ap (λ b. truth_and (truth_on p h.front) b) part;
  goes_on = h.goes_on;
}

pub all_decided : (p : Pick) (v : Option Bool) (rest : List Formula) (whole : Formula) → AllSoFar p v rest whole
    → v ≡ Some false → Some false ≡ truth_on p whole
all_decided p v rest whole h is = sym (all_false p h.front rest (sym h.value ∙ is)) ∙ ap (truth_on p) h.goes_on

-- what is asked next is sound
pub all_sound : (p : Pick) (v : Option Bool) (g : Formula) (rest : List Formula) (whole : Formula)
    → AllSoFar p v (g ∷ rest) whole → IsSoundTest p whole → IsSoundTest p g
all_sound p v g rest whole h sound = all_next p h.front g rest (ap (is_sound_formula (is_there p)) h.goes_on ∙ sound)

-- ---- one of some formulas

-- each front of a sound disjunction is sound, and so is what comes next
pub any_front : (p : Pick) (f : Formula) (rest : List Formula) → IsSoundTest p (any_from f rest) → IsSoundTest p f
any_front p f [] h = h
any_front p f (g ∷ rest) h =
    (and_parts (is_sound_formula (is_there p) f) (is_sound_formula (is_there p) g) (any_front p (Or f g) rest h)).0

any_next : (p : Pick) (f g : Formula) (rest : List Formula) → IsSoundTest p (any_from f (g ∷ rest)) → IsSoundTest p g
any_next p f g rest h =
    (and_parts (is_sound_formula (is_there p) f) (is_sound_formula (is_there p) g) (any_front p (Or f g) rest h)).1

-- what is true stays true
any_true : (p : Pick) (f : Formula) (rest : List Formula) → truth_on p f ≡ Some true
    → truth_on p (any_from f rest) ≡ Some true
any_true p f [] h = h
any_true p f (g ∷ rest) h = any_true p (Or f g) rest (ap (λ a. truth_or a (truth_on p g)) h)

-- the truth so far is that of a front of the disjunction
pub record AnySoFar (p : Pick) (so_far : Option Bool) (rest : List Formula) (whole : Formula) : Type 0 where
  pub front : Formula
  pub value : so_far ≡ truth_on p front
  pub goes_on : any_from front rest ≡ whole

-- a step of it, and an end where a part is true
pub any_more : (p : Pick) (v w x : Option Bool) (g : Formula) (rest : List Formula) (whole : Formula)
    → AnySoFar p v (g ∷ rest) whole → w ≡ truth_on p g → x ≡ truth_or v w → AnySoFar p x rest whole
any_more p v w x g rest whole h part is = record {
  front = Or h.front g;
  value = is ∙ ap (λ a. truth_or a w) h.value ∙ ap (λ b. truth_or (truth_on p h.front) b) part;
  goes_on = h.goes_on;
}

pub any_decided : (p : Pick) (v : Option Bool) (rest : List Formula) (whole : Formula) → AnySoFar p v rest whole
    → v ≡ Some true → Some true ≡ truth_on p whole
any_decided p v rest whole h is = sym (any_true p h.front rest (sym h.value ∙ is)) ∙ ap (truth_on p) h.goes_on

-- what is asked next is sound
pub any_sound : (p : Pick) (v : Option Bool) (g : Formula) (rest : List Formula) (whole : Formula)
    → AnySoFar p v (g ∷ rest) whole → IsSoundTest p whole → IsSoundTest p g
any_sound p v g rest whole h sound = any_next p h.front g rest (ap (is_sound_formula (is_there p)) h.goes_on ∙ sound)

-- ---- the parts of a sound condition are sound

-- the first conjunction of a disjunction
pub first_conjunction : (p : Pick) (a : BoundAny) → IsSoundTest p (formula_of_any a)
    → IsSoundTest p (formula_of_all (out-BoundAny a).first)
first_conjunction p a h =
    any_front p (formula_of_all (out-BoundAny a).first) (map formula_of_all (out-BoundAny a).rest)
    (sym (ap (is_sound_formula (is_there p)) (any_parts a)) ∙ h)

-- the first condition of a conjunction
pub first_condition : (p : Pick) (a : BoundAll) → IsSoundTest p (formula_of_all a)
    → IsSoundTest p (formula_of (out-BoundAll a).first)
first_condition p a h =
    all_front p (formula_of (out-BoundAll a).first) (map formula_of (out-BoundAll a).rest)
    (sym (ap (is_sound_formula (is_there p)) (all_parts a)) ∙ h)

-- the test of a condition
pub condition_test : (p : Pick) (c : BoundCond) → IsSoundTest p (formula_of c)
    → IsSoundTest p (formula_of_pred (out-BoundCond c).pred)
condition_test p c h =
    sound_if p (out-BoundCond c).not (formula_of_pred (out-BoundCond c).pred)
    (sym (ap (is_sound_formula (is_there p)) (cond_parts c)) ∙ h)

-- ---- a step of the loop over the further conjunctions of a disjunction

-- the truth so far goes on with the conjunction at the place
goes_or : (p : Pick) (v : Option Bool) (a : BoundAny) (xs : List BoundAll) (i : ℕ) (x : BoundAll) → i < length xs
    → x ≡ get_or xs i x → AnySoFar p v (map formula_of_all (drop i xs)) (formula_of_any a)
    → AnySoFar p v (formula_of_all x ∷ map formula_of_all (drop (i + 1) xs)) (formula_of_any a)
goes_or p v a xs i x low is h = subst (λ r. AnySoFar p v r (formula_of_any a)) (next formula_of_all xs i x low is) h

-- that conjunction is sound
pub next_conjunction : (p : Pick) (v : Option Bool) (a : BoundAny) (xs : List BoundAll) (i : ℕ) (x : BoundAll)
    → i < length xs → x ≡ get_or xs i x → AnySoFar p v (map formula_of_all (drop i xs)) (formula_of_any a)
    → IsSoundTest p (formula_of_any a) → IsSoundTest p (formula_of_all x)
next_conjunction p v a xs i x low is h sound =
    any_sound p v (formula_of_all x) (map formula_of_all (drop (i + 1) xs)) (formula_of_any a)
    (goes_or p v a xs i x low is h) sound

-- with it the disjunction goes on behind the place
pub any_step : (p : Pick) (v w y : Option Bool) (a : BoundAny) (xs : List BoundAll) (i : ℕ) (x : BoundAll)
    → i < length xs → x ≡ get_or xs i x → AnySoFar p v (map formula_of_all (drop i xs)) (formula_of_any a)
    → w ≡ truth_on p (formula_of_all x) → y ≡ truth_or v w → AnySoFar p y (map formula_of_all (drop (i + 1) xs))
    (formula_of_any a)
any_step p v w y a xs i x low is h part made =
    any_more p v w y (formula_of_all x) (map formula_of_all (drop (i + 1) xs)) (formula_of_any a)
    (goes_or p v a xs i x low is h) part made

-- ---- a step of the loop over the further conditions of a conjunction

-- the truth so far goes on with the condition at the place
goes_and : (p : Pick) (v : Option Bool) (a : BoundAll) (xs : List BoundCond) (i : ℕ) (x : BoundCond) → i < length xs
    → x ≡ get_or xs i x → AllSoFar p v (map formula_of (drop i xs)) (formula_of_all a)
    → AllSoFar p v (formula_of x ∷ map formula_of (drop (i + 1) xs)) (formula_of_all a)
goes_and p v a xs i x low is h = subst (λ r. AllSoFar p v r (formula_of_all a)) (next formula_of xs i x low is) h

-- that condition is sound
pub next_condition : (p : Pick) (v : Option Bool) (a : BoundAll) (xs : List BoundCond) (i : ℕ) (x : BoundCond)
    → i < length xs → x ≡ get_or xs i x → AllSoFar p v (map formula_of (drop i xs)) (formula_of_all a)
    → IsSoundTest p (formula_of_all a) → IsSoundTest p (formula_of x)
next_condition p v a xs i x low is h sound =
    all_sound p v (formula_of x) (map formula_of (drop (i + 1) xs)) (formula_of_all a)
    (goes_and p v a xs i x low is h) sound

-- with it the conjunction goes on behind the place
pub all_step : (p : Pick) (v w y : Option Bool) (a : BoundAll) (xs : List BoundCond) (i : ℕ) (x : BoundCond)
    → i < length xs → x ≡ get_or xs i x → AllSoFar p v (map formula_of (drop i xs)) (formula_of_all a)
    → w ≡ truth_on p (formula_of x) → y ≡ truth_and v w → AllSoFar p y (map formula_of (drop (i + 1) xs))
    (formula_of_all a)
all_step p v w y a xs i x low is h part made =
    all_more p v w y (formula_of x) (map formula_of (drop (i + 1) xs)) (formula_of_all a)
    (goes_and p v a xs i x low is h) part made
