-- What a tree is spelled by is read as that tree, where what follows cannot go on with it.
use Rattle.std.proofs.Common.{length-append, ◌≡◌, ℕ, suc, zero, ◌≤◌, List, [], ◌∷◌, ◌++◌, map, refl, Bool, true}
use Rattle.std.proofs.Common.{false, Option, None, Some, append_assoc, arith, length}
use Rattle.std.specs.List.{flat_map}
use Rattle.sql_tree.specs.declared.expr.Atom.{Atom}
use Rattle.sql_tree.specs.declared.expr.Expr.{Expr}
use Rattle.sql_tree.specs.declared.expr.Factor.{Factor, roll-Factor}
use Rattle.sql_tree.specs.declared.expr.Prod.{Prod}
use Rattle.sql_tree.specs.declared.expr.Signed.{Signed}
use Rattle.sql_tree.specs.declared.name.Name.{Name}
use Rattle.sql_rules.proofs.Found.{ends}
use Rattle.sql_rules.proofs.Nesting.{most, nest_atom, nest_expr, nest_factor, nest_prod, nest_signed}
use Rattle.sql_rules.proofs.Opened.{starred, spell_int_atom, spell_col_atom, spell_bracket_atom, spell_factor_roll}
use Rattle.sql_rules.proofs.Opened.{spell_prod_roll, spell_signed_roll, spell_expr_roll, nest_bracket_atom}
use Rattle.sql_rules.proofs.Opened.{nest_factor_roll, nest_prod_roll, nest_signed_roll, nest_expr_roll, atom_cases}
use Rattle.sql_rules.proofs.Opened.{factor_cases, prod_cases, signed_cases, expr_cases}
use Rattle.sql_rules.proofs.Tokens.{same_mark-same, Again, EachLeads, many_again, Leads}
use Rattle.sql_rules.specs.Symbols.{of_sign, Mark, Symbol, OfKeyword, OfSign, Named, Adds, Fixed}
use Rattle.sql_rules.specs.ReadExprs.{col_at, bracket_with, atom_with, factor_with, prod_with, signed_with, sum_with}
use Rattle.sql_rules.specs.ReadExprs.{expr_at}
use Rattle.sql_rules.specs.Readers.{Reader, mark_at, number_at, adds_at, minus_at, maybe_at, each, Got, Stuck}
use Rattle.sql_rules.specs.Spelling.{Symbols, optional, spell_qualifier, spell_atom, spell_expr, spell_factor}
use Rattle.sql_rules.specs.Spelling.{spell_prod, spell_signed}
use Rattle.sql_token.specs.declared.keyword.Keyword.TheVariants as keyword
use Rattle.sql_token.specs.declared.sign.Sign.TheVariants as sign

-- what may follow a column, a product, an expression
pub record EndsCol (rest : List Symbol) : Type 0 where
  pub dot : mark_at (OfSign sign.Dot) rest ≡ Stuck

pub record EndsProd (rest : List Symbol) : Type 0 where
  pub col : EndsCol rest
  pub star : mark_at (OfSign sign.Star) rest ≡ Stuck

pub record EndsExpr (rest : List Symbol) : Type 0 where
  pub prod : EndsProd rest
  pub sign : adds_at rest ≡ Stuck

-- the text begins with no word that is read before an expression, and with no star
pub record Begins (ts : List Symbol) : Type 0 where
  pub no : maybe_at (OfKeyword keyword.Not) ts ≡ (false, ts)
  pub count : mark_at (OfKeyword keyword.Count) ts ≡ Stuck
  pub sum' : mark_at (OfKeyword keyword.Sum) ts ≡ Stuck
  pub min' : mark_at (OfKeyword keyword.Min) ts ≡ Stuck
  pub max' : mark_at (OfKeyword keyword.Max) ts ≡ Stuck
  pub avg : mark_at (OfKeyword keyword.Avg) ts ≡ Stuck
  pub star : mark_at (OfSign sign.Star) ts ≡ Stuck

-- the text begins with neither those nor a minus
pub record Plain (ts : List Symbol) : Type 0 where
  pub minus : minus_at ts ≡ (false, ts)
  pub begins : Begins ts

begins_word : (n : Name) (ts : List Symbol) → Begins (Named n ∷ ts)
begins_word n ts = record { no = refl; count = refl; sum' = refl; min' = refl; max' = refl; avg = refl; star = refl }

plain_col : (t : Option Name) (n : Name) (rest : List Symbol) → Plain ((spell_qualifier t ++ (Named n ∷ [])) ++ rest)
plain_col None n rest = record { minus = refl; begins = begins_word n rest }
plain_col (Some t) n rest = record { minus = refl; begins = begins_word t _ }

pub plain_atom : (a : Atom) (rest : List Symbol) → Plain (spell_atom a ++ rest)
plain_atom = atom_cases (λ a. (rest : List Symbol) → Plain (spell_atom a ++ rest))
    (λ n rest. rw (spell_int_atom n) (record { minus = refl; begins = record { no = refl; count = refl; sum' = refl; min' = refl; max' = refl; avg = refl; star = refl } }))
    (λ c rest. rw (spell_col_atom c) (plain_col c.table c.name rest))
    (λ e rest. rw (spell_bracket_atom e) (record { minus = refl; begins = record { no = refl; count = refl; sum' = refl; min' = refl; max' = refl; avg = refl; star = refl } }))

-- ---- expressions

col_first : (t : Option Name) (n : Name) (rest : List Symbol) → mark_at (OfSign sign.Open) ((spell_qualifier t ++ (Named n ∷ [])) ++ rest) ≡ Stuck × number_at ((spell_qualifier t ++ (Named n ∷ [])) ++ rest) ≡ Stuck
col_first None n rest = (refl, refl)
col_first (Some t) n rest = (refl, refl)

pub col_parts : (t : Option Name) (n : Name) (rest : List Symbol) → EndsCol rest → col_at ((spell_qualifier t ++ (Named n ∷ [])) ++ rest) ≡ Got (record { table = t; name = n }) rest
unfolding col_at
col_parts None n rest ends = rw (ends.dot) refl
col_parts (Some t) n rest ends = refl

abbrev pub Inner : ℕ → Reader Expr → Type 0
Inner levels inner = Again spell_expr (λ e. suc (nest_expr e)) levels EndsExpr inner

pub atom_again : (levels : ℕ) (inner : Reader Expr) → Inner levels inner → Again spell_atom nest_atom levels EndsCol (atom_with inner)
unfolding atom_with bracket_with
atom_again levels inner h = atom_cases (λ a. (rest : List Symbol) → nest_atom a ≤ levels → EndsCol rest → atom_with inner (spell_atom a ++ rest) ≡ Got a rest)
    (λ n rest deep ends. rw (spell_int_atom n) refl)
    (λ c rest deep ends. rw (spell_col_atom c, (col_first c.table c.name rest).0, (col_first c.table c.name rest).1, col_parts c.table c.name rest ends) refl)
    (λ e rest deep ends.
    let deep' : suc (nest_expr e) ≤ levels = rw (← nest_bracket_atom e) deep in
    let is = h e (of_sign sign.Close ∷ rest) deep' (record { prod = record { col = record { dot = refl }; star = refl }; sign = refl }) in
    rw (spell_bracket_atom e, append_assoc (spell_expr e) (of_sign sign.Close ∷ []) rest, is) refl)

factor_parts : (levels : ℕ) (inner : Reader Expr) → Inner levels inner → (m : Bool) (a : Atom) (rest : List Symbol) → nest_atom a ≤ levels → EndsCol rest →
    factor_with inner ((optional m (Adds true) ++ spell_atom a) ++ rest) ≡ Got (roll-Factor (record { minus = m; atom = a })) rest
unfolding factor_with
factor_parts levels inner h true a rest deep ends = rw (atom_again levels inner h a rest deep ends) refl
factor_parts levels inner h false a rest deep ends = rw ((plain_atom a rest).minus, atom_again levels inner h a rest deep ends) refl

pub factor_again : (levels : ℕ) (inner : Reader Expr) → Inner levels inner → Again spell_factor nest_factor levels EndsCol (factor_with inner)
factor_again levels inner h = factor_cases (λ f. (rest : List Symbol) → nest_factor f ≤ levels → EndsCol rest → factor_with inner (spell_factor f ++ rest) ≡ Got f rest)
    (λ x rest deep ends. rw (spell_factor_roll x) (factor_parts levels inner h x.minus x.atom rest (rw (← nest_factor_roll x) deep) ends))

-- no more items than tokens
count : {A : Type 0} (spell : A → Symbols) → ((x : A) → 1 ≤ length (spell x)) → (xs : List A) (rest : List Symbol) → length xs ≤ length (flat_map spell xs ++ rest)
count spell some [] rest = omega arith
count spell some (x ∷ xs) rest = rw append_assoc (omega (arith, some x, count spell some xs rest, length-append (spell x) (flat_map spell xs ++ rest)))

pub each_again : {A : Type 0} (m : Mark) (item : Reader A) (spell : A → Symbols) (nest : A → ℕ) (levels : ℕ) (Ends : List Symbol → Type 0) →
    Again spell nest levels Ends item → ((ts : List Symbol) → Ends (Fixed m ∷ ts)) →
    (xs : List A) (rest : List Symbol) → most (map nest xs) ≤ levels → Ends rest → mark_at m rest ≡ Stuck → each (mark_at m) (λ _. item) (flat_map (λ x. Fixed m ∷ spell x) xs ++ rest) ≡ Got xs rest
each_again m item spell nest levels Ends h starts xs rest deep ends stuck =
    many_again (mark_at m) (λ _. item) (λ x. Fixed m ∷ spell x) nest levels Ends
    (λ x r d e. record { s = m; us = spell x ++ r; led = rw (same_mark-same m) refl; is = h x r d e })
    (λ x r. starts (spell x ++ r))
    (length (flat_map (λ x. Fixed m ∷ spell x) xs ++ rest)) xs rest deep (count (λ x. Fixed m ∷ spell x) (λ x. omega arith) xs rest) ends stuck

pub prod_again : (levels : ℕ) (inner : Reader Expr) → Inner levels inner → Again spell_prod nest_prod levels EndsProd (prod_with inner)
unfolding prod_with
prod_again levels inner h = prod_cases (λ p. (rest : List Symbol) → nest_prod p ≤ levels → EndsProd rest → prod_with inner (spell_prod p ++ rest) ≡ Got p rest)
    (λ x rest deep ends.
    let d = nest_prod_roll x in
    let after : EndsCol (flat_map starred x.rest ++ rest) = elim x.rest as (λ fs. EndsCol (flat_map starred fs ++ rest)) [ [] ↦ ends.col | f ∷ fs ↦ record { dot = refl } ] in
    let first = factor_again levels inner h x.first (flat_map starred x.rest ++ rest) (omega arith) after in
    let more = each_again (OfSign sign.Star) (factor_with inner) spell_factor nest_factor levels EndsCol (factor_again levels inner h) (λ ts. record { dot = refl }) x.rest rest (omega arith) ends.col ends.star in
    rw (spell_prod_roll x, append_assoc (spell_factor x.first) (flat_map starred x.rest) rest, first, more) refl)

signed_leads : (levels : ℕ) (inner : Reader Expr) → Inner levels inner → EachLeads adds_at (signed_with inner) spell_signed nest_signed levels EndsProd
unfolding signed_with
signed_leads levels inner h = signed_cases (λ s. (rest : List Symbol) → nest_signed s ≤ levels → EndsProd rest → Leads adds_at (signed_with inner) spell_signed s rest)
    (λ x rest deep ends. record {
      s = x.minus;
      us = spell_prod x.prod ++ rest;
      led = rw (spell_signed_roll x) refl;
      is = rw (prod_again levels inner h x.prod rest (rw (← nest_signed_roll x) deep) ends) refl;
    })

ends_signed : (s : Signed) (rest : List Symbol) → EndsProd (spell_signed s ++ rest)
ends_signed = signed_cases (λ s. (rest : List Symbol) → EndsProd (spell_signed s ++ rest)) (λ x rest. rw (spell_signed_roll x) (record { col = record { dot = refl }; star = refl }))

some_signed : (s : Signed) → 1 ≤ length (spell_signed s)
some_signed = signed_cases (λ s. 1 ≤ length (spell_signed s)) (λ x. rw (spell_signed_roll x) (omega arith))

pub sum_again : (levels : ℕ) (inner : Reader Expr) → Inner levels inner → Again spell_expr nest_expr levels EndsExpr (sum_with inner)
unfolding sum_with
sum_again levels inner h = expr_cases (λ e. (rest : List Symbol) → nest_expr e ≤ levels → EndsExpr rest → sum_with inner (spell_expr e ++ rest) ≡ Got e rest)
    (λ x rest deep ends.
    let d = nest_expr_roll x in
    let after : EndsProd (flat_map spell_signed x.rest ++ rest) = elim x.rest as (λ ps. EndsProd (flat_map spell_signed ps ++ rest)) [ [] ↦ ends.prod | p ∷ ps ↦ rw (append_assoc (spell_signed p) (flat_map spell_signed ps) rest) (ends_signed p _) ] in
    let first = prod_again levels inner h x.first (flat_map spell_signed x.rest ++ rest) (omega arith) after in
    let more = many_again adds_at (signed_with inner) spell_signed nest_signed levels EndsProd (signed_leads levels inner h) ends_signed (length (flat_map spell_signed x.rest ++ rest)) x.rest rest (omega arith) (count spell_signed some_signed x.rest rest) ends.prod ends.sign in
    rw (spell_expr_roll x, append_assoc (spell_prod x.first) (flat_map spell_signed x.rest) rest, first, more) refl)

pub expr_again : (n : ℕ) → Again spell_expr (λ e. suc (nest_expr e)) n EndsExpr (expr_at n)
unfolding expr_at
expr_again zero e rest deep ends = absurd (omega arith)
expr_again (suc n) e rest deep ends = sum_again n (expr_at n) (expr_again n) e rest (omega arith) ends

-- ---- what an expression begins with

abbrev pub Starts : Symbols → Type 0
Starts text = (rest : List Symbol) → Begins (text ++ rest)

pub more_starts : (a b : Symbols) → Starts a → Starts (a ++ b)
more_starts a b h rest = rw (append_assoc a b rest) (h (b ++ rest))

starts_factor : (f : Factor) → Starts (spell_factor f)
starts_factor = factor_cases (λ f. Starts (spell_factor f)) (λ x. rw (spell_factor_roll x) (go x.minus x.atom)) where
  go : (m : Bool) (a : Atom) → Starts (optional m (Adds true) ++ spell_atom a)
  go true a rest = record { no = refl; count = refl; sum' = refl; min' = refl; max' = refl; avg = refl; star = refl }
  go false a rest = (plain_atom a rest).begins

starts_prod : (p : Prod) → Starts (spell_prod p)
starts_prod = prod_cases (λ p. Starts (spell_prod p)) (λ x. rw (spell_prod_roll x) (more_starts (spell_factor x.first) (flat_map starred x.rest) (starts_factor x.first)))

pub starts_expr : (e : Expr) → Starts (spell_expr e)
starts_expr = expr_cases (λ e. Starts (spell_expr e)) (λ x. rw (spell_expr_roll x) (more_starts (spell_prod x.first) (flat_map spell_signed x.rest) (starts_prod x.first)))
