-- The first place of what is sought in a list that is put together.
use Rattle.std.proofs.Common.{◌≡◌, ℕ, ℤ, ◌+◌, ◌<◌, ◌≤◌, Bool, true, false, List, [], ◌∷◌, ◌++◌, map, length, drop}
use Rattle.std.proofs.Common.{get_or, Option, None, Some, refl, ap, ◌∙◌, cond}
use Rattle.std.proofs.lemmas.List.{drop_all}
use Rattle.std.proofs.lemmas.Grind.{flat_map-append}
use Rattle.std.specs.List.{find, flat_map}
use Rattle.std.specs.Option.{option_map}
use Rattle.sql_token.specs.declared.token.Span.{Span}
use Rattle.sql_tree.specs.declared.expr.Atom.TheFolds.{fold_out-Expr, fold_out-Factor, fold_out-Prod, fold_out-Signed}
use Rattle.sql_tree.specs.declared.expr.Atom.TheVariants as atom
use Rattle.sql_tree.specs.declared.expr.Expr.{Expr, out-Expr}
use Rattle.sql_tree.specs.declared.expr.Factor.{Factor, out-Factor}
use Rattle.sql_tree.specs.declared.expr.Prod.{Prod, out-Prod}
use Rattle.sql_tree.specs.declared.expr.Signed.{Signed, out-Signed}
use Rattle.sql_tree.specs.declared.name.Col.{Col}
use Rattle.text_rules.specs.Readings.{joined}
use Rattle.bind_rules.specs.Mentions.{Cols, cols_at_atom, cols_at_expr, cols_at_factor, cols_at_prod}
use Rattle.bind_rules.specs.Mentions.{cols_at_signed, columns_of}
use Rattle.bind_rules.proofs.Folds.{fold_int, fold_col, fold_bracket}
use Rattle.query_walks.proofs.Loops.{drop_at}
use Rattle.query_walks.specs.Firsts.{first_place, atom_columns, factor_columns, prod_columns, signed_columns}

-- ---- one list behind another

-- of an element, by whether it passes
here_step : {A : Type 0} (span : A → Span) (test : A → Bool) (x : A) (rest more : Option A) (p : Span) (b : Bool)
    → test x ≡ b → (Some p ≡ option_map span rest → Some p ≡ option_map span more)
    → Some p ≡ option_map span (cond b (Some x) rest) → Some p ≡ option_map span (cond b (Some x) more)
here_step span test x rest more p true e later h = h
here_step span test x rest more p false e later h = later h

-- what stands in the first stands in both
pub first_here : {A : Type 0} (span : A → Span) (test : A → Bool) (xs ys : List A) (p : Span)
    → Some p ≡ first_place span test xs → Some p ≡ first_place span test (xs ++ ys)
unfolding first_place
first_here span test [] ys p h = absurd cc
first_here span test (x ∷ xs) ys p h =
    here_step span test x (find test xs) (find test (xs ++ ys)) p (test x) refl (first_here span test xs ys p) h

-- the same, where none before the second stands
later_step : {A : Type 0} (span : A → Span) (test : A → Bool) (x : A) (rest more : Option A) (others : Option Span)
    (b : Bool)
    → test x ≡ b → (None ≡ option_map span rest → option_map span more ≡ others)
    → None ≡ option_map span (cond b (Some x) rest) → option_map span (cond b (Some x) more) ≡ others
later_step span test x rest more others true e later h = absurd cc
later_step span test x rest more others false e later h = later h

-- where none stands in the first, it stands in the second
pub first_later : {A : Type 0} (span : A → Span) (test : A → Bool) (xs ys : List A) → None ≡ first_place span test xs
    → first_place span test (xs ++ ys) ≡ first_place span test ys
unfolding first_place
first_later span test [] ys h = refl
first_later span test (x ∷ xs) ys h =
    later_step span test x (find test xs) (find test (xs ++ ys)) (option_map span (find test ys)) (test x) refl
    (first_later span test xs ys) h

-- ---- lists one behind another

-- the parts from a place on are the one there, and those behind it
pub next_part : {A B : Type 0} (part : A → List B) (xs : List A) (i : ℕ) (x : A) → i < length xs → x ≡ get_or xs i x
    → joined (map part (drop i xs)) ≡ part x ++ joined (map part (drop (i + 1) xs))
next_part part xs i x low is = ap (λ ys. joined (map part ys)) (drop_at xs i x low is)

-- ---- the columns of an expression, part by part

-- those of a sum: of its first product, and of the further ones
pub expr_parts : (e : Expr)
    → columns_of e ≡ prod_columns (out-Expr e).first ++ joined (map signed_columns (out-Expr e).rest)
unfolding columns_of atom_columns factor_columns prod_columns signed_columns
expr_parts e =
    fold_out-Expr Cols Cols Cols Cols Cols cols_at_atom cols_at_expr cols_at_factor cols_at_prod cols_at_signed e

-- those of a product: of its first factor, and of the further ones
pub prod_parts : (p : Prod)
    → prod_columns p ≡ factor_columns (out-Prod p).first ++ joined (map factor_columns (out-Prod p).rest)
unfolding columns_of atom_columns factor_columns prod_columns signed_columns
prod_parts p =
    fold_out-Prod Cols Cols Cols Cols Cols cols_at_atom cols_at_expr cols_at_factor cols_at_prod cols_at_signed p

-- those of a further product
pub signed_parts : (s : Signed) → signed_columns s ≡ prod_columns (out-Signed s).prod
unfolding columns_of atom_columns factor_columns prod_columns signed_columns
signed_parts s =
    fold_out-Signed Cols Cols Cols Cols Cols cols_at_atom cols_at_expr cols_at_factor cols_at_prod cols_at_signed s

-- those of a factor
pub factor_parts : (f : Factor) → factor_columns f ≡ atom_columns (out-Factor f).atom
unfolding columns_of atom_columns factor_columns prod_columns signed_columns
factor_parts f =
    fold_out-Factor Cols Cols Cols Cols Cols cols_at_atom cols_at_expr cols_at_factor cols_at_prod cols_at_signed f

-- an int has none
pub int_columns : (n : ℤ) → atom_columns (atom.Int n) ≡ []
unfolding atom_columns
int_columns n = fold_int cols_at_atom cols_at_expr cols_at_factor cols_at_prod cols_at_signed n

-- a column is its own one
pub col_columns : (c : Col) → atom_columns (atom.Col c) ≡ c ∷ []
unfolding atom_columns
col_columns c = fold_col cols_at_atom cols_at_expr cols_at_factor cols_at_prod cols_at_signed c

-- brackets have those within them
pub bracket_columns : (e : Expr) → atom_columns (atom.Bracket e) ≡ columns_of e
unfolding atom_columns columns_of
bracket_columns e = fold_bracket cols_at_atom cols_at_expr cols_at_factor cols_at_prod cols_at_signed e

-- ---- an empty list

-- of no elements none stands first
pub first_of_none : {A : Type 0} (span : A → Span) (test : A → Bool) → None ≡ first_place span test []
unfolding first_place
first_of_none span test = refl

-- behind the last of the parts there is none
pub first_at_end : {A B : Type 0} (span : B → Span) (test : B → Bool) (part : A → List B) (xs : List A) (i : ℕ)
    → length xs ≤ i
    → first_place span test (joined (map part xs)) ≡ first_place span test (joined (map part (drop i xs)))
    → None ≡ first_place span test (joined (map part xs))
first_at_end span test part xs i far ahead = rw (ahead, drop_all i xs far) (first_of_none span test)

-- ---- what several parts have, one behind another

-- what the parts have from a place on is what the one there has, and what those behind it have
pub next_of_each : {A B : Type 0} (part : A → List B) (xs : List A) (i : ℕ) (x : A) → i < length xs
    → x ≡ get_or xs i x → flat_map part (drop i xs) ≡ part x ++ flat_map part (drop (i + 1) xs)
next_of_each part xs i x low is = ap (flat_map part) (drop_at xs i x low is)

-- behind the last of them there is none
pub first_of_each_at_end : {A B : Type 0} (span : B → Span) (test : B → Bool) (part : A → List B) (xs : List A) (i : ℕ)
    → length xs ≤ i → first_place span test (flat_map part xs) ≡ first_place span test (flat_map part (drop i xs))
    → None ≡ first_place span test (flat_map part xs)
first_of_each_at_end span test part xs i far ahead = rw (ahead, drop_all i xs far) (first_of_none span test)

-- what the parts of parts have is what the parts have
pub flat_twice : {A B C : Type 0} (f : A → List B) (g : B → List C) (xs : List A)
    → flat_map g (flat_map f xs) ≡ flat_map (λ x. flat_map g (f x)) xs
flat_twice f g [] = refl
flat_twice f g (x ∷ xs) = flat_map-append g (f x) (flat_map f xs) ∙ ap (λ t. flat_map g (f x) ++ t) (flat_twice f g xs)

-- ---- a list, element by element

-- the first of those from a place on is there, where the one there passes
pub item_here : {A : Type 0} (span : A → Span) (test : A → Bool) (xs : List A) (i : ℕ) (x : A) (p : Span)
    → i < length xs → x ≡ get_or xs i x → first_place span test xs ≡ first_place span test (drop i xs)
    → Some p ≡ first_place span test (x ∷ []) → Some p ≡ first_place span test xs
item_here span test xs i x p low is ahead h =
    rw (ahead, drop_at xs i x low is) (first_here span test (x ∷ []) (drop (i + 1) xs) p h)

-- where the one there does not pass, the first is among those behind it
pub item_later : {A : Type 0} (span : A → Span) (test : A → Bool) (xs : List A) (i : ℕ) (x : A) → i < length xs
    → x ≡ get_or xs i x → first_place span test xs ≡ first_place span test (drop i xs)
    → None ≡ first_place span test (x ∷ []) → first_place span test xs ≡ first_place span test (drop (i + 1) xs)
item_later span test xs i x low is ahead h =
    ahead ∙ rw (drop_at xs i x low is) (first_later span test (x ∷ []) (drop (i + 1) xs) h)

-- behind the last element none passes
pub item_at_end : {A : Type 0} (span : A → Span) (test : A → Bool) (xs : List A) (i : ℕ) → length xs ≤ i
    → first_place span test xs ≡ first_place span test (drop i xs) → None ≡ first_place span test xs
item_at_end span test xs i far ahead = rw (ahead, drop_all i xs far) (first_of_none span test)

-- the first of what the parts have is there, where it is found in the part at the place
pub each_here : {A B : Type 0} (span : B → Span) (test : B → Bool) (part : A → List B) (xs : List A) (i : ℕ) (x : A)
    (p : Span)
    → i < length xs → x ≡ get_or xs i x
    → first_place span test (flat_map part xs) ≡ first_place span test (flat_map part (drop i xs))
    → Some p ≡ first_place span test (part x) → Some p ≡ first_place span test (flat_map part xs)
each_here span test part xs i x p low is ahead h =
    rw (ahead, next_of_each part xs i x low is) (first_here span test (part x) (flat_map part (drop (i + 1) xs)) p h)

-- and else it is in the parts behind it
pub each_later : {A B : Type 0} (span : B → Span) (test : B → Bool) (part : A → List B) (xs : List A) (i : ℕ) (x : A)
    → i < length xs → x ≡ get_or xs i x
    → first_place span test (flat_map part xs) ≡ first_place span test (flat_map part (drop i xs))
    → None ≡ first_place span test (part x)
    → first_place span test (flat_map part xs) ≡ first_place span test (flat_map part (drop (i + 1) xs))
each_later span test part xs i x low is ahead h =
    ahead ∙ rw (next_of_each part xs i x low is) (first_later span test (part x) (flat_map part (drop (i + 1) xs)) h)
