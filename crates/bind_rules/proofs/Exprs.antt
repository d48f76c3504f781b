-- A bound expression has the columns and the widths of the written one.
use Rattle.std.proofs.Common.{◌≡◌, ℕ, ◌+◌, ◌*◌, ℤ, Bool, true, false, List, [], ◌∷◌, ◌++◌, map, Option, Some, None, refl, sym, ap, subst, ◌∙◌, append_assoc, max, nat_abs, if◌then◌else◌}
use Rattle.std.specs.Prelude.{unwrap_or}
use Rattle.std.specs.List.{AllByRecursion as Each}
use Rattle.std.specs.Option.{is_some}
use Rattle.sql_bound.specs.declared.expr.BoundAtom.{BoundAtom}
use Rattle.sql_bound.specs.declared.expr.BoundExpr.{BoundExpr}
use Rattle.sql_bound.specs.declared.expr.BoundFactor.{BoundFactor}
use Rattle.sql_bound.specs.declared.expr.BoundProd.{BoundProd}
use Rattle.sql_bound.specs.declared.expr.BoundSigned.{BoundSigned}
use Rattle.sql_tree.specs.declared.expr.Atom.{Atom}
use Rattle.sql_tree.specs.declared.expr.Atom.TheFolds.{fold-Atom, fold-Factor, fold-Prod, fold-Signed}
use Rattle.sql_tree.specs.declared.expr.Atom.TheFolds.{fold-roll-Factor, fold-roll-Prod, fold-roll-Signed, fold-roll-Expr}
use Rattle.sql_tree.specs.declared.expr.Atom.TheOpen.{Expr-F, Factor-F, Prod-F, Signed-F}
use Rattle.sql_tree.specs.declared.expr.Atom.TheVariants as atom
use Rattle.sql_tree.specs.declared.expr.Expr.{Expr, roll-Expr}
use Rattle.sql_tree.specs.declared.expr.Factor.{Factor, roll-Factor}
use Rattle.sql_tree.specs.declared.expr.Prod.{Prod, roll-Prod}
use Rattle.sql_tree.specs.declared.expr.Signed.{Signed, roll-Signed}
use Rattle.sql_tree.specs.declared.name.Col.{Col}
use Rattle.table_rules.specs.Names.{column_of}
use Rattle.table_rules.specs.Objects.{column_bound}
use Rattle.value_rules.specs.Sound.{columns_at}
use Rattle.value_rules.specs.Terms.{Term, Number, Column, Minus, Plus, Less, Times, sum_from, product_from, term_of, term_of_atom, term_of_factor, term_of_prod, term_of_signed}
use Rattle.value_rules.specs.Widths.{width_at, widest_at}
use Rattle.value_rules.proofs.Parts.{term_int, term_col, term_bracket, term_factor_roll, term_prod_roll, term_signed_roll, term_expr_roll}
use Rattle.std.proofs.lemmas.List.{append-nil}
use Rattle.bind_rules.specs.Bounds.{Meaning, Scope, bound_col, atom_by, bound_expr_step, bound_factor_step, bound_prod_step, bound_signed_step, expr_by}
use Rattle.text_rules.specs.Readings.{joined}
use Rattle.bind_rules.specs.Mentions.{Cols, cols_at_atom, cols_at_expr, cols_at_factor, cols_at_prod, cols_at_signed, columns_of}
use Rattle.bind_rules.specs.Widths.{Width, just, bound_by, column_size, and_then, taken_from_left, width_at_atom, width_at_expr, width_at_factor, width_at_prod, width_at_signed, width_of}
use Rattle.bind_rules.proofs.Folds.{fold_int, fold_col, fold_bracket}
use Rattle.bind_rules.proofs.Inductions.{expr_induction}

-- ---- the parts of an expression, bound

abbrev pub atom_in : Meaning → Atom → BoundAtom
atom_in means = fold-Atom BoundAtom BoundExpr BoundFactor BoundProd BoundSigned (atom_by means) bound_expr_step bound_factor_step bound_prod_step bound_signed_step

abbrev pub factor_in : Meaning → Factor → BoundFactor
factor_in means = fold-Factor BoundAtom BoundExpr BoundFactor BoundProd BoundSigned (atom_by means) bound_expr_step bound_factor_step bound_prod_step bound_signed_step

abbrev pub prod_in : Meaning → Prod → BoundProd
prod_in means = fold-Prod BoundAtom BoundExpr BoundFactor BoundProd BoundSigned (atom_by means) bound_expr_step bound_factor_step bound_prod_step bound_signed_step

abbrev pub signed_in : Meaning → Signed → BoundSigned
signed_in means = fold-Signed BoundAtom BoundExpr BoundFactor BoundProd BoundSigned (atom_by means) bound_expr_step bound_factor_step bound_prod_step bound_signed_step

pub int_term : (means : Meaning) (n : ℤ) → term_of_atom (atom_in means (atom.Int n)) ≡ Number n
int_term means n = ap term_of_atom (fold_int (atom_by means) bound_expr_step bound_factor_step bound_prod_step bound_signed_step n) ∙ term_int n

pub col_term : (means : Meaning) (c : Col) → term_of_atom (atom_in means (atom.Col c)) ≡ Column (means c)
col_term means c = ap term_of_atom (fold_col (atom_by means) bound_expr_step bound_factor_step bound_prod_step bound_signed_step c) ∙ term_col (means c)

pub bracket_term : (means : Meaning) (e : Expr) → term_of_atom (atom_in means (atom.Bracket e)) ≡ term_of (expr_by means e)
unfolding expr_by
bracket_term means e = ap term_of_atom (fold_bracket (atom_by means) bound_expr_step bound_factor_step bound_prod_step bound_signed_step e) ∙ term_bracket (expr_by means e)

pub factor_term : (means : Meaning) (x : Factor-F Atom Expr Factor Prod Signed) → term_of_factor (factor_in means (roll-Factor x)) ≡ (if x.minus then Minus (term_of_atom (atom_in means x.atom)) else term_of_atom (atom_in means x.atom))
factor_term means x = ap term_of_factor (fold-roll-Factor BoundAtom BoundExpr BoundFactor BoundProd BoundSigned (atom_by means) bound_expr_step bound_factor_step bound_prod_step bound_signed_step x) ∙ term_factor_roll (record { minus = x.minus; atom = atom_in means x.atom })

pub prod_term : (means : Meaning) (x : Prod-F Atom Expr Factor Prod Signed) → term_of_prod (prod_in means (roll-Prod x)) ≡ product_from (term_of_factor (factor_in means x.first)) (map term_of_factor (map (factor_in means) x.rest))
prod_term means x = ap term_of_prod (fold-roll-Prod BoundAtom BoundExpr BoundFactor BoundProd BoundSigned (atom_by means) bound_expr_step bound_factor_step bound_prod_step bound_signed_step x) ∙ term_prod_roll (record { first = factor_in means x.first; rest = map (factor_in means) x.rest })

pub signed_term : (means : Meaning) (x : Signed-F Atom Expr Factor Prod Signed) → term_of_signed (signed_in means (roll-Signed x)) ≡ record { minus = x.minus; term = term_of_prod (prod_in means x.prod) }
signed_term means x = ap term_of_signed (fold-roll-Signed BoundAtom BoundExpr BoundFactor BoundProd BoundSigned (atom_by means) bound_expr_step bound_factor_step bound_prod_step bound_signed_step x) ∙ term_signed_roll (record { minus = x.minus; prod = prod_in means x.prod })

pub expr_term : (means : Meaning) (x : Expr-F Atom Expr Factor Prod Signed) → term_of (expr_by means (roll-Expr x)) ≡ sum_from (term_of_prod (prod_in means x.first)) (map term_of_signed (map (signed_in means) x.rest))
unfolding expr_by
expr_term means x = ap term_of (fold-roll-Expr BoundAtom BoundExpr BoundFactor BoundProd BoundSigned (atom_by means) bound_expr_step bound_factor_step bound_prod_step bound_signed_step x) ∙ term_expr_roll (record { first = prod_in means x.first; rest = map (signed_in means) x.rest })

-- ---- columns and widths of the parts, as they are written

abbrev atom_cols : Atom → Cols
atom_cols = fold-Atom Cols Cols Cols Cols Cols cols_at_atom cols_at_expr cols_at_factor cols_at_prod cols_at_signed

abbrev factor_cols : Factor → Cols
factor_cols = fold-Factor Cols Cols Cols Cols Cols cols_at_atom cols_at_expr cols_at_factor cols_at_prod cols_at_signed

abbrev prod_cols : Prod → Cols
prod_cols = fold-Prod Cols Cols Cols Cols Cols cols_at_atom cols_at_expr cols_at_factor cols_at_prod cols_at_signed

abbrev signed_cols : Signed → Cols
signed_cols = fold-Signed Cols Cols Cols Cols Cols cols_at_atom cols_at_expr cols_at_factor cols_at_prod cols_at_signed

abbrev atom_width : (Col → ℕ) → Atom → Width
atom_width size = fold-Atom Width Width Width Width Width (width_at_atom size) width_at_expr width_at_factor width_at_prod width_at_signed

abbrev factor_width : (Col → ℕ) → Factor → Width
factor_width size = fold-Factor Width Width Width Width Width (width_at_atom size) width_at_expr width_at_factor width_at_prod width_at_signed

abbrev prod_width : (Col → ℕ) → Prod → Width
prod_width size = fold-Prod Width Width Width Width Width (width_at_atom size) width_at_expr width_at_factor width_at_prod width_at_signed

abbrev signed_width : (Col → ℕ) → Signed → Width
signed_width size = fold-Signed Width Width Width Width Width (width_at_atom size) width_at_expr width_at_factor width_at_prod width_at_signed

-- the term is of that width
abbrev pub Sized : Term → Width → Type 0
Sized t w = (width_at t ≡ w.size) × (widest_at t ≡ w.widest)

-- A bound part has the columns of the written one, and where they are there, its width.
abbrev pub Agrees : Meaning → (Col → Type 0) → Term → Width → Cols → Type 0
Agrees means there t w cols = (columns_at t ≡ map means cols) × (Each there cols → Sized t w)

each_front : {X : Type 0} (P : X → Type 0) (xs ys : List X) → Each P (xs ++ ys) → Each P xs
each_front P [] ys h = tt
each_front P (x ∷ xs) ys h = (h.0, each_front P xs ys h.1)

each_back : {X : Type 0} (P : X → Type 0) (xs ys : List X) → Each P (xs ++ ys) → Each P ys
each_back P [] ys h = h
each_back P (x ∷ xs) ys h = each_back P xs ys h.1

map_append : {X Y : Type 0} (f : X → Y) (xs ys : List X) → map f (xs ++ ys) ≡ map f xs ++ map f ys
map_append f [] ys = refl
map_append f (x ∷ xs) ys = ap (λ t. f x ∷ t) (map_append f xs ys)

-- two parts joined by an operation
joined_agrees : (means : Meaning) (there : Col → Type 0) (op : ℕ → ℕ → ℕ) (join : Term → Term → Term) → ((t u : Term) → columns_at (join t u) ≡ columns_at t ++ columns_at u) → ((t u : Term) → width_at (join t u) ≡ op (width_at t) (width_at u)) → ((t u : Term) → widest_at (join t u) ≡ max (op (width_at t) (width_at u)) (max (widest_at t) (widest_at u))) → (t u : Term) (w v : Width) (cs ds : Cols) → Agrees means there t w cs → Agrees means there u v ds → Agrees means there (join t u) (and_then op w v) (cs ++ ds)
joined_agrees means there op join f g h t u w v cs ds a b =
    let cols : columns_at (join t u) ≡ map means (cs ++ ds) = rw (f t u, a.0, b.0, map_append means cs ds) refl in (
      cols,
      λ k.
          let x = a.1 (each_front there cs ds k) in
          let y = b.1 (each_back there cs ds k) in
          (rw (g t u, x.0, y.0) refl, rw (h t u, x.0, y.0, x.1, y.1) refl),
    )

times_agrees : (means : Meaning) (there : Col → Type 0) (t u : Term) (w v : Width) (cs ds : Cols) → Agrees means there t w cs → Agrees means there u v ds → Agrees means there (Times t u) (and_then (λ a b. a * b) w v) (cs ++ ds)
times_agrees means there = joined_agrees means there (λ a b. a * b) Times (λ t u. refl) (λ t u. refl) (λ t u. refl)

adds_agrees : (means : Meaning) (there : Col → Type 0) (m : Bool) (t u : Term) (w v : Width) (cs ds : Cols) → Agrees means there t w cs → Agrees means there u v ds → Agrees means there (if m then Less t u else Plus t u) (and_then (λ a b. a + b) w v) (cs ++ ds)
adds_agrees means there true = joined_agrees means there (λ a b. a + b) Less (λ t u. refl) (λ t u. refl) (λ t u. refl)
adds_agrees means there false = joined_agrees means there (λ a b. a + b) Plus (λ t u. refl) (λ t u. refl) (λ t u. refl)

product_agrees : (means : Meaning) (size : Col → ℕ) (there : Col → Type 0) (fs : List Factor) (t : Term) (w : Width) (cs : Cols) → Agrees means there t w cs → Each (λ f. Agrees means there (term_of_factor (factor_in means f)) (factor_width size f) (factor_cols f)) fs → Agrees means there (product_from t (map term_of_factor (map (factor_in means) fs))) (taken_from_left (λ a b. a * b) w (map (factor_width size) fs)) (cs ++ joined (map factor_cols fs))
product_agrees means size there [] t w cs a h = rw (append-nil cs) a
product_agrees means size there (f ∷ fs) t w cs a h =
    rw (← append_assoc cs (factor_cols f) (joined (map factor_cols fs)))
    (product_agrees means size there fs _ _ (cs ++ factor_cols f) (times_agrees means there t (term_of_factor (factor_in means f)) w (factor_width size f) cs (factor_cols f) a h.0) h.1)

sum_agrees : (means : Meaning) (size : Col → ℕ) (there : Col → Type 0) (gs : List Signed) (t : Term) (w : Width) (cs : Cols) → Agrees means there t w cs → Each (λ g. Agrees means there (term_of_signed (signed_in means g)).term (signed_width size g) (signed_cols g)) gs → Agrees means there (sum_from t (map term_of_signed (map (signed_in means) gs))) (taken_from_left (λ a b. a + b) w (map (signed_width size) gs)) (cs ++ joined (map signed_cols gs))
sum_agrees means size there [] t w cs a h = rw (append-nil cs) a
sum_agrees means size there (g ∷ gs) t w cs a h =
    rw (← append_assoc cs (signed_cols g) (joined (map signed_cols gs)))
    (sum_agrees means size there gs _ _ (cs ++ signed_cols g) (adds_agrees means there (term_of_signed (signed_in means g)).minus t (term_of_signed (signed_in means g)).term w (signed_width size g) cs (signed_cols g) a h.0) h.1)

-- ---- the law

minus_agrees : (means : Meaning) (there : Col → Type 0) (m : Bool) (t : Term) (w : Width) (cs : Cols) → Agrees means there t w cs → Agrees means there (if m then Minus t else t) w cs
minus_agrees means there true t w cs a = a
minus_agrees means there false t w cs a = a

as_said : (means : Meaning) (there : Col → Type 0) (t t' : Term) (w w' : Width) (cs cs' : Cols) → t ≡ t' → w ≡ w' → cs ≡ cs' → Agrees means there t' w' cs' → Agrees means there t w cs
as_said means there t t' w w' cs cs' p q r h =
    subst (λ x. Agrees means there x w cs) (sym p) (subst (λ x. Agrees means there t' x cs) (sym q) (subst (λ x. Agrees means there t' w' x) (sym r) h))

-- the bound of each column that is there is its size
abbrev pub AreSized : Meaning → (Col → ℕ) → (Col → Type 0) → Type 0
AreSized means size there = (c : Col) → there c → nat_abs (column_bound (means c).col) ≡ size c

column_agrees : (means : Meaning) (size : Col → ℕ) (there : Col → Type 0) → AreSized means size there → (c : Col) → Agrees means there (Column (means c)) (just (size c)) (c ∷ [])
column_agrees means size there sized c = (refl, λ h. (sized c h.0, sized c h.0))

-- a bound expression has the columns of the written one, and where they are there, its width
pub expr_agrees : (means : Meaning) (size : Col → ℕ) (there : Col → Type 0) → AreSized means size there → (e : Expr) → Agrees means there (term_of (expr_by means e)) (width_of size e) (columns_of e)
unfolding expr_by columns_of width_of
expr_agrees means size there sized = expr_induction
    (λ a. Agrees means there (term_of_atom (atom_in means a)) (atom_width size a) (atom_cols a))
    (λ e. Agrees means there (term_of (expr_by means e)) (width_of size e) (columns_of e))
    (λ f. Agrees means there (term_of_factor (factor_in means f)) (factor_width size f) (factor_cols f))
    (λ p. Agrees means there (term_of_prod (prod_in means p)) (prod_width size p) (prod_cols p))
    (λ g. Agrees means there (term_of_signed (signed_in means g)).term (signed_width size g) (signed_cols g))
    (λ n. as_said means there _ (Number n) _ (just (nat_abs n)) _ [] (int_term means n) (fold_int (width_at_atom size) width_at_expr width_at_factor width_at_prod width_at_signed n) (fold_int cols_at_atom cols_at_expr cols_at_factor cols_at_prod cols_at_signed n) (refl, λ h. (refl, refl)))
    (λ c. as_said means there _ (Column (means c)) _ (just (size c)) _ (c ∷ []) (col_term means c) (fold_col (width_at_atom size) width_at_expr width_at_factor width_at_prod width_at_signed c) (fold_col cols_at_atom cols_at_expr cols_at_factor cols_at_prod cols_at_signed c) (column_agrees means size there sized c))
    (λ e h. as_said means there _ (term_of (expr_by means e)) _ (width_of size e) _ (columns_of e) (bracket_term means e) (fold_bracket (width_at_atom size) width_at_expr width_at_factor width_at_prod width_at_signed e) (fold_bracket cols_at_atom cols_at_expr cols_at_factor cols_at_prod cols_at_signed e) h)
    (λ x h. as_said means there _ (if x.minus then Minus (term_of_atom (atom_in means x.atom)) else term_of_atom (atom_in means x.atom)) _ (atom_width size x.atom) _ (atom_cols x.atom) (factor_term means x) (fold-roll-Factor Width Width Width Width Width (width_at_atom size) width_at_expr width_at_factor width_at_prod width_at_signed x) (fold-roll-Factor Cols Cols Cols Cols Cols cols_at_atom cols_at_expr cols_at_factor cols_at_prod cols_at_signed x) (minus_agrees means there x.minus (term_of_atom (atom_in means x.atom)) (atom_width size x.atom) (atom_cols x.atom) h))
    (λ x h k. as_said means there _ (product_from (term_of_factor (factor_in means x.first)) (map term_of_factor (map (factor_in means) x.rest))) _ (taken_from_left (λ a b. a * b) (factor_width size x.first) (map (factor_width size) x.rest)) _ (factor_cols x.first ++ joined (map factor_cols x.rest)) (prod_term means x) (fold-roll-Prod Width Width Width Width Width (width_at_atom size) width_at_expr width_at_factor width_at_prod width_at_signed x) (fold-roll-Prod Cols Cols Cols Cols Cols cols_at_atom cols_at_expr cols_at_factor cols_at_prod cols_at_signed x) (product_agrees means size there x.rest (term_of_factor (factor_in means x.first)) (factor_width size x.first) (factor_cols x.first) h k))
    (λ x h. as_said means there _ (term_of_prod (prod_in means x.prod)) _ (prod_width size x.prod) _ (prod_cols x.prod) (ap (λ g. g.term) (signed_term means x)) (fold-roll-Signed Width Width Width Width Width (width_at_atom size) width_at_expr width_at_factor width_at_prod width_at_signed x) (fold-roll-Signed Cols Cols Cols Cols Cols cols_at_atom cols_at_expr cols_at_factor cols_at_prod cols_at_signed x) h)
    (λ x h k. as_said means there _ (sum_from (term_of_prod (prod_in means x.first)) (map term_of_signed (map (signed_in means) x.rest))) _ (taken_from_left (λ a b. a + b) (prod_width size x.first) (map (signed_width size) x.rest)) _ (prod_cols x.first ++ joined (map signed_cols x.rest)) (expr_term means x) (fold-roll-Expr Width Width Width Width Width (width_at_atom size) width_at_expr width_at_factor width_at_prod width_at_signed x) (fold-roll-Expr Cols Cols Cols Cols Cols cols_at_atom cols_at_expr cols_at_factor cols_at_prod cols_at_signed x) (sum_agrees means size there x.rest (term_of_prod (prod_in means x.first)) (prod_width size x.first) (prod_cols x.first) h k))

-- ---- the object table

-- the schema has the column
abbrev pub IsThere : Scope → Col → Type 0
IsThere s c = is_some (column_of s.names c.name.text) ≡ true

bound_there : (past : ℕ) (col : Option ℕ) → is_some col ≡ true → nat_abs (column_bound (unwrap_or col past)) ≡ bound_by col
bound_there past (Some n) h = refl
bound_there past None h = absurd cc

-- the columns of the object table that are there have their sizes
pub there_sized : (s : Scope) → AreSized (bound_col s) (column_size s.names) (IsThere s)
there_sized s c h = bound_there _ (column_of s.names c.name.text) h
