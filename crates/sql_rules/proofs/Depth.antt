-- A text whose brackets are within the limit spells no deeper tree.
use Rattle.std.proofs.Common.{◌≡◌, ℕ, ℤ, suc, zero, ◌+◌, ◌-◌, ◌≤◌, ◌&&◌, List, [], ◌∷◌, ◌++◌, map, refl, Bool, true}
use Rattle.std.proofs.Common.{false, Option, None, Some, append_assoc, arith, nat_lt, max}
use Rattle.std.specs.List.{flat_map}
use Rattle.sql_token.specs.declared.keyword.Keyword.{Keyword}
use Rattle.sql_tree.specs.declared.cond.Cond.{Cond}
use Rattle.sql_tree.specs.declared.cond.IntList.{IntList}
use Rattle.sql_tree.specs.declared.cond.SignedInt.{SignedInt}
use Rattle.sql_tree.specs.declared.expr.Atom.{Atom}
use Rattle.sql_tree.specs.declared.expr.Expr.{Expr}
use Rattle.sql_tree.specs.declared.expr.Factor.{Factor}
use Rattle.sql_tree.specs.declared.name.Name.{Name}
use Rattle.sql_tree.specs.declared.query.Item.{Item}
use Rattle.sql_tree.specs.declared.query.ItemKind.{ItemKind}
use Rattle.sql_tree.specs.declared.query.Selection.{Selection}
use Rattle.sql_tree.specs.declared.query.TableRef.{TableRef}
use Rattle.sql_rules.proofs.Nesting.{most, nest_atom, nest_expr, nest_factor, nest_prod, nest_signed, nest_pred}
use Rattle.sql_rules.proofs.Nesting.{nest_cond, nest_conj, nest_neg}
use Rattle.sql_rules.proofs.Opened.{flat_map-map, starred, anded, ored, spell_int_atom, spell_col_atom}
use Rattle.sql_rules.proofs.Opened.{spell_bracket_atom, spell_factor_roll, spell_prod_roll, spell_signed_roll}
use Rattle.sql_rules.proofs.Opened.{spell_expr_roll, spell_bracket_pred, spell_compare_pred, spell_between_pred}
use Rattle.sql_rules.proofs.Opened.{spell_among_pred, spell_null_pred, spell_area_pred, spell_chord_pred}
use Rattle.sql_rules.proofs.Opened.{spell_neg_roll, spell_conj_roll, spell_cond_roll, nest_int_atom, nest_col_atom}
use Rattle.sql_rules.proofs.Opened.{nest_bracket_atom, nest_factor_roll, nest_prod_roll, nest_signed_roll}
use Rattle.sql_rules.proofs.Opened.{nest_expr_roll, nest_bracket_pred, nest_compare_pred, nest_between_pred}
use Rattle.sql_rules.proofs.Opened.{nest_among_pred, nest_null_pred, nest_area_pred, nest_chord_pred, nest_neg_roll}
use Rattle.sql_rules.proofs.Opened.{nest_conj_roll, nest_cond_roll, atom_cases, factor_cases, prod_cases}
use Rattle.sql_rules.proofs.Opened.{signed_cases, expr_cases, pred_cases, neg_cases, conj_cases, cond_cases}
use Rattle.sql_rules.proofs.Within.{lifts, drops, within}
use Rattle.sql_rules.specs.Symbols.{of_keyword, of_sign, Symbol, Named, Number, Adds, Compares, AreaName}
use Rattle.sql_rules.specs.Queries.{spell_call, spell_kind, spell_as, spell_item, spell_items, spell_alias}
use Rattle.sql_rules.specs.Queries.{spell_table, spell_second}
use Rattle.sql_rules.specs.Spelling.{Symbols, optional, led_by, bracketed, spell_qualifier, spell_atom, spell_expr}
use Rattle.sql_rules.specs.Spelling.{spell_factor, spell_prod, spell_signed}
use Rattle.sql_rules.specs.SpellingConds.{spell_int, spell_ints, chord_op}
use Rattle.sql_rules.specs.SpellingConds.{spell_cond, spell_conj, spell_neg, spell_pred}
use Rattle.sql_token.specs.declared.keyword.Keyword.TheVariants as keyword
use Rattle.sql_token.specs.declared.sign.Sign.TheVariants as sign
use Rattle.sql_tree.specs.declared.query.ItemKind.TheVariants as what
use Rattle.sql_tree.specs.declared.query.Selection.TheVariants as selection

-- what a text of that depth says of the brackets that are open before it, and leaves to what follows
abbrev pub Climbs : ℕ → Symbols → ℕ → Type 0
Climbs limit text depth = (depth0 : ℕ) (rest : List Symbol) → depth0 ≤ limit → within limit depth0 (text ++ rest) ≡ true → (depth0 + depth ≤ limit) × (within limit depth0 rest ≡ true)

nothing : (limit : ℕ) → Climbs limit [] 0
nothing limit depth0 rest le h = (omega arith, h)

both : (limit : ℕ) (a b : Symbols) (m k : ℕ) → Climbs limit a m → Climbs limit b k → Climbs limit (a ++ b) (max m k)
both limit a b m k ha hb depth0 rest le h =
    let first = ha depth0 (b ++ rest) le (rw (← append_assoc a b rest) h) in
    let second = hb depth0 rest le first.1 in
    (omega arith, second.1)

no_less : (limit : ℕ) (a : Symbols) (m k : ℕ) → k ≤ m → Climbs limit a m → Climbs limit a k
no_less limit a m k le h depth0 rest le2 w = let x = h depth0 rest le2 w in (omega arith, x.1)

-- a token that is no bracket
one : (limit : ℕ) (p : Symbol) → lifts p ≡ false → drops p ≡ false → Climbs limit (p ∷ []) 0
unfolding within
one limit p plain plain2 depth0 rest le h = (omega arith, simp (plain, plain2) at h)

and_true : (a b : Bool) → (a && b) ≡ true → (a ≡ true) × (b ≡ true)
and_true true b e = (refl, e)
and_true false b e = absurd cc

room : (depth0 limit : ℕ) → nat_lt depth0 limit ≡ true → suc depth0 ≤ limit
room depth0 limit e = grind (arith, e)

-- brackets round a text
brackets : (limit : ℕ) (a : Symbols) (m : ℕ) → Climbs limit a m → Climbs limit (of_sign sign.Open ∷ (a ++ (of_sign sign.Close ∷ []))) (suc m)
unfolding within
brackets limit a m h depth0 rest le w =
    let two = and_true (nat_lt depth0 limit) (within limit (suc depth0) ((a ++ (of_sign sign.Close ∷ [])) ++ rest)) w in
    let fits = room depth0 limit two.0 in
    let inner = h (suc depth0) (of_sign sign.Close ∷ rest) fits (rw (← append_assoc a (of_sign sign.Close ∷ []) rest) two.1) in
    let back : suc depth0 - 1 ≡ depth0 = omega arith in
    (omega arith, rw (← back) inner.1)

-- a token that is no bracket before a text, and after one
lead : (limit : ℕ) (p : Symbol) (a : Symbols) (m : ℕ) → lifts p ≡ false → drops p ≡ false → Climbs limit a m → Climbs limit (p ∷ a) m
lead limit p a m plain plain2 h = no_less limit (p ∷ a) (max 0 m) m (omega arith) (both limit (p ∷ []) a 0 m (one limit p plain plain2) h)

maybe : (limit : ℕ) (b : Bool) (p : Symbol) (a : Symbols) (m : ℕ) → lifts p ≡ false → drops p ≡ false → Climbs limit a m → Climbs limit (optional b p ++ a) m
maybe limit true p a m plain plain2 h = lead limit p a m plain plain2 h
maybe limit false p a m plain plain2 h = h

-- what holds of each tree down to a depth
abbrev UpTo : {A : Type 0} → ℕ → (A → Symbols) → (A → ℕ) → ℕ → Type 0
UpTo {A} limit spell nest n = (x : A) → nest x ≤ n → Climbs limit (spell x) (nest x)

several : {A : Type 0} (limit n : ℕ) (p : Symbol) (spell : A → Symbols) (nest : A → ℕ) → lifts p ≡ false → drops p ≡ false → UpTo limit spell nest n → (xs : List A) → most (map nest xs) ≤ n → Climbs limit (flat_map (λ x. p ∷ spell x) xs) (most (map nest xs))
several limit n p spell nest plain plain2 h [] deep = nothing limit
several limit n p spell nest plain plain2 h (x ∷ xs) deep = both limit (p ∷ spell x) (flat_map (λ y. p ∷ spell y) xs) (nest x) (most (map nest xs)) (lead limit p (spell x) (nest x) plain plain2 (h x (omega arith))) (several limit n p spell nest plain plain2 h xs (omega arith))

all_of : {A : Type 0} (limit n : ℕ) (spell : A → Symbols) (nest : A → ℕ) → UpTo limit spell nest n → (xs : List A) → most (map nest xs) ≤ n → Climbs limit (flat_map spell xs) (most (map nest xs))
all_of limit n spell nest h [] deep = nothing limit
all_of limit n spell nest h (x ∷ xs) deep = both limit (spell x) (flat_map spell xs) (nest x) (most (map nest xs)) (h x (omega arith)) (all_of limit n spell nest h xs (omega arith))

-- ---- expressions, of each depth below n

abbrev Below : ℕ → ℕ → Type 0
Below limit n = (e : Expr) → suc (nest_expr e) ≤ n → Climbs limit (spell_expr e) (nest_expr e)

climbs_col : (limit : ℕ) (t : Option Name) (n : Name) → Climbs limit (spell_qualifier t ++ (Named n ∷ [])) 0
climbs_col limit None n = one limit (Named n) refl refl
climbs_col limit (Some t) n = lead limit (Named t) (of_sign sign.Dot ∷ Named n ∷ []) 0 refl refl (lead limit (of_sign sign.Dot) (Named n ∷ []) 0 refl refl (one limit (Named n) refl refl))

climbs_atom : (limit n : ℕ) → Below limit n → (a : Atom) → nest_atom a ≤ n → Climbs limit (spell_atom a) (nest_atom a)
climbs_atom limit n h = atom_cases (λ a. nest_atom a ≤ n → Climbs limit (spell_atom a) (nest_atom a))
    (λ i deep. rw (spell_int_atom i, nest_int_atom i) (one limit (Number i) refl refl))
    (λ c deep. rw (spell_col_atom c, nest_col_atom c) (climbs_col limit c.table c.name))
    (λ e deep. rw (spell_bracket_atom e, nest_bracket_atom e) (brackets limit (spell_expr e) (nest_expr e) (h e (rw (← nest_bracket_atom e) deep))))

climbs_factor : (limit n : ℕ) → Below limit n → (f : Factor) → nest_factor f ≤ n → Climbs limit (spell_factor f) (nest_factor f)
climbs_factor limit n h = factor_cases (λ f. nest_factor f ≤ n → Climbs limit (spell_factor f) (nest_factor f))
    (λ x deep. rw (spell_factor_roll x, nest_factor_roll x) (maybe limit x.minus (Adds true) (spell_atom x.atom) (nest_atom x.atom) refl refl (climbs_atom limit n h x.atom (rw (← nest_factor_roll x) deep))))

climbs_prod : (limit n : ℕ) → Below limit n → UpTo limit spell_prod nest_prod n
climbs_prod limit n h = prod_cases (λ p. nest_prod p ≤ n → Climbs limit (spell_prod p) (nest_prod p))
    (λ x deep.
    let d = nest_prod_roll x in
    let c = both limit (spell_factor x.first) (flat_map starred x.rest) (nest_factor x.first) (most (map nest_factor x.rest)) (climbs_factor limit n h x.first (omega arith)) (several limit n (of_sign sign.Star) spell_factor nest_factor refl refl (climbs_factor limit n h) x.rest (omega arith)) in
    rw (spell_prod_roll x, nest_prod_roll x) c)

climbs_signed : (limit n : ℕ) → Below limit n → UpTo limit spell_signed nest_signed n
climbs_signed limit n h = signed_cases (λ s. nest_signed s ≤ n → Climbs limit (spell_signed s) (nest_signed s))
    (λ x deep. rw (spell_signed_roll x, nest_signed_roll x) (lead limit (Adds x.minus) (spell_prod x.prod) (nest_prod x.prod) refl refl (climbs_prod limit n h x.prod (rw (← nest_signed_roll x) deep))))

climbs_sum : (limit n : ℕ) → Below limit n → UpTo limit spell_expr nest_expr n
climbs_sum limit n h = expr_cases (λ e. nest_expr e ≤ n → Climbs limit (spell_expr e) (nest_expr e))
    (λ x deep.
    let d = nest_expr_roll x in
    let c = both limit (spell_prod x.first) (flat_map spell_signed x.rest) (nest_prod x.first) (most (map nest_signed x.rest)) (climbs_prod limit n h x.first (omega arith)) (all_of limit n spell_signed nest_signed (climbs_signed limit n h) x.rest (omega arith)) in
    rw (spell_expr_roll x, nest_expr_roll x) c)

climbs_below : (limit n : ℕ) → Below limit n
climbs_below limit zero e deep = absurd (omega arith)
climbs_below limit (suc n) e deep = climbs_sum limit n (climbs_below limit n) e (omega arith)

pub climbs_expr : (limit : ℕ) (e : Expr) → Climbs limit (spell_expr e) (nest_expr e)
climbs_expr limit e = climbs_below limit (suc (nest_expr e)) e (omega arith)

-- ---- conditions

climbs_int : (limit : ℕ) (i : SignedInt) → Climbs limit (spell_int i) 0
climbs_int limit i = maybe limit i.minus (Adds true) (Number i.size ∷ []) 0 refl refl (one limit (Number i.size) refl refl)

zeros : (xs : List SignedInt) → most (map (λ _. 0) xs) ≤ 0
zeros [] = omega arith
zeros (x ∷ xs) = omega (arith, zeros xs)

climbs_ints : (limit : ℕ) (l : IntList) → Climbs limit (spell_int l.first ++ led_by (of_sign sign.Comma) (map spell_int l.rest)) 0
climbs_ints limit l = rw (flat_map-map (λ t. of_sign sign.Comma ∷ t) spell_int l.rest)
    (no_less limit _ (max 0 (most (map (λ _. 0) l.rest))) 0 (omega arith)
    (both limit (spell_int l.first) (flat_map (λ t. of_sign sign.Comma ∷ spell_int t) l.rest) 0 (most (map (λ _. 0) l.rest)) (climbs_int limit l.first)
    (several limit 0 (of_sign sign.Comma) spell_int (λ _. 0) refl refl (λ i d. climbs_int limit i) l.rest (zeros l.rest))))

climbs_list : (limit : ℕ) (l : IntList) → Climbs limit (spell_ints l) 0
climbs_list limit l = no_less limit (spell_ints l) 1 0 (omega arith) (brackets limit (spell_int l.first ++ led_by (of_sign sign.Comma) (map spell_int l.rest)) 0 (climbs_ints limit l))

-- an expression, and what is said of it
valued : (limit : ℕ) (e : Expr) (tail : Symbols) (m : ℕ) → Climbs limit tail m → Climbs limit (spell_expr e ++ tail) (max (nest_expr e) m)
valued limit e tail m h = both limit (spell_expr e) tail (nest_expr e) m (climbs_expr limit e) h

abbrev BelowConds : ℕ → ℕ → Type 0
BelowConds limit n = (c : Cond) → suc (nest_cond c) ≤ n → Climbs limit (spell_cond c) (nest_cond c)

climbs_chord : (limit : ℕ) (left right : Name) (strict : Bool) (k : ℤ) → Climbs limit (of_keyword keyword.Chord2 ∷ (bracketed (Named left ∷ of_sign sign.Comma ∷ Named right ∷ []) ++ (Compares (chord_op strict) ∷ Number k ∷ []))) 0
climbs_chord limit left right strict k =
    let names : Climbs limit (Named left ∷ of_sign sign.Comma ∷ Named right ∷ []) 0 = lead limit (Named left) (of_sign sign.Comma ∷ Named right ∷ []) 0 refl refl (lead limit (of_sign sign.Comma) (Named right ∷ []) 0 refl refl (one limit (Named right) refl refl)) in
    let end : Climbs limit (Compares (chord_op strict) ∷ Number k ∷ []) 0 = lead limit (Compares (chord_op strict)) (Number k ∷ []) 0 refl refl (one limit (Number k) refl refl) in
    let all = both limit (bracketed (Named left ∷ of_sign sign.Comma ∷ Named right ∷ [])) (Compares (chord_op strict) ∷ Number k ∷ []) 1 0 (brackets limit (Named left ∷ of_sign sign.Comma ∷ Named right ∷ []) 0 names) end in
    lead limit (of_keyword keyword.Chord2) (bracketed (Named left ∷ of_sign sign.Comma ∷ Named right ∷ []) ++ (Compares (chord_op strict) ∷ Number k ∷ [])) 0 refl refl
    (no_less limit (bracketed (Named left ∷ of_sign sign.Comma ∷ Named right ∷ []) ++ (Compares (chord_op strict) ∷ Number k ∷ [])) (max 1 0) 0 (omega arith) all)

climbs_pred : (limit n : ℕ) → BelowConds limit n → UpTo limit spell_pred nest_pred n
climbs_pred limit n h = pred_cases (λ p. nest_pred p ≤ n → Climbs limit (spell_pred p) (nest_pred p))
    (λ c deep. rw (spell_bracket_pred c, nest_bracket_pred c) (brackets limit (spell_cond c) (nest_cond c) (h c (rw (← nest_bracket_pred c) deep))))
    (λ left op right deep. rw (spell_compare_pred left op right, nest_compare_pred left op right)
    (valued limit left (Compares op ∷ spell_expr right) (nest_expr right) (lead limit (Compares op) (spell_expr right) (nest_expr right) refl refl (climbs_expr limit right))))
    (λ without value low high deep. rw (spell_between_pred without value low high, nest_between_pred without value low high)
    (valued limit value (optional without (of_keyword keyword.Not) ++ (of_keyword keyword.Between ∷ (spell_expr low ++ (of_keyword keyword.And ∷ spell_expr high)))) (max (nest_expr low) (nest_expr high))
    (maybe limit without (of_keyword keyword.Not) (of_keyword keyword.Between ∷ (spell_expr low ++ (of_keyword keyword.And ∷ spell_expr high))) (max (nest_expr low) (nest_expr high)) refl refl
    (lead limit (of_keyword keyword.Between) (spell_expr low ++ (of_keyword keyword.And ∷ spell_expr high)) (max (nest_expr low) (nest_expr high)) refl refl
    (both limit (spell_expr low) (of_keyword keyword.And ∷ spell_expr high) (nest_expr low) (nest_expr high) (climbs_expr limit low) (lead limit (of_keyword keyword.And) (spell_expr high) (nest_expr high) refl refl (climbs_expr limit high)))))))
    (λ without value list deep. rw (spell_among_pred without value list, nest_among_pred without value list)
    (no_less limit (spell_expr value ++ (optional without (of_keyword keyword.Not) ++ (of_keyword keyword.In ∷ spell_ints list))) (max (nest_expr value) 0) (nest_expr value) (omega arith)
    (valued limit value (optional without (of_keyword keyword.Not) ++ (of_keyword keyword.In ∷ spell_ints list)) 0 (maybe limit without (of_keyword keyword.Not) (of_keyword keyword.In ∷ spell_ints list) 0 refl refl (lead limit (of_keyword keyword.In) (spell_ints list) 0 refl refl (climbs_list limit list))))))
    (λ without value deep. rw (spell_null_pred without value, nest_null_pred without value)
    (no_less limit (spell_expr value ++ (of_keyword keyword.Is ∷ (optional without (of_keyword keyword.Not) ++ (of_keyword keyword.Null ∷ [])))) (max (nest_expr value) 0) (nest_expr value) (omega arith)
    (valued limit value (of_keyword keyword.Is ∷ (optional without (of_keyword keyword.Not) ++ (of_keyword keyword.Null ∷ []))) 0
    (lead limit (of_keyword keyword.Is) (optional without (of_keyword keyword.Not) ++ (of_keyword keyword.Null ∷ [])) 0 refl refl (maybe limit without (of_keyword keyword.Not) (of_keyword keyword.Null ∷ []) 0 refl refl (one limit (of_keyword keyword.Null) refl refl))))))
    (λ area span args deep. rw (spell_area_pred area span args, nest_area_pred area span args) (lead limit (AreaName area span) (spell_ints args) 0 refl refl (climbs_list limit args)))
    (λ left right strict k deep. rw (spell_chord_pred left right strict k, nest_chord_pred left right strict k) (climbs_chord limit left right strict k))

climbs_neg : (limit n : ℕ) → BelowConds limit n → UpTo limit spell_neg nest_neg n
climbs_neg limit n h = neg_cases (λ x. nest_neg x ≤ n → Climbs limit (spell_neg x) (nest_neg x))
    (λ x deep. rw (spell_neg_roll x, nest_neg_roll x) (maybe limit x.not (of_keyword keyword.Not) (spell_pred x.pred) (nest_pred x.pred) refl refl (climbs_pred limit n h x.pred (rw (← nest_neg_roll x) deep))))

climbs_conj : (limit n : ℕ) → BelowConds limit n → UpTo limit spell_conj nest_conj n
climbs_conj limit n h = conj_cases (λ x. nest_conj x ≤ n → Climbs limit (spell_conj x) (nest_conj x))
    (λ x deep.
    let d = nest_conj_roll x in
    let c = both limit (spell_neg x.first) (flat_map anded x.rest) (nest_neg x.first) (most (map nest_neg x.rest)) (climbs_neg limit n h x.first (omega arith)) (several limit n (of_keyword keyword.And) spell_neg nest_neg refl refl (climbs_neg limit n h) x.rest (omega arith)) in
    rw (spell_conj_roll x, nest_conj_roll x) c)

climbs_any : (limit n : ℕ) → BelowConds limit n → UpTo limit spell_cond nest_cond n
climbs_any limit n h = cond_cases (λ x. nest_cond x ≤ n → Climbs limit (spell_cond x) (nest_cond x))
    (λ x deep.
    let d = nest_cond_roll x in
    let c = both limit (spell_conj x.first) (flat_map ored x.rest) (nest_conj x.first) (most (map nest_conj x.rest)) (climbs_conj limit n h x.first (omega arith)) (several limit n (of_keyword keyword.Or) spell_conj nest_conj refl refl (climbs_conj limit n h) x.rest (omega arith)) in
    rw (spell_cond_roll x, nest_cond_roll x) c)

below_conds : (limit n : ℕ) → BelowConds limit n
below_conds limit zero c deep = absurd (omega arith)
below_conds limit (suc n) c deep = climbs_any limit n (below_conds limit n) c (omega arith)

pub climbs_cond : (limit : ℕ) (c : Cond) → Climbs limit (spell_cond c) (nest_cond c)
climbs_cond limit c = below_conds limit (suc (nest_cond c)) c (omega arith)

-- what is spelled within the limit is no deeper than that
pub within_cond : (limit : ℕ) (c : Cond) (rest : List Symbol) → within limit 0 (spell_cond c ++ rest) ≡ true → nest_cond c ≤ limit
within_cond limit c rest h = let x = climbs_cond limit c 0 rest (omega arith) h in omega arith

-- ---- items

-- how deep an item is
abbrev pub nest_kind : ItemKind → ℕ
nest_kind (what.Plain e) = nest_expr e
nest_kind what.Count = 0
nest_kind (what.CountOf e) = suc (nest_expr e)
nest_kind (what.Sum e) = suc (nest_expr e)
nest_kind (what.Min e) = suc (nest_expr e)
nest_kind (what.Max e) = suc (nest_expr e)
nest_kind (what.Avg e) = suc (nest_expr e)

abbrev pub nest_item : Item → ℕ
nest_item i = nest_kind i.what

abbrev pub nest_items : Selection → ℕ
nest_items (selection.Star span) = 0
nest_items (selection.List l) = max (nest_item l.first) (most (map nest_item l.rest))

climbs_call : (limit : ℕ) (word : Keyword) (e : Expr) → Climbs limit (spell_call word e) (suc (nest_expr e))
climbs_call limit word e = lead limit (of_keyword word) (bracketed (spell_expr e)) (suc (nest_expr e)) refl refl (brackets limit (spell_expr e) (nest_expr e) (climbs_expr limit e))

climbs_kind : (limit : ℕ) (k : ItemKind) → Climbs limit (spell_kind k) (nest_kind k)
climbs_kind limit (what.Plain e) = climbs_expr limit e
climbs_kind limit what.Count = no_less limit (of_keyword keyword.Count ∷ bracketed (of_sign sign.Star ∷ [])) 1 0 (omega arith) (lead limit (of_keyword keyword.Count) (bracketed (of_sign sign.Star ∷ [])) 1 refl refl (brackets limit (of_sign sign.Star ∷ []) 0 (one limit (of_sign sign.Star) refl refl)))
climbs_kind limit (what.CountOf e) = climbs_call limit keyword.Count e
climbs_kind limit (what.Sum e) = climbs_call limit keyword.Sum e
climbs_kind limit (what.Min e) = climbs_call limit keyword.Min e
climbs_kind limit (what.Max e) = climbs_call limit keyword.Max e
climbs_kind limit (what.Avg e) = climbs_call limit keyword.Avg e

climbs_as : (limit : ℕ) (a : Option Name) → Climbs limit (spell_as a) 0
climbs_as limit None = nothing limit
climbs_as limit (Some a) = lead limit (of_keyword keyword.As) (Named a ∷ []) 0 refl refl (one limit (Named a) refl refl)

climbs_item : (limit : ℕ) (i : Item) → Climbs limit (spell_item i) (nest_item i)
climbs_item limit i = no_less limit (spell_item i) (max (nest_item i) 0) (nest_item i) (omega arith) (both limit (spell_kind i.what) (spell_as i.alias) (nest_item i) 0 (climbs_kind limit i.what) (climbs_as limit i.alias))

pub climbs_items : (limit : ℕ) (x : Selection) → Climbs limit (spell_items x) (nest_items x)
climbs_items limit (selection.Star span) = one limit (of_sign sign.Star) refl refl
climbs_items limit (selection.List l) = rw (flat_map-map (λ t. of_sign sign.Comma ∷ t) spell_item l.rest)
    (both limit (spell_item l.first) (flat_map (λ t. of_sign sign.Comma ∷ spell_item t) l.rest) (nest_item l.first) (most (map nest_item l.rest)) (climbs_item limit l.first)
    (several limit (most (map nest_item l.rest)) (of_sign sign.Comma) spell_item nest_item refl refl (λ i d. climbs_item limit i) l.rest (omega arith)))

-- ---- tables

climbs_alias : (limit : ℕ) (b : Bool) (a : Option Name) → Climbs limit (spell_alias b a) 0
climbs_alias limit b None = nothing limit
climbs_alias limit b (Some a) = maybe limit b (of_keyword keyword.As) (Named a ∷ []) 0 refl refl (one limit (Named a) refl refl)

climbs_table : (limit : ℕ) (b : Bool) (t : TableRef) → Climbs limit (spell_table b t) 0
climbs_table limit b t = lead limit (Named t.name) (spell_alias b t.alias) 0 refl refl (climbs_alias limit b t.alias)

climbs_second : (limit : ℕ) (b : Bool) (t : Option TableRef) → Climbs limit (spell_second b t) 0
climbs_second limit b None = nothing limit
climbs_second limit b (Some t) = lead limit (of_sign sign.Comma) (spell_table b t) 0 refl refl (climbs_table limit b t)

-- what stands before WHERE is no deeper than the limit, and leaves what follows within it
pub within_front : (a b : Bool) (x : Selection) (t : TableRef) (s : Option TableRef) (rest : List Symbol) →
    within 32 0 (of_keyword keyword.Select ∷ (spell_items x ++ (of_keyword keyword.From ∷ (spell_table a t ++ (spell_second b s ++ rest))))) ≡ true → (nest_items x ≤ 32) × (within 32 0 rest ≡ true)
within_front a b x t s rest h =
    let first = lead 32 (of_keyword keyword.Select) (spell_items x) (nest_items x) refl refl (climbs_items 32 x) 0 (of_keyword keyword.From ∷ (spell_table a t ++ (spell_second b s ++ rest))) (omega arith) h in
    let second = one 32 (of_keyword keyword.From) refl refl 0 (spell_table a t ++ (spell_second b s ++ rest)) (omega arith) first.1 in
    let third = both 32 (spell_table a t) (spell_second b s) 0 0 (climbs_table 32 a t) (climbs_second 32 b s) 0 rest (omega arith) (rw (append_assoc (spell_table a t) (spell_second b s) rest) second.1) in
    (omega arith, third.1)
