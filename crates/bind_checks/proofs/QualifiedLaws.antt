-- Which columns have a qualifier, part by part.
use Rattle.std.proofs.Common.{◌≡◌, Bool, true, false, not, List, [], ◌∷◌, ◌++◌, map, Option, Some, None, refl, ap, sym}
use Rattle.std.proofs.Common.{◌∙◌, cond, subst}
use Rattle.std.specs.Prelude.{◌&&◌, ◌||◌, is_some}
use Rattle.std.specs.List.{find, list_all, list_any, flat_map}
use Rattle.std.specs.List.{AllByRecursion as Each}
use Rattle.std.specs.Option.{option_map}
use Rattle.std.proofs.lemmas.List.Folds.{list_all-append}
use Rattle.sql_token.specs.declared.token.Span.{Span}
use Rattle.sql_tree.specs.declared.cond.Cond.{Cond, roll-Cond}
use Rattle.sql_tree.specs.declared.cond.Conj.{Conj, roll-Conj}
use Rattle.sql_tree.specs.declared.cond.Neg.{Neg, roll-Neg}
use Rattle.sql_tree.specs.declared.cond.Pred.{Pred}
use Rattle.sql_tree.specs.declared.cond.Pred.TheFolds.{fold-roll-Cond, fold-roll-Conj, fold-roll-Neg}
use Rattle.sql_tree.specs.declared.cond.Pred.TheOpen.{Cond-F, Conj-F, Neg-F}
use Rattle.sql_tree.specs.declared.expr.Expr.{Expr}
use Rattle.sql_tree.specs.declared.name.Col.{Col}
use Rattle.sql_tree.specs.declared.query.Query.{Query}
use Rattle.sql_tree.specs.declared.query.TableRef.{TableRef}
use Rattle.sql_tree.specs.Spans.{col_span}
use Rattle.bind_rules.specs.Columns.{tables}
use Rattle.text_rules.specs.Readings.{joined}
use Rattle.bind_rules.specs.Mentions.{Column, Table, Side, Cols, Mentions, columns_of, mentioned, mentions_of}
use Rattle.bind_rules.specs.Mentions.{mentions_of_cond, mentions_of_where, column_in, columns_in, item_exprs}
use Rattle.bind_rules.specs.Mentions.{mentions_at_cond, mentions_at_conj, mentions_at_neg, mentions_at_pred}
use Rattle.bind_rules.specs.Widths.{Exprs, all_exprs, exprs_at_pred, exprs_in, exprs_of}
use Rattle.bind_rules.proofs.Inductions.{cond_induction}
use Rattle.query_walks.specs.Firsts.{first_place}
use Rattle.bind_checks.specs.Parts.{conj_mentions, neg_mentions, pred_mentions}
use Rattle.query_walks.specs.Parts.{conj_exprs, neg_exprs, pred_exprs}
use Rattle.bind_checks.specs.Qualified.{are_qualified, all_qualified, is_bare}
use Rattle.query_walks.proofs.Anys.{any_append}
use Rattle.bind_checks.proofs.CondParts.{group_mentions, compare_mentions, between_mentions, among_mentions}
use Rattle.bind_checks.proofs.CondParts.{null_mentions, area_mentions, chord_mentions}
use Rattle.query_walks.proofs.CondParts.{group_exprs, compare_exprs}
use Rattle.query_walks.proofs.CondParts.{between_exprs, among_exprs, null_exprs, area_exprs, chord_exprs}

-- ---- expressions

-- of a column and those behind it, by whether it has a qualifier
bare_step : (c : Col) (rest : Option Col) (others b : Bool) → not (is_some (option_map col_span rest)) ≡ others
    → not (is_some (option_map col_span (cond (not b) (Some c) rest))) ≡ (b && others)
bare_step c rest others true later = later
bare_step c rest others false later = refl

-- no column without a qualifier is the first, exactly where each has one
no_first : (cs : Cols) → not (is_some (first_place col_span (λ c. not (is_some c.table)) cs)) ≡ are_qualified cs
unfolding first_place
no_first [] = refl
no_first (c ∷ cs) =
    bare_step c (find (λ d. not (is_some d.table)) cs) (are_qualified cs) (is_some c.table) (no_first cs)

-- an answer that is turned round twice
turned : (none there all : Bool) → there ≡ not none → not there ≡ all → none ≡ all
turned true true all e h = absurd cc
turned true false all e h = h
turned false true all e h = h
turned false false all e h = absurd cc

-- the same of the answer that there is none
pub none_bare : (cs : Cols) (place : Option Span) (none : Bool)
    → place ≡ first_place col_span (λ c. not (is_some c.table)) cs → is_some place ≡ not none → none ≡ are_qualified cs
none_bare cs place none is e = turned none (is_some place) (are_qualified cs) e (rw is (no_first cs))

not_twice : (b : Bool) → b ≡ not (not b)
not_twice true = refl
not_twice false = refl

-- and of the answer that there is one
pub some_bare : (cs : Cols) (place : Option Span) (there : Bool)
    → place ≡ first_place col_span (λ c. not (is_some c.table)) cs → there ≡ is_some place
    → there ≡ not (are_qualified cs)
some_bare cs place there is e = e ∙ not_twice (is_some place) ∙ ap not (rw is (no_first cs))

-- ---- what mentions have, and expressions have not

both_mentions : (xs ys : Mentions) → all_qualified (xs ++ ys) ≡ (all_qualified xs && all_qualified ys)
both_mentions xs ys = list_all-append _ xs ys

-- the columns of an expression as mentions
as_mentions : (cs : Cols) → all_qualified (map Column cs) ≡ are_qualified cs
as_mentions [] = refl
as_mentions (c ∷ cs) = ap (λ b. is_some c.table && b) (as_mentions cs)

-- each column among the mentions has a qualifier, exactly where no expression has one without
abbrev Claim : Mentions → Exprs → Type 0
Claim ms es = all_qualified ms ≡ not (list_any is_bare es)

claim_as : (ms ns : Mentions) (es fs : Exprs) → ms ≡ ns → es ≡ fs → Claim ns fs → Claim ms es
claim_as ms ns es fs p q h = subst (λ x. Claim x es) (sym p) (subst (λ x. Claim ns x) (sym q) h)

neither : (a b : Bool) → (not a && not b) ≡ not (a || b)
neither true b = refl
neither false b = refl

claim_both : (ms ns : Mentions) (es fs : Exprs) → Claim ms es → Claim ns fs → Claim (ms ++ ns) (es ++ fs)
claim_both ms ns es fs h k =
    both_mentions ms ns
    ∙ rw (h, k, any_append is_bare es fs) (neither (list_any is_bare es) (list_any is_bare fs))

claim_all : {X : Type 0} (mentions : X → Mentions) (exprs : X → Exprs) (xs : List X)
    → Each (λ x. Claim (mentions x) (exprs x)) xs → Claim (joined (map mentions xs)) (joined (map exprs xs))
claim_all mentions exprs [] k = refl
claim_all mentions exprs (x ∷ xs) k =
    claim_both (mentions x) (joined (map mentions xs)) (exprs x) (joined (map exprs xs)) k.0
    (claim_all mentions exprs xs k.1)

twice : (b : Bool) → b ≡ not (not b || false)
twice true = refl
twice false = refl

claim_one : (e : Expr) → Claim (mentioned e) (e ∷ [])
claim_one e = as_mentions (columns_of e) ∙ twice (are_qualified (columns_of e))

claim_each : (es : Exprs) → Claim (flat_map mentioned es) es
claim_each [] = refl
claim_each (e ∷ es) = claim_both (mentioned e) (flat_map mentioned es) (e ∷ []) es (claim_one e) (claim_each es)

-- ---- conditions

neg_layer : (x : Neg-F Pred Cond Conj Neg) → Claim (pred_mentions x.pred) (pred_exprs x.pred)
    → Claim (neg_mentions (roll-Neg x)) (neg_exprs (roll-Neg x))
unfolding neg_mentions pred_mentions neg_exprs pred_exprs
neg_layer x h =
    claim_as _ (pred_mentions x.pred) _ (pred_exprs x.pred)
    (fold-roll-Neg Mentions Mentions Mentions Mentions mentions_at_pred mentions_at_cond mentions_at_conj
    mentions_at_neg x)
    (fold-roll-Neg Exprs Exprs Exprs Exprs exprs_at_pred (λ c. c.first ++ joined c.rest)
    (λ c. c.first ++ joined c.rest) (λ n. n.pred) x) h

conj_layer : (x : Conj-F Pred Cond Conj Neg) → Claim (neg_mentions x.first) (neg_exprs x.first)
    → Each (λ n. Claim (neg_mentions n) (neg_exprs n)) x.rest
    → Claim (conj_mentions (roll-Conj x)) (conj_exprs (roll-Conj x))
unfolding conj_mentions neg_mentions conj_exprs neg_exprs
conj_layer x h k =
    claim_as _ (neg_mentions x.first ++ joined (map neg_mentions x.rest)) _
    (neg_exprs x.first ++ joined (map neg_exprs x.rest))
    (fold-roll-Conj Mentions Mentions Mentions Mentions mentions_at_pred mentions_at_cond mentions_at_conj
    mentions_at_neg x)
    (fold-roll-Conj Exprs Exprs Exprs Exprs exprs_at_pred (λ c. c.first ++ joined c.rest)
    (λ c. c.first ++ joined c.rest) (λ n. n.pred) x)
    (claim_both (neg_mentions x.first) (joined (map neg_mentions x.rest)) (neg_exprs x.first)
    (joined (map neg_exprs x.rest)) h (claim_all neg_mentions neg_exprs x.rest k))

cond_layer : (x : Cond-F Pred Cond Conj Neg) → Claim (conj_mentions x.first) (conj_exprs x.first)
    → Each (λ c. Claim (conj_mentions c) (conj_exprs c)) x.rest
    → Claim (mentions_of_cond (roll-Cond x)) (exprs_of (roll-Cond x))
unfolding mentions_of_cond conj_mentions exprs_of conj_exprs
cond_layer x h k =
    claim_as _ (conj_mentions x.first ++ joined (map conj_mentions x.rest)) _
    (conj_exprs x.first ++ joined (map conj_exprs x.rest))
    (fold-roll-Cond Mentions Mentions Mentions Mentions mentions_at_pred mentions_at_cond mentions_at_conj
    mentions_at_neg x)
    (fold-roll-Cond Exprs Exprs Exprs Exprs exprs_at_pred (λ c. c.first ++ joined c.rest)
    (λ c. c.first ++ joined c.rest) (λ n. n.pred) x)
    (claim_both (conj_mentions x.first) (joined (map conj_mentions x.rest)) (conj_exprs x.first)
    (joined (map conj_exprs x.rest)) h (claim_all conj_mentions conj_exprs x.rest k))

claim_cond : (c : Cond) → Claim (mentions_of_cond c) (exprs_of c)
claim_cond = cond_induction
    (λ p. Claim (pred_mentions p) (pred_exprs p))
    (λ c. Claim (mentions_of_cond c) (exprs_of c))
    (λ c. Claim (conj_mentions c) (conj_exprs c))
    (λ n. Claim (neg_mentions n) (neg_exprs n))
    (λ c h. claim_as _ (mentions_of_cond c) _ (exprs_of c) (group_mentions c) (group_exprs c) h)
    (λ left op right. claim_as _ _ _ _ (compare_mentions left op right) (compare_exprs left op right)
    (claim_both (mentioned left) (mentioned right) (left ∷ []) (right ∷ []) (claim_one left) (claim_one right)))
    (λ without value low high. claim_as _ _ _ _ (between_mentions without value low high)
    (between_exprs without value low high)
    (claim_both (mentioned value ++ mentioned low) (mentioned high) (value ∷ low ∷ []) (high ∷ [])
    (claim_both (mentioned value) (mentioned low) (value ∷ []) (low ∷ []) (claim_one value) (claim_one low))
    (claim_one high)))
    (λ without value list. claim_as _ _ _ _ (among_mentions without value list) (among_exprs without value list)
    (claim_one value))
    (λ without value. claim_as _ _ _ _ (null_mentions without value) (null_exprs without value) (claim_one value))
    (λ kind span args. claim_as _ [] _ [] (area_mentions kind span args) (area_exprs kind span args) refl)
    (λ left right strict n. claim_as _ (Side left ∷ Side right ∷ []) _ [] (chord_mentions left right strict n)
    (chord_exprs left right strict n) refl)
    neg_layer
    conj_layer
    cond_layer

claim_where : (c : Option Cond) → Claim (mentions_of_where c) (exprs_in c)
claim_where None = refl
claim_where (Some c) = claim_cond c

-- ---- a query

-- the columns among mentions
mentioned_columns : (ms : Mentions) → are_qualified (flat_map column_in ms) ≡ all_qualified ms
mentioned_columns [] = refl
mentioned_columns (Column c ∷ ms) = ap (λ b. is_some c.table && b) (mentioned_columns ms)
mentioned_columns (Table n ∷ ms) = mentioned_columns ms
mentioned_columns (Side n ∷ ms) = mentioned_columns ms

tables_qualified : (ts : List TableRef) → all_qualified (map (λ t. Table t.name) ts) ≡ true
tables_qualified [] = refl
tables_qualified (t ∷ ts) = tables_qualified ts

four_parts : (a b c d : Mentions) → all_qualified (((a ++ b) ++ c) ++ d) ≡ (((all_qualified a && all_qualified b) && all_qualified c) && all_qualified d)
four_parts a b c d =
    both_mentions ((a ++ b) ++ c) d
    ∙ ap (λ x. x && all_qualified d) (both_mentions (a ++ b) c ∙ ap (λ x. x && all_qualified c) (both_mentions a b))

without_tables : (a c d : Bool) → (((a && true) && c) && d) ≡ ((a && c) && d)
without_tables true c d = refl
without_tables false c d = refl

-- those of the items and of WHERE
claim_exprs : (q : Query)
    → (all_qualified (flat_map mentioned (item_exprs q)) && all_qualified (mentions_of_where q.cond))
    ≡ not (list_any is_bare (all_exprs q))
claim_exprs q =
    sym (both_mentions (flat_map mentioned (item_exprs q)) (mentions_of_where q.cond))
    ∙ claim_both (flat_map mentioned (item_exprs q)) (mentions_of_where q.cond) (item_exprs q) (exprs_in q.cond)
    (claim_each (item_exprs q)) (claim_where q.cond)

pub query_qualified : (q : Query)
    → list_all (λ c. is_some c.table) (columns_in q)
    ≡ (not (list_any is_bare (all_exprs q)) && are_qualified q.group)
query_qualified q =
    mentioned_columns (mentions_of q)
    ∙ four_parts (flat_map mentioned (item_exprs q)) (map (λ t. Table t.name) (tables q)) (mentions_of_where q.cond)
    (map Column q.group)
    ∙ rw (tables_qualified (tables q), as_mentions q.group)
    (without_tables (all_qualified (flat_map mentioned (item_exprs q))) (all_qualified (mentions_of_where q.cond))
    (are_qualified q.group))
    ∙ ap (λ b. b && are_qualified q.group) (claim_exprs q)
