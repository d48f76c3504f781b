-- In a query that binds WHERE holds exactly where its conditions do and the chord is within its limit.
use Rattle.std.specs.Prelude.{option_to_list}
use Rattle.std.proofs.Common.{◌≡◌, ℕ, suc, ℤ, pos, ◌-ℤ◌, Bool, true, false, List, [], ◌∷◌, ◌++◌, map, length, Option, Some, None, refl, cond, sym, ap, ◌∙◌, subst, arith}
use Rattle.std.specs.Prelude.{◌&&◌, not, int_le, int_lt}
use Rattle.std.specs.List.{AllByRecursion as Each, flat_map, list_all, list_any, filter}
use Rattle.std.specs.Option.{is_some, option_map}
use Rattle.std.specs.Str.{bytes_eq}
use Rattle.std.proofs.lemmas.Bool.{and_parts}
use Rattle.std.proofs.lemmas.Int.{ints}
use Rattle.sky_vector.specs.Points.{Point, chord_squared}
use Rattle.sql_tree.specs.declared.cond.Cond.{Cond}
use Rattle.sql_tree.specs.declared.cond.Neg.{Neg}
use Rattle.sql_tree.specs.declared.name.Name.{Name}
use Rattle.sql_tree.specs.declared.query.Query.{Query}
use Rattle.sql_tree.specs.declared.query.TableRef.{TableRef}
use Rattle.table_rules.specs.Objects.{Obj}
use Rattle.value_rules.specs.Truth.{is_true, holds, meets}
use Rattle.value_rules.specs.Values.{Pick}
use Rattle.bind_rules.specs.declared.fault.BindFault.TheVariants as fault
use Rattle.bind_rules.specs.Binding.{chord_limit, first_or, bound_query}
use Rattle.bind_rules.specs.BoundWhere.{within_limit, is_chord, is_plain, WhereHoldsAsBound, ConjunctsAreBound}
use Rattle.bind_rules.specs.Bounds.{Meaning, Scope, object_columns}
use Rattle.bind_rules.specs.Columns.{is_join}
use Rattle.bind_rules.specs.Conjuncts.{conjuncts, where_conjuncts}
use Rattle.bind_rules.specs.Forms.{ChordAt, area_form, chord_by, chords_of, names_both, pairs_both, is_join_form, join_form}
use Rattle.bind_rules.specs.Mentions.{columns_in}
use Rattle.bind_rules.specs.Names.{is_grouped}
use Rattle.bind_rules.specs.Tops.{Test, Tests, Area, Chord, Equals, Listed, Found, found_at, found_by, found_in, test_of, within, tests_in, top_tests}
use Rattle.bind_rules.specs.Truths.{is_within, chord_truth, conjunct_truth, where_holds}
use Rattle.bind_rules.specs.Wholes.{bound_cond, bound_conjunct, conds_in}
use Rattle.bind_rules.proofs.Each.{weaker, by_two, in_parts, all_pass, none_passes, flat_twice, flat_same}
use Rattle.bind_rules.proofs.Faultless.{Faultless, scope_of, binds, good_areas, IsTopArea}
use Rattle.bind_rules.proofs.Kept.{IsTopChord, IsGood, Kept, AsCondition, AsLimit, conjunct_kept, chord_is_left_out, chord_is_tested}
use Rattle.bind_rules.proofs.Shapes.{if_no_fault, shape_by}
use Rattle.bind_rules.proofs.Views.{View, views}
use Rattle.bind_rules.proofs.WrittenTruths.{and_true, all_append, chord_conjunct, where_is_its_conjuncts, bound_conjuncts_say_the_same}

-- ---- the chord tests of a query that binds

abbrev IsTop : ChordAt → Type 0
IsTop c = c.top ≡ true

-- the chord test that is found
abbrev chord_at : Found → List ChordAt
chord_at f = chord_by f.test f.top

-- how many chord tests a query has
abbrev chords_asked : Bool → ℕ
chords_asked true = 1
chords_asked false = 0

no_chords : (cs : List ChordAt) → list_all (λ c. false) cs ≡ true → (length cs ≡ 0) × Each IsTop cs
no_chords [] h = (refl, tt)
no_chords (c ∷ cs) h = absurd cc

one_chord : (a b : Option Name) (cs : List ChordAt) → pairs_both a b cs ≡ true → (length cs ≡ 1) × Each IsTop cs
one_chord None b cs h = absurd cc
one_chord (Some a) None cs h = absurd cc
one_chord (Some a) (Some b) [] h = absurd cc
one_chord (Some a) (Some b) (c ∷ []) h =
    let two = and_parts (not (bytes_eq a.text b.text) && c.top) (names_both a b c) h in
    (refl, ((and_parts (not (bytes_eq a.text b.text)) c.top two.0).1, tt))
one_chord (Some a) (Some b) (c ∷ (d ∷ cs)) h = absurd cc

chords_known : (q : Query) (second : Option TableRef) → is_join_form q second ≡ true → (length (chords_of q) ≡ chords_asked (is_some second)) × Each IsTop (chords_of q)
chords_known q None h = no_chords (chords_of q) h
chords_known q (Some t) h =
    let two = and_parts (pairs_both q.first.alias t.alias (chords_of q) && list_all (λ c. is_some c.table) (columns_in q)) (not (is_grouped q)) h in
    one_chord q.first.alias t.alias (chords_of q) (and_parts (pairs_both q.first.alias t.alias (chords_of q)) (list_all (λ c. is_some c.table) (columns_in q)) two.0).0

faultless_chords : (names : List (List ℕ)) (q : Query) → Faultless names q → (length (chords_of q) ≡ chords_asked (is_join q)) × Each IsTop (chords_of q)
unfolding join_form
faultless_chords names q f = chords_known q q.second (if_no_fault (is_join_form q q.second) fault.JoinForm f.join)

top_chord : (t : Test) (top : Bool) → Each IsTop (chord_by t top) → IsTopChord t top
top_chord (Area kind span args) top h = tt
top_chord (Chord left right strict n) top h = h.0
top_chord (Equals left right) top h = tt
top_chord (Listed value list) top h = tt

abbrev HasTopChord : Found → Type 0
HasTopChord f = IsTopChord f.test f.top

tests_good : (q : Query) → area_form q ≡ None → Each IsTop (chords_of q) → Each IsGood (tests_in q.cond)
tests_good q areas chords =
    by_two IsTopArea HasTopChord IsGood (λ t a c. (a.0, c)) (tests_in q.cond) (good_areas q areas)
    (weaker (λ t. Each IsTop (chord_at t)) HasTopChord (λ t h. top_chord t.test t.top h) (tests_in q.cond)
    (in_parts IsTop chord_at (tests_in q.cond) chords))

good_tests : (names : List (List ℕ)) (q : Query) → Faultless names q → Each IsGood (tests_in q.cond)
good_tests names q f = tests_good q f.area (faultless_chords names q f).1

-- each conjunct becomes a condition, or is a chord test
all_kept : (means : Meaning) (w : Option Cond) → Each IsGood (tests_in w) → Each (Kept means) (where_conjuncts w)
all_kept means None h = tt
all_kept means (Some c) h = by_two View (λ n. Each IsGood (found_in n)) (Kept means) (conjunct_kept means) (conjuncts c) (views c) (in_parts IsGood found_in (conjuncts c) h)

-- ---- the conditions are those of the conjuncts, in their order

one_bound : (means : Meaning) (n : Neg) (ns : List Neg) → Kept means n → map Some (flat_map (bound_conjunct means) ns) ≡ map (bound_cond means) (filter is_plain ns) → map Some (flat_map (bound_conjunct means) (n ∷ ns)) ≡ map (bound_cond means) (filter is_plain (n ∷ ns))
one_bound means n ns (AsCondition c is free) h =
    ap (λ w. map Some (option_to_list w ++ flat_map (bound_conjunct means) ns)) is ∙ ap (λ ws. Some c ∷ ws) h
    ∙ sym (ap (λ b. map (bound_cond means) (cond (not b) (n ∷ filter is_plain ns) (filter is_plain ns))) free ∙ ap (λ w. w ∷ map (bound_cond means) (filter is_plain ns)) is)
one_bound means n ns (AsLimit left right strict n' is) h =
    ap (λ w. map Some (option_to_list w ++ flat_map (bound_conjunct means) ns)) (chord_is_left_out means n left right strict n' is) ∙ h
    ∙ sym (ap (λ ts. map (bound_cond means) (cond (not (list_any is_chord ts)) (n ∷ filter is_plain ns) (filter is_plain ns))) (chord_is_tested n left right strict n' is))

all_bound : (means : Meaning) (ns : List Neg) → Each (Kept means) ns → map Some (flat_map (bound_conjunct means) ns) ≡ map (bound_cond means) (filter is_plain ns)
all_bound means [] h = refl
all_bound means (n ∷ ns) h = one_bound means n ns h.0 (all_bound means ns h.1)

query_is_bound : (names : List (List ℕ)) (q : Query) → Faultless names q → map Some (bound_query (scope_of names q) q).conds ≡ map (bound_cond (object_columns names q)) (filter is_plain (where_conjuncts q.cond))
unfolding bound_query
query_is_bound names q f = all_bound (object_columns names q) (where_conjuncts q.cond) (all_kept (object_columns names q) q.cond (good_tests names q f))

pub conjuncts_are_bound : ConjunctsAreBound
conjuncts_are_bound names q b h =
    let two = binds names q b h in
    subst (λ x. map Some x.conds ≡ map (bound_cond (object_columns names q)) (filter is_plain (where_conjuncts q.cond))) two.1 (query_is_bound names q two.0)

-- ---- a conjunct says what its condition or its chord test says

-- a chord test holds; of other tests nothing is asked
abbrev chord_holds : Pick → Test → Bool
chord_holds p (Chord left right strict n) = is_true (chord_truth p strict n)
chord_holds p t = true

abbrev Said : Meaning → Pick → Neg → Type 0
Said means p n = is_true (conjunct_truth means p n) ≡ (meets (bound_conjunct means n) p && list_all (chord_holds p) (test_of n))

other_holds : (p : Pick) (t : Test) → is_chord t ≡ false → chord_holds p t ≡ true
other_holds p (Area kind span args) h = refl
other_holds p (Chord left right strict n) h = absurd cc
other_holds p (Equals left right) h = refl
other_holds p (Listed value list) h = refl

others_hold : (p : Pick) (ts : Tests) → list_any is_chord ts ≡ false → list_all (chord_holds p) ts ≡ true
others_hold p ts h =
    all_pass (chord_holds p) ts (weaker (λ t. is_chord t ≡ false) (λ t. chord_holds p t ≡ true) (other_holds p) ts (none_passes is_chord ts h))

said : (means : Meaning) (p : Pick) (n : Neg) → Kept means n → Said means p n
said means p n (AsCondition c is free) =
    ap is_true (sym (bound_conjuncts_say_the_same means p n c is)) ∙ and_true (holds c p) ∙ and_true (holds c p && true)
    ∙ sym (ap (λ w. (meets (option_to_list w) p && list_all (chord_holds p) (test_of n))) is ∙ ap (λ b. (meets (c ∷ []) p && b)) (others_hold p (test_of n) free))
said means p n (AsLimit left right strict n' is) =
    ap is_true (ap (conjunct_truth means p) is ∙ chord_conjunct means p left right strict n') ∙ and_true (is_true (chord_truth p strict n'))
    ∙ sym (ap (λ w. (meets (option_to_list w) p && list_all (chord_holds p) (test_of n))) (chord_is_left_out means n left right strict n' is) ∙ ap (list_all (chord_holds p)) (chord_is_tested n left right strict n' is))

exchanged : (a b c d : Bool) → ((a && b) && (c && d)) ≡ ((a && c) && (b && d))
exchanged true true c d = refl
exchanged true false true d = refl
exchanged true false false d = refl
exchanged false b c d = refl

all_said : (means : Meaning) (p : Pick) (ns : List Neg) → Each (Said means p) ns → list_all (λ n. is_true (conjunct_truth means p n)) ns ≡ (meets (flat_map (bound_conjunct means) ns) p && list_all (chord_holds p) (flat_map test_of ns))
all_said means p [] h = refl
all_said means p (n ∷ ns) h =
    ap (λ b. (b && list_all (λ n. is_true (conjunct_truth means p n)) ns)) h.0
    ∙ ap (λ b. ((meets (bound_conjunct means n) p && list_all (chord_holds p) (test_of n)) && b)) (all_said means p ns h.1)
    ∙ exchanged (meets (bound_conjunct means n) p) (list_all (chord_holds p) (test_of n)) (meets (flat_map (bound_conjunct means) ns) p) (list_all (chord_holds p) (flat_map test_of ns))
    ∙ sym (ap (λ b. (b && list_all (chord_holds p) (test_of n ++ flat_map test_of ns))) (all_append (λ c. holds c p) (bound_conjunct means n) (flat_map (bound_conjunct means) ns))
    ∙ ap (λ b. ((meets (bound_conjunct means n) p && meets (flat_map (bound_conjunct means) ns) p) && b)) (all_append (chord_holds p) (test_of n) (flat_map test_of ns)))

-- ---- the chord test is the limit

-- the pair is within the limit
abbrev near : Pick → ℤ → Bool
near p n = is_true (chord_truth p false n)

one_less : (d n : ℤ) → int_lt d n ≡ int_le d (n -ℤ pos 1)
one_less d n = grind (arith, ints)

strict_near : (at : Point) (n : ℤ) (o : Option Obj) → is_true (option_map (λ v. is_within true n (chord_squared at v.at)) o) ≡ is_true (option_map (λ v. is_within false (n -ℤ pos 1) (chord_squared at v.at)) o)
strict_near at n None = refl
strict_near at n (Some v) = one_less (chord_squared at v.at) n

chord_near : (p : Pick) (t : Test) → chord_holds p t ≡ list_all (near p) (chord_limit t)
chord_near p (Area kind span args) = refl
chord_near p (Chord left right true n) = strict_near p.first.at n p.second ∙ and_true (near p (n -ℤ pos 1))
chord_near p (Chord left right false n) = and_true (near p n)
chord_near p (Equals left right) = refl
chord_near p (Listed value list) = refl

all_near : (p : Pick) (ts : Tests) → list_all (chord_holds p) ts ≡ list_all (near p) (flat_map chord_limit ts)
all_near p [] = refl
all_near p (t ∷ ts) =
    ap (λ b. (b && list_all (chord_holds p) ts)) (chord_near p t) ∙ ap (λ b. (list_all (near p) (chord_limit t) && b)) (all_near p ts)
    ∙ sym (all_append (near p) (chord_limit t) (flat_map chord_limit ts))

-- the limit of a test that is found
abbrev limit_at : Found → List ℤ
limit_at f = chord_limit f.test

-- there are as many limits as chord tests
length_step : (t : Test) (top : Bool) (cs : List ChordAt) (zs : List ℤ) → length cs ≡ length zs → length (chord_by t top ++ cs) ≡ length (chord_limit t ++ zs)
length_step (Area kind span args) top cs zs h = h
length_step (Chord left right true n) top cs zs h = ap suc h
length_step (Chord left right false n) top cs zs h = ap suc h
length_step (Equals left right) top cs zs h = h
length_step (Listed value list) top cs zs h = h

same_length : (fs : List Found) → length (flat_map chord_at fs) ≡ length (flat_map limit_at fs)
same_length [] = refl
same_length (f ∷ fs) = length_step f.test f.top (flat_map chord_at fs) (flat_map limit_at fs) (same_length fs)

-- and those are of the tests at the top
no_limit : (t : Test) → IsTopChord t false → chord_limit t ≡ []
no_limit (Area kind span args) h = refl
no_limit (Chord left right strict n) h = absurd cc
no_limit (Equals left right) h = refl
no_limit (Listed value list) h = refl

inner_limits : (ts : Tests) → Each IsGood (map (found_at false) ts) → flat_map limit_at (map (found_at false) ts) ≡ []
inner_limits [] h = refl
inner_limits (t ∷ ts) h = ap (λ zs. zs ++ flat_map limit_at (map (found_at false) ts)) (no_limit t h.0.1) ∙ inner_limits ts h.1

top_limits : (ts : Tests) → flat_map limit_at (map (found_at true) ts) ≡ flat_map chord_limit ts
top_limits [] = refl
top_limits (t ∷ ts) = ap (λ zs. chord_limit t ++ zs) (top_limits ts)

found_limits : (ts inner : Tests) → Each IsGood (found_by ts inner) → flat_map limit_at (found_by ts inner) ≡ flat_map chord_limit ts
found_limits [] inner h = inner_limits inner h
found_limits (t ∷ ts) inner h = top_limits (t ∷ ts)

where_limits : (w : Option Cond) → Each IsGood (tests_in w) → flat_map limit_at (tests_in w) ≡ flat_map chord_limit (top_tests w)
unfolding found_in
where_limits w h =
    flat_twice limit_at found_in (where_conjuncts w)
    ∙ flat_same (λ n. flat_map limit_at (found_in n)) (λ n. flat_map chord_limit (test_of n)) (where_conjuncts w)
    (weaker (λ n. Each IsGood (found_in n)) (λ n. flat_map limit_at (found_in n) ≡ flat_map chord_limit (test_of n)) (λ n k. found_limits (test_of n) (within n) k) (where_conjuncts w) (in_parts IsGood found_in (where_conjuncts w) h))
    ∙ sym (flat_twice chord_limit test_of (where_conjuncts w))

as_many_limits : (q : Query) → Each IsGood (tests_in q.cond) → length (flat_map chord_limit (top_tests q.cond)) ≡ length (chords_of q)
as_many_limits q h = ap (λ zs. length zs) (sym (where_limits q.cond h)) ∙ sym (same_length (tests_in q.cond))

limits_asked : (names : List (List ℕ)) (q : Query) → Faultless names q → length (flat_map chord_limit (top_tests q.cond)) ≡ chords_asked (is_join q)
limits_asked names q f = as_many_limits q (good_tests names q f) ∙ (faultless_chords names q f).0

none_near : (p : Pick) (zs : List ℤ) → length zs ≡ 0 → list_all (near p) zs ≡ true
none_near p [] h = refl
none_near p (z ∷ zs) h = absurd (omega (arith, h))

one_near : (p : Pick) (zs : List ℤ) → length zs ≡ 1 → list_all (near p) zs ≡ near p (first_or (pos 0) zs)
one_near p [] h = absurd (omega (arith, h))
one_near p (z ∷ []) h = sym (and_true (near p z))
one_near p (z ∷ (y ∷ zs)) h = absurd (omega (arith, h))

limit_said : (s : Scope) (q : Query) (p : Pick) (j g : Bool) → length (flat_map chord_limit (top_tests q.cond)) ≡ chords_asked j → list_all (near p) (flat_map chord_limit (top_tests q.cond)) ≡ within_limit (shape_by s q j g) p
limit_said s q p true g h = one_near p (flat_map chord_limit (top_tests q.cond)) h
limit_said s q p false true h = none_near p (flat_map chord_limit (top_tests q.cond)) h
limit_said s q p false false h = none_near p (flat_map chord_limit (top_tests q.cond)) h

-- ---- the law

-- WHERE is true exactly if its conditions hold and each chord is within its limit
where_said : (means : Meaning) (w : Option Cond) (p : Pick) → Each IsGood (tests_in w) → where_holds means p w ≡ (meets (conds_in means w) p && list_all (near p) (flat_map chord_limit (top_tests w)))
where_said means w p h =
    where_is_its_conjuncts means p w
    ∙ all_said means p (where_conjuncts w) (weaker (Kept means) (Said means p) (said means p) (where_conjuncts w) (all_kept means w h))
    ∙ ap (λ b. (meets (conds_in means w) p && b)) (all_near p (top_tests w))

-- of a query without chord tests
pub where_without_chords : (means : Meaning) (q : Query) (p : Pick) → area_form q ≡ None → list_all (λ c. false) (chords_of q) ≡ true → where_holds means p q.cond ≡ meets (conds_in means q.cond) p
where_without_chords means q p areas chords =
    let none = no_chords (chords_of q) chords in
    let good = tests_good q areas none.1 in
    where_said means q.cond p good
    ∙ ap (λ b. (meets (conds_in means q.cond) p && b)) (none_near p (flat_map chord_limit (top_tests q.cond)) (as_many_limits q good ∙ none.0))
    ∙ sym (and_true (meets (conds_in means q.cond) p))

query_holds : (names : List (List ℕ)) (q : Query) (p : Pick) → Faultless names q → where_holds (object_columns names q) p q.cond ≡ (meets (bound_query (scope_of names q) q).conds p && within_limit (bound_query (scope_of names q) q).shape p)
unfolding bound_query
query_holds names q p f =
    where_said (object_columns names q) q.cond p (good_tests names q f)
    ∙ ap (λ b. (meets (conds_in (object_columns names q) q.cond) p && b)) (limit_said (scope_of names q) q p (is_join q) (is_grouped q) (limits_asked names q f))

pub where_holds_as_bound : WhereHoldsAsBound
where_holds_as_bound names q b p h =
    let two = binds names q b h in
    subst (λ x. where_holds (object_columns names q) p q.cond ≡ (meets x.conds p && within_limit x.shape p)) two.1 (query_holds names q p two.0)
