-- The root of a session's pieces, from the plans of its queries.
use denote.Ref.{Bor}
use Rattle.std.proofs.Common.{◌≡◌, ◌∙◌, sym, ap, subst, ℕ, zero, suc, ◌+◌, ◌<◌, ◌≤◌, arith, List, [], ◌∷◌, ◌++◌, All, append-nil}
use Rattle.std.proofs.Common.{length, map, take, get_or, None, Some, Option, option_map, slice_get, Result, Ok, Err}
use Rattle.std.specs.Prelude.{OnOk}
use Rattle.std.proofs.lemmas.List.{length-map, length-take, map-append, take_more}
use Rattle.std.proofs.lemmas.Option.{slice_get-map}
use Rattle.table_rules.specs.Objects.{IsCatalogue}
use Rattle.sky_rules.specs.Limits.{IsSky}
use Rattle.scan_rules.specs.declared.limits.TheConstants.{QUERY_MOST}
use Rattle.source_rules.specs.Sources.{IsSourceTable}
use Rattle.sql_rules.specs.PrintedExprs.{Bytes}
use Rattle.sql_tree.specs.declared.query.Query.{Query}
use Rattle.session_rules.specs.Numbers.{numbered_from}
use Rattle.session_rules.proofs.Numbers.{ascend_from, below_from, from_number, holds_from, known_at, numbered_more}
use Rattle.child_rules.specs.declared.bound.ChildBound.{ChildBound}
use Rattle.child_rules.specs.ChildBases.{ChildBase, IsChildBase, child_at}
use Rattle.child_rules.specs.Children.{IsChild}
use Rattle.child_transcripts.specs.ChildLaws.{BoundCanBeRun}
use Rattle.child_session.specs.ChildAttached.{CanRunChild, child_base, child_base_of, query_in_plan, query_values, with_child_if_planned}
use Rattle.child_session.specs.ChildPlans.{AreChildPlans, ChildPlanFor}
use Rattle.child_session.specs.ChildSurvey.{ChildSurvey}
use Rattle.child_session.specs.declared.plan.ChildPlan.{ChildPlan}
use Rattle.child_session.specs.declared.plan.ChildPlan.TheVariants.{Planned, Refused}

-- ---- the root grows

-- the root with these queries
abbrev over : ChildSurvey → List (ℕ × ChildBound) → ChildBase
over t queries = record { plan = t.plan; rows = t.rows; table = t.table; queries = queries }

-- one query more
base_more : (t : ChildSurvey) (xs : List (Option ChildBound)) (q : ℕ) (x : Option ChildBound) → q ≡ 1 + length xs
    → with_child_if_planned (child_base t xs) q x ≡ child_base t (xs ++ x ∷ [])
base_more t xs q (Some query) is =
    ap (over t) (ap (λ n. numbered_from 1 xs ++ (n, query) ∷ []) is ∙ sym (numbered_more 1 xs (Some query)))
base_more t xs q None is = ap (over t) (sym (append-nil (numbered_from 1 xs)) ∙ sym (numbered_more 1 xs None))

-- the queries before a place, with that at it
more_taken : (plans : List ChildPlan) (place : ℕ) (d : ChildPlan) → place < length plans
    → map query_in_plan (take place plans) ++ query_in_plan (get_or plans place d) ∷ [] ≡ map query_in_plan (take (place + 1) plans)
more_taken plans place d low =
    sym (map-append query_in_plan (take place plans) (get_or plans place d ∷ []))
    ∙ ap (map query_in_plan) (sym (take_more plans place d low))

taken_length : (plans : List ChildPlan) (place : ℕ) → place < length plans → length (map query_in_plan (take place plans)) ≡ place
taken_length plans place low = omega (arith, low, length-map (take place plans) query_in_plan, length-take place plans)

-- the numbers in use are below the next one
pub give_above : (t : ChildSurvey) (plans : List ChildPlan) (place q : ℕ) (b : ChildBase) → b ≡ child_base_of t (take place plans)
    → place < length plans → q ≡ place + 1 → All (λ (e : ℕ × ChildBound). e.0 < q) b.queries
give_above t plans place q b is low number =
    subst (λ (it : ChildBase). All (λ (e : ℕ × ChildBound). e.0 < q) it.queries) (sym is)
    (below_from 1 (map query_in_plan (take place plans)) q (omega (arith, number, taken_length plans place low)))

given_more : (t : ChildSurvey) (plans : List ChildPlan) (place q : ℕ) (d : ChildPlan) (b new : ChildBase)
    → b ≡ child_base_of t (take place plans) → place < length plans → q ≡ place + 1
    → new ≡ with_child_if_planned b q (query_in_plan (get_or plans place d)) → new ≡ child_base_of t (take (place + 1) plans)
given_more t plans place q d b new is low number given =
    given ∙ ap (λ it. with_child_if_planned it q (query_in_plan (get_or plans place d))) is
    ∙ base_more t (map query_in_plan (take place plans)) q (query_in_plan (get_or plans place d))
    (omega (arith, number, taken_length plans place low))
    ∙ ap (child_base t) (more_taken plans place d low)

-- so if the next one was given
pub given_if : (t : ChildSurvey) (plans : List ChildPlan) (place q : ℕ) (d : ChildPlan) (b new : ChildBase) {A E : Type 0} (r : Result A E)
    → b ≡ child_base_of t (take place plans) → place < length plans → q ≡ place + 1 → d ≡ get_or plans place d
    → OnOk r (new ≡ with_child_if_planned b q (query_in_plan d)) → OnOk r (new ≡ child_base_of t (take (place + 1) plans))
given_if t plans place q d b new (Ok u) is low number here given =
    given_more t plans place q d b new is low number (given ∙ ap (λ p. with_child_if_planned b q (query_in_plan p)) here)
given_if t plans place q d b new (Err m) is low number here given = tt

-- ---- the root is within the limits

can_run : BoundCanBeRun → (t : ChildSurvey) (text : Bytes) (p : ChildPlan) → IsCatalogue t.rows → IsSourceTable t.table → ChildPlanFor t text p
    → CanRunChild (query_in_plan p)
can_run law t text (Planned head query chunks) rows table is =
    law t.rows t.table text (record { tree = head; bound = query.bound }) rows table is.known
can_run law t text (Refused why) rows table is = tt

-- each child query that is planned can be run
pub all_can_run : BoundCanBeRun → (t : ChildSurvey) (texts : List Bytes) (plans : List ChildPlan) → IsCatalogue t.rows → IsSourceTable t.table
    → AreChildPlans t texts plans → All (λ p. CanRunChild (query_in_plan p)) plans
all_can_run law t [] [] rows table are k d low = absurd (omega (arith, low))
all_can_run law t [] (p ∷ plans) rows table are k d low = absurd are
all_can_run law t (x ∷ texts) [] rows table are k d low = absurd are
all_can_run law t (x ∷ texts) (p ∷ plans) rows table are zero d low = can_run law t x p rows table are.0
all_can_run law t (x ∷ texts) (p ∷ plans) rows table are (suc k) d low =
    all_can_run law t texts plans rows table are.1 k d (omega (arith, low))

queries_can_run : (plans : List ChildPlan) → All (λ p. CanRunChild (query_in_plan p)) plans
    → All (λ (x : Option ChildBound). CanRunChild x) (map query_in_plan plans)
queries_can_run [] all k d low = absurd (omega (arith, low))
queries_can_run (p ∷ plans) all zero d low = all 0 p (omega arith)
queries_can_run (p ∷ plans) all (suc k) d low =
    queries_can_run plans (λ n e l. all (suc n) e (omega (arith, l))) k d (omega (arith, low))

pub is_child_base : (t : ChildSurvey) (plans : List ChildPlan) → IsSky t.plan → IsCatalogue t.rows → IsSourceTable t.table
    → length plans ≤ QUERY_MOST → All (λ p. CanRunChild (query_in_plan p)) plans → IsChildBase (child_base_of t plans)
is_child_base t plans sky rows table few can =
    let xs = map query_in_plan plans in
    record {
      sky = sky;
      rows = rows;
      table = table;
      ascend = ascend_from 1 xs;
      from_1 = from_number 1 1 xs (omega arith);
      to_255 = λ i d low.
          let below = below_from 1 xs (1 + length xs) (omega arith) i d low in omega (arith, below, few, length-map plans query_in_plan);
      child = holds_from (λ (q : ChildBound). IsChild q.bound) 1 xs (queries_can_run plans can);
    }

-- the child query of a planned query is found under its number
pub known_under : (plans : List ChildPlan) (i : ℕ) (head : Query) (query : ChildBound) (chunks : List ℕ)
    → slice_get plans i ≡ Some (Planned head query chunks)
    → child_at (numbered_from 1 (map query_in_plan plans)) (suc i) ≡ Some query
known_under plans i head query chunks there =
    let on : suc i ≡ 1 + i = omega arith in
    ap (child_at (numbered_from 1 (map query_in_plan plans))) on
    ∙ known_at 1 (map query_in_plan plans) i query (slice_get-map query_in_plan plans i ∙ ap (option_map query_in_plan) there)

-- the root over borrowed queries is that of the plans
pub same_base : (t : ChildSurvey) (plans : List ChildPlan) (queries : List (Option (Bor ChildBound))) → query_values queries ≡ map query_in_plan plans
    → child_base t (query_values queries) ≡ child_base_of t plans
same_base t plans queries is = ap (child_base t) is
