-- How the queries of the demo's script end: none of them is refused, and none is cancelled.
use Rattle.std.proofs.Common.{◌≡◌, refl, ap, ◌∙◌, subst, ℕ, zero, suc, ◌+◌, ◌≤◌, arith, Bool, true, false, not, ◌&&◌, ◌||◌, cond, List, [], ◌∷◌, All, length, map, take, nat_eq, Option, None, Some, Ok}
use Rattle.std.specs.List.{list_all, list_any}
use Rattle.std.specs.Option.{is_some, option_or}
use Rattle.table_rules.specs.Objects.{Catalogue}
use Rattle.table_rules.specs.declared.limits.TheConstants.{ROWS_MOST}
use Rattle.sky_rules.specs.Partition.{Partition}
use Rattle.sky_rules.specs.SkyText.{sky_of}
use Rattle.demo_rules.specs.DemoTexts.{demo_script, demo_sky}
use Rattle.demo_answers.specs.DemoInput.{demo_plan, demo_steps}
use Rattle.demo_answers.specs.Laws.{DemoIsAnswered, demo_read}
use Rattle.chunk_store.specs.Survey.{Survey}
use Rattle.session_script.specs.declared.step.Step.{Step}
use Rattle.session_script.specs.declared.step.Step.TheVariants as step
use Rattle.session_script.specs.Scripts.{query_count, script_of}
use Rattle.session_script.specs.Views.{ScriptView, query_lines}
use Rattle.session_rules.specs.Ends.{Judged, behind_query, cancels, has_cancel, has_work, is_refused, may_end, may_end_from, must_be_cancelled}
use Rattle.session_rules.specs.declared.end.EndKind.{EndKind}
use Rattle.session_rules.specs.declared.end.EndKind.TheVariants.{Answered, Refused, Cancelled, Spent}
use Rattle.transcript_rules.specs.declared.refusal.Refusal.{Refusal}
use Rattle.transcript_rules.specs.Refusals.{early_refusal, total_refusal, refusal_of}
use Rattle.transcript_rules.specs.Transcripts.{FitEnds, judged_of}
use Rattle.top_call.specs.Reached.{IsScriptOf}
use Rattle.top_call.specs.Jobs.{IsAnsweredOrSpent, IsDemoSurvey}

-- both parts of what holds together
both : (a b : Bool) → (a && b) ≡ true → (a ≡ true) × (b ≡ true)
both true b h = (refl, h)
both false b h = absurd (cc h)

-- ---- a script of queries alone cancels none of them

-- the step is that of a query
abbrev is_query : Step → Bool
is_query (step.Query n span) = true
is_query (step.Wait n) = false
is_query (step.Cancel n) = false

-- the steps are those of queries: none waits and none cancels
abbrev are_queries : List Step → Bool
are_queries steps = list_all is_query steps

none_cancels : (k : ℕ) (ss : List Step) → are_queries ss ≡ true → (n : ℕ) → list_any (cancels k) (take n ss) ≡ false
none_cancels k ss all zero = refl
none_cancels k [] all (suc n) = refl
none_cancels k (step.Query m span ∷ ss) all (suc n) = none_cancels k ss all n
none_cancels k (step.Wait m ∷ ss) all (suc n) = absurd (cc all)
none_cancels k (step.Cancel m ∷ ss) all (suc n) = absurd (cc all)

behind_queries : (k : ℕ) (ss : List Step) → are_queries ss ≡ true → are_queries (behind_query k ss) ≡ true
behind_queries k [] all = refl
behind_queries k (step.Query m span ∷ ss) all = by_first (nat_eq m k) (behind_queries k ss all)
  where
    by_first : (b : Bool) → are_queries (behind_query k ss) ≡ true → are_queries (cond b ss (behind_query k ss)) ≡ true
    by_first true later = all
    by_first false later = later
behind_queries k (step.Wait m ∷ ss) all = absurd (cc all)
behind_queries k (step.Cancel m ∷ ss) all = absurd (cc all)

no_cancel : (k : ℕ) (ss : List Step) → are_queries ss ≡ true → has_cancel ss k ≡ false
no_cancel k ss all = none_cancels k (behind_query k ss) (behind_queries k ss all) _

-- ---- a query that is not refused, of a script that cancels none, is answered or spent

neither : (early total : Option Refusal) → option_or early total ≡ None → (is_some early || is_some total) ≡ false
neither (Some why) total none = absurd (cc none)
neither None (Some why) none = absurd (cc none)
neither None None none = refl

accepted : (g : Partition) (c : Catalogue) (text : List ℕ) → refusal_of g c text ≡ None → is_refused (judged_of g c text) ≡ false
unfolding judged_of refusal_of
accepted g c text none = neither (early_refusal g c text) (total_refusal c text) none

one_end : (workers k : ℕ) (ss : List Step) (j : Judged) (end : EndKind) → are_queries ss ≡ true → is_refused j ≡ false
    → may_end workers ss k j end ≡ true → IsAnsweredOrSpent end
one_end workers k ss j Answered all none may = tt
one_end workers k ss j Spent all none may = tt
one_end workers k ss j Refused all none may =
    let is : is_refused j ≡ true = (both (is_refused j) (not (must_be_cancelled workers ss k j)) may).0 in
    absurd (cc (is, none))
one_end workers k ss j Cancelled all none may =
    let is : has_cancel ss k ≡ true = (both (has_work j) (has_cancel ss k) may).1 in
    absurd (cc (is, no_cancel k ss all))

-- what holds of the first and of all behind it
all_of : {A : Type 0} (P : A → Type 0) (x : A) (xs : List A) → P x → All P xs → All P (x ∷ xs)
all_of P x xs first later zero d low = first
all_of P x xs first later (suc k) d low = later k d (omega (arith, low))

-- so of the queries with these lines, of which none is refused
all_have_ends : (workers k : ℕ) (ss : List Step) (g : Partition) (c : Catalogue) (texts : List (List ℕ)) (ends : List EndKind)
    → are_queries ss ≡ true → All (λ text. refusal_of g c text ≡ None) texts
    → may_end_from workers ss k (map (judged_of g c) texts) ends ≡ true → All IsAnsweredOrSpent ends
all_have_ends workers k ss g c [] [] all none may = λ i d low. absurd (omega (arith, low))
all_have_ends workers k ss g c [] (end ∷ ends) all none may = absurd (cc may)
all_have_ends workers k ss g c (text ∷ texts) [] all none may = absurd (cc may)
all_have_ends workers k ss g c (text ∷ texts) (end ∷ ends) all none may =
    let one = both (may_end workers ss k (judged_of g c text) end)
    (may_end_from workers ss (k + 1) (map (judged_of g c) texts) ends) may in
    all_of IsAnsweredOrSpent end ends
    (one_end workers k ss (judged_of g c text) end all (accepted g c text (none 0 [] (omega arith))) one.0)
    (all_have_ends workers (k + 1) ss g c texts ends all (λ i d low. none (suc i) d (omega (arith, low))) one.1)

script_has_ends : (workers : ℕ) (g : Partition) (c : Catalogue) (s : ScriptView) (ends : List EndKind) → are_queries s.steps ≡ true
    → All (λ text. refusal_of g c text ≡ None) (query_lines s) → FitEnds workers g c s ends → All IsAnsweredOrSpent ends
script_has_ends workers g c s ends all none fits =
    all_have_ends workers 1 s.steps g c (query_lines s) ends all none
    (both (nat_eq (length (map (judged_of g c) (query_lines s))) (query_count s.steps)) _ fits).1

-- ---- the demo

-- a script of this text and these steps is the demo's
read_as : (view : ScriptView) → view.text ≡ demo_script → view.steps ≡ demo_steps → view ≡ demo_read
read_as view text steps =
    ap (λ t. record { text = t; steps = view.steps }) text ∙ ap (λ ss. record { text = demo_script; steps = ss }) steps

one_plan : (g : Partition) → sky_of demo_sky ≡ Ok demo_plan → sky_of demo_sky ≡ Ok g → g ≡ demo_plan
one_plan g one other = cc (one, other)

one_steps : (ss : List Step) → script_of demo_script ≡ Ok demo_steps → script_of demo_script ≡ Ok ss → ss ≡ demo_steps
one_steps ss one other = cc (one, other)

-- Of the demo's queries over its survey none is refused, and none is cancelled.
pub demo_has_ends : DemoIsAnswered → sky_of demo_sky ≡ Ok demo_plan → script_of demo_script ≡ Ok demo_steps
    → (count seed workers : ℕ) → count ≤ ROWS_MOST → (survey : Survey) (view : ScriptView) (ends : List EndKind)
    → IsDemoSurvey count seed survey → IsScriptOf demo_script view → FitEnds workers survey.plan survey.rows view ends
    → All IsAnsweredOrSpent ends
demo_has_ends law sky steps count seed workers few survey view ends is read fits =
    let plan : survey.plan ≡ demo_plan = one_plan survey.plan sky is.0 in
    let same : view ≡ demo_read = read_as view read.same (one_steps view.steps steps read.read) in
    let fits' : FitEnds workers demo_plan survey.rows demo_read ends =
    subst (λ v. FitEnds workers demo_plan survey.rows v ends) same (subst (λ g. FitEnds workers g survey.rows view ends) plan fits) in
    script_has_ends workers demo_plan survey.rows demo_read ends refl (law count seed survey.rows few is.1) fits'
