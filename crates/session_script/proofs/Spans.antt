-- The spans of a script's queries.
use Rattle.std.proofs.Common.{◌≡◌, refl, ap, sym, ◌∙◌, subst, ℕ, ◌+◌, ◌<◌, ◌≤◌, arith, Bool, true, false, cond, List, [], ◌∷◌, ◌++◌, length, All, Option, Some, Result, Ok, Err, nat_lt, OnOk, OnErr, length-append}
use Rattle.std.proofs.lemmas.List.Elements.{All-append, All-cons, All-nil}
use Rattle.std.proofs.lemmas.Grind.{common_steps}
use Rattle.text_rules.specs.Lines.{Line}
use Rattle.sky_io.specs.declared.Stop.{Stop}
use Rattle.sql_token.specs.declared.token.Span.{Span}
use Rattle.session_script.specs.declared.fault.ScriptFault.{ScriptFault}
use Rattle.session_script.specs.declared.fault.ScriptFault.TheVariants as fault
use Rattle.text_rules.specs.declared.limits.TheConstants.{QUERIES_MOST, QUERY_TEXT_MOST}
use Rattle.session_script.specs.declared.command.Command.{Command}
use Rattle.session_script.specs.declared.command.Command.TheVariants.{Note, Cancels, Waits, Asks}
use Rattle.session_script.specs.declared.step.Step.{Step}
use Rattle.session_script.specs.declared.step.Step.TheVariants as step
use Rattle.session_script.specs.Scripts.{command_of, is_query, query_spans, span_at, step_by, step_of}
use Rattle.session_script.specs.Views.{IsLine}

-- the spans of steps one list behind another
pub query_spans-append : (a b : List Step) → query_spans (a ++ b) ≡ query_spans a ++ query_spans b
query_spans-append [] b = refl
query_spans-append (step.Query n span ∷ ss) b = ap (λ spans. span ∷ spans) (query_spans-append ss b)
query_spans-append (step.Wait n ∷ ss) b = query_spans-append ss b
query_spans-append (step.Cancel n ∷ ss) b = query_spans-append ss b

-- A step that may be put behind so many queries.
pub record Fits (queries bytes : ℕ) (s : Step) : Type 0 where
  pub lines : All (IsLine bytes) (query_spans (s ∷ []))
  pub few : queries + length (query_spans (s ∷ [])) ≤ QUERIES_MOST

same_step : (s t : Step) → ◌≡◌ {A = Result (Option Step) ScriptFault} (Ok (Some s)) (Ok (Some t)) → s ≡ t
same_step s t e = cc e

naming_fits : (queries bytes : ℕ) (line : Line) (n : ℕ) (s t : Step) (b : Bool) → query_spans (s ∷ []) ≡ [] → queries ≤ QUERIES_MOST
    → cond b (Ok (Some s)) (Err (fault.UnknownQuery line.number n)) ≡ Ok (Some t) → Fits queries bytes t
naming_fits queries bytes line n s t false none few e = absurd (cc e)
naming_fits queries bytes line n s t true none few e =
    let spans : query_spans (t ∷ []) ≡ [] = ap (λ s. query_spans (s ∷ [])) (sym (same_step s t e)) ∙ none in
    record { lines = rw spans (All-nil (IsLine bytes)); few = omega (arith, ap length spans) }

asking_fits : (queries bytes place : ℕ) (line : Line) (t : Step) (b : Bool) → nat_lt queries QUERIES_MOST ≡ b → place + length line.text ≤ bytes
    → length line.text ≤ QUERY_TEXT_MOST → cond b (Ok (Some (step.Query (queries + 1) (span_at place line)))) (Err (fault.TooManyQueries line.number)) ≡ Ok (Some t) → Fits queries bytes t
asking_fits queries bytes place line t false below within short e = absurd (cc e)
asking_fits queries bytes place line t true below within short e =
    let few : queries < QUERIES_MOST = grind (arith, common_steps) in
    let is : IsLine bytes (span_at place line) = record { ordered = omega arith; within = omega arith; short = omega arith } in
    subst (Fits queries bytes) (same_step _ t e) (record { lines = All-cons (IsLine bytes) (span_at place line) [] is (All-nil (IsLine bytes)); few = omega arith })

command_fits : (queries bytes place : ℕ) (line : Line) (command : Command) (t : Step) → place + length line.text ≤ bytes → length line.text ≤ QUERY_TEXT_MOST → queries ≤ QUERIES_MOST
    → step_by queries place line command ≡ Ok (Some t) → Fits queries bytes t
command_fits queries bytes place line Note t within short few e = absurd (cc e)
command_fits queries bytes place line (Cancels n) t within short few e = naming_fits queries bytes line n (step.Cancel n) t (is_query queries n) refl few e
command_fits queries bytes place line (Waits n) t within short few e = naming_fits queries bytes line n (step.Wait n) t (is_query queries n) refl few e
command_fits queries bytes place line Asks t within short few e = asking_fits queries bytes place line t (nat_lt queries QUERIES_MOST) refl within short e

long_fits : (queries bytes place : ℕ) (line : Line) (t : Step) (b : Bool) → nat_lt QUERY_TEXT_MOST (length line.text) ≡ b → place + length line.text ≤ bytes → queries ≤ QUERIES_MOST
    → cond b (Err (fault.LineTooLong line.number)) (step_by queries place line (command_of line.text)) ≡ Ok (Some t) → Fits queries bytes t
long_fits queries bytes place line t true long within few e = absurd (cc e)
long_fits queries bytes place line t false long within few e =
    let short : length line.text ≤ QUERY_TEXT_MOST = grind (arith, common_steps) in
    command_fits queries bytes place line (command_of line.text) t within short few e

-- a step of a line within the text fits
pub step_fits : (queries bytes place : ℕ) (line : Line) (t : Step) → place + length line.text ≤ bytes → queries ≤ QUERIES_MOST
    → step_of queries place line ≡ Ok (Some t) → Fits queries bytes t
step_fits queries bytes place line t within few e = long_fits queries bytes place line t (nat_lt QUERY_TEXT_MOST (length line.text)) refl within few e

-- what is kept of the spans where a step was put behind the others or memory ran out
pub spans_kept : (queries place bytes : ℕ) (line : Line) (o : Option Step) (t : Step) (old new : List Step) (spans more : List Span) (result : Result Unit (Stop ScriptFault))
    → queries ≡ length spans → place + length line.text ≤ bytes → Ok o ≡ step_of queries place line → o ≡ Some t
    → (spans ≡ query_spans old) × All (IsLine bytes) spans × (length spans ≤ QUERIES_MOST)
    → OnOk result (new ≡ old ++ t ∷ []) → OnOk result (more ≡ spans ++ query_spans (t ∷ [])) → OnErr result ((new ≡ old) × (more ≡ spans))
    → (more ≡ query_spans new) × All (IsLine bytes) more × (length more ≤ QUERIES_MOST)
spans_kept queries place bytes line o t old new spans more (Err why) count within is some kept steps queries_new same =
    let lines : All (IsLine bytes) more = subst (All (IsLine bytes)) (sym same.1) kept.1 in
    (same.1 ∙ (kept.0 ∙ ap query_spans (sym same.0)), lines, omega (arith, kept.2, ap length same.1))
spans_kept queries place bytes line o t old new spans more (Ok done) count within is some kept steps queries_new same =
    let few : queries ≤ QUERIES_MOST = omega (arith, count, kept.2) in
    let fits = step_fits queries bytes place line t within few (sym is ∙ ap {B = Result (Option Step) ScriptFault} (λ o. Ok o) some) in
    let all : All (IsLine bytes) (spans ++ query_spans (t ∷ [])) = All-append (IsLine bytes) spans (query_spans (t ∷ [])) kept.1 fits.lines in
    let lines : All (IsLine bytes) more = subst (All (IsLine bytes)) (sym queries_new) all in (
      queries_new ∙ (ap (λ s. s ++ query_spans (t ∷ [])) kept.0 ∙ (sym (query_spans-append old (t ∷ [])) ∙ ap query_spans (sym steps))),
      lines,
      omega (arith, fits.few, count, ap length queries_new, length-append spans (query_spans (t ∷ []))),
    )
