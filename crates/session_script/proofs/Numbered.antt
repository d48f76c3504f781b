-- The numbers of a script's queries.
use Rattle.std.proofs.Common.{◌≡◌, refl, sym, ap, ◌∙◌, subst, ℕ, zero, suc, ◌+◌, ◌-◌, ◌<◌, arith, Bool, true, false, cond, List, [], ◌∷◌, ◌++◌, length, map, Option, None, Some, Result, Ok, Err, OnOk, OnErr, nat_lt, slice_get}
use Rattle.std.specs.List.{slice_range}
use Rattle.std.proofs.lemmas.Grind.{common_steps}
use Rattle.text_rules.specs.Lines.{Line}
use Rattle.sky_io.specs.declared.Stop.{Stop}
use Rattle.sql_token.specs.declared.token.Span.{Span}
use Rattle.session_script.specs.declared.fault.ScriptFault.{ScriptFault}
use Rattle.session_script.specs.declared.fault.ScriptFault.TheVariants as fault
use Rattle.text_rules.specs.declared.limits.TheConstants.{QUERIES_MOST, QUERY_TEXT_MOST}
use Rattle.session_script.specs.declared.command.Command.{Command}
use Rattle.session_script.specs.declared.command.Command.TheVariants.{Note, Cancels, Waits, Asks}
use Rattle.session_script.specs.declared.step.Step.{Step}
use Rattle.session_script.specs.declared.step.Step.TheVariants as step
use Rattle.session_script.specs.Laws.{IsQuery, LinesAreTexts, NumberedFrom}
use Rattle.session_script.specs.Places.{placed_lines}
use Rattle.text_rules.specs.Readings.{put_before}
use Rattle.session_script.specs.Scripts.{command_of, followed_by, is_query, part_of, queries_with, query_count, query_spans, query_text, script_of, span_at, step_by, step_of, steps_from}
use Rattle.session_script.specs.Views.{ScriptView, query_lines}
use Rattle.session_script.proofs.ReadSoFar.{no_line, one_line}

-- one step may stand behind so many queries, before steps that are numbered behind it
MayStand : ℕ → Step → Type 0
MayStand queries s = (ss : List Step) → NumberedFrom (queries_with queries s) ss → NumberedFrom queries (s ∷ ss)

same_step : (s t : Step) → ◌≡◌ {A = Result (Option Step) ScriptFault} (Ok (Some s)) (Ok (Some t)) → s ≡ t
same_step s t e = cc e

is_named : (queries n : ℕ) → is_query queries n ≡ true → IsQuery queries n
is_named queries n is = grind (arith, common_steps)

naming_stands : (queries : ℕ) (line : Line) (n : ℕ) (s t : Step) (b : Bool) → is_query queries n ≡ b
    → (IsQuery queries n → MayStand queries s) → cond b (Ok (Some s)) (Err (fault.UnknownQuery line.number n)) ≡ Ok (Some t) → MayStand queries t
naming_stands queries line n s t false is stands e = absurd (cc e)
naming_stands queries line n s t true is stands e = subst (MayStand queries) (same_step s t e) (stands (is_named queries n is))

cancel_stands : (queries n : ℕ) → IsQuery queries n → MayStand queries (step.Cancel n)
unfolding MayStand
cancel_stands queries n is ss more = (is, more)

wait_stands : (queries n : ℕ) → IsQuery queries n → MayStand queries (step.Wait n)
unfolding MayStand
wait_stands queries n is ss more = (is, more)

query_stands : (queries : ℕ) (span : Span) → MayStand queries (step.Query (queries + 1) span)
unfolding MayStand
query_stands queries span ss more = (refl, more)

asking_stands : (queries place : ℕ) (line : Line) (t : Step) (b : Bool)
    → cond b (Ok (Some (step.Query (queries + 1) (span_at place line)))) (Err (fault.TooManyQueries line.number)) ≡ Ok (Some t) → MayStand queries t
asking_stands queries place line t false e = absurd (cc e)
asking_stands queries place line t true e = subst (MayStand queries) (same_step _ t e) (query_stands queries (span_at place line))

command_stands : (queries place : ℕ) (line : Line) (command : Command) (t : Step) → step_by queries place line command ≡ Ok (Some t) → MayStand queries t
command_stands queries place line Note t e = absurd (cc e)
command_stands queries place line (Cancels n) t e = naming_stands queries line n (step.Cancel n) t (is_query queries n) refl (cancel_stands queries n) e
command_stands queries place line (Waits n) t e = naming_stands queries line n (step.Wait n) t (is_query queries n) refl (wait_stands queries n) e
command_stands queries place line Asks t e = asking_stands queries place line t (nat_lt queries QUERIES_MOST) e

long_stands : (queries place : ℕ) (line : Line) (t : Step) (b : Bool)
    → cond b (Err (fault.LineTooLong line.number)) (step_by queries place line (command_of line.text)) ≡ Ok (Some t) → MayStand queries t
long_stands queries place line t true e = absurd (cc e)
long_stands queries place line t false e = command_stands queries place line (command_of line.text) t e

put_numbered : (queries : ℕ) (s : Step) (ss : List Step) (more : Result (List Step) ScriptFault) → MayStand queries s
    → ((rest : List Step) → more ≡ Ok rest → NumberedFrom (queries_with queries s) rest) → put_before s more ≡ Ok ss → NumberedFrom queries ss
unfolding MayStand
put_numbered queries s ss (Err why) stands numbered e = absurd (cc e)
put_numbered queries s ss (Ok rest) stands numbered e =
    let same : s ∷ rest ≡ ss = cc e in
    subst (NumberedFrom queries) same (stands rest (numbered rest refl))

line_numbered : (queries place : ℕ) (line : Line) (ls : List (ℕ × Line)) (ss : List Step) (spec : Result (Option Step) ScriptFault) → step_of queries place line ≡ spec
    → ((q : ℕ) (rest : List Step) → steps_from q ls ≡ Ok rest → NumberedFrom q rest)
    → followed_by queries spec (λ q. steps_from q ls) ≡ Ok ss → NumberedFrom queries ss
line_numbered queries place line ls ss (Err why) is numbered e = absurd (cc e)
line_numbered queries place line ls ss (Ok None) is numbered e = numbered queries ss e
line_numbered queries place line ls ss (Ok (Some s)) is numbered e =
    put_numbered queries s ss (steps_from (queries_with queries s) ls) (long_stands queries place line s (nat_lt QUERY_TEXT_MOST (length line.text)) is) (numbered (queries_with queries s)) e

steps_numbered : (queries : ℕ) (ls : List (ℕ × Line)) (ss : List Step) → steps_from queries ls ≡ Ok ss → NumberedFrom queries ss
steps_numbered queries [] ss e =
    let none : ◌≡◌ {A = Result (List Step) ScriptFault} (Ok []) (Ok ss) = sym (no_line queries) ∙ e in
    let same : [] ≡ ss = cc none in
    subst (NumberedFrom queries) same tt
steps_numbered queries (l ∷ ls) ss e =
    line_numbered queries l.0 l.1 ls ss (step_of queries l.0 l.1) refl (λ q rest f. steps_numbered q ls rest f) (sym (one_line queries l ls) ∙ e)

pub script_numbered : (text : List ℕ) (ss : List Step) → script_of text ≡ Ok ss → NumberedFrom 0 ss
script_numbered text ss e = steps_numbered 0 (placed_lines text) ss e

-- the query's place among the queries is its number
found_at : (queries : ℕ) (ss : List Step) (i n : ℕ) (span : Span) → NumberedFrom queries ss → slice_get ss i ≡ Some (step.Query n span)
    → (queries < n) × (slice_get (query_spans ss) (n - queries - 1) ≡ Some span)
found_at queries [] i n span numbered e = absurd (cc e)
found_at queries (step.Query m other ∷ ss) zero n span numbered e =
    let same : m ≡ n = cc e in
    let own : other ≡ span = cc e in
    let none : n - queries - 1 ≡ 0 = omega (arith, numbered.0, same) in
    (omega (arith, numbered.0, same), ap (slice_get (other ∷ query_spans ss)) none ∙ ap Some own)
found_at queries (step.Query m other ∷ ss) (suc i) n span numbered e =
    let behind = found_at (queries + 1) ss i n span numbered.1 e in
    let one : n - queries - 1 ≡ suc (n - (queries + 1) - 1) = omega (arith, behind.0) in
    (omega (arith, behind.0), ap (slice_get (other ∷ query_spans ss)) one ∙ behind.1)
found_at queries (step.Wait m ∷ ss) zero n span numbered e = absurd (cc e)
found_at queries (step.Wait m ∷ ss) (suc i) n span numbered e = found_at queries ss i n span numbered.1 e
found_at queries (step.Cancel m ∷ ss) zero n span numbered e = absurd (cc e)
found_at queries (step.Cancel m ∷ ss) (suc i) n span numbered e = found_at queries ss i n span numbered.1 e

pub own_text : (text : List ℕ) (ss : List Step) (i n : ℕ) (span : Span) → NumberedFrom 0 ss → slice_get ss i ≡ Some (step.Query n span)
    → query_text ss text n ≡ slice_range text span.from span.to
own_text text ss i n span numbered e =
    let found = found_at 0 ss i n span numbered e in
    let same : n - 0 - 1 ≡ n - 1 = omega arith in
    ap (part_of text) (ap (slice_get (query_spans ss)) (sym same) ∙ found.1)

-- steps that are numbered behind others that are
pub numbered_after : (queries : ℕ) (a b : List Step) → NumberedFrom queries a → NumberedFrom (queries + query_count a) b → NumberedFrom queries (a ++ b)
numbered_after queries [] b first more = subst (λ q. NumberedFrom q b) (omega arith) more
numbered_after queries (step.Query n span ∷ a) b first more =
    let next : queries + query_count (step.Query n span ∷ a) ≡ queries + 1 + query_count a = omega arith in
    (first.0, numbered_after (queries + 1) a b first.1 (subst (λ q. NumberedFrom q b) next more))
numbered_after queries (step.Wait n ∷ a) b first more = (first.0, numbered_after queries a b first.1 more)
numbered_after queries (step.Cancel n ∷ a) b first more = (first.0, numbered_after queries a b first.1 more)

stands_last : (queries : ℕ) (s : Step) → MayStand queries s → NumberedFrom queries (s ∷ [])
unfolding MayStand
stands_last queries s stands = stands [] tt

-- the steps stay numbered where the next one is put behind them or memory runs out
pub numbers_kept : (queries place : ℕ) (line : Line) (o : Option Step) (t : Step) (old new : List Step) (same : Type 0) (result : Result Unit (Stop ScriptFault))
    → queries ≡ query_count old → Ok o ≡ step_of queries place line → o ≡ Some t → NumberedFrom 0 old
    → OnOk result (new ≡ old ++ t ∷ []) → OnErr result ((new ≡ old) × same) → NumberedFrom 0 new
numbers_kept queries place line o t old new same (Err why) count is some numbered put kept = subst (NumberedFrom 0) (sym kept.0) numbered
numbers_kept queries place line o t old new same (Ok done) count is some numbered put kept =
    let spec : step_of queries place line ≡ Ok (Some t) = sym is ∙ ap {B = Result (Option Step) ScriptFault} (λ o. Ok o) some in
    let last : NumberedFrom queries (t ∷ []) = stands_last queries t (long_stands queries place line t (nat_lt QUERY_TEXT_MOST (length line.text)) spec) in
    let next : queries ≡ 0 + query_count old = omega (arith, count) in
    subst (NumberedFrom 0) (sym put) (numbered_after 0 old (t ∷ []) numbered (subst (λ q. NumberedFrom q (t ∷ [])) next last))

-- the texts of spans, one by one
text_at : (text : List ℕ) (spans : List Span) (i : ℕ) → i < length spans
    → slice_get (map (λ span. part_of text (Some span)) spans) i ≡ Some (part_of text (slice_get spans i))
text_at text [] i below = absurd (omega (arith, below))
text_at text (span ∷ spans) zero below = refl
text_at text (span ∷ spans) (suc i) below = text_at text spans i (omega (arith, below))

pub lines_are_texts : LinesAreTexts
lines_are_texts s i below =
    let place : i ≡ i + 1 - 1 = omega arith in
    text_at s.text (query_spans s.steps) i below ∙ ap (λ k. Some (part_of s.text (slice_get (query_spans s.steps) k))) place
