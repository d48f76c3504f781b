-- The steps of a script, or its first fault.
use Rattle.std.specs.Prelude.{ℕ, ◌+◌, ◌-◌, Bool, ◌&&◌, List, [], ◌∷◌, length, drop, codes, slice_get, slice_range}
use Rattle.std.specs.Prelude.{Option, None, Some, Result, Ok, Err, if◌then◌else◌, nat_le, nat_lt, nat_eq}
use Rattle.std.specs.List.{starts_with}
use Rattle.text_rules.specs.Lines.{Line, is_note}
use Rattle.text_rules.specs.Numbers.{natural}
use Rattle.sql_token.specs.declared.token.Span.{Span}
use Rattle.session_script.specs.declared.limits.TheConstants.{QUERY_DIGITS_MOST}
use Rattle.session_script.specs.declared.step.Step.{Step}
use Rattle.session_script.specs.declared.step.Step.TheVariants as step
use Rattle.text_rules.specs.declared.limits.TheConstants.{QUERIES_MOST, QUERY_TEXT_MOST}
use Rattle.text_rules.specs.Readings.{put_before}
use Rattle.session_script.specs.declared.command.Command.{Command}
use Rattle.session_script.specs.declared.command.Command.TheVariants.{Note, Cancels, Waits, Asks}
use Rattle.session_script.specs.declared.fault.ScriptFault.{ScriptFault}
use Rattle.session_script.specs.declared.fault.ScriptFault.TheVariants as fault
use Rattle.session_script.specs.Places.{placed_lines}

-- the number that is the whole rest of the text after a word at its start, if it has few enough digits
abbrev pub number_after : (word text : List ℕ) → Option ℕ
number_after word text =
    if starts_with nat_eq text word then natural QUERY_DIGITS_MOST (drop (length word) text) else None

-- of the other lines, one that is `wait ` and a number is a wait, and any other is a query
abbrev pub wait_or_query : Option ℕ → Command
wait_or_query (Some n) = Waits n
wait_or_query None = Asks

-- a line that is `cancel ` and a number is a cancel
abbrev pub cancel_or_else : Option ℕ → Option ℕ → Command
cancel_or_else (Some n) wait = Cancels n
cancel_or_else None wait = wait_or_query wait

-- the meaning of a line by itself
abbrev pub command_of : List ℕ → Command
command_of text =
    if is_note text then Note
    else cancel_or_else (number_after (codes "cancel ") text) (number_after (codes "wait ") text)

-- a number is that of one of the given number of queries
abbrev pub is_query : ℕ → ℕ → Bool
is_query queries n = nat_le 1 n && nat_le n queries

-- the step that names a query by its number, on a line after the given number of queries
abbrev pub naming : ℕ → Line → ℕ → Step → Result (Option Step) ScriptFault
naming queries line n s =
    if is_query queries n then Ok (Some s) else Err (fault.UnknownQuery line.number n)

-- the span of a line that begins at a position
abbrev pub span_at : ℕ → Line → Span
span_at place line = record { from = place; to = place + length line.text }

-- the step of the next query after the given number of queries
abbrev pub asking : ℕ → ℕ → Line → Result (Option Step) ScriptFault
asking queries place line =
    if nat_lt queries QUERIES_MOST then Ok (Some (step.Query (queries + 1) (span_at place line)))
    else Err (fault.TooManyQueries line.number)

-- the step of a line with the given meaning, and none for a comment line
abbrev pub step_by : ℕ → ℕ → Line → Command → Result (Option Step) ScriptFault
step_by queries place line Note = Ok None
step_by queries place line (Cancels n) = naming queries line n (step.Cancel n)
step_by queries place line (Waits n) = naming queries line n (step.Wait n)
step_by queries place line Asks = asking queries place line

-- the step of a line that begins at a position, after lines with the given number of queries
abbrev pub step_of : ℕ → ℕ → Line → Result (Option Step) ScriptFault
step_of queries place line =
    if nat_lt QUERY_TEXT_MOST (length line.text) then Err (fault.LineTooLong line.number)
    else step_by queries place line (command_of line.text)

-- the number of queries up to and with a step
abbrev pub queries_with : ℕ → Step → ℕ
queries_with queries (step.Query n span) = queries + 1
queries_with queries (step.Wait n) = queries
queries_with queries (step.Cancel n) = queries

-- the steps from a line on: its own, followed by those of a function for the rest, whose argument is how many queries
-- precede it
abbrev pub followed_by : ℕ → Result (Option Step) ScriptFault → (ℕ → Result (List Step) ScriptFault)
    → Result (List Step) ScriptFault
followed_by queries (Ok None) more = more queries
followed_by queries (Ok (Some s)) more = put_before s (more (queries_with queries s))
followed_by queries (Err why) more = Err why

-- the steps of these lines after the given number of queries, or the first fault
unfoldable pub steps_from : ℕ → List (ℕ × Line) → Result (List Step) ScriptFault
steps_from queries [] = Ok []
steps_from queries (l ∷ ls) = followed_by queries (step_of queries l.0 l.1) (λ q. steps_from q ls)

-- the steps of a script in the order of its lines, or its first fault
abbrev pub script_of : List ℕ → Result (List Step) ScriptFault
script_of text = steps_from 0 (placed_lines text)

-- the spans of the queries among steps
abbrev pub query_spans : List Step → List Span
query_spans [] = []
query_spans (step.Query n span ∷ ss) = span ∷ query_spans ss
query_spans (step.Wait n ∷ ss) = query_spans ss
query_spans (step.Cancel n ∷ ss) = query_spans ss

-- the number of queries among the steps
abbrev pub query_count : List Step → ℕ
query_count ss = length (query_spans ss)

-- the part of a text in a span
abbrev pub part_of : List ℕ → Option Span → List ℕ
part_of text None = []
part_of text (Some span) = slice_range text span.from span.to

-- the text of query k of a script, k from 1
abbrev pub query_text : List Step → List ℕ → ℕ → List ℕ
query_text steps text k = part_of text (slice_get (query_spans steps) (k - 1))
