-- How far the reading of a script has come.
use Rattle.std.proofs.Common.{◌≡◌, refl, sym, ap, ◌∙◌, subst, ℕ, ◌+◌, ◌≤◌, arith, ◌==◌, Bool, true, false, cond, List, [], ◌∷◌, ◌++◌, length, drop, get_or, Option, None, Some, Result, Ok, Err, option_to_list, IfErr, IsErrAnd, zip, append_assoc, append-nil, length-append, length-drop}
use Rattle.std.specs.Str.Lines.{lines}
use Rattle.std.proofs.lemmas.List.{drop-drop, get_or-drop}
use Rattle.text_rules.specs.Lines.{Line, lines_of, numbered}
use Rattle.sky_io.specs.declared.Stop.{Stop}
use Rattle.sky_io.specs.declared.Stop.TheVariants.{Memory, Bad}
use Rattle.session_script.specs.declared.fault.ScriptFault.{ScriptFault}
use Rattle.session_script.specs.declared.step.Step.{Step}
use Rattle.session_script.specs.declared.step.Step.TheVariants as step
use Rattle.session_script.specs.Answers.{StopsBy, after_end}
use Rattle.text_rules.specs.Readings.{put_before}
use Rattle.session_script.specs.Scripts.{followed_by, queries_with, query_count, query_spans, script_of, step_of, steps_from}
use Rattle.session_script.specs.Views.{ScriptView}
use Rattle.session_script.proofs.LinePlaces.{FirstLeft, first_left, placed_from}
use Rattle.session_script.proofs.Spans.{query_spans-append}

-- the steps so far, and then those that are still to be read
abbrev pub all_of : List Step → Result (List Step) ScriptFault → Result (List Step) ScriptFault
all_of done (Ok ss) = Ok (done ++ ss)
all_of done (Err why) = Err why

-- The lines that are left begin at a place, and with their steps behind the steps so far the script is whole.
pub record ReadSoFar (text : List ℕ) (place : ℕ) (left : List Line) (steps : List Step) : Type 0 where
  pub number : ℕ
  pub lines : left ≡ numbered number (lines (drop place text))
  pub so_far : all_of steps (steps_from (query_count steps) (placed_from place number (drop place text))) ≡ script_of text

none_before : (spec : Result (List Step) ScriptFault) → all_of [] spec ≡ spec
none_before (Ok ss) = refl
none_before (Err why) = refl

-- at first no step was read
pub read_first : (text : List ℕ) → ReadSoFar text 0 (lines_of text) []
read_first text = record {
  number = 1;
  lines = refl;
  so_far = none_before (steps_from 0 (placed_from 0 1 text));
}

pub no_line : (queries : ℕ) → steps_from queries [] ≡ Ok []
unfolding steps_from
no_line queries = refl

pub one_line : (queries : ℕ) (l : ℕ × Line) (ls : List (ℕ × Line)) → steps_from queries (l ∷ ls) ≡ followed_by queries (step_of queries l.0 l.1) (λ q. steps_from q ls)
unfolding steps_from
one_line queries l ls = refl

-- how many queries there are with a step more
count_with : (steps : List Step) (s : Step) → query_count (steps ++ s ∷ []) ≡ queries_with (query_count steps) s
count_with steps (step.Query n span) = let e = ap length (query_spans-append steps (step.Query n span ∷ [])) in omega (arith, e, length-append (query_spans steps) (span ∷ []))
count_with steps (step.Wait n) = let e = ap length (query_spans-append steps (step.Wait n ∷ [])) in e ∙ ap length (append-nil (query_spans steps))
count_with steps (step.Cancel n) = let e = ap length (query_spans-append steps (step.Cancel n ∷ [])) in e ∙ ap length (append-nil (query_spans steps))

all_joined : (done : List Step) (s : Step) (rest : Result (List Step) ScriptFault) → all_of done (put_before s rest) ≡ all_of (done ++ s ∷ []) rest
all_joined done s (Err why) = refl
all_joined done s (Ok ss) = ap {B = Result (List Step) ScriptFault} (λ all. Ok all) (sym (append_assoc done (s ∷ []) ss))

-- one step more, or a note
step_joined : (done : List Step) (o : Option Step) (more : ℕ → Result (List Step) ScriptFault)
    → all_of done (followed_by (query_count done) (Ok o) more) ≡ all_of (done ++ option_to_list o) (more (query_count (done ++ option_to_list o)))
step_joined done None more = ap (λ ss. all_of ss (more (query_count ss))) (sym (append-nil done))
step_joined done (Some s) more =
    all_joined done s (more (queries_with (query_count done) s)) ∙ ap (λ q. all_of (done ++ s ∷ []) (more q)) (sym (count_with done s))

end_cases : (end place : ℕ) (b : Bool) → cond b (place + end + 2) (place + end + 1) ≡ place + cond b (end + 2) (end + 1)
end_cases end place true = omega arith
end_cases end place false = omega arith

-- the place behind a line's end, in the text and in what is left of it
end_in_text : (text : List ℕ) (place end : ℕ) → after_end text (place + end) ≡ place + after_end (drop place text) end
end_in_text text place end =
    ap (λ b. cond (b == 13) (place + end + 2) (place + end + 1)) (sym (get_or-drop place text end 0))
    ∙ end_cases end place (get_or (drop place text) end 0 == 13)

-- the lines that are left, of which this is the first
left_of : (text : List ℕ) (place : ℕ) (steps : List Step) (first : Line) (left : List Line) → (read_so_far : ReadSoFar text place (first ∷ left) steps)
    → FirstLeft (drop place text) place read_so_far.number first left
left_of text place steps first left read_so_far = first_left (drop place text) place read_so_far.number first left (sym read_so_far.lines)

-- the next line lies within the text
pub line_within : (text : List ℕ) (place : ℕ) (steps : List Step) (first : Line) (left : List Line) → ReadSoFar text place (first ∷ left) steps
    → place + length first.text ≤ length text
line_within text place steps first left read_so_far =
    let next = left_of text place steps first left read_so_far in
    omega (arith, next.fits, next.some, length-drop place text)

-- what is judged, by the first of the lines that are left
first_read : (text : List ℕ) (place : ℕ) (steps : List Step) (first : Line) (left : List Line) (read_so_far : ReadSoFar text place (first ∷ left) steps)
    → all_of steps (followed_by (query_count steps) (step_of (query_count steps) place first)
    (λ q. steps_from q (placed_from (place + after_end (drop place text) (length first.text)) (read_so_far.number + 1)
    (drop (after_end (drop place text) (length first.text)) (drop place text))))) ≡ script_of text
first_read text place steps first left read_so_far =
    let next = left_of text place steps first left read_so_far in
    ap (all_of steps) (sym (ap (steps_from (query_count steps)) next.placed ∙ one_line (query_count steps) _ _)) ∙ read_so_far.so_far

-- a line was read
pub read_more : (text : List ℕ) (place : ℕ) (steps new : List Step) (first : Line) (left : List Line) (o : Option Step) → ReadSoFar text place (first ∷ left) steps
    → step_of (query_count steps) place first ≡ Ok o → new ≡ steps ++ option_to_list o → ReadSoFar text (after_end text (place + length first.text)) left new
read_more text place steps new first left o read_so_far is same =
    let next = left_of text place steps first left read_so_far in
    let n = after_end (drop place text) (length first.text) in
    let end : after_end text (place + length first.text) ≡ place + n = end_in_text text place (length first.text) in
    let rest : drop n (drop place text) ≡ drop (place + n) text = drop-drop n place text in
    let whole = first_read text place steps first left read_so_far in
    let more : ℕ → Result (List Step) ScriptFault = λ q. steps_from q (placed_from (place + n) (read_so_far.number + 1) (drop n (drop place text))) in
    let joined : all_of (steps ++ option_to_list o) (more (query_count (steps ++ option_to_list o))) ≡ script_of text =
    sym (step_joined steps o more) ∙ (ap (λ r. all_of steps (followed_by (query_count steps) r more)) (sym is) ∙ whole) in
    let here : ReadSoFar text (place + n) left (steps ++ option_to_list o) = record {
      number = read_so_far.number + 1;
      lines = next.others ∙ ap (λ bs. numbered (read_so_far.number + 1) (lines bs)) rest;
      so_far = ap (λ bs. all_of (steps ++ option_to_list o) (steps_from (query_count (steps ++ option_to_list o)) (placed_from (place + n) (read_so_far.number + 1) bs))) (sym rest) ∙ joined;
    } in
    subst (λ p. ReadSoFar text p left new) (sym end) (subst (ReadSoFar text (place + n) left) (sym same) here)

fault_after : (steps : List Step) (queries : ℕ) (spec : Result (Option Step) ScriptFault) (more : ℕ → Result (List Step) ScriptFault) (why : ScriptFault)
    → spec ≡ Err why → all_of steps (followed_by queries spec more) ≡ Err why
fault_after steps queries spec more why e = rw e refl

-- a line is at fault
fault_read : (text : List ℕ) (place : ℕ) (steps : List Step) (first : Line) (left : List Line) (why : ScriptFault) → ReadSoFar text place (first ∷ left) steps
    → step_of (query_count steps) place first ≡ Err why → script_of text ≡ Err why
fault_read text place steps first left why read_so_far is =
    sym (first_read text place steps first left read_so_far) ∙ fault_after steps (query_count steps) _ _ why is

pub read_stop : (text : List ℕ) (place : ℕ) (steps : List Step) (first : Line) (left : List Line) (why : Stop ScriptFault) → ReadSoFar text place (first ∷ left) steps
    → StopsBy (step_of (query_count steps) place first) why → StopsBy (script_of text) why
read_stop text place steps first left Memory read_so_far is = tt
read_stop text place steps first left (Bad why) read_so_far is = fault_read text place steps first left why read_so_far is

-- without lines there are no places
pub no_pair : (places : List ℕ) (ls : List Line) → ls ≡ [] → zip places ls ≡ []
no_pair [] [] e = refl
no_pair (p ∷ ps) [] e = refl
no_pair ps (l ∷ ls) e = absurd (cc e)

-- no line is left
pub read_all : (text : List ℕ) (place : ℕ) (steps : List Step) → ReadSoFar text place [] steps → script_of text ≡ Ok steps
read_all text place steps read_so_far =
    let none : placed_from place read_so_far.number (drop place text) ≡ [] = no_pair _ _ (sym read_so_far.lines) in
    sym read_so_far.so_far ∙ (ap (λ ls. all_of steps (steps_from (query_count steps) ls)) none
    ∙ (ap (all_of steps) (no_line (query_count steps)) ∙ ap {B = Result (List Step) ScriptFault} (λ all. Ok all) (append-nil steps)))

-- the fault is handed on
pub handed_on : (text : List ℕ) (result : Result ScriptView (Stop ScriptFault)) (why : Stop ScriptFault) → IsErrAnd result (λ e. e ≡ why)
    → StopsBy (script_of text) why → IfErr result (StopsBy (script_of text))
handed_on text (Ok view) why is stop = absurd is
handed_on text (Err e) why is stop = subst (StopsBy (script_of text)) (sym is) stop
