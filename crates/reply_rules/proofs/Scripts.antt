-- The lines of a script's queries have no line feed.
use Rattle.std.proofs.Common.{◌≡◌, refl, sym, ap, subst, ℕ, ◌+◌, ◌-◌, ◌==◌, Bool, true, false, cond, not, List, [], ◌∷◌, length, take, map, zip, nat_lt, Option, None, Some, Result, Ok, Err, codes}
use Rattle.std.specs.List.{onto_first, slice_index, slice_split}
use Rattle.std.specs.Prelude.{All}
use Rattle.std.specs.Str.Lines.{lines, lines_of_parts}
use Rattle.std.proofs.lemmas.List.Elements.{All-head, All-tail}
use Rattle.text_rules.specs.Lines.{Line, is_note, numbered}
use Rattle.text_rules.specs.Readings.{put_before}
use Rattle.text_rules.specs.declared.limits.TheConstants.{QUERIES_MOST, QUERY_TEXT_MOST}
use Rattle.sql_token.specs.declared.token.Span.{Span}
use Rattle.session_script.specs.Laws.{StandsAt}
use Rattle.session_script.specs.Places.{line_starts, placed_lines}
use Rattle.session_script.specs.Scripts.{cancel_or_else, command_of, followed_by, is_query, number_after, part_of, queries_with, query_spans, script_of, span_at, step_by, step_of, steps_from}
use Rattle.session_script.specs.Views.{ScriptView, query_lines}
use Rattle.session_script.specs.declared.fault.ScriptFault.{ScriptFault}
use Rattle.session_script.specs.declared.fault.ScriptFault.TheVariants as fault
use Rattle.session_script.specs.declared.step.Step.{Step}
use Rattle.session_script.specs.declared.step.Step.TheVariants as step
use Rattle.session_script.proofs.Standing.{lines_stand}
use Rattle.print_rules.proofs.Walks.{Each}
use Rattle.reply_rules.proofs.Bytes.{all_cons, flat, front_flat, stays}

-- each of the texts has no line feed
abbrev AreFlat : List (List ℕ) → Type 0
AreFlat texts = Each (λ t. flat t ≡ true) texts

-- ---- the lines of a text

onto_flat : (b : ℕ) (parts : List (List ℕ)) → stays b ≡ true → AreFlat parts → AreFlat (onto_first b parts)
onto_flat b [] h each = (all_cons stays b [] h refl, tt)
onto_flat b (p ∷ ps) h each = (all_cons stays b p h each.0, each.1)

split_cond : (t : Bool) (b : ℕ) (parts : List (List ℕ)) → (b == 10) ≡ t → AreFlat parts → AreFlat (cond t ([] ∷ parts) (onto_first b parts))
split_cond true b parts is each = (refl, each)
split_cond false b parts is each = onto_flat b parts (ap not is) each

split_flat : (bs : List ℕ) → AreFlat (slice_split (λ b. b == 10) bs)
split_flat [] = (refl, tt)
split_flat (b ∷ bs) = split_cond (b == 10) b (slice_split (λ b. b == 10) bs) refl (split_flat bs)

strip_cond : (t : Bool) (l : List ℕ) → flat l ≡ true → flat (cond t (take (length l - 1) l) l) ≡ true
strip_cond true l h = front_flat (length l - 1) l h
strip_cond false l h = h

last_cond : (t : Bool) (l : List ℕ) → flat l ≡ true → AreFlat (cond t [] (l ∷ []))
last_cond true l h = tt
last_cond false l h = (h, tt)

parts_flat : (parts : List (List ℕ)) → AreFlat parts → AreFlat (lines_of_parts parts)
parts_flat [] each = tt
parts_flat (p ∷ []) each = last_cond (length p == 0) p each.0
parts_flat (p ∷ q ∷ more) each = (strip_cond (slice_index p (length p - 1) == 13) p each.0, parts_flat (q ∷ more) each.1)

-- each line has no line feed
abbrev LinesFlat : List (ℕ × Line) → Type 0
LinesFlat ls = Each (λ l. flat l.1.text ≡ true) ls

zip_flat : (places : List ℕ) (n : ℕ) (texts : List (List ℕ)) → AreFlat texts → LinesFlat (zip places (numbered n texts))
zip_flat [] n texts each = tt
zip_flat (p ∷ ps) n [] each = tt
zip_flat (p ∷ ps) n (t ∷ ts) each = (each.0, zip_flat ps (n + 1) ts each.1)

lines_flat : (text : List ℕ) → LinesFlat (placed_lines text)
lines_flat text = zip_flat (line_starts text) 1 (lines text) (parts_flat (slice_split (λ b. b == 10) text) (split_flat text))

-- ---- the spans of queries

-- the part of the text in the span has no line feed
abbrev PartFlat : List ℕ → Span → Type 0
PartFlat text span = flat (part_of text (Some span)) ≡ true

same_step : (s t : Step) → ◌≡◌ {A = Result (Option Step) ScriptFault} (Ok (Some s)) (Ok (Some t)) → s ≡ t
same_step s t e = cc e

naming_flat : (text : List ℕ) (t : Bool) (why : ScriptFault) (s found : Step) → query_spans (s ∷ []) ≡ [] → cond t (Ok (Some s)) (Err why) ≡ Ok (Some found)
    → Each (PartFlat text) (query_spans (found ∷ []))
naming_flat text true why s found none e = subst (λ r. Each (PartFlat text) (query_spans (r ∷ []))) (same_step s found e) (subst (Each (PartFlat text)) (sym none) tt)
naming_flat text false why s found none e = absurd (cc e)

asking_flat : (text : List ℕ) (t : Bool) (why : ScriptFault) (n : ℕ) (span : Span) (found : Step) → PartFlat text span
    → cond t (Ok (Some (step.Query n span))) (Err why) ≡ Ok (Some found) → Each (PartFlat text) (query_spans (found ∷ []))
asking_flat text true why n span found h e = subst (λ r. Each (PartFlat text) (query_spans (r ∷ []))) (same_step (step.Query n span) found e) (h, tt)
asking_flat text false why n span found h e = absurd (cc e)

-- the step of a line that is a comment, a cancel, a wait or a query
command_flat : (text : List ℕ) (queries : ℕ) (l : ℕ × Line) (note : Bool) (cancel wait : Option ℕ) (found : Step) → PartFlat text (span_at l.0 l.1)
    → step_by queries l.0 l.1 (cond note (command_of (codes "#")) (cancel_or_else cancel wait)) ≡ Ok (Some found) → Each (PartFlat text) (query_spans (found ∷ []))
command_flat text queries l true cancel wait found h e = absurd (cc e)
command_flat text queries l false (Some n) wait found h e = naming_flat text (is_query queries n) (fault.UnknownQuery l.1.number n) (step.Cancel n) found refl e
command_flat text queries l false None (Some n) found h e = naming_flat text (is_query queries n) (fault.UnknownQuery l.1.number n) (step.Wait n) found refl e
command_flat text queries l false None None found h e = asking_flat text (nat_lt queries QUERIES_MOST) (fault.TooManyQueries l.1.number) (queries + 1) (span_at l.0 l.1) found h e

step_flat : (text : List ℕ) (queries : ℕ) (l : ℕ × Line) (long : Bool) (found : Step) → PartFlat text (span_at l.0 l.1)
    → cond long (Err (fault.LineTooLong l.1.number)) (step_by queries l.0 l.1 (command_of l.1.text)) ≡ Ok (Some found) → Each (PartFlat text) (query_spans (found ∷ []))
step_flat text queries l true found h e = absurd (cc e)
step_flat text queries l false found h e =
    command_flat text queries l (is_note l.1.text) (number_after (codes "cancel ") l.1.text) (number_after (codes "wait ") l.1.text) found h e

spans_both : (P : Span → Type 0) (s : Step) (ss : List Step) → Each P (query_spans (s ∷ [])) → Each P (query_spans ss) → Each P (query_spans (s ∷ ss))
spans_both P (step.Query n span) ss a b = (a.0, b)
spans_both P (step.Wait n) ss a b = b
spans_both P (step.Cancel n) ss a b = b

-- the steps are one and the others
before_all : (P : List Step → Type 0) (s : Step) (r : Result (List Step) ScriptFault) (ss : List Step) → put_before s r ≡ Ok ss
    → ((more : List Step) → r ≡ Ok more → P (s ∷ more)) → P ss
before_all P s (Ok more) ss e go = let same : s ∷ more ≡ ss = cc e in subst P same (go more refl)
before_all P s (Err why) ss e go = absurd (cc e)

-- the lines of queries among a line's step and those of the others
step_then : (text : List ℕ) (queries : ℕ) (l : ℕ × Line) (ls : List (ℕ × Line)) (ss : List Step) (r : Result (Option Step) ScriptFault) → PartFlat text (span_at l.0 l.1)
    → ((q : ℕ) (more : List Step) → steps_from q ls ≡ Ok more → Each (PartFlat text) (query_spans more))
    → step_of queries l.0 l.1 ≡ r → followed_by queries r (λ q. steps_from q ls) ≡ Ok ss → Each (PartFlat text) (query_spans ss)
step_then text queries l ls ss (Err why) here rest is f = absurd (cc f)
step_then text queries l ls ss (Ok None) here rest is f = rest queries ss f
step_then text queries l ls ss (Ok (Some s)) here rest is f =
    before_all (λ x. Each (PartFlat text) (query_spans x)) s (steps_from (queries_with queries s) ls) ss f
    (λ more read. spans_both (PartFlat text) s more (step_flat text queries l (nat_lt QUERY_TEXT_MOST (length l.1.text)) s here is) (rest (queries_with queries s) more read))

-- and among all of these lines
steps_flat : (text : List ℕ) (queries : ℕ) (ls : List (ℕ × Line)) (ss : List Step) → LinesFlat ls → All (StandsAt text) ls → steps_from queries ls ≡ Ok ss
    → Each (PartFlat text) (query_spans ss)
unfolding steps_from
steps_flat text queries [] ss each stand e = let none : [] ≡ ss = cc e in subst (λ x. Each (PartFlat text) (query_spans x)) none tt
steps_flat text queries (l ∷ ls) ss each stand e =
    step_then text queries l ls ss (step_of queries l.0 l.1)
    (subst (λ t. flat t ≡ true) (sym (All-head (StandsAt text) l ls stand)) each.0)
    (λ q more is. steps_flat text q ls more each.1 (All-tail (StandsAt text) l ls stand) is) refl e

each_part : (text : List ℕ) (spans : List Span) → Each (PartFlat text) spans → AreFlat (map (λ span. part_of text (Some span)) spans)
each_part text [] each = tt
each_part text (span ∷ spans) each = (each.0, each_part text spans each.1)

-- the lines of an accepted script's queries
pub queries_flat : (s : ScriptView) → script_of s.text ≡ Ok s.steps → Each (λ t. flat t ≡ true) (query_lines s)
queries_flat s e =
    each_part s.text (query_spans s.steps) (steps_flat s.text 0 (placed_lines s.text) s.steps (lines_flat s.text) (lines_stand s.text) e)
