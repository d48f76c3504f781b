-- Each answer ends at its one line that begins with `+`, so a client finds each reply.
use Rattle.std.proofs.Common.{◌≡◌, refl, sym, ap, subst, inl, inr, ℕ, List, [], ◌∷◌, ◌++◌, append_assoc, true, Ok, codes, decimal}
use Rattle.csv.specs.Reading.{default_config, records, strip_bom}
use Rattle.sky_io.specs.Shelves.{named_text}
use Rattle.session_script.specs.Scripts.{script_of}
use Rattle.session_script.specs.declared.fault.ScriptFault.{ScriptFault}
use Rattle.session_script.specs.declared.fault.ScriptFault.TheVariants.{UnknownQuery, LineTooLong, TooManyQueries}
use Rattle.reply_rules.specs.Lines.{EndsAtPlus}
use Rattle.reply_rules.specs.Laws.{IsNamed}
use Rattle.reply_rules.proofs.Bytes.{decimal_high, flat, flat_both, high_flat}
use Rattle.reply_rules.proofs.Finding.{all_found, reply_at_plus}
use Rattle.reply_rules.proofs.Named.{accepted_is_named}
use Rattle.reply_rules.proofs.Transcripts.{answered_ends_at_plus}
use Rattle.reply_rules.proofs.Whole.{no_lines, then_plus}
use Rattle.top_call.specs.FaultLines.{script_place}
use Rattle.script_server.specs.Answers.{Basis, IsAnswer, IsFaulty, IsTranscript, faulty_line}
use Rattle.script_server.specs.Laws.{AnswersEndAtPlus, EachReplyIsFound, IsSurveyOfTexts, RepliesEndAtPlus}

-- ---- the line of a fault

number_flat : (n : ℕ) → flat (decimal n) ≡ true
number_flat n = high_flat (decimal n) (decimal_high n)

-- the place of a fault, and the rest of its line
place_at_plus : (line : ℕ) (more : List ℕ) → flat more ≡ true → EndsAtPlus (codes "+ " ++ script_place line (more ++ 10 ∷ []))
place_at_plus line more h =
    let place : List ℕ = codes "script line " ++ decimal line in
    subst EndsAtPlus (ap (λ t. codes "+ " ++ t) (append_assoc place more (10 ∷ [])))
    (then_plus [] (codes "+ " ++ (place ++ more)) no_lines (flat_both place more (flat_both (codes "script line ") (decimal line) refl (number_flat line)) h) refl)

fault_at_plus : (fault : ScriptFault) → EndsAtPlus (faulty_line fault)
fault_at_plus (UnknownQuery line number) =
    place_at_plus line (codes ": unknown query " ++ decimal number) (flat_both (codes ": unknown query ") (decimal number) refl (number_flat number))
fault_at_plus (LineTooLong line) = place_at_plus line (codes ": too long") refl
fault_at_plus (TooManyQueries line) = place_at_plus line (codes ": too many queries") refl

-- ---- answers

-- the extra columns of an accepted survey have names
survey_named : (basis : Basis) → IsSurveyOfTexts basis → IsNamed basis.survey.rows
survey_named basis (sky, catalogue, texts, is) =
    accepted_is_named (records default_config (strip_bom (named_text catalogue texts))) basis.survey.rows is.1.1

transcript_at_plus : (basis : Basis) (request answer : List ℕ) → IsNamed basis.survey.rows → IsTranscript basis request answer → EndsAtPlus answer
transcript_at_plus basis request answer named it =
    let read : script_of it.view.text ≡ Ok it.view.steps = subst (λ t. script_of t ≡ Ok it.view.steps) (sym it.same) it.steps in
    subst EndsAtPlus (sym it.is) (answered_ends_at_plus basis.survey.plan basis.survey.rows it.view it.ends named read)

line_at_plus : (request answer : List ℕ) → IsFaulty request answer → EndsAtPlus answer
line_at_plus request answer it = subst EndsAtPlus (sym it.is) (fault_at_plus it.fault)

answer_at_plus : (basis : Basis) (request answer : List ℕ) → IsNamed basis.survey.rows → IsAnswer basis request answer → EndsAtPlus answer
answer_at_plus basis request answer named (inl it) = transcript_at_plus basis request answer named it
answer_at_plus basis request answer named (inr it) = line_at_plus request answer it

pub answers_end_at_plus : AnswersEndAtPlus
answers_end_at_plus basis accepted request answer it = answer_at_plus basis request answer (survey_named basis accepted) it

-- ---- replies

pub replies_end_at_plus : RepliesEndAtPlus
replies_end_at_plus basis accepted request reply it = reply_at_plus (IsAnswer basis) (answers_end_at_plus basis accepted) request reply it

pub each_reply_is_found : EachReplyIsFound
each_reply_is_found basis accepted requests text are = all_found (IsAnswer basis) (answers_end_at_plus basis accepted) requests text are
