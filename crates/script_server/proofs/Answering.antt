-- The answer of a script, by how it was written.
use Rattle.std.proofs.Common.{◌≡◌, refl, sym, subst, inl, inr, ℕ, List, Ok, Err}
use Rattle.sky_io.specs.Shelves.{ShelfState}
use Rattle.sky_io.specs.Sinks.{SinkState, Wrote}
use Rattle.sky_io.specs.declared.sink.Put.{Put}
use Rattle.sky_io.specs.declared.sink.Put.TheVariants as put
use Rattle.chunk_store.specs.Survey.{Survey}
use Rattle.session_script.specs.Scripts.{script_of}
use Rattle.session_script.specs.Views.{ScriptView}
use Rattle.session_script.specs.declared.fault.ScriptFault.{ScriptFault}
use Rattle.session_rules.specs.declared.end.EndKind.{EndKind}
use Rattle.transcript_rules.specs.Transcripts.{FitEnds}
use Rattle.request_loop.specs.Replies.{Answering}
use Rattle.request_loop.specs.Sessions.{Streams}
use Rattle.request_loop.specs.declared.answered.Answered.{Answered}
use Rattle.request_loop.specs.declared.answered.Answered.TheVariants.{Done, Failed, Memory}
use Rattle.top_call.specs.Jobs.{IsSurveyOf}
use Rattle.top_call.specs.Steps.{IsRead, IsSurveyStop}
use Rattle.script_server.specs.Answers.{Basis, IsAnswer, IsTranscript, answered_text, basis_of, faulty_line}
use Rattle.script_server.specs.Meanings.{OutcomeOf}
use Rattle.script_server.specs.Steps.{AnswersScript, IsServed, WroteScript, answered_by}
use Rattle.script_server.specs.Words.{ServeWords}
use Rattle.script_server.specs.declared.outcome.ServeOutcome.{ServeOutcome}
use Rattle.script_server.specs.declared.outcome.ServeOutcome.TheVariants.{Usage, Stopped, Ended}

-- the answer of a script was written, or not
pub script_answered : (basis : Basis) (view : ScriptView) (ends : List EndKind) (old new : SinkState) (result : Put)
    → FitEnds basis.workers basis.survey.plan basis.survey.rows view ends → Wrote old new (answered_text basis.survey view ends) result
    → AnswersScript basis view old new (answered_by result)
script_answered basis view ends old new put.Done fits wrote = record { ends = ends; fits = fits; wrote = wrote }
script_answered basis view ends old new put.Failed fits wrote = record { ends = ends; fits = fits; wrote = wrote }

-- the answer of a script that was read
transcript_of : (basis : Basis) (text : List ℕ) (view : ScriptView) (old new : SinkState) (result : Put) → view.text ≡ text
    → script_of text ≡ Ok view.steps → (wrote : WroteScript basis view old new result) → IsTranscript basis text (answered_text basis.survey view wrote.ends)
transcript_of basis text view old new result same steps wrote =
    record { view = view; same = same; steps = steps; ends = wrote.ends; fits = wrote.fits; is = refl }

-- a request that is read as a script was answered
pub answering_script : (basis : Basis) (text : List ℕ) (view : ScriptView) (old new : SinkState) (result : Answered) → view.text ≡ text
    → script_of text ≡ Ok view.steps → AnswersScript basis view old new result → Answering (IsAnswer basis) text old new result
answering_script basis text view old new Done same steps wrote =
    record { answer = answered_text basis.survey view wrote.ends; is = inl (transcript_of basis text view old new put.Done same steps wrote); wrote = wrote.wrote }
answering_script basis text view old new Failed same steps wrote =
    record { answer = answered_text basis.survey view wrote.ends; is = inl (transcript_of basis text view old new put.Failed same steps wrote); wrote = wrote.wrote }
answering_script basis text view old new Memory same steps wrote = wrote

-- a request that is faulty was answered, or not
pub answering_fault : (basis : Basis) (text : List ℕ) (fault : ScriptFault) (old new : SinkState) (result : Put) → script_of text ≡ Err fault
    → Wrote old new (faulty_line fault) result → Answering (IsAnswer basis) text old new (answered_by result)
answering_fault basis text fault old new put.Done found wrote =
    record { answer = faulty_line fault; is = inr (record { fault = fault; found = found; is = refl }); wrote = wrote }
answering_fault basis text fault old new put.Failed found wrote =
    record { answer = faulty_line fault; is = inr (record { fault = fault; found = found; is = refl }); wrote = wrote }

-- a survey that is to be served is not wrong usage
pub not_usage : (words : ServeWords) (old new : ShelfState) (s : Streams) (outcome : ServeOutcome) → OutcomeOf words old new s outcome
    → outcome ≡ Usage → ⊥
not_usage words old new s Usage is e = is
not_usage words old new s (Stopped outcome) is e = absurd (cc e)
not_usage words old new s (Ended session) is e = absurd (cc e)

-- an outcome of a survey that was loaded is one of the survey that the arguments name
pub served : (words : ServeWords) (survey : Survey) (old new : ShelfState) (s : Streams) (outcome : ServeOutcome)
    → IsRead (IsSurveyOf words.sky words.catalogue survey) old new → IsServed (basis_of survey words.workers) s outcome
    → OutcomeOf words old new s outcome
served words survey old new s Usage loaded is = is
served words survey old new s (Stopped outcome) loaded is =
    (subst (λ o. IsSurveyStop words.sky words.catalogue old new o) (sym is.0) (λ sources script sink. (loaded.same, refl)), is.1)
served words survey old new s (Ended session) loaded is = record { survey = survey; loaded = loaded; session = is }
