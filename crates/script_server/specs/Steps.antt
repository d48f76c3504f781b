-- The meaning of a step: a survey that was loaded is served, the queries of a script are run, and their transcript is
-- written.
use Rattle.std.specs.Prelude.{◌≡◌, List}
use Rattle.session_script.specs.Views.{ScriptView}
use Rattle.session_rules.specs.declared.end.EndKind.{EndKind}
use Rattle.transcript_rules.specs.Transcripts.{FitEnds}
use Rattle.sky_io.specs.Sinks.{SinkState, Wrote}
use Rattle.sky_io.specs.declared.sink.Put.{Put}
use Rattle.sky_io.specs.declared.sink.Put.TheVariants as put
use Rattle.request_loop.specs.declared.answered.Answered.{Answered}
use Rattle.request_loop.specs.declared.answered.Answered.TheVariants.{Done, Failed, Memory}
use Rattle.request_loop.specs.Sessions.{Streams, IsSession}
use Rattle.top_call.specs.declared.outcome.Outcome.TheVariants as outcome
use Rattle.script_server.specs.Answers.{Basis, IsAnswer, answered_text}
use Rattle.script_server.specs.Meanings.{AreUntouched}
use Rattle.script_server.specs.declared.outcome.ServeOutcome.{ServeOutcome}
use Rattle.script_server.specs.declared.outcome.ServeOutcome.TheVariants.{Usage, Stopped, Ended}

-- the meaning of an outcome once the survey was loaded: the requests were answered, or an allocation failed before the
-- first was read
abbrev pub IsServed : Basis → Streams → ServeOutcome → Type 0
IsServed basis s Usage = ⊥
IsServed basis s (Stopped why) = (why ≡ outcome.Memory) × AreUntouched s
IsServed basis s (Ended session) = IsSession (IsAnswer basis) s session

-- the result of an answer that was written, or not
abbrev pub answered_by : Put → Answered
answered_by put.Done = Done
answered_by put.Failed = Failed

-- The text of a script with ends that fit it was written, or the sink failed at it.
pub record WroteScript (basis : Basis) (view : ScriptView) (old new : SinkState) (result : Put) : Type 0 where
  pub ends : List EndKind
  pub fits : FitEnds basis.workers basis.survey.plan basis.survey.rows view ends
  pub wrote : Wrote old new (answered_text basis.survey view ends) result

-- a script was answered, or the sink failed at its answer; or an allocation failed, and nothing was written
abbrev pub AnswersScript : Basis → ScriptView → (old new : SinkState) → Answered → Type 0
AnswersScript basis view old new Done = WroteScript basis view old new put.Done
AnswersScript basis view old new Failed = WroteScript basis view old new put.Failed
AnswersScript basis view old new Memory = new ≡ old
