-- The meaning of each outcome of `serve`.
use Rattle.std.specs.Prelude.{◌≡◌, Option, None, Some}
use Rattle.sky_io.specs.Shelves.{ShelfState}
use Rattle.chunk_store.specs.Survey.{Survey}
use Rattle.request_loop.specs.Sessions.{Streams, IsSession}
use Rattle.request_loop.specs.declared.session.Session.{Session}
use Rattle.top_call.specs.Jobs.{IsSurveyOf}
use Rattle.top_call.specs.Steps.{IsRead, IsSurveyStop}
use Rattle.script_server.specs.Answers.{IsAnswer, basis_of}
use Rattle.script_server.specs.Words.{ServeWords}
use Rattle.script_server.specs.declared.outcome.ServeOutcome.{ServeOutcome}
use Rattle.script_server.specs.declared.outcome.ServeOutcome.TheVariants.{Usage, Stopped, Ended}

-- neither the source nor the sink was touched
abbrev pub AreUntouched : Streams → Type 0
AreUntouched s = (s.source_new ≡ s.source_old) × (s.sink_new ≡ s.sink_old)

-- The named texts are accepted as a survey, and over this one survey all requests of the source were answered, until its
-- end or a fault.
pub record IsEnded (words : ServeWords) (old new : ShelfState) (s : Streams) (it : Session) : Type 0 where
  pub survey : Survey
  pub loaded : IsRead (IsSurveyOf words.sky words.catalogue survey) old new
  pub session : IsSession (IsAnswer (basis_of survey words.workers)) s it

-- the meaning of an outcome for a survey to be served
abbrev pub OutcomeOf : ServeWords → (old new : ShelfState) → Streams → ServeOutcome → Type 0
OutcomeOf words old new s Usage = ⊥
OutcomeOf words old new s (Stopped outcome) =
    IsSurveyStop words.sky words.catalogue old new outcome × AreUntouched s
OutcomeOf words old new s (Ended session) = IsEnded words old new s session

-- the meaning of an outcome: if the arguments name no survey it is Usage, and nothing was touched
abbrev pub IsServeOutcome : Option ServeWords → (old new : ShelfState) → Streams → ServeOutcome → Type 0
IsServeOutcome None old new s outcome = (outcome ≡ Usage) × (new ≡ old) × AreUntouched s
IsServeOutcome (Some words) old new s outcome = OutcomeOf words old new s outcome
