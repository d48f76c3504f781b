-- Which answers a script may have, over a survey that was loaded.
use Rattle.std.specs.Prelude.{◌≡◌, ◌⊎◌, ℕ, List, ◌++◌, Ok, Err, codes}
use Rattle.chunk_store.specs.Survey.{Survey}
use Rattle.session_script.specs.Scripts.{script_of}
use Rattle.session_script.specs.Views.{ScriptView}
use Rattle.session_script.specs.declared.fault.ScriptFault.{ScriptFault}
use Rattle.session_rules.specs.declared.end.EndKind.{EndKind}
use Rattle.transcript_rules.specs.Transcripts.{FitEnds, transcript}
use Rattle.top_call.specs.FaultLines.{script_line}

-- What depends on no script: the survey, and the number of workers.
pub record Basis : Type 0 where
  pub survey : Survey
  pub workers : ℕ

-- a survey and a number of workers
abbrev pub basis_of : Survey → ℕ → Basis
basis_of survey workers = record { survey = survey; workers = workers }

-- the line that ends the answer of a script that is accepted
abbrev pub ok_line : List ℕ
ok_line = codes "+ ok\n"

-- the line of a script's fault
abbrev pub faulty_line : ScriptFault → List ℕ
faulty_line fault = codes "+ " ++ script_line fault

-- the transcript of a script whose queries have these ends, and the line that ends it
abbrev pub answered_text : Survey → ScriptView → List EndKind → List ℕ
answered_text survey view ends = transcript survey.plan survey.rows view ends ++ ok_line

-- The answer is the transcript of the script, with ends that fit it, and then the line that ends it.
pub record IsTranscript (basis : Basis) (text answer : List ℕ) : Type 0 where
  pub view : ScriptView
  pub same : view.text ≡ text
  pub steps : script_of text ≡ Ok view.steps
  pub ends : List EndKind
  pub fits : FitEnds basis.workers basis.survey.plan basis.survey.rows view ends
  pub is : answer ≡ answered_text basis.survey view ends

-- The answer is the line of the script's first fault.
pub record IsFaulty (text answer : List ℕ) : Type 0 where
  pub fault : ScriptFault
  pub found : script_of text ≡ Err fault
  pub is : answer ≡ faulty_line fault

-- the answers that a script with this text may have
abbrev pub IsAnswer : Basis → (text answer : List ℕ) → Type 0
IsAnswer basis text answer = IsTranscript basis text answer ⊎ IsFaulty text answer
