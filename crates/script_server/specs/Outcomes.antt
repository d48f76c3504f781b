-- The report of an outcome: the exit status, and the line on standard error.
use Rattle.std.specs.Prelude.{ℕ, List, [], codes}
use Rattle.top_call.specs.Outcomes.{outcome_line, status_of}
use Rattle.top_call.specs.Words.{form_of}
use Rattle.request_loop.specs.declared.session.Session.{Session}
use Rattle.request_loop.specs.declared.session.Session.TheVariants.{Done, SourceFault, SinkFault}
use Rattle.script_server.specs.declared.outcome.ServeOutcome.{ServeOutcome}
use Rattle.script_server.specs.declared.outcome.ServeOutcome.TheVariants.{Usage, Stopped, Ended}

-- the exit status of a session
abbrev pub session_status : Session → ℕ
session_status Done = 0
session_status SourceFault = 7
session_status SinkFault = 8

-- the exit status: that of `load` if no survey was loaded
abbrev pub serve_status : ServeOutcome → ℕ
serve_status Usage = 2
serve_status (Stopped outcome) = status_of outcome
serve_status (Ended session) = session_status session

-- the line of a session, and nothing for Done
abbrev pub session_line : Session → List ℕ
session_line Done = []
session_line SourceFault = codes "input: cannot be read\n"
session_line SinkFault = codes "output failed\n"

-- the line of an outcome with its line feed; a survey that was not loaded has the line of the command that loads it
abbrev pub serve_line : ServeOutcome → (load : List (List ℕ)) → List ℕ
serve_line Usage load = codes "usage: qserv serve SKY CSV WORKERS\n"
serve_line (Stopped outcome) load = outcome_line outcome (form_of load)
serve_line (Ended session) load = session_line session
