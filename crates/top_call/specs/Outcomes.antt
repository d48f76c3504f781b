-- The report of an outcome: the exit status, and the line on standard error.
use Rattle.std.specs.Prelude.{ℕ, List, [], ◌++◌, Option, None, Some, codes, unwrap_or}
use Rattle.top_call.specs.Words.{Form, Names, names_of}
use Rattle.top_call.specs.FaultLines.{sky_line, table_line, script_line, journal_line}
use Rattle.top_call.specs.declared.outcome.Which.{Which}
use Rattle.top_call.specs.declared.outcome.Which.TheVariants.{Sky, Catalogue, Sources, Script, Journal}
use Rattle.top_call.specs.declared.outcome.Outcome.{Outcome}
use Rattle.top_call.specs.declared.outcome.Outcome.TheVariants.{Done, Usage, BadSky, BadCatalogue, BadSources, BadScript}
use Rattle.top_call.specs.declared.outcome.Outcome.TheVariants.{TooLong, ShelfFault, SinkFault, Memory, BadJournal}

-- the exit status
abbrev pub status_of : Outcome → ℕ
status_of (Done ends) = 0
status_of Usage = 2
status_of (BadSky fault) = 3
status_of (BadCatalogue fault) = 4
status_of (BadScript fault) = 5
status_of (TooLong which) = 6
status_of (ShelfFault which) = 7
status_of (SinkFault ends) = 8
status_of Memory = 9
status_of (BadSources fault) = 11
status_of (BadJournal fault) = 12

-- the name of a text, if there is such a text
abbrev pub name_at : Names → Which → Option (List ℕ)
name_at names Sky = names.sky
name_at names Catalogue = names.catalogue
name_at names Sources = names.sources
name_at names Script = names.script
name_at names Journal = names.journal

-- the name of a text, and nothing if there is no such text
abbrev pub name_of : Names → Which → List ℕ
name_of names which = unwrap_or (name_at names which) []

-- the name that the arguments give to a text, and nothing if they are no command
abbrev pub name_in : Option Form → Which → List ℕ
name_in None which = []
name_in (Some form) which = name_of (names_of form) which

-- the line of an outcome with its line feed, and nothing for Done
abbrev pub outcome_line : Outcome → Option Form → List ℕ
outcome_line (Done ends) form = []
outcome_line Usage form =
    codes "usage: qserv load SKY CSV; query SKY CSV SCRIPT WORKERS; explain SKY CSV SCRIPT; demo COUNT SEED WORKERS; sources SKY CSV SOURCES SCRIPT WORKERS; trace SKY CSV SCRIPT WORKERS; check JOURNAL; classes SKY CSV SCRIPT WORKERS\n"
outcome_line (BadSky fault) form = sky_line fault
outcome_line (BadCatalogue fault) form = table_line (codes "catalogue") fault
outcome_line (BadSources fault) form = table_line (codes "sources") fault
outcome_line (BadScript fault) form = script_line fault
outcome_line (TooLong which) form = name_in form which ++ codes ": too long\n"
outcome_line (ShelfFault which) form = name_in form which ++ codes ": cannot be read\n"
outcome_line (SinkFault ends) form = codes "output failed\n"
outcome_line Memory form = codes "out of memory\n"
outcome_line (BadJournal fault) form = journal_line fault
