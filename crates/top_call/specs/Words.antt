-- The commands, and the arguments that give them.
use Rattle.std.specs.Prelude.{ℕ, ◌≤◌, ◌&&◌, List, [], ◌∷◌, Option, None, Some, map, codes}
use Rattle.std.specs.Prelude.{if◌then◌else◌, nat_le, option_and_then, option_map, String}
use Rattle.std.specs.String.{string_bytes}
use Rattle.std.specs.Str.{bytes_eq}
use Rattle.std.specs.declared.alloc.Global.{Global}
use Rattle.text_rules.specs.Numbers.{natural}
use Rattle.table_rules.specs.declared.limits.TheConstants.{ROWS_MOST}
use Rattle.demo_rules.specs.declared.limits.TheConstants.{SEED_MOST}
use Rattle.session_rules.specs.declared.limits.TheConstants.{WORKERS_MOST}
use Rattle.top_call.specs.declared.limits.TheConstants.{WORD_DIGITS_MOST}
use Rattle.top_call.specs.declared.task.Task.{Task}
use Rattle.top_call.specs.declared.task.Task.TheVariants.{Answer, ByClass, Trace, Explain}

-- A command, with the names of the texts.
pub data Form : Type 0 where
  -- to report how the rows of a catalogue are distributed over the chunks of a sky plan
  Load : (sky catalogue : List ℕ) → Form
  -- to answer or to explain the queries of a script over them
  Asks : (task : Task) (sky catalogue script : List ℕ) → Form
  -- to answer, with a number of workers, the queries of a script over the objects of a catalogue and their sources
  AsksSources : (workers : ℕ) (sky catalogue sources script : List ℕ) → Form
  -- to check whether a journal is right
  Check : (journal : List ℕ) → Form
  -- to answer the queries of the demo's script with a number of workers, over its sky plan and a number of objects
  -- drawn from a seed
  Demo : (count seed workers : ℕ) → Form

-- The names of the texts of a command, of those that it has.
pub record Names : Type 0 where
  pub sky : Option (List ℕ)
  pub catalogue : Option (List ℕ)
  pub sources : Option (List ℕ)
  pub script : Option (List ℕ)
  pub journal : Option (List ℕ)

-- the names of a sky plan and a catalogue, and of a source table and a script if there are such
abbrev pub names_from : (sky catalogue : List ℕ) → (sources script : Option (List ℕ)) → Names
names_from sky catalogue sources script =
    record { sky = Some sky; catalogue = Some catalogue; sources = sources; script = script; journal = None }

-- the names of a command that has no text of a sky plan, a catalogue, a source table or a script
abbrev pub names_without : Option (List ℕ) → Names
names_without journal = record { sky = None; catalogue = None; sources = None; script = None; journal = journal }

-- the names of the texts of a command
abbrev pub names_of : Form → Names
names_of (Load sky catalogue) = names_from sky catalogue None None
names_of (Asks task sky catalogue script) = names_from sky catalogue None (Some script)
names_of (AsksSources workers sky catalogue sources script) = names_from sky catalogue (Some sources) (Some script)
names_of (Check journal) = names_without (Some journal)
names_of (Demo count seed workers) = names_without None

-- the workers beside the czar, if the task has any, are at most 16
abbrev pub IsManned : Task → Type 0
IsManned (Answer workers) = workers ≤ WORKERS_MOST
IsManned (ByClass workers) = workers ≤ WORKERS_MOST
IsManned (Trace workers) = workers ≤ WORKERS_MOST
IsManned Explain = Unit {0}

-- the number, if there is one and it is between two others
abbrev pub number_between : (least most : ℕ) → Option ℕ → Option ℕ
number_between least most None = None
number_between least most (Some n) = if nat_le least n && nat_le n most then Some n else None

-- the number of workers that an argument gives: 1 to 10 digits, of value 0 to 16
abbrev pub workers_by : List ℕ → Option ℕ
workers_by word = number_between 0 WORKERS_MOST (natural WORD_DIGITS_MOST word)

-- the task of the first argument, with a number of workers
abbrev pub task_of : (word : List ℕ) → ℕ → Option Task
task_of word workers =
    if bytes_eq word (codes "query") then Some (Answer workers)
    else if bytes_eq word (codes "classes") then Some (ByClass workers)
    else if bytes_eq word (codes "trace") then Some (Trace workers)
    else None

-- the demo of this count and this seed, if they and the number of workers are there
abbrev pub demo_of : (count seed workers : Option ℕ) → Option Form
demo_of (Some count) (Some seed) (Some workers) = Some (Demo count seed workers)
demo_of (Some count) (Some seed) None = None
demo_of (Some count) None workers = None
demo_of None seed workers = None

-- the demo of a count up to 2^22, a seed from 1 to 2^31 - 2 and a number of workers, each of 1 to 10 digits
abbrev pub demo_by : (count seed workers : List ℕ) → Option Form
demo_by count seed workers =
    demo_of (number_between 0 ROWS_MOST (natural WORD_DIGITS_MOST count))
    (number_between 1 SEED_MOST (natural WORD_DIGITS_MOST seed)) (workers_by workers)

-- the command of four arguments, by the first
abbrev pub form_of_four : (word second third fourth : List ℕ) → Option Form
form_of_four word second third fourth =
    if bytes_eq word (codes "explain") then Some (Asks Explain second third fourth)
    else if bytes_eq word (codes "demo") then demo_by second third fourth
    else None

-- the command of five arguments: the task of the first, with the number of workers, on the named script
abbrev pub form_of_five : (word sky catalogue script workers : List ℕ) → Option Form
form_of_five word sky catalogue script workers =
    option_map (λ task. Asks task sky catalogue script) (option_and_then (task_of word) (workers_by workers))

-- the command of six arguments: to answer the queries of the named script over the objects and their sources
abbrev pub form_of_six : (word sky catalogue sources script workers : List ℕ) → Option Form
form_of_six word sky catalogue sources script workers =
    if bytes_eq word (codes "sources")
    then option_map (λ count. AsksSources count sky catalogue sources script) (workers_by workers)
    else None

-- the commands `check JOURNAL`, `load SKY CSV`, `explain SKY CSV SCRIPT`, `demo COUNT SEED WORKERS`, with SKY CSV SCRIPT WORKERS
-- `query`, `classes` and `trace`, and `sources SKY CSV SOURCES SCRIPT WORKERS`, whose numbers are 1 to 10 digits and whose
-- WORKERS is 0 to 16; None for all other arguments
abbrev pub form_of : List (List ℕ) → Option Form
form_of (word ∷ journal ∷ []) = if bytes_eq word (codes "check") then Some (Check journal) else None
form_of (word ∷ sky ∷ catalogue ∷ []) = if bytes_eq word (codes "load") then Some (Load sky catalogue) else None
form_of (word ∷ second ∷ third ∷ fourth ∷ []) = form_of_four word second third fourth
form_of (word ∷ sky ∷ catalogue ∷ script ∷ workers ∷ []) = form_of_five word sky catalogue script workers
form_of (word ∷ sky ∷ catalogue ∷ sources ∷ script ∷ workers ∷ []) =
    form_of_six word sky catalogue sources script workers
form_of _ = None

-- the bytes of each argument
abbrev pub bytes_of : List (String Global) → List (List ℕ)
bytes_of words = map string_bytes words
