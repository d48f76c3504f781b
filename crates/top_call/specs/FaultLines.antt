-- The lines that report the fault of a text: the place, then the thing, then the value.
use Rattle.std.specs.Prelude.{ℕ, ℤ, List, ◌++◌, codes}
use Rattle.std.specs.Fmt.{decimal, signed_decimal}
use Rattle.sky_rules.specs.declared.fault.SkyFault.{SkyFault}
use Rattle.sky_rules.specs.declared.fault.SkyFault.TheVariants as sky
use Rattle.table_rules.specs.declared.fault.LoadFault.{LoadFault}
use Rattle.table_rules.specs.declared.fault.LoadFault.TheVariants as load
use Rattle.session_script.specs.declared.fault.ScriptFault.{ScriptFault}
use Rattle.session_script.specs.declared.fault.ScriptFault.TheVariants as script
use Rattle.scan_history.specs.declared.fault.HistoryFault.{HistoryFault}
use Rattle.scan_history.specs.declared.fault.HistoryFault.TheVariants as history

-- a thing with its number
abbrev pub place : List ℕ → ℕ → List ℕ
place thing n = thing ++ decimal n

-- a thing with its number, and the text after it
abbrev pub numbered : List ℕ → ℕ → List ℕ → List ℕ
numbered thing n behind = place thing n ++ behind

-- the description of a value, and the value at the line's end
abbrev pub valued : List ℕ → ℤ → List ℕ
valued before value = before ++ (signed_decimal value ++ codes "\n")

-- the line of a sky text's fault
abbrev pub sky_line : SkyFault → List ℕ
sky_line (sky.Syntax line) = numbered (codes "sky line ") line (codes ": syntax\n")
sky_line (sky.Overlap line) = numbered (codes "sky line ") line (codes ": overlap\n")
sky_line (sky.Order line) = numbered (codes "sky line ") line (codes ": order\n")
sky_line (sky.Count line) = numbered (codes "sky line ") line (codes ": count\n")
sky_line (sky.TooMany line) = numbered (codes "sky line ") line (codes ": too many\n")

-- the place of a data row's fault, and the text after it
abbrev pub row_line : ℕ → List ℕ → List ℕ
row_line row behind = numbered (codes " row ") row behind

-- the line of the fault of a table's text, after the word for the table
abbrev pub load_line : LoadFault → List ℕ
load_line (load.Header field) = numbered (codes " header: field ") field (codes "\n")
load_line (load.FieldCount row count) = row_line row (numbered (codes ": ") count (codes " fields\n"))
load_line (load.Number row field) = row_line row (numbered (codes ": field ") field (codes " is not a number\n"))
load_line (load.Range row field value) =
    row_line row (numbered (codes ": field ") field (valued (codes " out of range: ") value))
load_line (load.Length row) = row_line row (codes ": length\n")
load_line (load.Repeated row id) = row_line row (valued (codes ": repeated id ") id)
load_line load.TooManyRows = codes ": too many rows\n"

-- the line of the fault of a table's text, by the word for the table
abbrev pub table_line : List ℕ → LoadFault → List ℕ
table_line table fault = table ++ load_line fault

-- the place of a fault in a line of a script, and the text after it
abbrev pub script_place : ℕ → List ℕ → List ℕ
script_place line behind = numbered (codes "script line ") line behind

-- the line of a script's fault
abbrev pub script_line : ScriptFault → List ℕ
script_line (script.UnknownQuery line number) = script_place line (numbered (codes ": unknown query ") number (codes "\n"))
script_line (script.LineTooLong line) = script_place line (codes ": too long\n")
script_line (script.TooManyQueries line) = script_place line (codes ": too many queries\n")

-- the line of a journal's fault
abbrev pub journal_line : HistoryFault → List ℕ
journal_line (history.Syntax line) = numbered (codes "journal line ") line (codes ": syntax\n")
journal_line (history.NotAStep line) = numbered (codes "journal line ") line (codes ": not a step\n")
