-- The results of a reader of scripts, compared with the definition. An allocation failure can take the place of any
-- result.
use Rattle.std.specs.Prelude.{◌≡◌, ⊤, ℕ, ◌+◌, ◌==◌, List, ◌++◌, option_to_list, slice_index, if◌then◌else◌}
use Rattle.std.specs.Prelude.{Option, Result, Ok, Err}
use Rattle.sky_io.specs.declared.Stop.{Stop}
use Rattle.sky_io.specs.declared.Stop.TheVariants.{Memory, Bad}
use Rattle.session_script.specs.declared.fault.ScriptFault.{ScriptFault}
use Rattle.session_script.specs.declared.step.Step.{Step}
use Rattle.session_script.specs.Views.{ScriptView}

-- the reader stops with the fault of the definition, or is out of memory
abbrev pub StopsBy : {A : Type 0} → Result A ScriptFault → Stop ScriptFault → Type 0
StopsBy spec Memory = ⊤
StopsBy spec (Bad why) = spec ≡ Err why

-- the new script is the old one with a step appended, or unchanged if there is none
abbrev pub with_step : ScriptView → Option Step → ScriptView
with_step old s = record { text = old.text; steps = old.steps ++ option_to_list s }

-- the step of the definition was appended, or its fault was returned
abbrev pub Adds : Result (Option Step) ScriptFault → ScriptView → ScriptView → Result Unit (Stop ScriptFault) → Type 0
Adds spec old new (Ok done) = (s : Option Step) × (spec ≡ Ok s) × (new ≡ with_step old s)
Adds spec old new (Err why) = StopsBy spec why

-- the position after the end of a line whose text ends at a position: after a carriage return and a line feed, or one
-- byte later
abbrev pub after_end : List ℕ → ℕ → ℕ
after_end text end = if slice_index text end == 13 then end + 2 else end + 1
