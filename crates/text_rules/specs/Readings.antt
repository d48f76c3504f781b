-- The result of a text that is read or checked part by part.
use Rattle.std.specs.Prelude.{List, [], ◌∷◌, Result, Ok, Err}
use Rattle.std.specs.List.{flat_map}

-- the result of a check: the first of the faults, or what was checked if there is none
abbrev pub judged : {F A : Type 0} → List F → A → Result A F
judged [] found = Ok found
judged (fault ∷ later) found = Err fault

-- a part followed by the later parts, or the fault among those
abbrev pub put_before : {A F : Type 0} → A → Result (List A) F → Result (List A) F
put_before a (Ok behind) = Ok (a ∷ behind)
put_before a (Err fault) = Err fault

-- the concatenation of the parts
abbrev pub joined : {A : Type 0} → List (List A) → List A
joined = flat_map (λ part. part)
