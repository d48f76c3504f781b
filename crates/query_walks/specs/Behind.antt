-- What is gathered: the first, or the results of tests at the top.
use Rattle.std.specs.Prelude.{if◌then◌else◌, List, [], Option, None, Some}
use Rattle.bind_rules.specs.Forms.{first_of}
use Rattle.bind_rules.specs.Tops.{Test, Found}

-- the optional first one, or else the first of the list
abbrev pub first_behind : {A : Type 0} → Option A → List A → Option A
first_behind (Some x) more = Some x
first_behind None more = first_of more

-- the results of a test at the top; another test has none
abbrev pub top_only : {A : Type 0} → (Test → List A) → Found → List A
top_only f x = if x.top then f x.test else []
