-- Scripts of worked examples, and the facts about their queries.
use Rattle.std.specs.Prelude.{ℕ, true, false, List, [], ◌∷◌, ◌++◌, map, replicate}
use Rattle.std.specs.List.{range_with_len}
use Rattle.session_script.specs.declared.step.Step.{Step}
use Rattle.session_script.specs.declared.step.Step.TheVariants as step
use Rattle.session_rules.specs.Ends.{Judged}
use Rattle.session_rules.specs.declared.end.EndKind.{EndKind}
use Rattle.session_rules.specs.declared.end.EndKind.TheVariants.{Answered}

-- a query that has chunks to be scanned and is not refused
abbrev pub plain : Judged
plain = record { early = false; total = false; idle = false }

-- a query that is refused for its grammar
abbrev pub faulty : Judged
faulty = record { early = true; total = false; idle = false }

-- a query whose total is out of range
abbrev pub too_large : Judged
too_large = record { early = false; total = true; idle = false }

-- a query whose plan has no chunk
abbrev pub nowhere : Judged
nowhere = record { early = false; total = false; idle = true }

-- the step of query k; the position of its line is irrelevant
abbrev pub query : ℕ → Step
query k = step.Query k (record { from = 0; to = 0 })

-- three queries, then a cancel of the second and a wait for the first
abbrev pub cancel_second : List Step
cancel_second = query 1 ∷ query 2 ∷ query 3 ∷ step.Cancel 2 ∷ step.Wait 1 ∷ []

-- three queries, then a wait for the first and a cancel of the second
abbrev pub wait_first : List Step
wait_first = query 1 ∷ query 2 ∷ query 3 ∷ step.Wait 1 ∷ step.Cancel 2 ∷ []

-- the second query is waited for before it is cancelled
abbrev pub cancel_late : List Step
cancel_late = query 1 ∷ query 2 ∷ query 3 ∷ step.Wait 2 ∷ step.Cancel 2 ∷ []

-- three plain queries
abbrev pub three_plain : List Judged
three_plain = plain ∷ plain ∷ plain ∷ []

-- the given number of queries, then a cancel of the second
abbrev pub cancel_second_of : ℕ → List Step
cancel_second_of count = map query (range_with_len 1 count) ++ (step.Cancel 2 ∷ [])

-- the given number of plain queries
abbrev pub all_plain : ℕ → List Judged
all_plain count = replicate count plain

-- the given number of queries that end answered
abbrev pub all_answered : ℕ → List EndKind
all_answered count = replicate count Answered
