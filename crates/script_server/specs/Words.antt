-- The arguments of `serve`.
use Rattle.std.specs.Prelude.{ℕ, List, [], ◌∷◌, Option, None, Some}
use Rattle.top_call.specs.Words.{workers_by}

-- A survey to be served: the names of its sky plan and its catalogue, and the number of workers.
pub record ServeWords : Type 0 where
  pub sky : List ℕ
  pub catalogue : List ℕ
  pub workers : ℕ

-- the survey of these names, if the number of workers is there
abbrev pub words_by : (sky catalogue : List ℕ) → Option ℕ → Option ServeWords
words_by sky catalogue None = None
words_by sky catalogue (Some workers) = Some (record { sky = sky; catalogue = catalogue; workers = workers })

-- the arguments `SKY CSV WORKERS`, with 0 to 16 workers in 1 to 10 digits; None for all others
abbrev pub words_of : List (List ℕ) → Option ServeWords
words_of (sky ∷ catalogue ∷ workers ∷ []) = words_by sky catalogue (workers_by workers)
words_of _ = None
