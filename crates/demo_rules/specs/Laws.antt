-- Lemmas about the demo's catalogue.
use Rattle.std.specs.Prelude.{◌≡◌, ℕ, ◌≤◌}
use Rattle.table_rules.specs.Objects.{Catalogue, IsCatalogue}
use Rattle.table_rules.specs.declared.limits.TheConstants.{ROWS_MOST}
use Rattle.demo_rules.specs.DemoRows.{IsDemoCatalogue}

-- for each count and each seed there is a catalogue
abbrev pub DemoIsThere : Type 0
DemoIsThere = (count seed : ℕ) → (c : Catalogue) × IsDemoCatalogue count seed c

-- no other catalogue has the count and the seed
abbrev pub DemoIsTheOnlyOne : Type 0
DemoIsTheOnlyOne =
    (count seed : ℕ) (c d : Catalogue) → IsDemoCatalogue count seed c → IsDemoCatalogue count seed d → c ≡ d

-- at most 2^22 rows are a catalogue that the engine accepts: in ascending order of id, each row within the limits
abbrev pub DemoIsACatalogue : Type 0
DemoIsACatalogue = (count seed : ℕ) (c : Catalogue) → count ≤ ROWS_MOST → IsDemoCatalogue count seed c → IsCatalogue c
