-- Rows that are as wide as a row can be.
use Rattle.std.specs.Prelude.{◌≡◌, ℕ, ℤ, List, Option, None, get_or, length}
use Rattle.sky_vector.specs.Points.{Point}
use Rattle.table_rules.specs.Objects.{Obj}
use Rattle.table_rules.specs.declared.limits.TheConstants.{FURTHER_COLUMNS_MOST}
use Rattle.source_rules.specs.Sources.{Source}

-- As many values as a row can have: these, and NULL after them.
pub record AreWide (values wide : List (Option ℤ)) : Type 0 where
  pub long : length wide ≡ FURTHER_COLUMNS_MOST
  pub each : (k : ℕ) → get_or wide k None ≡ get_or values k None

-- The row with as many values as a row can have.
pub record IsWide (o wide : Obj) : Type 0 where
  pub id : wide.id ≡ o.id
  pub at : wide.at ≡ o.at
  pub further : AreWide o.further wide.further

-- a source as a row at this point, where its object is
abbrev pub row_at_point : Point → Source → Obj
row_at_point at s = record { id = s.id; at = at; further = s.further }
