-- Whole lines of a text, whose records do not depend on what follows them.
use Rattle.std.specs.Prelude.{◌≡◌, ◌≢◌, ℕ, ◌-◌, List, ◌++◌, length, get_or, All}
use Rattle.csv.specs.Reading.{default_config, records, strip_bom}

-- Whole lines without a double quote: the last byte is a line feed, so there is at least one line.
pub record AreLines (text : List ℕ) : Type 0 where
  pub unquoted : All (λ b. b ≢ 34) text
  pub ended : get_or text (length text - 1) 0 ≡ 10

-- the records of whole lines and of a text after them are those of the lines, followed by those of that text
abbrev pub LinesStandApart : Type 0
LinesStandApart =
    (lines rest : List ℕ) → AreLines lines
    → records default_config (lines ++ rest) ≡ records default_config lines ++ records default_config rest

-- whole lines and a text after them, without their byte order mark: the records of the lines, followed by those of the
-- text
abbrev pub FirstLinesStandApart : Type 0
FirstLinesStandApart =
    (lines rest : List ℕ) → AreLines lines
    → records default_config (strip_bom (lines ++ rest)) ≡ records default_config (strip_bom lines) ++ records default_config rest
