-- What may be evaluated on some rows.
use Rattle.std.specs.Prelude.{◌+◌, false, IsTrue}
use Rattle.table_rules.specs.declared.limits.TheConstants.{FIRST_COLUMNS}
use Rattle.column_block.specs.Blocks.{Stored}
use Rattle.value_rules.specs.Formulas.{Formula}
use Rattle.value_rules.specs.Sound.{has_col, is_sound_at, is_sound_formula}
use Rattle.value_rules.specs.Terms.{Term}

-- the columns of the term are among those of the rows, and no number that it computes is too large
abbrev pub IsSoundFor : Stored → Term → Type 0
IsSoundFor rows t = IsTrue (is_sound_at (has_col (FIRST_COLUMNS + rows.width) false) t)

-- each term of the formula is well-formed in this sense, and its areas are well-formed
abbrev pub IsSoundTest : Stored → Formula → Type 0
IsSoundTest rows f = IsTrue (is_sound_formula (has_col (FIRST_COLUMNS + rows.width) false) f)
