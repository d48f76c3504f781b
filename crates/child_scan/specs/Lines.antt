-- Rows of an answer with other values.
use Rattle.std.specs.Prelude.{ℤ, List, Option}
use Rattle.answer_rules.specs.declared.row.OutRow.{OutRow}

-- the row with these values in place of its own
abbrev pub with_cells : List (Option ℤ) → OutRow → OutRow
with_cells cells r = record { class = r.class; value = r.value; first = r.first; second = r.second; cells = cells }
