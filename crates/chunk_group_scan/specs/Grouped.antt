-- Which aggregates a grouped query can compute of its rows.
use Rattle.std.specs.Prelude.{ℕ, Bool, true, false}
use Rattle.value_rules.specs.Sound.{has_col, is_sound_expr}
use Rattle.answer_rules.specs.declared.rewritten.ChunkItem.{ChunkItem}
use Rattle.answer_rules.specs.declared.rewritten.ChunkItem.TheVariants.{Plain, Count, CountOf, Sum, Min, Max}

-- the aggregate is over columns of the table; a plain item is computed from the key alone
abbrev pub is_sound_total : ℕ → ChunkItem → Bool
is_sound_total columns (Plain e) = true
is_sound_total columns Count = true
is_sound_total columns (CountOf e) = is_sound_expr (has_col columns false) e
is_sound_total columns (Sum e) = is_sound_expr (has_col columns false) e
is_sound_total columns (Min e) = is_sound_expr (has_col columns false) e
is_sound_total columns (Max e) = is_sound_expr (has_col columns false) e
