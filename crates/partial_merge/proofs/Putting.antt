-- A row that is none of the first n leaves a piece as it is.
use Rattle.std.proofs.Common.{ℤ, Bool, true, false, List, [], ◌∷◌, ◌++◌, Option, refl}
use Rattle.std.specs.Bool.{OnTrue}
use Rattle.answer_rules.specs.Keeps.{KeepsFirst}
use Rattle.answer_rules.specs.Pieces.{OfRows}
use Rattle.answer_rules.specs.Ranks.{row_order}
use Rattle.partial_rows.specs.Multisets.{out_row}
use Rattle.partial_rows.specs.declared.rank.Rank.{Rank}
use Rattle.partial_merge.specs.Joining.{IsNoneOfFirst}
use Rattle.partial_rows.specs.Views.{MultisetView}

-- and the multiset may stay as it is
pub none_of_first : (multiset : MultisetView) (rank : Rank) (late : Bool)
    → OnTrue late ((values : List (Option ℤ)) → KeepsFirst row_order multiset.pushed (multiset.rows ++ out_row rank values ∷ []) multiset.rows)
    → OnTrue late (IsNoneOfFirst (OfRows multiset.pushed multiset.rows) rank)
none_of_first multiset rank true h = λ values. (refl, h values)
none_of_first multiset rank false h = tt
