-- What a piece contains, by its fields.
use Rattle.std.specs.Prelude.{◌≡◌, ◌++◌, List, []}
use Rattle.answer_rules.specs.declared.row.OutRow.{OutRow}
use Rattle.answer_rules.specs.Gather.{gather}
use Rattle.answer_rules.specs.Keeps.{KeepsFirst}
use Rattle.answer_rules.specs.Keys.{key_order}
use Rattle.answer_rules.specs.Parts.{add_own_sums}
use Rattle.answer_rules.specs.Pieces.{PieceView, OfRows, OfGroups}
use Rattle.answer_rules.specs.Ranks.{row_order}
use Rattle.partial_merge.specs.declared.contents.Contents.{Contents}
use Rattle.partial_merge.specs.declared.contents.Contents.TheVariants as contents
use Rattle.partial_groups.specs.Groups.{MayGather}

-- what callers see
abbrev pub view_in : Contents → PieceView
view_in (contents.Rows multiset) = OfRows multiset.pushed multiset.rows
view_in (contents.Groups grouped_rows) = OfGroups grouped_rows

-- both hold rows with the same limit, or groups with the same combine functions
abbrev pub MayCombine : Contents → Contents → Type 0
MayCombine (contents.Rows mine) (contents.Rows theirs) = theirs.pushed ≡ mine.pushed
MayCombine (contents.Rows mine) (contents.Groups theirs) = ⊥
MayCombine (contents.Groups mine) (contents.Rows theirs) = ⊥
MayCombine (contents.Groups mine) (contents.Groups theirs) = MayGather mine theirs

-- of rows the first of both are kept, and groups with the same key are added up
abbrev pub IsCombined : Contents → Contents → Contents → Type 0
IsCombined (contents.Rows mine) (contents.Rows theirs) (contents.Rows new) =
    (new.pushed ≡ mine.pushed) × KeepsFirst row_order mine.pushed (mine.rows ++ theirs.rows) new.rows
IsCombined (contents.Groups mine) (contents.Groups theirs) (contents.Groups new) =
    new ≡ gather key_order add_own_sums (mine ++ theirs)
IsCombined mine theirs new = ⊥

-- the rows of a piece, or none if it is of groups
abbrev pub rows_of : PieceView → List OutRow
rows_of (OfRows pushed rows) = rows
rows_of (OfGroups parts) = []
