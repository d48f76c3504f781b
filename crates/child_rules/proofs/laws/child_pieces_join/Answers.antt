use Rattle.child_rules.proofs.Joined.{child_piece_is_for_a_set, child_rows_are_apart, child_pieces_join, empty_child_piece}
use Rattle.child_rules.proofs.laws.child_pieces_join.Goals as goal

pub returns-clause-join : goal.returns-clause-join
returns-clause-join c = child_pieces_join

pub returns-clause-same : goal.returns-clause-same
returns-clause-same c = child_piece_is_for_a_set

pub returns-clause-empty : goal.returns-clause-empty
returns-clause-empty c = empty_child_piece

pub returns-clause-apart : goal.returns-clause-apart
returns-clause-apart c = child_rows_are_apart
