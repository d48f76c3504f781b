use Rattle.std.proofs.Common.{refl}
use Rattle.column_lists.proofs.Filling.{begun_aligned}
use Rattle.column_lists.proofs.Gathering.{any_err, begun, begun_before, front_self}
use Rattle.column_lists.proofs.lists.Lists.fill.Goals as goal

pub returns-in_err-fill_list-clause-err : goal.returns-in_err-fill_list-clause-err
returns-in_err-fill_list-clause-err c =
    begun_before c.from_residual.result _ _ _ c.self.view_is (begun_aligned _ _ _ c.requires.begun) c.fill_list.ensures.front (front_self _) (front_self _) (front_self _) refl

pub returns-in_err-fill_list-2-clause-err : goal.returns-in_err-fill_list-2-clause-err
returns-in_err-fill_list-2-clause-err c =
    begun_before c.from_residual-in_err-fill_list-2.result _ _ _ c.self.view_is (begun_aligned _ _ _ c.requires.begun) c.fill_list.ensures.front c.fill_list-2.ensures.front (front_self _) (front_self _) refl

pub returns-in_err-fill_list-3-clause-err : goal.returns-in_err-fill_list-3-clause-err
returns-in_err-fill_list-3-clause-err c =
    begun_before c.from_residual-in_err-fill_list-3.result _ _ _ c.self.view_is (begun_aligned _ _ _ c.requires.begun) c.fill_list.ensures.front c.fill_list-2.ensures.front c.fill_list-3.ensures.front (front_self _) refl

pub returns-in_err-fill_list-4-clause-err : goal.returns-in_err-fill_list-4-clause-err
returns-in_err-fill_list-4-clause-err c =
    begun_before c.from_residual-in_err-fill_list-4.result _ _ _ c.self.view_is (begun_aligned _ _ _ c.requires.begun) c.fill_list.ensures.front c.fill_list-2.ensures.front c.fill_list-3.ensures.front c.fill_list-4.ensures.front refl

pub returns-clause-err : goal.returns-clause-err
returns-clause-err c =
    begun c.fill_columns.result _ _ _ c.self.view_is (begun_aligned _ _ _ c.requires.begun) c.fill_list.ensures.front c.fill_list-2.ensures.front c.fill_list-3.ensures.front c.fill_list-4.ensures.front
    c.fill_columns.ensures.wide (any_err c.fill_columns.result _ c.fill_columns.ensures.front)
