use Rattle.std.proofs.Common.{◌≡◌, ◌<◌, ℕ, [], length, get_or, rules, subst}
use Rattle.std.proofs.lemmas.List.{get_or_read}
use Rattle.column_lists.specs.Columns.{IsFront}
use Rattle.column_lists.proofs.Gathering.{fronts, any_err}
use Rattle.column_lists.proofs.further.push_cells.Goals as goal

pub returns-in_err-push_cell-clause-err : goal.returns-in_err-push_cell-clause-err
returns-in_err-push_cell-clause-err c =
    let there : c.loop-k.k < length c.loop-k.columns.items = search rules in
    let same : c.index_mut.result.now ≡ get_or c.loop-k.columns.items c.loop-k.k [] = get_or_read c.loop-k.columns.items c.loop-k.k _ there c.index_mut.ensures.value [] in
    let own : IsFront (get_or c.loop-k.columns.items c.loop-k.k []) c.push_cell.new.column = subst (λ l. IsFront l c.push_cell.new.column) same c.push_cell.ensures.front in
    any_err c.from_residual.result _
    (λ k low. fronts c.args.columns.now.items c.loop-k.columns.items c.args.row.now.further c.loop-k.k k c.push_cell.new.column there c.loop-k.invariant.put c.loop-k.invariant.rest own)
