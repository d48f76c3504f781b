use Rattle.std.proofs.Common.{◌≡◌, ◌++◌, drop, map, get_or, None}
use Rattle.column_lists.proofs.further.columns_at.Given as goal

abbrev pub invariant-loop-column : goal.invariant-loop-column
invariant-loop-column l =
    l.found.items ++ map (λ column. map (λ place. get_or column place None) l.places) (drop l.column-index l.fn.columns)
    ≡ map (λ column. map (λ place. get_or column place None) l.places) l.fn.columns
