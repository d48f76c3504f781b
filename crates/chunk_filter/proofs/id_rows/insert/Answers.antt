use Rattle.std.proofs.Common.{Err, nat_cmp, subst}
use Rattle.std.specs.List.Sorted.{IsBinarySearchResult}
use Rattle.chunk_filter.proofs.IdRows.{inserted_new}
use Rattle.chunk_filter.proofs.id_rows.insert.Goals as goal

pub returns-in_ok-insert-in-Err : goal.returns-in_ok-insert-in-Err
returns-in_ok-insert-in-Err c =
    inserted_new c.args.places.now.items c.insert.new.self.items c.args.row c.in-Err.at
    (subst (λ l. IsBinarySearchResult (λ y. nat_cmp y c.args.row) l (Err c.in-Err.at)) c.as_slice.ensures.value c.in-Err.ensures.position)
    c.in_ok-insert-in-Err.ensures.items
