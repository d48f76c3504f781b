use Rattle.std.proofs.Common.{◌≡◌, ◌∷◌, ◌++◌, [], map, get_or, None, rules, List, Option, ℤ}
use Rattle.column_lists.proofs.Gathering.{turned_more}
use Rattle.column_lists.proofs.further.columns_at.Goals as goal

pub loop-column-preserved : goal.loop-column-preserved
loop-column-preserved c =
    let f : List (Option ℤ) → List (Option ℤ) = λ column. map (λ place. get_or column place None) c.args.places.now in
    let more : c.push.new.self.items ≡ c.loop-column.found.items ++ f c.column-item.result ∷ [] = search rules in
    turned_more f c.loop-column.found.items c.push.new.self.items (map f c.args.columns.now) c.args.columns.now c.loop-column.column-index c.column-item.result (search rules) c.column-item.is more c.loop-column.invariant
