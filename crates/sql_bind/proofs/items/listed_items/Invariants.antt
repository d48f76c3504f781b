use Rattle.std.proofs.Common.{◌≡◌, ◌∷◌, ◌++◌, map, drop}
use Rattle.sql_bind.specs.Layers.{item_in}
use Rattle.sql_bind.proofs.items.listed_items.Given as goal

abbrev pub invariant-loop-item : goal.invariant-loop-item
invariant-loop-item g l = map (item_in (g.C.Columns.means l.columns)) (l.list.first ∷ l.list.rest) ≡ l.found ++ map (item_in (g.C.Columns.means l.columns)) (drop l.item-index l.list.rest)
