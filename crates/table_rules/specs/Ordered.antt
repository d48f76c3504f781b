-- The rows of the object table in ascending order of id.
use Rattle.std.specs.Prelude.{ℤ, Bool, List}
use Rattle.table_rules.specs.Objects.{Obj}
use Rattle.table_rules.specs.IdOrder.{HaveDistinctIds, has_this_id, in_id_order}

-- these rows in ascending order of id
abbrev pub by_id : List Obj → List Obj
by_id objects = in_id_order (λ o. o.id) objects

-- one of the rows has the id
abbrev pub has_id : List Obj → ℤ → Bool
has_id objects id = has_this_id (λ o. o.id) objects id

-- no two of the rows have the same id
abbrev pub AreApart : List Obj → Type 0
AreApart objects = HaveDistinctIds (λ o. o.id) objects
