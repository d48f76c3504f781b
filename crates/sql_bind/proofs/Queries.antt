-- The bound query of a query over the object table.
use Rattle.std.proofs.Common.{◌≡◌, ℕ, List, ap, ◌∙◌}
use Rattle.sql_bound.specs.declared.query.Bound.{Bound}
use Rattle.sql_bound.specs.declared.query.BoundItem.{BoundItem}
use Rattle.sql_bound.specs.declared.query.Shape.{Shape}
use Rattle.sql_tree.specs.declared.query.Query.{Query}
use Rattle.bind_rules.specs.Binding.{bound_items, bound_query, bound_shape, query_by}
use Rattle.bind_rules.specs.Bounds.{object_columns}
use Rattle.bind_rules.specs.IdTests.{first_id}
use Rattle.sql_bind.specs.Scopes.{scope_of}

-- the bound query of its shape and its items
pub whole_query : (names : List (List ℕ)) (q : Query) (kind : Shape) (items : List BoundItem) (b : Bound)
    → kind ≡ bound_shape (scope_of names q) q → items ≡ bound_items (scope_of names q) q q.items
    → b ≡ query_by (object_columns names q) (first_id (object_columns names q)) q kind items
    → b ≡ bound_query (scope_of names q) q
unfolding bound_query
whole_query names q kind items b shaped listed all =
    all
    ∙ ap (λ k. query_by (object_columns names q) (first_id (object_columns names q)) q k items) shaped
    ∙ ap (λ is. query_by (object_columns names q) (first_id (object_columns names q)) q (bound_shape (scope_of names q) q) is)
    listed
