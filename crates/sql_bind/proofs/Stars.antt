-- The columns of a table, one after the other.
use Rattle.std.proofs.Common.{◌≡◌, ℕ, ◌+◌, ◌<◌, ◌≤◌, Bool, List, [], ◌∷◌, ◌++◌, length, drop, sym, ap, ◌∙◌, append_assoc, append-nil}
use Rattle.std.proofs.lemmas.List.{drop_all}
use Rattle.sql_bound.specs.declared.query.BoundItem.{BoundItem}
use Rattle.sql_bound.specs.declared.query.BoundItem.TheVariants as item
use Rattle.bind_rules.specs.Binding.{columns_from, just_column}
use Rattle.query_walks.proofs.Loops.{drop_there}

columns_there : (second : Bool) (at : ℕ) (names : List (List ℕ)) → at < length names → columns_from second at (drop at names) ≡ item.Plain (just_column second at) ∷ columns_from second (at + 1) (drop (at + 1) names)
columns_there second at names low = ap (columns_from second at) (drop_there names at [] low)

-- one more column
pub columns_more : (second : Bool) (at : ℕ) (names : List (List ℕ)) (whole done : List BoundItem) → at < length names → whole ≡ done ++ columns_from second at (drop at names) → whole ≡ (done ++ (item.Plain (just_column second at) ∷ [])) ++ columns_from second (at + 1) (drop (at + 1) names)
columns_more second at names whole done low h =
    h ∙ ap (λ t. done ++ t) (columns_there second at names low)
    ∙ sym (append_assoc done (item.Plain (just_column second at) ∷ []) (columns_from second (at + 1) (drop (at + 1) names)))

-- all columns
pub columns_end : (second : Bool) (at : ℕ) (names : List (List ℕ)) (whole done : List BoundItem) → length names ≤ at → whole ≡ done ++ columns_from second at (drop at names) → whole ≡ done
columns_end second at names whole done high h = h ∙ ap (λ t. done ++ columns_from second at t) (drop_all at names high) ∙ append-nil done
