-- What stands in a list of the first values of keys.
use Rattle.std.proofs.Common.{◌≡◌, ℕ, ◌<◌, ℤ, List, [], ◌∷◌, get_or, length, None, Option, ap, ◌∙◌, arith}
use Rattle.std.proofs.lemmas.List.{get_or-map, length-map}
use Rattle.table_rules.specs.Objects.{Obj}
use Rattle.sky_row.specs.Columns.{no_row, objects_at}
use Rattle.sql_bound.specs.declared.expr.BoundCol.{BoundCol}
use Rattle.value_rules.specs.Values.{cell_of, row}
use Rattle.chunk_group_scan.specs.Prefetched.{IsPrefetched, first_keys}

pub full_prefetched : (keys : List BoundCol) (objects : List Obj) (copied : List (Option ℤ)) → copied ≡ first_keys keys objects → IsPrefetched keys objects copied
full_prefetched keys objects copied is = λ j below. ap (λ l. get_or l j None) is

pub none_prefetched : (keys : List BoundCol) (objects : List Obj) (copied : List (Option ℤ)) → copied ≡ [] → IsPrefetched keys objects copied
none_prefetched keys objects copied is = λ j below. absurd (omega (arith, below, ap length is))

pub first_key_at : (keys : List BoundCol) (objects : List Obj) (places : List ℕ) (j : ℕ) (k : BoundCol) → 0 < length keys → j < length places
    → get_or (first_keys keys (objects_at objects places)) j None ≡ cell_of (row (get_or objects (get_or places j 0) no_row)) (get_or keys 0 k)
first_key_at [] objects places j k some below = absurd (omega (arith, some))
first_key_at (k ∷ keys) objects places j d some below =
    get_or-map (λ o. cell_of (row o) k) (objects_at objects places) j no_row None (omega (arith, below, length-map places (λ place. get_or objects place no_row)))
    ∙ ap (λ o. cell_of (row o) k) (get_or-map (λ place. get_or objects place no_row) places j 0 no_row below)
