-- The first column that is not known, as the first mention that is not known.
use Rattle.std.proofs.Common.{◌≡◌, ℕ, Bool, true, false, not, List, [], ◌∷◌, map, Option, None, Some, refl, cond}
use Rattle.std.specs.List.{find}
use Rattle.std.specs.Option.{option_map}
use Rattle.sql_tree.specs.declared.name.Col.{Col}
use Rattle.sql_tree.specs.Spans.{col_span}
use Rattle.sql_tree.specs.declared.query.Query.{Query}
use Rattle.bind_rules.specs.declared.fault.BindFault.TheVariants as fault
use Rattle.bind_rules.specs.Mentions.{Mention, Column, mentions_of}
use Rattle.bind_rules.specs.Names.{Known, is_unknown, span_of, unknown_by}
use Rattle.query_walks.specs.Firsts.{first_place}
use Rattle.bind_checks.specs.Unknowns.{unknown_at}

-- of a column, by whether it is sought
as_step : (c : Col) (cols : Option Col) (ms : Option Mention) (b : Bool)
    → option_map col_span cols ≡ option_map span_of ms
    → option_map col_span (cond b (Some c) cols) ≡ option_map span_of (cond b (Some (Column c)) ms)
as_step c cols ms true later = refl
as_step c cols ms false later = later

-- the first of the columns that is not known is the first of them as mentions
pub as_mentions : (known : Known) (cs : List Col)
    → first_place col_span (λ c. not (known.column c)) cs ≡ first_place span_of (is_unknown known) (map Column cs)
unfolding first_place
as_mentions known [] = refl
as_mentions known (c ∷ cs) =
    as_step c (find (λ d. not (known.column d)) cs) (find (is_unknown known) (map Column cs)) (not (known.column c))
    (as_mentions known cs)

-- one map behind another is a map
map_twice : {A B C : Type 0} (f : A → B) (g : B → C) (o : Option A)
    → option_map g (option_map f o) ≡ option_map (λ x. g (f x)) o
map_twice f g None = refl
map_twice f g (Some x) = refl

-- the place of the first mention that is not known, as the fault
pub as_unknown_name : (known : Known) (q : Query)
    → option_map (λ span. fault.UnknownName span) (unknown_at known (mentions_of q)) ≡ unknown_by known q
unfolding unknown_by first_place
as_unknown_name known q =
    map_twice span_of (λ span. fault.UnknownName span) (find (is_unknown known) (mentions_of q))
