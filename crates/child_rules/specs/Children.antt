-- The answer of a query over a child table, defined over two flat lists, without chunks of sources.
use Rattle.std.specs.Prelude.{◌≡◌, ℕ, pos, Bool, ◌&&◌, List, map}
use Rattle.std.specs.List.{filter, flat_map}
use Rattle.std.specs.Ordering.{int_eq}
use Rattle.table_rules.specs.Objects.{Obj}
use Rattle.table_rules.specs.declared.limits.TheConstants.{COLUMNS_MOST}
use Rattle.sky_rules.specs.Partition.{Partition}
use Rattle.source_rules.specs.Sources.{Source}
use Rattle.sql_bound.specs.declared.cond.BoundCond.{BoundCond}
use Rattle.sql_bound.specs.declared.query.Bound.{Bound}
use Rattle.sql_bound.specs.declared.query.Shape.TheVariants.{Pairs}
use Rattle.value_rules.specs.Sound.{IsSound}
use Rattle.value_rules.specs.Tested.{IsTested}
use Rattle.value_rules.specs.Truth.{meets}
use Rattle.value_rules.specs.Values.{Pick, pair}
use Rattle.answer_rules.specs.declared.value.Value.{Value}
use Rattle.answer_rules.specs.Picks.{lies_in}
use Rattle.answer_rules.specs.Rows.{rows_answer}

-- A child query that can be run: it is over pairs, and no pair is left out by a distance. Its columns are among those of
-- the widest row. Its area tests and id tests, which are about the object, follow from its conditions.
pub record IsChild (q : Bound) : Type 0 where
  pub shape : q.shape ≡ Pairs (pos 0)
  pub sound : IsSound COLUMNS_MOST q
  pub tested : IsTested q

-- the source as the second row of a pair: it has the position of its object
abbrev pub as_row : Obj → Source → Obj
as_row o s = record { id = s.id; at = o.at; further = s.further }

-- the source is a measurement of the object
abbrev pub is_source_of : Obj → Source → Bool
is_source_of o s = int_eq s.object o.id

-- the object with a source
abbrev pub child_pair : Obj → Source → Pick
child_pair o s = pair o (as_row o s)

-- the object with each of its sources
abbrev pub source_pairs : List Source → Obj → List Pick
source_pairs sources o = map (child_pair o) (filter (is_source_of o) sources)

-- the pairs that a child query inspects: each object with each of its sources
abbrev pub child_picks : List Obj → List Source → List Pick
child_picks table sources = flat_map (source_pairs sources) table

-- those that meet the conditions and whose object is in one of the chunks
abbrev pub child_found : Partition → List Obj → List Source → List BoundCond → List ℕ → List Pick
child_found g table sources conds chunks =
    filter (λ p. meets conds p && lies_in g chunks p.first.at) (child_picks table sources)

-- the answer of a child query for the objects in these chunks: the order is the order key, then objectId, then sourceId
abbrev pub child_answer_in : Partition → List Obj → List Source → Bound → List ℕ → List (List Value)
child_answer_in g table sources q chunks = rows_answer q (child_found g table sources q.conds chunks)

-- the answer of a child query over the two flat lists
abbrev pub child_answer : List Obj → List Source → Bound → List (List Value)
child_answer table sources q = rows_answer q (filter (meets q.conds) (child_picks table sources))
