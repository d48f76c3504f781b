-- What a query over objects and their sources is bound to can be run, and its conditions say what its WHERE says.
use Rattle.std.proofs.Common.{◌≡◌, pos, refl, subst}
use Rattle.sql_bound.specs.declared.query.Shape.TheVariants as shape
use Rattle.sql_tree.specs.declared.query.Query.{Query}
use Rattle.value_rules.specs.Truth.{meets}
use Rattle.value_rules.specs.Values.{Pick}
use Rattle.bind_rules.specs.Laws.{HasCounts}
use Rattle.bind_rules.specs.Truths.{where_holds}
use Rattle.bind_rules.proofs.BoundWhere.{where_without_chords}
use Rattle.bind_rules.proofs.Tested.{query_is_tested}
use Rattle.child_rules.specs.Children.{IsChild}
use Rattle.child_bind_rules.specs.ChildBinding.{child_items, child_query}
use Rattle.child_bind_rules.specs.ChildLaws.{AreWithinLimits, BoundIsChild, ChildWhereHoldsAsBound}
use Rattle.child_bind_rules.specs.JoinCondition.{is_id_of}
use Rattle.child_bind_rules.specs.PairColumns.{Schemas, pair_columns}
use Rattle.child_bind_rules.proofs.ChildFaultless.{Faultless, binds, formed}
use Rattle.child_bind_rules.proofs.PairCols.{id_is_first}
use Rattle.child_bind_rules.proofs.ChildSoundness.{query_is_sound}

query_is_child : (s : Schemas) (q : Query) → AreWithinLimits s → Faultless s q → HasCounts q → IsChild (child_query s q)
unfolding child_query
query_is_child s q few f h = record {
  shape = refl;
  sound = query_is_sound s q few f h;
  tested = query_is_tested (pair_columns s q) (is_id_of q.first.alias) (id_is_first s q (formed s q f).first) q (shape.Pairs (pos 0)) (child_items (pair_columns s q) q);
}

pub bound_is_child : BoundIsChild
bound_is_child s q b few h e =
    let two = binds s q b e in subst IsChild two.1 (query_is_child s q few two.0 h)

holds : (s : Schemas) (q : Query) (p : Pick) → Faultless s q → where_holds (pair_columns s q) p q.cond ≡ meets (child_query s q).conds p
unfolding child_query
holds s q p f = where_without_chords (pair_columns s q) q p f.area (formed s q f).chords

pub child_where_holds_as_bound : ChildWhereHoldsAsBound
child_where_holds_as_bound s q b p h =
    let two = binds s q b h in subst (λ x. where_holds (pair_columns s q) p q.cond ≡ meets x.conds p) two.1 (holds s q p two.0)
