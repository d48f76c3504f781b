use Rattle.std.proofs.Common.{◌≡◌, ◌++◌, List, length}
use Rattle.std.specs.List.{AllZip}
use Rattle.std.specs.Iterator.Adapters.{zip_first, zip_second}
use Rattle.std.specs.Vec.Iter.{into_iter_items, into_iter_len}
use Rattle.query_ends.specs.Ended.{AreEnded, MayEnd}
use Rattle.query_ends.specs.declared.end.End.{End}
use Rattle.query_ends.proofs.finish.all_query_ends.Given as goal

-- the ends so far, with those of the queries that follow, are the ends of all
abbrev pub invariant-loop-plan : goal.invariant-loop-plan
invariant-loop-plan g l = record {
  next : (goal.iterator-loop-plan g).can_next l.plan-iterator;
  finite : (goal.iterator-loop-plan g).is_finite l.plan-iterator;
  plans_len : into_iter_len (zip_first l.plan-iterator) ≡ length (into_iter_items (zip_first l.plan-iterator));
  ends_len : into_iter_len (zip_second l.plan-iterator) ≡ length (into_iter_items (zip_second l.plan-iterator));
  may : AllZip (MayEnd g.F.QueryForm.may_answer) (into_iter_items (zip_first l.plan-iterator)) (into_iter_items (zip_second l.plan-iterator));
  ended : (more : List End)
      → AreEnded g.F.QueryForm.answers (into_iter_items (zip_first l.plan-iterator)) (into_iter_items (zip_second l.plan-iterator)) more
      → AreEnded g.F.QueryForm.answers (into_iter_items (zip_first l.initial.plan-iterator)) (into_iter_items (zip_second l.initial.plan-iterator))
      (l.query_ends.items ++ more);
}
