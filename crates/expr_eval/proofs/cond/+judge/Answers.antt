use Rattle.std.proofs.Common.{arith}
use Rattle.expr_eval.specs.Picks.{pick_of}
use Rattle.expr_eval.proofs.Sizes.{condition_depth, conjunction_depth}
use Rattle.expr_eval.proofs.Formulas.{all_decided, all_step, any_decided, any_step, condition_test, first_condition}
use Rattle.expr_eval.proofs.Formulas.{first_conjunction, next_condition, next_conjunction}
use Rattle.sql_bound.specs.declared.cond.BoundAll.{size_is-BoundAll}
use Rattle.sql_bound.specs.declared.cond.BoundAny.{size_is-BoundAny}
use Rattle.sql_bound.specs.declared.cond.BoundCond.{size_is-BoundCond}
use Rattle.value_rules.specs.Formulas.{formula_of_all, formula_of_any}
use Rattle.expr_eval.proofs.cond.+judge.Goals as goal

pub any-all-found-requires : goal.any-all-found-requires
any-all-found-requires t c = (
  omega (arith, size_is-BoundAny c.args.a.now, c.decreases),
  (c.requires.rows, first_conjunction (pick_of c.args.first.now c.args.second) c.args.a.now c.requires.sound),
)

pub any-all-part-requires : goal.any-all-part-requires
any-all-part-requires t c =
    let p = pick_of c.args.first.now c.args.second in
    let xs = c.as_slice-rest.result.now in
    let low = conjunction_depth c.args.a.now xs c.loop-next.next-index c.next-item.result c.loop-next-test.true
    c.next-item.is c.as_slice-rest.ensures in (
      omega (arith, low, c.decreases),
      (
        c.requires.rows,
        next_conjunction p c.loop-next.found c.args.a.now xs c.loop-next.next-index c.next-item.result
            c.loop-next-test.true c.next-item.is c.loop-next.invariant c.requires.sound,
      ),
    )

pub any-loop-next-preserved : goal.any-loop-next-preserved
any-loop-next-preserved t c =
    any_step (pick_of c.args.first.now c.args.second) c.loop-next.found c.all-part.result c.either-found.result
    c.args.a.now c.as_slice-rest.result.now c.loop-next.next-index c.next-item.result
    c.loop-next-test.true c.next-item.is c.loop-next.invariant c.all-part.ensures c.either-found.ensures

pub all-one-found-requires : goal.all-one-found-requires
all-one-found-requires t c = (
  omega (arith, size_is-BoundAll c.args.a.now, c.decreases),
  (c.requires.rows, first_condition (pick_of c.args.first.now c.args.second) c.args.a.now c.requires.sound),
)

pub all-one-part-requires : goal.all-one-part-requires
all-one-part-requires t c =
    let p = pick_of c.args.first.now c.args.second in
    let xs = c.as_slice-rest.result.now in
    let low = condition_depth c.args.a.now xs c.loop-next.next-index c.next-item.result c.loop-next-test.true
    c.next-item.is c.as_slice-rest.ensures in (
      omega (arith, low, c.decreases),
      (
        c.requires.rows,
        next_condition p c.loop-next.found c.args.a.now xs c.loop-next.next-index c.next-item.result
            c.loop-next-test.true c.next-item.is c.loop-next.invariant c.requires.sound,
      ),
    )

pub all-loop-next-preserved : goal.all-loop-next-preserved
all-loop-next-preserved t c =
    all_step (pick_of c.args.first.now c.args.second) c.loop-next.found c.one-part.result c.both-found.result
    c.args.a.now c.as_slice-rest.result.now c.loop-next.next-index c.next-item.result
    c.loop-next-test.true c.next-item.is c.loop-next.invariant c.one-part.ensures c.both-found.ensures

pub one-test-found-requires : goal.one-test-found-requires
one-test-found-requires t c = (
  omega (arith, size_is-BoundCond c.args.c.now, c.decreases),
  (c.requires.rows, condition_test (pick_of c.args.first.now c.args.second) c.args.c.now c.requires.sound),
)

pub any-returns-then-is : goal.any-returns-then-is
any-returns-then-is t c =
    any_decided (pick_of c.args.first.now c.args.second) c.loop-next.found _ (formula_of_any c.args.a.now)
    c.loop-next.invariant (c.is.ensures.0 c.if-is.true)

pub all-returns-then-is : goal.all-returns-then-is
all-returns-then-is t c =
    all_decided (pick_of c.args.first.now c.args.second) c.loop-next.found _ (formula_of_all c.args.a.now)
    c.loop-next.invariant (c.is.ensures.0 c.if-is.true)
