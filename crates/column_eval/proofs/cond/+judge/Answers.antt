use Rattle.std.proofs.Common.{◌+◌, arith, drop, map, false}
use Rattle.expr_eval.proofs.Sizes.{condition_depth, conjunction_depth}
use Rattle.sql_bound.specs.declared.cond.BoundAll.{size_is-BoundAll}
use Rattle.sql_bound.specs.declared.cond.BoundAny.{size_is-BoundAny}
use Rattle.value_rules.specs.Formulas.{formula_of, formula_of_all, formula_of_any}
use Rattle.value_rules.specs.Sound.{has_col}
use Rattle.column_eval.proofs.Judging.{all_goes, all_more, all_sound, any_goes, any_more, any_sound, first_condition, first_conjunction}
use Rattle.column_eval.proofs.cond.+judge.Goals as goal

pub all-one-requires : goal.all-one-requires
all-one-requires t c = (
  omega (arith, size_is-BoundAll c.args.a.now, c.decreases),
  (c.requires.rows, first_condition (has_col (4 + c.args.rows.now.width) false) c.args.a.now c.requires.sound),
)

pub all-one-requires-in-loop-next : goal.all-one-requires-in-loop-next
all-one-requires-in-loop-next t c =
    let xs = c.as_slice-rest.result.now in
    let low = condition_depth c.args.a.now xs c.loop-next.next-index c.next-item.result c.loop-next-test.true
    c.next-item.is c.as_slice-rest.ensures in (
      omega (arith, low, c.decreases),
      (
        c.requires.rows,
        all_sound (has_col (4 + c.args.rows.now.width) false) c.args.rows.now.objects c.loop-next.found (formula_of c.next-item.result)
            (map formula_of (drop (c.loop-next.next-index + 1) xs)) (formula_of_all c.args.a.now)
            (all_goes c.args.rows.now.objects c.loop-next.found c.args.a.now xs c.loop-next.next-index c.next-item.result
            c.loop-next-test.true c.next-item.is c.loop-next.invariant)
            c.requires.sound,
      ),
    )

pub all-loop-next-preserved : goal.all-loop-next-preserved
all-loop-next-preserved t c =
    let xs = c.as_slice-rest.result.now in
    all_more c.args.rows.now.objects c.loop-next.found c.in_ok-part.part c.joined_by_and-found.result (formula_of c.next-item.result)
    (map formula_of (drop (c.loop-next.next-index + 1) xs)) (formula_of_all c.args.a.now)
    (all_goes c.args.rows.now.objects c.loop-next.found c.args.a.now xs c.loop-next.next-index c.next-item.result
    c.loop-next-test.true c.next-item.is c.loop-next.invariant)
    c.in_ok-part.ensures c.joined_by_and-found.ensures

pub any-all-requires : goal.any-all-requires
any-all-requires t c = (
  omega (arith, size_is-BoundAny c.args.a.now, c.decreases),
  (c.requires.rows, first_conjunction (has_col (4 + c.args.rows.now.width) false) c.args.a.now c.requires.sound),
)

pub any-all-requires-in-loop-next : goal.any-all-requires-in-loop-next
any-all-requires-in-loop-next t c =
    let xs = c.as_slice-rest.result.now in
    let low = conjunction_depth c.args.a.now xs c.loop-next.next-index c.next-item.result c.loop-next-test.true
    c.next-item.is c.as_slice-rest.ensures in (
      omega (arith, low, c.decreases),
      (
        c.requires.rows,
        any_sound (has_col (4 + c.args.rows.now.width) false) c.args.rows.now.objects c.loop-next.found (formula_of_all c.next-item.result)
            (map formula_of_all (drop (c.loop-next.next-index + 1) xs)) (formula_of_any c.args.a.now)
            (any_goes c.args.rows.now.objects c.loop-next.found c.args.a.now xs c.loop-next.next-index c.next-item.result
            c.loop-next-test.true c.next-item.is c.loop-next.invariant)
            c.requires.sound,
      ),
    )

pub any-loop-next-preserved : goal.any-loop-next-preserved
any-loop-next-preserved t c =
    let xs = c.as_slice-rest.result.now in
    any_more c.args.rows.now.objects c.loop-next.found c.in_ok-part.part c.joined_by_or-found.result (formula_of_all c.next-item.result)
    (map formula_of_all (drop (c.loop-next.next-index + 1) xs)) (formula_of_any c.args.a.now)
    (any_goes c.args.rows.now.objects c.loop-next.found c.args.a.now xs c.loop-next.next-index c.next-item.result
    c.loop-next-test.true c.next-item.is c.loop-next.invariant)
    c.in_ok-part.ensures c.joined_by_or-found.ensures
