use Rattle.std.proofs.Common.{◌≡◌, ℕ, ◌++◌, ◌∷◌, [], Option, length, map, ap, arith, subst, sym}
use Rattle.std.specs.Prelude.{IfSome}
use Rattle.answer_rules.specs.Keeps.{KeepsFirst}
use Rattle.answer_rules.specs.Ranks.{row_order}
use Rattle.partial_rows.specs.Multisets.{IsTooLate, out_row, pushed_in, ranks_in, rows_in}
use Rattle.partial_rows.specs.Pairs.{pair_row, pairs_in}
use Rattle.partial_rows.specs.Views.{MultisetView}
use Rattle.partial_rows.specs.declared.ranked.Ranked.{Ranked}
use Rattle.partial_rows.proofs.Pairs.{row_few, row_kept}
use Rattle.partial_rows.proofs.Putting.{too_late}
use Rattle.partial_rows.proofs.multiset.Multiset.push_row.Goals as goal

pub returns-then-is_too_late-clause-kept : goal.returns-then-is_too_late-clause-kept
returns-then-is_too_late-clause-kept c =
    subst (λ (v : MultisetView). KeepsFirst row_order v.pushed (v.rows ++ out_row c.args.rank.now c.args.values.now ∷ []) v.rows) c.self.view_is
    (row_kept (pushed_in c.self.inside.buffer) (rows_in c.self.inside.cells.items c.self.inside.buffer) (rows_in c.self.inside.cells.items c.self.inside.buffer) (map pair_row (pairs_in c.self.inside.pairs)) (out_row c.args.rank.now c.args.values.now)
    (too_late c.self.inside.cells.items c.args.values.now c.args.rank.now c.self.inside.buffer (subst (λ (r : Ranked). IsTooLate r c.self.inside.buffer) c.at.ensures c.if-is_too_late.ensures.late)))

pub returns-clause-kept : goal.returns-clause-kept
returns-clause-kept c =
    subst (λ (v : MultisetView). KeepsFirst row_order v.pushed (v.rows ++ out_row c.args.rank.now c.args.values.now ∷ []) (rows_in c.put_and_vacuum.new.cells.items c.put_and_vacuum.new.buffer ++ map pair_row (pairs_in c.self.inside.pairs))) c.self.view_is
    (row_kept (pushed_in c.self.inside.buffer) (rows_in c.self.inside.cells.items c.self.inside.buffer) (rows_in c.put_and_vacuum.new.cells.items c.put_and_vacuum.new.buffer) (map pair_row (pairs_in c.self.inside.pairs)) (out_row c.args.rank.now c.args.values.now) c.in_ok-self-inside.ensures.kept)

pub invariant_of-self-2 : goal.invariant_of-self-2
invariant_of-self-2 c =
    let many : c.row_count.result ≡ length (rows_in c.self.inside.cells.items c.self.inside.buffer ++ map pair_row (pairs_in c.self.inside.pairs)) = omega (arith, c.row_count.ensures.held, ap (λ (v : MultisetView). length v.rows) c.self.view_is) in
    record {
      kept = c.put_and_vacuum.ensures.mine;
      all = subst (λ (l : Option ℕ). IfSome l (λ n. (pairs_in c.self.inside.pairs) ≡ [])) (sym c.put_and_vacuum.ensures.pushed) c.self.invariant.all;
      few = row_few c.self.inside.cells.items c.put_and_vacuum.new.cells.items (pushed_in c.self.inside.buffer) (ranks_in c.self.inside.buffer) (ranks_in c.put_and_vacuum.new.buffer) (pairs_in c.self.inside.pairs) (out_row c.args.rank.now c.args.values.now) c.row_count.result many c.in_ok-count_more.ensures c.in_ok-self-inside.ensures.kept;
    }
