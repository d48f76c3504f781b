use Rattle.std.proofs.Common.{◌≡◌, ℕ, ◌++◌, ◌∷◌, [], Option, None, length, map, ap, arith, subst, sym, ◌∙◌}
use Rattle.std.specs.Prelude.{IfSome}
use Rattle.answer_rules.specs.Keeps.{KeepsFirst}
use Rattle.answer_rules.specs.Ranks.{row_order}
use Rattle.partial_rows.specs.Multisets.{pushed_in, ranks_in, rows_in}
use Rattle.partial_rows.specs.Pairs.{pair_row, pairs_in}
use Rattle.partial_rows.specs.Views.{MultisetView}
use Rattle.partial_rows.proofs.Pairs.{pair_few, pair_kept}
use Rattle.partial_rows.proofs.multiset.Multiset.push_pair.Goals as goal

pub returns-clause-kept : goal.returns-clause-kept
returns-clause-kept c =
    subst (λ (v : MultisetView). KeepsFirst row_order v.pushed (v.rows ++ pair_row c.args.pair ∷ []) (rows_in c.self.inside.cells.items c.self.inside.buffer ++ map pair_row (pairs_in c.push.new.self))) c.self.view_is
    (pair_kept (pushed_in c.self.inside.buffer) (rows_in c.self.inside.cells.items c.self.inside.buffer) (pairs_in c.self.inside.pairs) (pairs_in c.push.new.self) c.args.pair c.in_ok-push.ensures.put)

pub invariant_of-self-2 : goal.invariant_of-self-2
invariant_of-self-2 c =
    let many : c.row_count.result ≡ length (rows_in c.self.inside.cells.items c.self.inside.buffer ++ map pair_row (pairs_in c.self.inside.pairs)) = omega (arith, c.row_count.ensures.held, ap (λ (v : MultisetView). length v.rows) c.self.view_is) in
    let all : pushed_in c.self.inside.buffer ≡ None = ap (λ (v : MultisetView). v.pushed) c.self.view_is ∙ c.requires in
    record {
      kept = c.self.invariant.kept;
      all = subst (λ (l : Option ℕ). IfSome l (λ n. pairs_in c.push.new.self ≡ [])) (sym all) tt;
      few = pair_few c.self.inside.cells.items (ranks_in c.self.inside.buffer) (pairs_in c.self.inside.pairs) (pairs_in c.push.new.self) c.args.pair c.row_count.result many c.in_ok-count_more.ensures c.in_ok-push.ensures.put;
    }
