use Rattle.std.proofs.Common.{◌≡◌, ℕ, ◌++◌, [], List, Option, length, map, ap, arith, subst, sym, ◌∙◌, IsPermutation}
use Rattle.std.specs.Prelude.{IfSome}
use Rattle.answer_rules.specs.Keeps.{KeepsFirst}
use Rattle.answer_rules.specs.Ranks.{row_order}
use Rattle.partial_rows.specs.Multisets.{pushed_in, ranks_in, rows_in}
use Rattle.partial_rows.specs.Pairs.{pair_row, pairs_in}
use Rattle.partial_rows.specs.Views.{MultisetView}
use Rattle.partial_rows.proofs.Pairs.{both_few, both_kept, none_joined}
use Rattle.partial_rows.proofs.multiset.Multiset.absorb.Goals as goal

-- the pairs of both
joined_pairs : (c : goal.After-join) → IsPermutation (pairs_in c.self.inside.pairs ++ pairs_in c.other.inside.pairs) (pairs_in c.join.new.self)
joined_pairs c = subst (λ (l : List ℕ). IsPermutation (l ++ pairs_in c.other.inside.pairs) (pairs_in c.join.new.self)) c.make_room.ensures.same c.join.ensures

pub returns-clause-joined : goal.returns-clause-joined
returns-clause-joined c =
    subst (λ (v : MultisetView). KeepsFirst row_order v.pushed (v.rows ++ c.args.other.rows) (rows_in c.join_and_vacuum.new.cells.items c.join_and_vacuum.new.buffer ++ map pair_row (pairs_in c.join.new.self))) c.self.view_is
    (subst (λ (v : MultisetView). KeepsFirst row_order (pushed_in c.self.inside.buffer) ((rows_in c.self.inside.cells.items c.self.inside.buffer ++ map pair_row (pairs_in c.self.inside.pairs)) ++ v.rows) (rows_in c.join_and_vacuum.new.cells.items c.join_and_vacuum.new.buffer ++ map pair_row (pairs_in c.join.new.self))) c.other.view_is
    (both_kept (pushed_in c.self.inside.buffer) (rows_in c.self.inside.cells.items c.self.inside.buffer) (rows_in c.other.inside.cells.items c.other.inside.buffer) (rows_in c.join_and_vacuum.new.cells.items c.join_and_vacuum.new.buffer) (pairs_in c.self.inside.pairs) (pairs_in c.other.inside.pairs) (pairs_in c.join.new.self) c.in_ok-self-inside.ensures.joined (joined_pairs c)))

pub invariant_of-self-2 : goal.invariant_of-self-2
invariant_of-self-2 c =
    let many : c.row_count.result ≡ length (rows_in c.self.inside.cells.items c.self.inside.buffer ++ map pair_row (pairs_in c.self.inside.pairs)) = omega (arith, c.row_count.ensures.held, ap (λ (v : MultisetView). length v.rows) c.self.view_is) in
    let that : c.row_count-2.result ≡ length (rows_in c.other.inside.cells.items c.other.inside.buffer ++ map pair_row (pairs_in c.other.inside.pairs)) = omega (arith, c.row_count-2.ensures.held, ap (λ (v : MultisetView). length v.rows) c.other.view_is) in
    let limits : pushed_in c.other.inside.buffer ≡ pushed_in c.self.inside.buffer = ap (λ (v : MultisetView). v.pushed) c.other.view_is ∙ c.requires.alike ∙ sym (ap (λ (v : MultisetView). v.pushed) c.self.view_is) in
    let none : IfSome (pushed_in c.self.inside.buffer) (λ n. pairs_in c.join.new.self ≡ []) =
    none_joined (pushed_in c.self.inside.buffer) (pairs_in c.self.inside.pairs) (pairs_in c.other.inside.pairs) (pairs_in c.join.new.self) c.self.invariant.all (subst (λ (l : Option ℕ). IfSome l (λ n. pairs_in c.other.inside.pairs ≡ [])) limits c.other.invariant.all) (joined_pairs c)
    in
    record {
      kept = c.join_and_vacuum.ensures.mine;
      all = subst (λ (l : Option ℕ). IfSome l (λ n. pairs_in c.join.new.self ≡ [])) (sym c.join_and_vacuum.ensures.pushed) none;
      few = both_few c.self.inside.cells.items c.other.inside.cells.items c.join_and_vacuum.new.cells.items (pushed_in c.self.inside.buffer) (ranks_in c.self.inside.buffer) (ranks_in c.other.inside.buffer) (ranks_in c.join_and_vacuum.new.buffer) (pairs_in c.self.inside.pairs) (pairs_in c.other.inside.pairs) (pairs_in c.join.new.self) c.row_count.result c.row_count-2.result many that c.in_ok-count_more.ensures c.in_ok-self-inside.ensures.joined (joined_pairs c);
    }
