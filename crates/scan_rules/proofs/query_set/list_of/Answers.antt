use Rattle.std.proofs.Common.{◌∷◌, [], ◌++◌, cond, List, ℕ, Bool, sym, ◌∙◌, ap, arith, filter, length}
use Rattle.scan_rules.specs.Numbers.{below}
use Rattle.scan_rules.specs.QuerySets.{is_set}
use Rattle.scan_rules.proofs.Listing.{none_kept, one_kept, few_kept}
use Rattle.scan_rules.proofs.query_set.list_of.Goals as goal

pub loop-q-init : goal.loop-q-init
loop-q-init c = c.new-list.ensures ∙ sym (none_kept (is_set c.args.words.now))

pub push_where-requires : goal.push_where-requires
push_where-requires c = omega (arith, ap length c.loop-q.invariant, few_kept (is_set c.args.words.now) c.loop-q.q)

pub loop-q-preserved : goal.loop-q-preserved
loop-q-preserved c =
    c.push_where.ensures ∙ (ap (λ (l : List ℕ). l ++ cond c.is_set.result (c.loop-q.q ∷ []) []) c.loop-q.invariant
    ∙ (ap (λ (b : Bool). filter (is_set c.args.words.now) (below c.loop-q.q) ++ cond b (c.loop-q.q ∷ []) []) c.is_set.ensures
    ∙ sym (one_kept (is_set c.args.words.now) c.loop-q.q)))
