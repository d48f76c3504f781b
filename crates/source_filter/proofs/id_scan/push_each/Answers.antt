use Rattle.std.proofs.Common.{◌≡◌, ◌∙◌, ◌∷◌, ◌++◌, [], ap, cond, get_or, pos, rules, sym, w64, FitsSigned}
use Rattle.std.proofs.lemmas.Int.{to_z-of_z}
use Rattle.source_filter.specs.Objects.{numbers_where}
use Rattle.source_filter.proofs.Objects.{numbers_more}
use Rattle.source_filter.proofs.id_scan.push_each.Goals as goal

pub loop-k-preserved : goal.loop-k-preserved
loop-k-preserved g c =
    let k = c.loop-k.k in
    let ids = c.args.ids.now in
    let test = g.T.IdTest.passes c.args.test.now in
    let fits : FitsSigned w64 (get_or ids k (pos 0)) = search rules in
    let own : c.passes.result ≡ test (get_or ids k (pos 0)) = simp (to_z-of_z w64 _ fits) at c.passes.ensures in
    c.in_ok-push_if.ensures
    ∙ (ap (λ l. l ++ cond c.passes.result (k ∷ []) []) c.loop-k.invariant
    ∙ (ap (λ b. numbers_where test ids k ++ cond b (k ∷ []) []) own ∙ sym (numbers_more test ids k)))
