use Rattle.std.proofs.Common.{◌++◌, ◌∷◌, [], ℕ, List, map, subst, sym, IsPermutation}
use Rattle.partial_rows.specs.PackedKeys.{pair_in}
use Rattle.partial_rows.specs.Pairs.{pairs_in}
use Rattle.partial_rows.proofs.ShortPairs.{wide_put}
use Rattle.partial_rows.proofs.id_pairs.IdPairs.push_wide.Goals as goal

pub returns-clause-put : goal.returns-clause-put
returns-clause-put c =
    subst (λ (w : List ℕ). IsPermutation (pairs_in c.args.self.now ++ c.args.pair ∷ []) (w ++ map pair_in c.args.self.now.short.items)) (sym c.in_ok-push.ensures.items)
    (wide_put c.args.self.now.wide.items c.args.pair c.args.self.now.short.items)
