use Rattle.std.proofs.Common.{◌++◌, ℕ, List, map, subst, sym, IsPermutation}
use Rattle.partial_rows.specs.PackedKeys.{pair_in}
use Rattle.partial_rows.specs.Pairs.{pairs_in}
use Rattle.partial_rows.proofs.ShortPairs.{pairs_joined}
use Rattle.partial_rows.proofs.id_pairs.IdPairs.join.Goals as goal

pub returns : goal.returns
returns c =
    subst (λ (w : List ℕ). IsPermutation (pairs_in c.args.self.now ++ pairs_in c.args.more) (w ++ map pair_in c.join_list-2.new.list.items)) (sym c.join_list.ensures)
    (subst (λ (s : List ℕ). IsPermutation (pairs_in c.args.self.now ++ pairs_in c.args.more) ((c.args.self.now.wide.items ++ c.args.more.wide.items) ++ map pair_in s)) (sym c.join_list-2.ensures)
    (pairs_joined c.args.self.now.wide.items c.args.self.now.short.items c.args.more.wide.items c.args.more.short.items))
