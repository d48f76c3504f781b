use Rattle.std.proofs.Common.{◌≡◌, ◌==◌, [], subst, sym}
use Rattle.std.specs.Bool.{OnTrue}
use Rattle.partial_rows.specs.Pairs.{pairs_in}
use Rattle.partial_rows.proofs.ShortPairs.{none_by_length}
use Rattle.partial_rows.proofs.id_pairs.IdPairs.is_empty.Goals as goal

pub returns-clause-none : goal.returns-clause-none
returns-clause-none c = subst (λ n. OnTrue (n == 0) (pairs_in c.args.self.now ≡ [])) (sym c.len.ensures) (none_by_length (pairs_in c.args.self.now))
