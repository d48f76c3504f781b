use Rattle.std.proofs.Common.{◌≡◌, ◌<◌, true, sym, subst}
use Rattle.std.specs.Prelude.{All, AllPairs}
use Rattle.std.proofs.lemmas.List.Elements.{filter_passes}
use Rattle.sky_rules.specs.Partition.{chunk_count}
use Rattle.sky_rules.specs.Chunks.{all_chunks}
use Rattle.chunk_rules.specs.Filled.{is_filled}
use Rattle.chunk_rules.proofs.FilledChunks.{filled_are_chunks, filled_ascend}
use Rattle.chunk_store.proofs.store.Store.filled.Goals as goal

pub returns-clause-there : goal.returns-clause-there
returns-clause-there c =
    let g = c.args.self.now.plan in
    subst (λ l. All (λ k. k < chunk_count g) l) (sym c.filled_list.ensures) (filled_are_chunks g c.args.self.now.rows.objects)

pub returns-clause-ascend : goal.returns-clause-ascend
returns-clause-ascend c =
    subst (λ l. AllPairs (λ a b. a < b) l) (sym c.filled_list.ensures) (filled_ascend c.args.self.now.plan c.args.self.now.rows.objects)

pub returns-clause-each : goal.returns-clause-each
returns-clause-each c =
    let g = c.args.self.now.plan in
    let objects = c.args.self.now.rows.objects in
    subst (λ l. All (λ k. is_filled g objects k ≡ true) l) (sym c.filled_list.ensures) (filter_passes (is_filled g objects) (all_chunks g))
