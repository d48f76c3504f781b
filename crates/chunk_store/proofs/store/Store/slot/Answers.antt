use Rattle.std.proofs.Common.{sym, subst}
use Rattle.std.specs.List.{Contains}
use Rattle.chunk_rules.proofs.FilledChunks.{each_filled_is_listed}
use Rattle.chunk_store.proofs.store.Store.slot.Goals as goal

pub slot_of-requires-clause-has : goal.slot_of-requires-clause-has
slot_of-requires-clause-has c =
    subst (λ l. Contains l c.args.chunk) (sym c.filled.ensures.value)
    (each_filled_is_listed c.args.self.now.plan c.args.self.now.rows.objects c.args.chunk c.requires.there c.requires.filled)
