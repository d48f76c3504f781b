use Rattle.std.proofs.Common.{take}
use Rattle.chunk_store.specs.Lists.{AreParts}
use Rattle.chunk_store.proofs.store.Store.subs.Given as goal

abbrev pub invariant-loop-place : goal.invariant-loop-place
invariant-loop-place l = AreParts l.self.plan l.self.rows.objects l.chunk (take l.place-index l.own) l.subs
