use Rattle.turn_lock.specs.Pasts.{fresh}
use Rattle.turn_lock.proofs.pass.publish.Given as goal

abbrev pub ghosts-publish_said : goal.ghosts-publish_said
ghosts-publish_said g a = record { said = fresh a.inner.now.me.0.seen (g.T.Lineage.past a.value.now) }
