use Rattle.child_transcripts.proofs.ChildBlockSteps.{child_blocks_in_order, one_child_block_each}
use Rattle.child_transcripts.proofs.laws.one_child_block_each.Goals as goal

pub returns-clause-each : goal.returns-clause-each
returns-clause-each c = one_child_block_each

pub returns-clause-order : goal.returns-clause-order
returns-clause-order c = child_blocks_in_order
