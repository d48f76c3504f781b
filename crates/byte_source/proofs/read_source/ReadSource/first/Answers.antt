use Rattle.byte_source.proofs.Unseen.{byte_unseen, end_unseen}
use Rattle.byte_source.proofs.read_source.ReadSource.first.Goals as goal

pub returns-in-Some : goal.returns-in-Some
returns-in-Some g c = byte_unseen _ _ c.in-Some.byte c.buffered.ensures.unseen c.buffered.ensures.same

pub returns-in-None : goal.returns-in-None
returns-in-None g c = end_unseen _ _ c.buffered.ensures.unseen c.buffered.ensures.same
