use Rattle.byte_source.proofs.Unseen.{byte_unseen}
use Rattle.byte_source.proofs.read_source.ReadSourceSource.next.Goals as goal

pub returns-in-Some : goal.returns-in-Some
returns-in-Some g c = byte_unseen _ _ c.in-Some.byte c.buffered.ensures.unseen c.buffered.ensures.same
