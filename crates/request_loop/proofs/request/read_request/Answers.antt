use Rattle.request_loop.proofs.Drafting.{reads_ended, reads_failed, reads_over}
use Rattle.request_loop.proofs.request.read_request.Goals as goal

pub returns-in-Ended : goal.returns-in-Ended
returns-in-Ended g c = reads_ended _ _ _ c.ended.result c.in-Ended.ensures c.ended.ensures

pub returns-in-Over : goal.returns-in-Over
returns-in-Over g c = reads_over _ _ _ c.over.result c.in-Over.ensures c.over.ensures

pub returns-in-Failed : goal.returns-in-Failed
returns-in-Failed g c = reads_failed _ _ _ c.in-Failed.ensures
