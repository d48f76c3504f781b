use Rattle.request_loop.proofs.Serving.{sent_by}
use Rattle.request_loop.proofs.Stepping.{sent_failed}
use Rattle.request_loop.proofs.step.send_line.Goals as goal

pub returns-in-Failed : goal.returns-in-Failed
returns-in-Failed g c = sent_failed _ _ _ c.in-Failed.ensures

pub returns-in-Done : goal.returns-in-Done
returns-in-Done g c = sent_by _ _ _ _ _ c.in-Done.ensures c.flush_out.ensures
