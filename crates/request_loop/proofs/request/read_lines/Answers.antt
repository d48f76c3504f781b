use Rattle.std.proofs.Common.{◌∙◌, refl}
use Rattle.request_loop.proofs.Drafting.{read_more, read_none, stopped}
use Rattle.request_loop.proofs.request.read_lines.Goals as goal

pub loop-init : goal.loop-init
loop-init g c = record {
  can = tt;
  finite = tt;
  has = read_none _ _ c.requires.empty;
  still = refl;
}

pub loop-preserved : goal.loop-preserved
loop-preserved g c = record {
  can = tt;
  finite = tt;
  has = read_more _ _ _ _ _ c.loop.invariant.has c.in-None-take_next.ensures;
  still = c.in-None-take_next.ensures.still ∙ c.loop.invariant.still;
}

pub returns-in-Some-take_next : goal.returns-in-Some-take_next
returns-in-Some-take_next g c = stopped _ _ _ _ _ c.in-Some-take_next.stop c.loop.invariant.has c.loop.invariant.still c.in-Some-take_next.ensures
