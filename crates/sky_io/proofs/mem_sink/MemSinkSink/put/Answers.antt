use Rattle.std.proofs.Common.{◌≡◌, ◌≤◌, rules}
use Rattle.sky_io.specs.MemSinks.{after_failed_put}
use Rattle.sky_io.proofs.Cuts.{cut_wrote}
use Rattle.sky_io.proofs.mem_sink.MemSinkSink.put.Goals as goal

pub returns-then-next_fails-clause-wrote : goal.returns-then-next_fails-clause-wrote
returns-then-next_fails-clause-wrote c =
    let after : c.cut.new.self ≡ after_failed_put c.args.self.now c.args.piece.now = search rules in
    let later : c.args.self.now.faults ≤ c.cut.new.self.faults = search rules in
    cut_wrote _ _ _ _ c.cut.ensures.answer after later
