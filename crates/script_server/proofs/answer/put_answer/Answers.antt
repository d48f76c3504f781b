use Rattle.std.proofs.Common.{map}
use Rattle.sky_io.proofs.Writes.{wrote_two}
use Rattle.query_ends.specs.Ends.{kind_of}
use Rattle.transcript_rules.specs.Transcripts.{transcript}
use Rattle.script_server.specs.Answers.{ok_line}
use Rattle.script_server.proofs.answer.put_answer.Goals as goal

pub returns-in-Done : goal.returns-in-Done
returns-in-Done g c =
    wrote_two _ _ _ (transcript c.args.store.now.plan c.args.store.now.rows c.args.script.now (map kind_of c.args.ends.now)) ok_line _
    c.in-Done.ensures c.put.ensures
