use Rattle.std.proofs.Common.{ap, sym}
use Rattle.query_ends.specs.EndTexts.{end_block}
use Rattle.query_ends.proofs.Writing.{wrote_as}
use Rattle.query_ends.proofs.end_text.put_end.Goals as goal

pub returns-in-Answered : goal.returns-in-Answered
returns-in-Answered g c =
    wrote_as _ _ _ _ _ (ap (end_block c.args.schema.now c.args.number c.args.text.now) (sym c.in-Answered.is)) c.put_table.ensures

pub returns-in-Refused : goal.returns-in-Refused
returns-in-Refused g c =
    wrote_as _ _ _ _ _ (ap (end_block c.args.schema.now c.args.number c.args.text.now) (sym c.in-Refused.is)) c.put_refusal.ensures

pub returns-in-Cancelled : goal.returns-in-Cancelled
returns-in-Cancelled g c =
    wrote_as _ _ _ _ _ (ap (end_block c.args.schema.now c.args.number c.args.text.now) (sym c.in-Cancelled.is)) c.put_cancelled.ensures

pub returns-in-Spent : goal.returns-in-Spent
returns-in-Spent g c =
    wrote_as _ _ _ _ _ (ap (end_block c.args.schema.now c.args.number c.args.text.now) (sym c.in-Spent.is)) c.put_spent.ensures
