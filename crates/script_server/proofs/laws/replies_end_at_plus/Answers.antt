use Rattle.script_server.proofs.AtPlus.{answers_end_at_plus, each_reply_is_found, replies_end_at_plus}
use Rattle.script_server.proofs.laws.replies_end_at_plus.Goals as goal

pub returns-clause-answers : goal.returns-clause-answers
returns-clause-answers c = answers_end_at_plus

pub returns-clause-replies : goal.returns-clause-replies
returns-clause-replies c = replies_end_at_plus

pub returns-clause-found : goal.returns-clause-found
returns-clause-found c = each_reply_is_found
