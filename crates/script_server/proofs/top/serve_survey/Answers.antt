use Rattle.script_server.specs.WordForms.{asked_by}
use Rattle.script_server.proofs.Answering.{served}
use Rattle.script_server.proofs.top.serve_survey.Goals as goal

pub returns-in-Ok : goal.returns-in-Ok
returns-in-Ok g c = served (asked_by c.args.words.now) c.in-Ok.store _ _ _ _ c.in-Ok.ensures.ok c.serve_store-outcome.ensures
