use Rattle.session_rules.proofs.Cancels.{cancel_stands, prompt_is_a_split}
use Rattle.session_rules.proofs.laws.cancels_part_the_steps.Goals as goal

pub returns-clause-stands : goal.returns-clause-stands
returns-clause-stands c = cancel_stands

pub returns-clause-prompt : goal.returns-clause-prompt
returns-clause-prompt c = prompt_is_a_split
