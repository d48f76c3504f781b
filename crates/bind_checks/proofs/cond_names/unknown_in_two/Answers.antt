use Rattle.std.proofs.Common.{◌∙◌, sym}
use Rattle.query_walks.proofs.Firsts.{first_here, first_later}
use Rattle.bind_checks.proofs.cond_names.unknown_in_two.Goals as goal

pub returns-in-Some : goal.returns-in-Some
returns-in-Some g c = first_here _ _ _ _ _ c.in-Some.ensures

pub returns-in-None : goal.returns-in-None
returns-in-None g c = c.unknown_in_expr-in-None.ensures ∙ sym (first_later _ _ _ _ c.in-None.ensures)
