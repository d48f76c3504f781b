use Rattle.std.proofs.Common.{◌∙◌, sym}
use Rattle.bind_rules.specs.Mentions.{expr_of, items_of, mentioned}
use Rattle.query_walks.proofs.Firsts.{first_here, first_later, flat_twice}
use Rattle.bind_checks.proofs.names.unknown_before_where.Goals as goal

pub returns-in-Some : goal.returns-in-Some
returns-in-Some g c =
    rw (flat_twice (λ i. expr_of i.what) mentioned (items_of c.args.query.now.items))
    (first_here _ _ _ _ _ c.in-Some.ensures)

pub returns-in-None : goal.returns-in-None
returns-in-None g c =
    rw (flat_twice (λ i. expr_of i.what) mentioned (items_of c.args.query.now.items))
    (c.unknown_in_tables.ensures ∙ sym (first_later _ _ _ _ c.in-None.ensures))
