use Rattle.std.proofs.Common.{◌∙◌, [], ◌∷◌, sym, map}
use Rattle.std.specs.Option.{option_to_list}
use Rattle.bind_rules.specs.Mentions.{Table}
use Rattle.query_walks.proofs.Firsts.{first_here, first_later}
use Rattle.bind_checks.proofs.names.unknown_in_tables.Goals as goal

pub returns-in-Some : goal.returns-in-Some
returns-in-Some g c =
    first_here _ _ (Table c.args.query.now.first.name ∷ [])
    (map (λ t. Table t.name) (option_to_list c.args.query.now.second)) _ c.in-Some.ensures

pub returns-in-Some-second : goal.returns-in-Some-second
returns-in-Some-second g c =
    rw c.in-Some-second.is (c.unknown_table-in-Some-second.ensures ∙ sym
    (first_later _ _ (Table c.args.query.now.first.name ∷ []) (Table c.in-Some-second.second.name ∷ [])
    c.in-None.ensures))

pub returns-in-None-second : goal.returns-in-None-second
returns-in-None-second g c = rw c.in-None-second.is c.in-None.ensures
