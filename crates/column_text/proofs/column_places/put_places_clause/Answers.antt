use Rattle.std.proofs.Common.{◌<◌, arith}
use Rattle.column_text.proofs.Parting.{as_text}
use Rattle.column_text.proofs.Places.{some_places}
use Rattle.column_text.proofs.column_places.put_places_clause.Goals as goal

pub returns-else-from-to : goal.returns-else-from-to
returns-else-from-to g c =
    let low : c.args.from < c.args.to = omega (arith, c.requires, c.if-from-to.false) in
    as_text _ _ _ _ _ (some_places c.args.words.now c.args.from c.args.to low) c.put_led_places.ensures
