use Rattle.std.proofs.Common.{◌≡◌, length, refl, replicate, rules, true}
use Rattle.column_vectors.proofs.Reading.{read_whole}
use Rattle.column_vectors.proofs.leaf.whole.Goals as goal

pub returns : goal.returns
returns c =
    let known : c.repeated-known.result.items ≡ replicate (length c.args.places.now) true = search rules in
    read_whole c.args.values.now c.args.places.now c.args.bound _ c.requires refl c.gathered-numbers.ensures known
