use Rattle.std.proofs.Common.{◌≡◌, nat_abs, rules}
use Rattle.table_rules.specs.Objects.{column_bound}
use Rattle.column_vectors.proofs.Reading.{ids_column, read_as, xs_column, ys_column, zs_column}
use Rattle.column_vectors.proofs.leaf.read.Goals as goal

pub returns-in-0 : goal.returns-in-0
returns-in-0 c =
    let bound : c.from.result ≡ nat_abs (column_bound 0) = search rules in
    read_as c.whole.result _ c.args.places.now c.from.result c.args.block.now.objects c.args.col 0 c.in-0.is
    (ids_column c.args.block.now.objects c.ids.result.now c.ids.ensures) bound c.whole.ensures

pub returns-in-1 : goal.returns-in-1
returns-in-1 c =
    let bound : c.from-in-1.result ≡ nat_abs (column_bound 1) = search rules in
    read_as c.whole_short.result _ c.args.places.now c.from-in-1.result c.args.block.now.objects c.args.col 1 c.in-1.is
    (xs_column c.args.block.now.objects c.xs.result.now c.xs.ensures.value) bound c.whole_short.ensures

pub returns-in-2 : goal.returns-in-2
returns-in-2 c =
    let bound : c.from-in-2.result ≡ nat_abs (column_bound 2) = search rules in
    read_as c.whole_short-in-2.result _ c.args.places.now c.from-in-2.result c.args.block.now.objects c.args.col 2 c.in-2.is
    (ys_column c.args.block.now.objects c.ys.result.now c.ys.ensures.value) bound c.whole_short-in-2.ensures

pub returns-in-3 : goal.returns-in-3
returns-in-3 c =
    let bound : c.from-in-3.result ≡ nat_abs (column_bound 3) = search rules in
    read_as c.whole_short-in-3.result _ c.args.places.now c.from-in-3.result c.args.block.now.objects c.args.col 3 c.in-3.is
    (zs_column c.args.block.now.objects c.zs.result.now c.zs.ensures.value) bound c.whole_short-in-3.ensures
