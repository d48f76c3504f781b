use Rattle.std.proofs.Common.{rules, w64, FitsSigned, ◌*◌, get_or, pos}
use Rattle.std.proofs.lemmas.Int.{to_z-of_z}
use Rattle.object_index.specs.declared.granules.TheConstants.{GRANULE}
use Rattle.object_index.proofs.Sparse.{one_more}
use Rattle.object_index.proofs.granules.first_rows.Goals as goal

pub loop-granule-preserved : goal.loop-granule-preserved
loop-granule-preserved c =
    let id = get_or c.args.ids.now (c.loop-granule.granule * GRANULE) (pos 0) in
    let fits : FitsSigned w64 id = search rules in
    one_more c.args.ids.now c.loop-granule.firsts.entries c.insert.new.self.entries c.loop-granule.granule c.requires.ascend (search rules) c.loop-granule.invariant
    (simp (to_z-of_z w64 id fits) at c.in-Ok-insert.ensures.entries)
