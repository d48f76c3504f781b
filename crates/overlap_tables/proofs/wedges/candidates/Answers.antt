use Rattle.sky_vector.specs.Pos.{point}
use Rattle.overlap_tables.proofs.Runs.{window_candidates}
use Rattle.overlap_tables.proofs.wedges.candidates.Goals as goal

pub returns-in-Some : goal.returns-in-Some
returns-in-Some c =
    window_candidates c.args.wedges c.args.radius c.in-Some.first c.in-Some.second _ _ _ _ _ _ (point c.args.p.now) c.in-Some.ensures c.of_way.ensures
