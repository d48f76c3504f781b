use Rattle.std.specs.Prelude.{[], ◌∷◌}
use Rattle.scan_session.proofs.session.drive.Given as goal

abbrev pub ghosts-teamed : goal.ghosts-teamed
ghosts-teamed g a = record {
  asks = g.P.Work.asks (g.E.Engine.root a.scan.now.engine.now);
  stands = λ q chunk piece. g.P.Work.stands (g.E.Engine.root a.scan.now.engine.now) q (chunk ∷ []) piece;
  refused = g.E.Engine.refused a.scan.now.engine.now;
}
