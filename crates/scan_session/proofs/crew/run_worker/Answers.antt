use Rattle.scan_session.proofs.crew.run_worker.Goals as goal

pub returns : goal.returns
returns g c p = record { worked = c.worker.ensures.worked p; lost = c.worker.ensures.lost p; known = c.worker.ensures.known p; lawful = c.worker.ensures.lawful p }
