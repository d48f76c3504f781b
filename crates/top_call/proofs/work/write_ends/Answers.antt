use Rattle.top_call.proofs.work.write_ends.Goals as goal

pub returns-in-Ok : goal.returns-in-Ok
returns-in-Ok g c =
    λ workers fit. (rw c.store.ensures at c.write_transcript.ensures) workers
    (rw c.as_slice.ensures.value (rw c.in-Ok.is at fit))
