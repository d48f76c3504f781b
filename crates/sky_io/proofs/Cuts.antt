-- What a sink in memory keeps of a piece, as a law on what a sink shows.
use Rattle.std.proofs.Common.{◌≡◌, ℕ, ◌≤◌, List, length, take, min, ◌-◌, Some, ap, sym, arith, ◌++◌}
use Rattle.std.proofs.lemmas.List.{take_min}
use Rattle.sky_io.specs.Sinks.{AppendedPart, Wrote}
use Rattle.sky_io.specs.MemSinks.{MemSinkState, sink_of, after_failed_put}
use Rattle.sky_io.specs.declared.sink.Put.{Put}
use Rattle.sky_io.specs.declared.sink.Put.TheVariants.{Failed}

-- the first n bytes of a piece, or all of a shorter one, are a first part of it
first_part : (old : List ℕ) (n : ℕ) (piece : List ℕ) → AppendedPart (Some old) piece (Some (old ++ take n piece))
first_part old n piece =
    let short : min n (length piece) ≤ length piece = omega arith in
    (min n (length piece), short, ap (λ part. Some (old ++ part)) (sym (take_min n piece)))

-- A put that failed and kept a beginning of its piece keeps the clause of every call that writes.
pub cut_wrote : (old new : MemSinkState) (piece : List ℕ) (result : Put) → result ≡ Failed → new ≡ after_failed_put old piece → old.faults ≤ new.faults → Wrote (sink_of old) (sink_of new) piece result
cut_wrote old new piece result failed after later = record {
  done = λ e. absurd (cc (e, failed));
  calm = λ e. absurd (cc (e, failed));
  part = λ _. rw after (first_part old.written (min old.keep (old.room - length old.written)) piece);
  cause = λ _. rw after (omega arith);
  later = later;
}
