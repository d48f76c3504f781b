-- A buffer before an output, as lemmas on what the sink of both shows.
use Rattle.std.proofs.Common.{◌≡◌, ℕ, ◌+◌, ◌<◌, ◌≤◌, List, [], ◌++◌, length, take, drop, Option, None, Some, option_map, refl, sym, subst, ap, arith, ◌∙◌, append_assoc, append-nil}
use Rattle.std.proofs.lemmas.List.{drop-append-le, drop-drop, take-append-drop, take_all}
use Rattle.sky_io.specs.Sinks.{SinkState, Appended, AppendedPart, Wrote, Flushed}
use Rattle.sky_io.specs.RawWrites.{WroteFirst}
use Rattle.sky_io.specs.Buffers.{BufferState, unsent, sink_over, empty_before, Emptied}
use Rattle.sky_io.specs.declared.sink.Put.{Put}
use Rattle.sky_io.specs.declared.sink.Put.TheVariants.{Done, Failed}
use Rattle.sky_io.proofs.Writes.{appended_nothing}

-- nothing is appended to what is written
nothing_after : (written : Option (List ℕ)) → option_map (λ bytes. bytes ++ []) written ≡ written
nothing_after None = refl
nothing_after (Some bytes) = ap Some (append-nil bytes)

-- a rest and then a piece are appended to what is written
two_after : (written : Option (List ℕ)) (rest piece : List ℕ) → Appended (option_map (λ bytes. bytes ++ rest) written) piece (option_map (λ bytes. bytes ++ (rest ++ piece)) written)
two_after None rest piece = refl
two_after (Some bytes) rest piece = ap Some (sym (append_assoc bytes rest piece))

-- the first bytes of a rest were written, and so the others are after them
others_after : (old new : Option (List ℕ)) (rest : List ℕ) (n : ℕ) → Appended old (take n rest) new → option_map (λ bytes. bytes ++ drop n rest) new ≡ option_map (λ bytes. bytes ++ rest) old
others_after None new rest n a = ap (option_map (λ bytes. bytes ++ drop n rest)) a
others_after (Some bytes) new rest n a =
    ap (option_map (λ bytes. bytes ++ drop n rest)) a ∙ ap Some (append_assoc bytes (take n rest) (drop n rest) ∙ ap (λ all. bytes ++ all) (take-append-drop n rest))

-- A piece is held back, after what is.
pub held_wrote : (old : BufferState) (piece : List ℕ) → old.sent ≤ length old.bytes → Wrote (sink_over old) (sink_over (record old { bytes = old.bytes ++ piece })) piece Done
held_wrote old piece fits = record {
  done = λ _. subst (λ rest. Appended (sink_over old).written piece (option_map (λ bytes. bytes ++ rest) old.out.written)) (sym (drop-append-le old.sent old.bytes piece fits)) (two_after old.out.written (unsent old) piece);
  calm = λ _. refl;
  part = λ e. absurd (cc e);
  cause = λ e. absurd (cc e);
  later = omega arith;
}

-- All that is held back was sent.
pub emptied_all : (old : BufferState) (out : SinkState) (n : ℕ) → WroteFirst old.out out (unsent old) n → length (unsent old) ≤ n → Emptied old (empty_before out) Done
emptied_all old out n first full = record {
  same = let whole = subst (λ part. Appended old.out.written part out.written) (take_all n (unsent old) full) first.done in
      nothing_after out.written ∙ whole;
  done = λ _. refl;
  calm = λ _. first.calm (omega (arith, first.most, full));
  cause = λ e. absurd (cc e);
  later = first.later;
}

-- Some of it was sent, and then a call failed.
pub emptied_part : (old : BufferState) (out : SinkState) (n : ℕ) → WroteFirst old.out out (unsent old) n → n < length (unsent old) → Emptied old (record { out = out; bytes = old.bytes; sent = old.sent + n }) Failed
emptied_part old out n first less = record {
  same = subst (λ rest. option_map (λ bytes. bytes ++ rest) out.written ≡ (sink_over old).written) (drop-drop n old.sent old.bytes) (others_after old.out.written out.written (unsent old) n first.done);
  done = λ e. absurd (cc e);
  calm = λ e. absurd (cc e);
  cause = λ _. first.cause less;
  later = first.later;
}

-- a piece was written past an empty buffer
done_past : (old new : Option (List ℕ)) (piece : List ℕ) → Appended old piece new → Appended (option_map (λ bytes. bytes ++ []) old) piece (option_map (λ bytes. bytes ++ []) new)
done_past old new piece a = nothing_after new ∙ a ∙ ap (option_map (λ bytes. bytes ++ piece)) (sym (nothing_after old))

-- a first part of a piece was written past an empty buffer
part_past : (old new : Option (List ℕ)) (piece : List ℕ) → AppendedPart old piece new → AppendedPart (option_map (λ bytes. bytes ++ []) old) piece (option_map (λ bytes. bytes ++ []) new)
part_past old new piece (n, le, a) = (n, le, done_past old new (take n piece) a)

-- With nothing held back, a piece that goes past the buffer is written by the sink.
pub passed_wrote : (old new : SinkState) (piece : List ℕ) (result : Put) → Wrote old new piece result → Wrote (sink_over (empty_before old)) (sink_over (empty_before new)) piece result
passed_wrote old new piece result wrote = record {
  done = λ e. done_past old.written new.written piece (wrote.done e);
  calm = wrote.calm;
  part = λ e. part_past old.written new.written piece (wrote.part e);
  cause = wrote.cause;
  later = wrote.later;
}

-- All that was held back was sent, and then a piece was written.
pub emptied_wrote : (old mid new : BufferState) (piece : List ℕ) (result : Put) → Emptied old mid Done → Wrote (sink_over mid) (sink_over new) piece result → Wrote (sink_over old) (sink_over new) piece result
emptied_wrote old mid new piece result emptied wrote = record {
  done = λ e. wrote.done e ∙ ap (option_map (λ bytes. bytes ++ piece)) emptied.same;
  calm = λ e. wrote.calm e ∙ emptied.calm refl;
  part = λ e. subst (λ written. AppendedPart written piece (sink_over new).written) emptied.same (wrote.part e);
  cause = λ e. let rose = wrote.cause e in omega (arith, rose, emptied.later);
  later = omega (arith, wrote.later, emptied.later);
}

-- It could not be sent, and so nothing of the piece was written.
pub emptied_failed : (old new : BufferState) (piece : List ℕ) → Emptied old new Failed → Wrote (sink_over old) (sink_over new) piece Failed
emptied_failed old new piece emptied = record {
  done = λ e. absurd (cc e);
  calm = λ e. absurd (cc e);
  part = λ _. (0, omega arith, emptied.same ∙ appended_nothing (sink_over old).written);
  cause = λ _. emptied.cause refl;
  later = emptied.later;
}

-- All that was held back was sent, and then the output was flushed.
pub emptied_flushed : (old : BufferState) (mid new : SinkState) (result : Put) → Emptied old (empty_before mid) Done → Flushed mid new result → Flushed (sink_over old) (sink_over (empty_before new)) result
emptied_flushed old mid new result emptied flushed = record {
  same = ap (option_map (λ bytes. bytes ++ [])) flushed.same ∙ emptied.same;
  sent = flushed.sent;
  calm = λ e. flushed.calm e ∙ emptied.calm refl;
  cause = λ e. let rose = flushed.cause e in omega (arith, rose, emptied.later);
  later = omega (arith, flushed.later, emptied.later);
}

-- It could not be sent, and so nothing was flushed.
pub emptied_unflushed : (old new : BufferState) → Emptied old new Failed → Flushed (sink_over old) (sink_over new) Failed
emptied_unflushed old new emptied = record {
  same = emptied.same;
  sent = λ e. absurd (cc e);
  calm = λ e. absurd (cc e);
  cause = λ _. emptied.cause refl;
  later = emptied.later;
}
