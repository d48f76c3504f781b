-- Raw calls that write, one after another, as lemmas on what an output shows.
use Rattle.std.proofs.Common.{◌≡◌, ℕ, ◌+◌, ◌<◌, ◌-◌, ◌≤◌, List, ◌++◌, length, take, drop, Ok, Err, refl, sym, subst, ap, arith, ◌∙◌, length-drop}
use Rattle.std.proofs.Math.Seq.{take-add}
use Rattle.std.proofs.Math.Seq.{take-append_seam}
use Rattle.std.proofs.lemmas.List.{take_all, take-append-drop, drop-drop, length-take-le}
use Rattle.sky_io.specs.Sinks.{SinkState, Appended, Wrote}
use Rattle.sky_io.specs.Counts.{counted}
use Rattle.sky_io.specs.RawWrites.{WroteSome, WroteFirst, unseen_stream}
use Rattle.sky_io.specs.declared.raw.RawFault.{RawFault}
use Rattle.sky_io.specs.declared.sink.Put.TheVariants.{Done, Failed}
use Rattle.sky_io.proofs.Writes.{appended_two, appended_nothing}

-- the bytes of a text from a place on, as the code's slice of it
pub from_place : (place : ℕ) (text : List ℕ) → take (length text - place) (drop place text) ≡ drop place text
from_place place text = take_all (length text - place) (drop place text) (omega (arith, length-drop place text))

-- bytes of a text that are copied to the start of a room, and those after them, are the text from their place on
pub copied_from : (place count : ℕ) (text copied room : List ℕ) → copied ≡ take count (drop place text) → count ≤ length (drop place text) → drop place text ≡ take count (copied ++ drop count room) ++ drop (place + count) text
copied_from place count text copied room is few =
    let long : length copied ≡ count = ap length is ∙ length-take-le count (drop place text) few in
    let first : take count (copied ++ drop count room) ≡ copied = subst (λ n. take n (copied ++ drop count room) ≡ copied) long (take-append_seam copied (drop count room)) in
    let rest : drop count (drop place text) ≡ drop (place + count) text = drop-drop count place text in
    let all = take-append-drop count (drop place text) in
    cc (first, is, rest, all)

-- The first bytes of a text were written, and nothing has failed.
pub record Sending (old now : SinkState) (text : List ℕ) (n : ℕ) : Type 0 where
  pub most : n ≤ length text
  pub done : Appended old.written (take n text) now.written
  pub calm : now.faults ≡ old.faults

-- At the start none of them is.
pub sending_none : (old : SinkState) (text : List ℕ) → Sending old old text 0
sending_none old text = record { most = omega arith; done = appended_nothing old.written; calm = refl }

-- A further call wrote the next bytes of the text.
pub sending_more : (old mid new : SinkState) (text : List ℕ) (n m : ℕ) → Sending old mid text n → WroteSome mid new (drop n text) (Ok m) → Sending old new text (n + m)
sending_more old mid new text n m so_far next = record {
  most = omega (arith, so_far.most, next.some.1, length-drop n text);
  done = let both = appended_two old.written mid.written new.written (take n text) (take m (drop n text)) so_far.done next.done in
      subst (λ part. Appended old.written part new.written) (sym (take-add n m text)) both;
  calm = next.calm ∙ so_far.calm;
}

-- All of them are written.
pub sending_all : (old now : SinkState) (text : List ℕ) (n : ℕ) → Sending old now text n → length text ≤ n → WroteFirst old now text n
sending_all old now text n so_far full = record {
  most = so_far.most;
  done = so_far.done;
  calm = λ _. so_far.calm;
  cause = λ less. omega (arith, less, full);
  later = omega (arith, so_far.calm);
}

-- A further call failed.
pub sending_failed : (old mid new : SinkState) (text : List ℕ) (n : ℕ) (e : RawFault) → Sending old mid text n → n < length text → WroteSome mid new (drop n text) (Err e) → WroteFirst old new text n
sending_failed old mid new text n e so_far less next = record {
  most = so_far.most;
  done = next.none ∙ so_far.done;
  calm = λ whole. omega (arith, whole, less);
  cause = λ _. let rose = next.cause in omega (arith, rose, so_far.calm);
  later = omega (arith, next.later, so_far.calm);
}

-- All of a text was written, and so it is one piece that was.
pub wrote_all : (old new : SinkState) (text : List ℕ) (n : ℕ) → WroteFirst old new text n → length text ≤ n → Wrote old new text Done
wrote_all old new text n first full = record {
  done = λ _. subst (λ part. Appended old.written part new.written) (take_all n text full) first.done;
  calm = λ _. first.calm (omega (arith, first.most, full));
  part = λ e. absurd (cc e);
  cause = λ e. absurd (cc e);
  later = first.later;
}

-- Fewer bytes were written, and so it is one piece that failed.
pub wrote_part : (old new : SinkState) (text : List ℕ) (n : ℕ) → WroteFirst old new text n → n < length text → Wrote old new text Failed
wrote_part old new text n first less = record {
  done = λ e. absurd (cc e);
  calm = λ e. absurd (cc e);
  part = λ _. (n, first.most, first.done);
  cause = λ _. first.cause less;
  later = first.later;
}

-- A write to a stream failed.
pub stream_failed : (faults now : ℕ) (text : List ℕ) (e : RawFault) → now ≡ counted faults → faults ≤ now → WroteSome (unseen_stream faults) (unseen_stream now) text (Err e)
stream_failed faults now text e is later = record {
  some = tt;
  done = tt;
  calm = tt;
  none = refl;
  cause = omega (arith, is);
  later = later;
}
