-- Pieces that are written one behind another, as laws on what a sink shows: a call that writes a text by some pieces keeps
-- the clause of one that writes it at once. Straight-line code goes by `wrote_nothing`, `wrote_one` and `wrote_two`, a
-- loop by `Under`: what is written, and then the rest, is the whole.
use Rattle.std.proofs.Common.{◌≡◌, ℕ, ◌+◌, ◌≤◌, List, [], ◌++◌, length, take, Option, None, Some, refl, subst, sym, ap, arith, ◌∙◌, append_assoc, length-append, append-nil}
use Rattle.std.proofs.lemmas.List.{take-append-le}
use Rattle.std.proofs.Math.Seq.{take-append-add}
use Rattle.sky_io.specs.Sinks.{Appended, AppendedPart, Wrote, SinkState}
use Rattle.sky_io.specs.declared.sink.Put.{Put}
use Rattle.sky_io.specs.declared.sink.Put.TheVariants.{Done, Failed}

-- one piece was appended, and then another
pub appended_two : (old mid new : Option (List ℕ)) (p q : List ℕ) → Appended old p mid → Appended mid q new → Appended old (p ++ q) new
appended_two None mid new p q a b = rw (b, a) refl
appended_two (Some bytes) mid new p q a b = rw (b, a) (ap Some (append_assoc bytes p q))

-- one piece was appended, and then a first part of another
part_two : (old mid new : Option (List ℕ)) (p q : List ℕ) → Appended old p mid → AppendedPart mid q new → AppendedPart old (p ++ q) new
part_two old mid new p q a (n, le, b) =
    let both = appended_two old mid new p (take n q) a b in
    let long : length p + n ≤ length (p ++ q) = omega (arith, length-append p q) in
    let same : take (length p + n) (p ++ q) ≡ p ++ take n q = take-append-add p q n in
    (length p + n, long, (rw same both))

-- a first part of one piece was appended, which is a first part of both
part_one : (old new : Option (List ℕ)) (p q : List ℕ) → AppendedPart old p new → AppendedPart old (p ++ q) new
part_one old new p q (n, le, b) =
    let long : n ≤ length (p ++ q) = omega (arith, length-append p q) in
    let same : take n (p ++ q) ≡ take n p = take-append-le n p q le in
    (n, long, (rw same b))

-- nothing was appended
pub appended_nothing : (old : Option (List ℕ)) → Appended old [] old
appended_nothing None = refl
appended_nothing (Some bytes) = ap Some (sym (append-nil bytes))

-- A call that writes nothing has written the empty text.
pub wrote_nothing : (old : SinkState) → Wrote old old [] Done
wrote_nothing old = record {
  done = λ _. appended_nothing old.written;
  calm = λ _. refl;
  part = λ e. absurd (cc e);
  cause = λ e. absurd (cc e);
  later = omega arith;
}

-- One piece was written, and then another, or it failed: the answer to the second is that to both.
pub wrote_two : (old mid new : SinkState) (p q : List ℕ) (r : Put) → Wrote old mid p Done → Wrote mid new q r → Wrote old new (p ++ q) r
wrote_two old mid new p q r first second = record {
  done = λ e. appended_two old.written mid.written new.written p q (first.done refl) (second.done e);
  calm = λ e. second.calm e ∙ first.calm refl;
  part = λ e. part_two old.written mid.written new.written p q (first.done refl) (second.part e);
  cause = λ e. let rose = second.cause e in omega (arith, rose, first.later);
  later = omega (arith, first.later, second.later);
}

-- One piece failed, and so no other was tried.
pub wrote_one : (old new : SinkState) (p q : List ℕ) → Wrote old new p Failed → Wrote old new (p ++ q) Failed
wrote_one old new p q first = record {
  done = λ e. absurd (cc e);
  calm = λ e. absurd (cc e);
  part = λ e. part_one old.written new.written p q (first.part refl);
  cause = λ e. first.cause refl;
  later = first.later;
}

-- A whole of which some first part is written, and this rest isn't.
abbrev pub Under : SinkState → SinkState → List ℕ → List ℕ → Type 0
Under old new rest whole = (done : List ℕ) × Wrote old new done Done × (done ++ rest ≡ whole)

-- At the start all of the whole is its rest.
pub under_start : (old : SinkState) (whole : List ℕ) → Under old old whole whole
under_start old whole = ([], wrote_nothing old, refl)

-- A piece from the front of the rest was written.
pub under_more : (old mid new : SinkState) (p rest whole : List ℕ) → Under old mid (p ++ rest) whole → Wrote mid new p Done → Under old new rest whole
under_more old mid new p rest whole (done, so_far, is) next = (done ++ p, wrote_two old mid new done p Done so_far next, append_assoc done p rest ∙ is)

-- A piece from the front of the rest failed, and so the whole did.
pub under_fail : (old mid new : SinkState) (p rest whole : List ℕ) → Under old mid (p ++ rest) whole → Wrote mid new p Failed → Wrote old new whole Failed
under_fail old mid new p rest whole (done, so_far, is) next =
    subst (λ w. Wrote old new w Failed) (append_assoc done p rest ∙ is) (wrote_one old new (done ++ p) rest (wrote_two old mid new done p Failed so_far next))

-- No rest is left, and so the whole is written.
pub under_end : (old new : SinkState) (whole : List ℕ) → Under old new [] whole → Wrote old new whole Done
under_end old new whole (done, so_far, is) = subst (λ w. Wrote old new w Done) (sym (append-nil done) ∙ is) so_far
