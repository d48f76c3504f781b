-- A record that is read takes bytes of the text, so that there are turns enough for all of them.
use Rattle.std.proofs.Common.{◌≡◌, ◌⊎◌, ◌∙◌, inl, inr, sym, refl, ap, subst, ℕ, ◌+◌, ◌≤◌, ◌<◌, suc, zero, Bool, true, false, List, [], ◌∷◌, length, length-append, Option, None, Some, arith, Bor}
use Rattle.std.proofs.lemmas.Option.{same_Some, none-some}
use Rattle.csv.specs.Machine.{Read, next_record, step, is_end, fields_after, field_after, ends_at_end}
use Rattle.csv.specs.declared.parser.Action.{Action}
use Rattle.csv.specs.declared.parser.Action.TheVariants as act
use Rattle.csv.specs.Reading.{NextIs, ReadsNext, ReadRecord, records_from, default_config, pending_of, strip_bom, is_bom}
use Rattle.csv.specs.declared.parser.State.{State}
use Rattle.csv.specs.declared.parser.State.TheVariants as st
use Rattle.csv.specs.declared.reader.Reader.{Reader}
use Rattle.record_text.specs.PlainText.{IsPlain, TookLine}
use Rattle.record_text.specs.Standing.{CopiesGive, IsEnough, LinesGive, StillGives, TookFirst}
use Rattle.record_text.specs.declared.reading.RecordReader.{RecordReader}
use Rattle.record_text.specs.declared.reading.RecordReader.TheVariants.{Lines, Copies}
use Rattle.text_rules.specs.declared.limits.TheConstants.{TEXT_MOST}

-- what is left of a text is shorter, or the text is at its end
abbrev Shorter : List ℕ → Read → Type 0
Shorter xs p = (length p.2 < length xs) ⊎ ((p.1 ≡ st.StartRecord) × (p.2 ≡ []))

shorter_end : (s : State) (fields : List (List ℕ)) (field : List ℕ) (p : Read) (t : Bool) → ends_at_end s ≡ t → next_record default_config s fields field [] ≡ Some p → Shorter [] p
unfolding next_record
shorter_end s fields field p true e h = subst (λ q. Shorter [] q) (same_Some _ p (rw e at h)) (inr (refl, refl))
shorter_end s fields field p false e h = absurd (none-some p (rw e at h))

one_more : (c : ℕ) (rest : List ℕ) (p : Read) → Shorter rest p → Shorter (c ∷ rest) p
one_more c rest p (inl short) = inl (omega (arith, short))
one_more c rest p (inr end) = inr end

shorter_by : (c : ℕ) (rest : List ℕ) (s : State) (fields : List (List ℕ)) (field : List ℕ) (p : Read) (t : Bool) → is_end (step default_config s c).1 ≡ t
    → (next_record default_config (step default_config s c).0 (fields_after (step default_config s c).1 fields field) (field_after (step default_config s c).1 c field) rest ≡ Some p → Shorter rest p)
    → next_record default_config s fields field (c ∷ rest) ≡ Some p → Shorter (c ∷ rest) p
unfolding next_record
shorter_by c rest s fields field p true e more h = subst (λ q. Shorter (c ∷ rest) q) (same_Some _ p (rw e at h)) (inl (omega arith))
shorter_by c rest s fields field p false e more h = one_more c rest p (more (rw e at h))

shorter : (xs : List ℕ) (s : State) (fields : List (List ℕ)) (field : List ℕ) (p : Read) → next_record default_config s fields field xs ≡ Some p → Shorter xs p
shorter [] s fields field p h = shorter_end s fields field p (ends_at_end s) refl h
shorter (c ∷ rest) s fields field p h = shorter_by c rest s fields field p (is_end (step default_config s c).1) refl (λ k. shorter rest _ _ _ p k) h

none_at_end : (s : State) (xs : List ℕ) → s ≡ st.StartRecord → xs ≡ [] → next_record default_config s [] [] xs ≡ None
unfolding next_record
none_at_end s xs e1 e2 = rw (e1, e2) refl

enough_shorter : (m : ℕ) (bytes : List ℕ) (p : Read) → length bytes < suc m → Shorter bytes p → IsEnough m p.1 p.2
enough_shorter m bytes p h (inl short) = inl (omega (arith, h, short))
enough_shorter m bytes p h (inr end) = inr (none_at_end p.1 p.2 end.0 end.1)

-- where a record was read there was a turn for it, and the rest are enough for what follows
enough_more : (n : ℕ) (s : State) (bytes : List ℕ) (p : Read) → next_record default_config s [] [] bytes ≡ Some p → IsEnough n s bytes → (m : ℕ) × (n ≡ suc m) × IsEnough m p.1 p.2
enough_more n s bytes p e (inr none) = absurd (none-some p (sym none ∙ e))
enough_more zero s bytes p e (inl short) = absurd (omega (arith, short))
enough_more (suc m) s bytes p e (inl short) = (m, refl, enough_shorter m bytes p short (shorter bytes s [] [] p e))

records_more : (m : ℕ) (s : State) (bytes : List ℕ) (p : Read) → next_record default_config s [] [] bytes ≡ Some p → records_from default_config (suc m) s bytes ≡ p.0 ∷ records_from default_config m p.1 p.2
unfolding records_from
records_more m s bytes p e = rw e refl

records_none : (n : ℕ) (s : State) (bytes : List ℕ) → next_record default_config s [] [] bytes ≡ None → records_from default_config n s bytes ≡ []
unfolding records_from
records_none zero s bytes e = refl
records_none (suc n) s bytes e = rw e refl

next_some : (o : Option Read) (f : List (List ℕ)) (s : State) (z : List ℕ) → NextIs o true f s z → (p : Read) × (o ≡ Some p) × (f ≡ p.0) × (s ≡ p.1) × (z ≡ p.2)
next_some None f s z n = cc n
next_some (Some p) f s z n = (p, refl, n.1, n.2, n.3)

next_none : (o : Option Read) (f : List (List ℕ)) (s : State) (z : List ℕ) → NextIs o false f s z → o ≡ None
next_none None f s z n = refl
next_none (Some p) f s z n = cc n.0

reads_more : (a b : State) (y : List ℕ) (f : List (List ℕ)) (k : Option (List ℕ)) → ReadsNext default_config a (Some y) k true f b
    → (z : List ℕ) × (k ≡ Some z) × (p : Read) × (next_record default_config a [] [] y ≡ Some p) × (f ≡ p.0) × (b ≡ p.1) × (z ≡ p.2)
reads_more a b y f None r = absurd r
reads_more a b y f (Some z) r = let s = next_some _ f b z r in (z, refl, s.0, s.1, s.2, s.3, s.4)

reads_none : (a b : State) (y : List ℕ) (f : List (List ℕ)) (k : Option (List ℕ)) → ReadsNext default_config a (Some y) k false f b → next_record default_config a [] [] y ≡ None
reads_none a b y f None r = absurd r
reads_none a b y f (Some z) r = next_none _ f b z r

abbrev told : Bor (List ℕ) → Option (List ℕ)
told s = Some s.now

left_more : (n m : ℕ) (s : State) (bytes : List ℕ) (p : Read) (f : List (List ℕ)) (rest : List (List (List ℕ))) → rest ≡ records_from default_config n s bytes → n ≡ suc m → f ≡ p.0
    → next_record default_config s [] [] bytes ≡ Some p → rest ≡ f ∷ records_from default_config m p.1 p.2
left_more n m s bytes p f rest e1 e2 e3 e = rw (e1, e2, e3) (records_more m s bytes p e)

enough_at : (m : ℕ) (s : State) (z : List ℕ) (p : Read) → s ≡ p.1 → z ≡ p.2 → IsEnough m p.1 p.2 → IsEnough m s z
enough_at m s z p e1 e2 h = rw (e1, e2) h

left_at : (m : ℕ) (s : State) (z : List ℕ) (p : Read) → s ≡ p.1 → z ≡ p.2 → records_from default_config m p.1 p.2 ≡ records_from default_config m s z
left_at m s z p e1 e2 = rw (e1, e2) refl

-- an action ends one field at most
one_field : (a : Action) (fields : List (List ℕ)) (field : List ℕ) → length (fields_after a fields field) ≤ length fields + 1
one_field act.EndField fields field = omega (arith, length-append fields (field ∷ []))
one_field act.Skip fields field = omega arith
one_field act.Copy fields field = omega arith
one_field act.EndRecord fields field = omega (arith, length-append fields (field ∷ []))

few_end : (s : State) (fields : List (List ℕ)) (field : List ℕ) (p : Read) (t : Bool) → ends_at_end s ≡ t → next_record default_config s fields field [] ≡ Some p
    → length p.0 ≤ length fields + 1
unfolding next_record
few_end s fields field p true e h = subst (λ (q : Read). length q.0 ≤ length fields + 1) (same_Some _ p (rw e at h)) (omega (arith, length-append fields (field ∷ [])))
few_end s fields field p false e h = absurd (none-some p (rw e at h))

few_by : (c : ℕ) (rest : List ℕ) (s : State) (fields : List (List ℕ)) (field : List ℕ) (p : Read) (t : Bool) → is_end (step default_config s c).1 ≡ t
    → (next_record default_config (step default_config s c).0 (fields_after (step default_config s c).1 fields field) (field_after (step default_config s c).1 c field) rest ≡ Some p
    → length p.0 ≤ length (fields_after (step default_config s c).1 fields field) + length rest + 1)
    → next_record default_config s fields field (c ∷ rest) ≡ Some p → length p.0 ≤ length fields + length (c ∷ rest) + 1
unfolding next_record
few_by c rest s fields field p true e more h =
    subst (λ (q : Read). length q.0 ≤ length fields + length (c ∷ rest) + 1) (same_Some _ p (rw e at h)) (omega (arith, one_field (step default_config s c).1 fields field))
few_by c rest s fields field p false e more h = omega (arith, one_field (step default_config s c).1 fields field, more (rw e at h))

-- a record has at most one field more than its text has bytes
few_fields : (xs : List ℕ) (s : State) (fields : List (List ℕ)) (field : List ℕ) (p : Read) → next_record default_config s fields field xs ≡ Some p
    → length p.0 ≤ length fields + length xs + 1
few_fields [] s fields field p h = omega (arith, few_end s fields field p (ends_at_end s) refl h)
few_fields (c ∷ rest) s fields field p h = few_by c rest s fields field p (is_end (step default_config s c).1) refl (λ k. few_fields rest _ _ _ p k) h

-- what is left of a small text is small
small_rest : (xs : List ℕ) (p : Read) → Shorter xs p → length xs ≤ TEXT_MOST → length p.2 ≤ TEXT_MOST
small_rest xs p (inl short) h = omega (arith, short, h)
small_rest xs p (inr end) h = omega (arith, ap length end.1)

stripped_by : (a b c : ℕ) (rest : List ℕ) (t : Bool) → is_bom a b c ≡ t → length (strip_bom (a ∷ b ∷ c ∷ rest)) ≤ length (a ∷ b ∷ c ∷ rest)
unfolding strip_bom
stripped_by a b c rest true e = rw e (omega arith)
stripped_by a b c rest false e = rw e (omega arith)

stripped : (text : List ℕ) → length (strip_bom text) ≤ length text
unfolding strip_bom
stripped [] = omega arith
stripped (a ∷ []) = omega arith
stripped (a ∷ b ∷ []) = omega arith
stripped (a ∷ b ∷ c ∷ rest) = stripped_by a b c rest (is_bom a b c) refl

-- a small text without its byte order mark is small
pub stripped_small : (text : List ℕ) → length text ≤ TEXT_MOST → length (strip_bom text) ≤ TEXT_MOST
stripped_small text h = omega (arith, stripped text, h)

-- what a read of `csv` says of the records that are left
pub took_copied : (found : Bool) (a b : Reader (Bor (List ℕ))) (f : List (List ℕ)) (rest : List (List (List ℕ)))
    → CopiesGive a rest → b.first ≡ true → b.flexible ≡ a.flexible → ReadRecord told a b found f → TookFirst found f (Copies b) rest
took_copied true a b f rest still first wide r =
    let (z, known, p, next, fields, state, after) = reads_more a.state b.state still.bytes f (pending_of (told b.rdr) b) (rw (still.config, still.source) at r.0) in
    let (m, turns, enough) = enough_more still.turns a.state still.bytes p next still.enough in record {
      more = records_from default_config m p.1 p.2;
      split = left_more still.turns m a.state still.bytes p f rest still.left turns fields next;
      small = omega (arith, ap length fields, few_fields still.bytes a.state [] [] p next, still.small);
      gives = record {
        gives = record {
          plain = r.3 ∙ still.plain;
          ready = inl first;
          wide = wide ∙ still.wide;
          config = r.2 ∙ still.config;
          turns = m;
          bytes = z;
          small = omega (arith, ap length after, small_rest still.bytes p (shorter still.bytes a.state [] [] p next) still.small);
          source = rw r.1 known;
          enough = enough_at m b.state z p state after enough;
          left = left_at m b.state z p state after;
        };
      };
    }
took_copied false a b f rest still first wide r =
    let none = reads_none a.state b.state still.bytes f (pending_of (told b.rdr) b) (rw (still.config, still.source) at r.0) in
    still.left ∙ records_none still.turns a.state still.bytes none

-- what a read of a line says of them
took_of_lines : (found : Bool) (x y : Bor (List ℕ)) (f : List (List ℕ)) (rest : List (List (List ℕ))) → LinesGive x.now rest → TookLine found x.now f y.now → TookFirst found f (Lines y) rest
took_of_lines true x y f rest still took =
    let p : Read = (f, st.StartRecord, y.now) in
    let (m, turns, enough) = enough_more still.turns st.StartRecord x.now p took.read still.enough in record {
      more = records_from default_config m st.StartRecord y.now;
      split = left_more still.turns m st.StartRecord x.now p f rest still.left turns refl took.read;
      small = omega (arith, few_fields x.now st.StartRecord [] [] p took.read, still.small);
      gives = record {
        gives = record {
          plain = took.plain;
          turns = m;
          small = small_rest x.now p (shorter x.now st.StartRecord [] [] p took.read) still.small;
          enough = enough;
          left = refl;
        };
      };
    }
took_of_lines false x y f rest still none = still.left ∙ records_none still.turns st.StartRecord x.now none

-- what a read of a line says of a reader, and then what a copy does
pub took_line : (found : Bool) (a b : RecordReader) (x y : Bor (List ℕ)) (f : List (List ℕ)) → a ≡ Lines x → b ≡ Lines y → (IsPlain x.now → TookLine found x.now f y.now)
    → (rest : List (List (List ℕ))) → StillGives a rest → TookFirst found f b rest
took_line found a b x y f is after took = subst (λ r. (rest : List (List (List ℕ))) → StillGives r rest → TookFirst found f b rest) (sym is)
    (subst (λ r. (rest : List (List (List ℕ))) → StillGives (Lines x) rest → TookFirst found f r rest) (sym after)
    (λ rest still. took_of_lines found x y f rest still.gives (took still.gives.plain)))

pub took_copy : (found : Bool) (a b : RecordReader) (x y : Reader (Bor (List ℕ))) (f : List (List ℕ)) → a ≡ Copies x → b ≡ Copies y
    → ((rest : List (List (List ℕ))) → CopiesGive x rest → TookFirst found f (Copies y) rest) → (rest : List (List (List ℕ))) → StillGives a rest → TookFirst found f b rest
took_copy found a b x y f is after took = subst (λ r. (rest : List (List (List ℕ))) → StillGives r rest → TookFirst found f b rest) (sym is)
    (subst (λ r. (rest : List (List (List ℕ))) → StillGives (Copies x) rest → TookFirst found f r rest) (sym after)
    (λ rest still. took rest still.gives))
