-- Raw calls that read, one after another, as lemmas on what files and the shelf over them show.
use Rattle.std.proofs.Common.{◌≡◌, ℕ, ◌+◌, ◌<◌, ◌≤◌, List, [], ◌++◌, length, take, Option, None, Some, option_map, Ok, Err, refl, sym, subst, ap, arith, ◌∙◌, append_assoc, append-nil, length-append}
use Rattle.std.specs.Prelude.{IfSome}
use Rattle.std.proofs.lemmas.List.{take_all}
use Rattle.std.proofs.Math.Seq.{take-append_seam}
use Rattle.sky_io.specs.Shelves.{Fetched, GivesText, named_text}
use Rattle.sky_io.specs.Counts.{counted}
use Rattle.sky_io.specs.RawReads.{ReadState, Gave, Opened, ReadSome, unseen_files}
use Rattle.sky_io.specs.FileReads.{text_of, ReadStart, ReadNext}
use Rattle.sky_io.specs.declared.raw.RawFault.{RawFault}
use Rattle.sky_io.specs.declared.shelf.Fetch.{Fetch}
use Rattle.sky_io.specs.declared.shelf.Fetch.TheVariants.{Done, Failed, Memory}
use Rattle.sky_io.proofs.Fetches.{fetch_done, fetch_memory}

-- Some bytes of a text were read, what is left follows them, and nothing has failed.
pub record Reading (old now : ReadState) (text rest : Option (List ℕ)) (limit : ℕ) (into : List ℕ) : Type 0 where
  pub texts : now.texts ≡ old.texts
  pub calm : now.faults ≡ old.faults
  pub gave : Gave text into rest
  pub most : length into ≤ limit + 1

-- nothing was read
gave_none : (text : Option (List ℕ)) → Gave text [] text
gave_none None = refl
gave_none (Some bytes) = refl

-- some bytes were read, and then others
gave_two : (text before after : Option (List ℕ)) (p q : List ℕ) → Gave text p before → Gave before q after → Gave text (p ++ q) after
gave_two text before None p q a b = a ∙ ap (option_map (λ rest. p ++ rest)) b
gave_two text before (Some rest) p q a b = a ∙ ap (option_map (λ rest. p ++ rest)) b ∙ ap Some (sym (append_assoc p q rest))

-- the bytes read are as many as were wanted
gave_most : (text rest : Option (List ℕ)) (into : List ℕ) (n : ℕ) → Gave text into rest → length into ≡ n → IfSome text (λ bytes. into ≡ take n bytes)
gave_most None rest into n gave full = tt
gave_most (Some bytes) None into n gave full = absurd (cc gave)
gave_most (Some bytes) (Some rest) into n gave full =
    let is : bytes ≡ into ++ rest = cc gave in
    rw (is, sym full) (sym (take-append_seam into rest))

-- nothing is left after the bytes read
gave_all : (text rest : Option (List ℕ)) (into : List ℕ) (n : ℕ) → Gave text into rest → IfSome rest (λ left. left ≡ []) → length into ≤ n → IfSome text (λ bytes. into ≡ take n bytes)
gave_all None rest into n gave none few = tt
gave_all (Some bytes) None into n gave none few = absurd (cc gave)
gave_all (Some bytes) (Some rest) into n gave none few =
    let is : bytes ≡ into ++ rest = cc gave in
    let whole : bytes ≡ into = is ∙ ap (λ left. into ++ left) none ∙ append-nil into in
    rw whole (sym (take_all n into few))

-- At the start nothing was read.
pub reading_none : (old : ReadState) (text : Option (List ℕ)) (limit : ℕ) → Reading old old text text limit []
reading_none old text limit = record { texts = refl; calm = refl; gave = gave_none text; most = omega arith }

-- A further read gave some bytes, no more than are wanted.
reading_with : (old mid new : ReadState) (text before after : Option (List ℕ)) (limit most : ℕ) (had has bytes : List ℕ) → Reading old mid text before limit had → new.texts ≡ mid.texts → new.faults ≡ mid.faults → length had + most ≤ limit + 1 → has ≡ had ++ bytes → length bytes ≤ most → Gave before bytes after → Reading old new text after limit has
reading_with old mid new text before after limit most had has bytes so_far texts calm fits is few gave = record {
  texts = texts ∙ so_far.texts;
  calm = calm ∙ so_far.calm;
  gave = rw is (gave_two text before after had bytes so_far.gave gave);
  most = rw is (omega (arith, length-append had bytes, few, fits));
}

pub reading_more : (old mid new : ReadState) (text before after : Option (List ℕ)) (limit most : ℕ) (had has : List ℕ) → Reading old mid text before limit had → ReadNext mid new before after most had has None → length had + most ≤ limit + 1 → Reading old new text after limit has
reading_more old mid new text before after limit most had has so_far next fits =
    let more = next.more refl in
    reading_with old mid new text before after limit most had has more.0 so_far next.texts (next.calm (λ e. cc e)) fits more.1 more.3 more.4

-- The bytes read are one more than the limit.
pub reading_full : (old now : ReadState) (text rest : Option (List ℕ)) (limit : ℕ) (into : List ℕ) → Reading old now text rest limit into → limit < length into → ReadStart old now text limit into Done
reading_full old now text rest limit into so_far full = record {
  texts = so_far.texts;
  done = λ _. gave_most text rest into (limit + 1) so_far.gave (omega (arith, so_far.most, full));
  short = λ _. so_far.most;
  calm = λ _. so_far.calm;
  cause = λ e. absurd (cc e);
  later = omega (arith, so_far.calm);
}

-- A further read was the last one.
pub reading_last : (old mid new : ReadState) (text before after : Option (List ℕ)) (limit most : ℕ) (had has : List ℕ) (result : Fetch) → Reading old mid text before limit had → ReadNext mid new before after most had has (Some result) → ReadStart old new text limit has result
reading_last old mid new text before after limit most had has result so_far next = record {
  texts = next.texts ∙ so_far.texts;
  done = λ e. let ended = next.ended (ap Some e) in rw ended.1 (gave_all text before had (limit + 1) so_far.gave ended.0 so_far.most);
  short = λ e. let ended = next.ended (ap Some e) in rw ended.1 so_far.most;
  calm = λ ne. next.calm (λ e. ne (cc e)) ∙ so_far.calm;
  cause = λ e. let rose = next.cause (ap Some e) in omega (arith, rose, so_far.calm);
  later = omega (arith, next.later, so_far.calm);
}

-- A file was opened, and read from its start.
pub opened_read : {F : Type 0} (rest_of : F → Option (List ℕ)) (old mid new : ReadState) (name : List ℕ) (file : F) (limit : ℕ) (into : List ℕ) (result : Fetch) → Opened rest_of old mid name (Ok file) → ReadStart mid new (rest_of file) limit into result → ReadStart old new (text_of old name) limit into result
opened_read rest_of old mid new name file limit into result opened read = record {
  texts = read.texts ∙ opened.texts;
  done = λ e. subst (λ text. IfSome text (λ bytes. into ≡ take (limit + 1) bytes)) opened.whole (read.done e);
  short = read.short;
  calm = λ ne. read.calm ne ∙ opened.calm;
  cause = λ e. let rose = read.cause e in omega (arith, rose, opened.calm);
  later = omega (arith, read.later, opened.calm);
}

-- A file could not be opened.
pub unopened : {F : Type 0} (rest_of : F → Option (List ℕ)) (old new : ReadState) (name : List ℕ) (e : RawFault) (text : Option (List ℕ)) (limit : ℕ) (into : List ℕ) → Opened rest_of old new name (Err e) → ReadStart old new text limit into Failed
unopened rest_of old new name e text limit into opened = record {
  texts = opened.texts;
  done = λ e. absurd (cc e);
  short = λ e. absurd (cc e);
  calm = λ ne. absurd (ne refl);
  cause = λ _. opened.cause;
  later = opened.later;
}

-- A file of the folder could not be opened.
pub folder_unopened : {F : Type 0} (rest_of : F → Option (List ℕ)) (faults now : ℕ) (name : List ℕ) (e : RawFault) → now ≡ counted faults → faults ≤ now → Opened rest_of (unseen_files faults) (unseen_files now) name (Err e)
folder_unopened rest_of faults now name e is later = record { texts = refl; whole = tt; calm = tt; cause = omega (arith, is); later = later }

-- A file of the folder could not be read.
pub folder_unread : (faults now : ℕ) (before after : Option (List ℕ)) (room : List ℕ) (e : RawFault) → now ≡ counted faults → faults ≤ now → ReadSome (unseen_files faults) (unseen_files now) before after room (Err e)
folder_unread faults now before after room e is later = record {
  texts = refl;
  most = tt;
  gave = tt;
  ended = λ none. absurd (cc none);
  calm = tt;
  cause = omega (arith, is);
  later = later;
}

-- the first bytes of the named text are those that a shelf gives
gives_text : (texts : Option (List (List ℕ × List ℕ))) (name : List ℕ) (limit : ℕ) (into : List ℕ) → IfSome (option_map (named_text name) texts) (λ bytes. into ≡ take (limit + 1) bytes) → GivesText texts name limit into
gives_text None name limit into gives = tt
gives_text (Some texts) name limit into gives = gives

-- A file was read, and so its text was fetched.
pub file_fetched : (old new : ReadState) (failed : List (List ℕ)) (name : List ℕ) (limit : ℕ) (into : List ℕ) → ReadStart old new (text_of old name) limit into Done → Fetched (record { texts = old.texts; failed = failed }) (record { texts = new.texts; failed = failed }) name limit into Done
file_fetched old new failed name limit into read =
    rw read.texts (fetch_done (record { texts = old.texts; failed = failed }) name limit into (gives_text old.texts name limit into (read.done refl)) (read.short refl))

-- Memory ran out.
pub file_unfetched : (old new : ReadState) (failed : List (List ℕ)) (name : List ℕ) (limit : ℕ) → new.texts ≡ old.texts → Fetched (record { texts = old.texts; failed = failed }) (record { texts = new.texts; failed = failed }) name limit [] Memory
file_unfetched old new failed name limit texts =
    rw texts (fetch_memory (record { texts = old.texts; failed = failed }) name limit)
