-- What is read of an input: a byte into a draft, the lines of a request, a request.
use Rattle.std.specs.Prelude.{◌≡◌, ℕ, ◌<◌, ◌≤◌, ◌==◌, ◌&&◌, true, false, List, [], ◌∷◌, ◌++◌, length, Option, None, Some}
use Rattle.text_rules.specs.declared.limits.TheConstants.{SCRIPT_TEXT_MOST}
use Rattle.sky_io.specs.Sinks.{Rose}
use Rattle.byte_source.specs.Sources.{SourceState, Gave, IsAtEnd}
use Rattle.request_loop.specs.Drafts.{IsDraft, IsRequest, IsRest, may_end, start_after}
use Rattle.request_loop.specs.declared.draft.Draft.{Draft}
use Rattle.request_loop.specs.declared.draft.Stop.{Stop}
use Rattle.request_loop.specs.declared.draft.Stop.TheVariants.{Ended, Over, Failed}
use Rattle.request_loop.specs.declared.draft.TheConstants.{DRAFT_MOST}
use Rattle.request_loop.specs.declared.request.Request.{Request}
use Rattle.request_loop.specs.declared.request.Request.TheVariants as request

-- A byte was added to a draft: it is kept if there is room for it, unless an allocation failed.
pub record Adds (old new : Draft) (byte : ℕ) : Type 0 where
  pub start : new.start ≡ start_after old.start byte
  pub spent : new.is_spent ≡ false → old.is_spent ≡ false
  pub room : new.is_spent ≡ false → length old.text.items < DRAFT_MOST → new.text.items ≡ old.text.items ++ byte ∷ []
  pub full : new.is_spent ≡ false → DRAFT_MOST ≤ length old.text.items → new.text.items ≡ old.text.items

-- a draft took a byte: it is added, or it is the line feed that ends the request
abbrev pub Takes : (old new : Draft) → ℕ → Option Stop → Type 0
Takes old new byte None = (((byte == 10) && may_end old.start) ≡ false) × Adds old new byte
Takes old new byte (Some stop) = (stop ≡ Ended) × (byte ≡ 10) × (may_end old.start ≡ true) × (new ≡ old)

-- The source gave a byte, and the draft took it.
pub record TookByte (source_old source_new : SourceState) (old new : Draft) (stop : Option Stop) : Type 0 where
  pub byte : ℕ
  pub gave : Gave source_old.left (byte ∷ []) source_new.left
  pub still : source_new.faults ≡ source_old.faults
  pub takes : Takes old new byte stop

-- the next byte was read into a draft, or the reading stopped
abbrev pub TakesNext : (source_old source_new : SourceState) → (old new : Draft) → Option Stop → Type 0
TakesNext source_old source_new old new None = TookByte source_old source_new old new None
TakesNext source_old source_new old new (Some Ended) = TookByte source_old source_new old new (Some Ended)
TakesNext source_old source_new old new (Some Over) = IsAtEnd source_old.left × (source_new ≡ source_old) × (new ≡ old)
TakesNext source_old source_new old new (Some Failed) =
    (source_new.left ≡ source_old.left) × Rose source_old.faults source_new.faults × (new ≡ old)

-- These bytes were read into a draft.
pub record HasRead (source_old source_new : SourceState) (draft : Draft) : Type 0 where
  pub read : List ℕ
  pub gave : Gave source_old.left read source_new.left
  pub is : IsDraft read draft

-- These bytes were read into a draft, and a line feed after them that ends the request.
pub record HasReadAll (source_old source_new : SourceState) (draft : Draft) : Type 0 where
  pub read : List ℕ
  pub gave : Gave source_old.left (read ++ 10 ∷ []) source_new.left
  pub still : source_new.faults ≡ source_old.faults
  pub is : IsDraft read draft
  pub ends : may_end draft.start ≡ true

-- the lines of a request were read into a draft, up to its end, to that of the input, or to a failure
abbrev pub ReadsLines : (source_old source_new : SourceState) → Draft → Stop → Type 0
ReadsLines old new draft Ended = HasReadAll old new draft
ReadsLines old new draft Over = HasRead old new draft × (new.faults ≡ old.faults) × IsAtEnd new.left
ReadsLines old new draft Failed = HasRead old new draft × Rose old.faults new.faults

-- Some text above the limit is that of the request that these bytes are.
pub record IsLong (read : List ℕ) : Type 0 where
  pub text : List ℕ
  pub is : IsRequest text read
  pub long : SCRIPT_TEXT_MOST < length text

-- Some text is that of the request that these bytes are.
pub record IsAny (read : List ℕ) : Type 0 where
  pub text : List ℕ
  pub is : IsRequest text read

-- these bytes are a request, which has this text or is refused for its length or for memory
abbrev pub IsRequestOf : List ℕ → Request → Type 0
IsRequestOf read (request.Text text) = IsRequest text.items read × (length text.items ≤ SCRIPT_TEXT_MOST)
IsRequestOf read request.Long = IsLong read
IsRequestOf read request.Memory = IsAny read
IsRequestOf read _ = ⊥

-- the input ends with these bytes, which are no request
abbrev pub IsRestOf : List ℕ → Request → Type 0
IsRestOf read request.Open = IsRest read × (0 < length read)
IsRestOf read request.Nothing = read ≡ []
IsRestOf read _ = ⊥

-- A request was read.
pub record ReadsRequest (old new : SourceState) (it : Request) : Type 0 where
  pub read : List ℕ
  pub gave : Gave old.left read new.left
  pub still : new.faults ≡ old.faults
  pub is : IsRequestOf read it

-- The rest of the input was read.
pub record ReadsRest (old new : SourceState) (it : Request) : Type 0 where
  pub read : List ℕ
  pub gave : Gave old.left read new.left
  pub still : new.faults ≡ old.faults
  pub ended : IsAtEnd new.left
  pub is : IsRestOf read it

-- The source failed after these bytes, which are no request.
pub record ReadsFault (old new : SourceState) : Type 0 where
  pub read : List ℕ
  pub gave : Gave old.left read new.left
  pub cause : Rose old.faults new.faults
  pub is : IsRest read

-- the next request was read, or the rest of the input, or the source failed
abbrev pub Reads : (old new : SourceState) → Request → Type 0
Reads old new (request.Text text) = ReadsRequest old new (request.Text text)
Reads old new request.Long = ReadsRequest old new request.Long
Reads old new request.Memory = ReadsRequest old new request.Memory
Reads old new request.Open = ReadsRest old new request.Open
Reads old new request.Nothing = ReadsRest old new request.Nothing
Reads old new request.Failed = ReadsFault old new
