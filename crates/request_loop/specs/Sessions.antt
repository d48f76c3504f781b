-- What a session of requests reads and writes.
use Rattle.std.specs.Prelude.{◌≡◌, ◌⊎◌, ℕ, List, [], ◌++◌, Option, false, length}
use Rattle.sky_io.specs.Sinks.{SinkState, Appended, AppendedPart, Rose}
use Rattle.byte_source.specs.Sources.{SourceState, Gave, IsAtEnd}
use Rattle.request_loop.specs.Requests.{Cut, after_requests, cut_of}
use Rattle.request_loop.specs.Replies.{AreReplies, open_text}
use Rattle.request_loop.specs.declared.session.Session.{Session}
use Rattle.request_loop.specs.declared.session.Session.TheVariants.{Done, SourceFault, SinkFault}

-- The states of source and sink before and after a call.
pub record Streams : Type 0 where
  pub source_old : SourceState
  pub source_new : SourceState
  pub sink_old : SinkState
  pub sink_new : SinkState

-- the source before and after, and the sink before and after
abbrev pub streams : (source_old source_new : SourceState) → (sink_old sink_new : SinkState) → Streams
streams source_old source_new sink_old sink_new =
    record { source_old = source_old; source_new = source_new; sink_old = sink_old; sink_new = sink_new }

-- The source was read to its end, and exactly the replies to the requests of the whole input were written, with a last
-- line if bytes follow the last line that ends a request. Nothing is held back, and nothing has failed.
pub record IsDone (Answers : List ℕ → List ℕ → Type 0) (s : Streams) : Type 0 where
  pub input : List ℕ
  pub read : Gave s.source_old.left input s.source_new.left
  pub ended : IsAtEnd s.source_new.left
  pub still : s.source_new.faults ≡ s.source_old.faults
  pub replies : List ℕ
  pub each : AreReplies Answers (cut_of input).requests replies
  pub written : Appended s.sink_old.written (replies ++ open_text (cut_of input).rest) s.sink_new.written
  pub calm : s.sink_new.faults ≡ s.sink_old.faults
  pub sent : s.sink_new.held ≡ false

-- The source failed: its count of faults rose. Exactly the replies to the requests of what was read were written, and
-- nothing is held back.
pub record IsSourceFault (Answers : List ℕ → List ℕ → Type 0) (s : Streams) : Type 0 where
  pub input : List ℕ
  pub read : Gave s.source_old.left input s.source_new.left
  pub cause : Rose s.source_old.faults s.source_new.faults
  pub replies : List ℕ
  pub each : AreReplies Answers (cut_of input).requests replies
  pub written : Appended s.sink_old.written replies s.sink_new.written
  pub calm : s.sink_new.faults ≡ s.sink_old.faults
  pub sent : s.sink_new.held ≡ false

-- one request alone; or the rest of an input that is at its end; or nothing
abbrev pub IsOneAtMost : (left : Option (List ℕ)) → Cut → Type 0
IsOneAtMost left cut =
    ((length cut.requests ≡ 1) × (cut.rest ≡ []))
    ⊎ ((cut.requests ≡ []) × (IsAtEnd left ⊎ (cut.rest ≡ [])))

-- The sink failed: its count of faults rose. The requests that were read have their whole replies, but for the last:
-- of its reply, or of the last line, a prefix was written. So nothing was read beyond the reply that failed.
pub record IsSinkFault (Answers : List ℕ → List ℕ → Type 0) (s : Streams) : Type 0 where
  pub input : List ℕ
  pub read : Gave s.source_old.left input s.source_new.left
  pub still : s.source_new.faults ≡ s.source_old.faults
  pub answered : List (List ℕ)
  pub last : Cut
  pub cut : cut_of input ≡ after_requests answered last
  pub one : IsOneAtMost s.source_new.left last
  pub replies : List ℕ
  pub each : AreReplies Answers answered replies
  pub between : Option (List ℕ)
  pub whole : Appended s.sink_old.written replies between
  pub reply : List ℕ
  pub is : AreReplies Answers last.requests reply
  pub part : AppendedPart between (reply ++ open_text last.rest) s.sink_new.written
  pub cause : Rose s.sink_old.faults s.sink_new.faults

-- the meaning of the result of a session
abbrev pub IsSession : (List ℕ → List ℕ → Type 0) → Streams → Session → Type 0
IsSession Answers s Done = IsDone Answers s
IsSession Answers s SourceFault = IsSourceFault Answers s
IsSession Answers s SinkFault = IsSinkFault Answers s
