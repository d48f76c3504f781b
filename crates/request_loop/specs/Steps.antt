-- What a step of a session reads and writes: a request and its reply, or the end.
use Rattle.std.specs.Prelude.{◌≡◌, ◌⊎◌, ℕ, false, List, ◌++◌, Option, None, Some}
use Rattle.sky_io.specs.Sinks.{SinkState, Appended, Wrote}
use Rattle.sky_io.specs.declared.sink.Put.{Put}
use Rattle.sky_io.specs.declared.sink.Put.TheVariants as put
use Rattle.byte_source.specs.Sources.{Gave, IsAtEnd}
use Rattle.request_loop.specs.Requests.{after_requests, cut_of}
use Rattle.request_loop.specs.Replies.{AreReplies, IsReply, open_text}
use Rattle.request_loop.specs.Drafts.{IsRequest, IsRest}
use Rattle.request_loop.specs.Readings.{ReadsFault}
use Rattle.request_loop.specs.Sessions.{Streams}
use Rattle.request_loop.specs.declared.session.Session.{Session}
use Rattle.request_loop.specs.declared.session.Session.TheVariants as session

-- A text was written and sent, or the sink failed.
pub record Sent (old new : SinkState) (text : List ℕ) (result : Put) : Type 0 where
  pub wrote : Wrote old new text result
  pub sent : result ≡ put.Done → new.held ≡ false

-- A reply to a request was written and sent, or the sink failed at it.
pub record SentReply (Answers : List ℕ → List ℕ → Type 0) (request : List ℕ) (old new : SinkState) (result : Put)
    : Type 0 where
  pub reply : List ℕ
  pub is : IsReply Answers request reply
  pub sent : Sent old new reply result

-- A request was read, and its reply was written and sent, or the sink failed at it.
pub record Replied (Answers : List ℕ → List ℕ → Type 0) (s : Streams) (result : Put) : Type 0 where
  pub read : List ℕ
  pub text : List ℕ
  pub gave : Gave s.source_old.left read s.source_new.left
  pub still : s.source_new.faults ≡ s.source_old.faults
  pub is : IsRequest text read
  pub reply : SentReply Answers text s.sink_old s.sink_new result

-- The rest of the input was read, and the last line was written, if there is one, and sent, or the sink failed at it.
pub record Finished (s : Streams) (result : Put) : Type 0 where
  pub read : List ℕ
  pub gave : Gave s.source_old.left read s.source_new.left
  pub still : s.source_new.faults ≡ s.source_old.faults
  pub ended : IsAtEnd s.source_new.left
  pub is : IsRest read
  pub line : Sent s.sink_old s.sink_new (open_text read) result

-- The source failed after bytes that are no request, and nothing was written.
pub record Broken (s : Streams) : Type 0 where
  pub fault : ReadsFault s.source_old s.source_new
  pub same : s.sink_new ≡ s.sink_old

-- a request was answered, or the session has ended
abbrev pub Serves : (List ℕ → List ℕ → Type 0) → Streams → Option Session → Type 0
Serves Answers s None = Replied Answers s put.Done
Serves Answers s (Some session.Done) = Finished s put.Done
Serves Answers s (Some session.SourceFault) = Broken s
Serves Answers s (Some session.SinkFault) = Replied Answers s put.Failed ⊎ Finished s put.Failed

-- the session goes on after a reply that was written and sent
abbrev pub AfterReply : Put → Option Session → Type 0
AfterReply put.Done next = next ≡ None
AfterReply put.Failed next = next ≡ Some session.SinkFault

-- the session ends after the last line
abbrev pub AfterLast : Put → Option Session → Type 0
AfterLast put.Done next = next ≡ Some session.Done
AfterLast put.Failed next = next ≡ Some session.SinkFault

-- So far the requests that were read have their replies, which were written and sent.
pub record IsSoFar (Answers : List ℕ → List ℕ → Type 0) (s : Streams) : Type 0 where
  pub input : List ℕ
  pub gave : Gave s.source_old.left input s.source_new.left
  pub still : s.source_new.faults ≡ s.source_old.faults
  pub requests : List (List ℕ)
  pub are : (later : List ℕ) → cut_of (input ++ later) ≡ after_requests requests (cut_of later)
  pub replies : List ℕ
  pub each : AreReplies Answers requests replies
  pub written : Appended s.sink_old.written replies s.sink_new.written
  pub calm : s.sink_new.faults ≡ s.sink_old.faults
  pub sent : s.sink_new.held ≡ false
