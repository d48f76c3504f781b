-- The replies to requests. Which answers an accepted request may have is a parameter: a relation between the text of a
-- request and an answer.
use Rattle.std.specs.Prelude.{◌≡◌, ◌⊎◌, ℕ, ◌<◌, ◌≤◌, List, [], ◌∷◌, ◌++◌, length, codes}
use Rattle.text_rules.specs.declared.limits.TheConstants.{SCRIPT_TEXT_MOST}
use Rattle.sky_io.specs.Sinks.{SinkState, Wrote}
use Rattle.sky_io.specs.declared.sink.Put.TheVariants as put
use Rattle.request_loop.specs.declared.answered.Answered.{Answered}
use Rattle.request_loop.specs.declared.answered.Answered.TheVariants.{Done, Failed, Memory}

-- the reply to a request for which an allocation failed
abbrev pub memory_line : List ℕ
memory_line = codes "+ out of memory\n"

-- the reply to a request above the limit of a script's bytes
abbrev pub long_line : List ℕ
long_line = codes "+ script: too long\n"

-- the last line, if the last request has no end
abbrev pub open_line : List ℕ
open_line = codes "+ request without end\n"

-- the reply is that to the request: an answer, if the request is within the limit, and else that it is too long; or that
-- an allocation failed
abbrev pub IsReply : (List ℕ → List ℕ → Type 0) → (request reply : List ℕ) → Type 0
IsReply Answers request reply =
    ((length request ≤ SCRIPT_TEXT_MOST) × Answers request reply)
    ⊎ ((SCRIPT_TEXT_MOST < length request) × (reply ≡ long_line))
    ⊎ (reply ≡ memory_line)

-- The text is the reply to a request, and then a text of which something holds.
pub record IsReplyAnd (Answers : List ℕ → List ℕ → Type 0) (request : List ℕ) (Then : List ℕ → Type 0) (text : List ℕ)
    : Type 0 where
  pub reply : List ℕ
  pub is : IsReply Answers request reply
  pub later : List ℕ
  pub follow : Then later
  pub whole : text ≡ reply ++ later

-- the text is the replies to these requests, in their order, and nothing else
abbrev pub AreReplies : (List ℕ → List ℕ → Type 0) → (requests : List (List ℕ)) → (text : List ℕ) → Type 0
AreReplies Answers [] text = text ≡ []
AreReplies Answers (request ∷ requests) text = IsReplyAnd Answers request (AreReplies Answers requests) text

-- the last line, if the input ends with bytes that no line `+` follows
abbrev pub open_text : List ℕ → List ℕ
open_text [] = []
open_text (b ∷ bs) = open_line

-- Some answer to a request was written, or failed to be.
pub record WroteAnswer (Answers : List ℕ → List ℕ → Type 0) (request : List ℕ) (old new : SinkState)
    (Writes : SinkState → SinkState → List ℕ → Type 0) : Type 0 where
  pub answer : List ℕ
  pub is : Answers request answer
  pub wrote : Writes old new answer

-- the result of a call that answers a request: an answer was written whole, or the sink failed at one; or an allocation
-- failed, and nothing was written
abbrev pub Answering : (List ℕ → List ℕ → Type 0) → List ℕ → SinkState → SinkState → Answered → Type 0
Answering Answers request old new Done = WroteAnswer Answers request old new (λ o n text. Wrote o n text put.Done)
Answering Answers request old new Failed = WroteAnswer Answers request old new (λ o n text. Wrote o n text put.Failed)
Answering Answers request old new Memory = new ≡ old
