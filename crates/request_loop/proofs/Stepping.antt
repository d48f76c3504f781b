-- A step of a session: a request that was read, and its reply.
use Rattle.std.proofs.Common.{◌≡◌, refl, sym, subst, ℕ, ◌<◌, ◌≤◌, arith, false, inl, inr, List, [], ◌∷◌, length, Option, Some, Vec, Global}
use Rattle.text_rules.specs.declared.limits.TheConstants.{SCRIPT_TEXT_MOST}
use Rattle.sky_io.specs.Sinks.{SinkState, Flushed, Wrote}
use Rattle.sky_io.specs.declared.sink.Put.{Put}
use Rattle.sky_io.specs.declared.sink.Put.TheVariants as put
use Rattle.sky_io.proofs.Writes.{wrote_nothing}
use Rattle.byte_source.specs.Sources.{SourceState}
use Rattle.request_loop.specs.Requests.{cut_of}
use Rattle.request_loop.specs.Replies.{WroteAnswer, long_line, memory_line, open_line, open_text}
use Rattle.request_loop.specs.Drafts.{IsRest}
use Rattle.request_loop.specs.Sessions.{Streams, streams}
use Rattle.request_loop.specs.Readings.{Reads}
use Rattle.request_loop.specs.Steps.{AfterLast, AfterReply, Finished, Replied, Sent, SentReply, Serves}
use Rattle.request_loop.specs.declared.request.Request.TheVariants as request
use Rattle.request_loop.specs.declared.session.Session.{Session}
use Rattle.request_loop.specs.declared.session.Session.TheVariants as session
use Rattle.request_loop.proofs.Serving.{sent_by}

-- the sink failed at a text
pub sent_failed : (old new : SinkState) (text : List ℕ) → Wrote old new text put.Failed → Sent old new text put.Failed
sent_failed old new text wrote = record { wrote = wrote; sent = λ e. absurd (cc e) }

-- an answer was written and sent, or could not be sent
pub reply_sent : (A : List ℕ → List ℕ → Type 0) (request : List ℕ) (old mid new : SinkState) (result : Put)
    → length request ≤ SCRIPT_TEXT_MOST → WroteAnswer A request old mid (λ o n text. Wrote o n text put.Done) → Flushed mid new result
    → SentReply A request old new result
reply_sent A request old mid new result short wrote flushed = record {
  reply = wrote.answer;
  is = inl (short, wrote.is);
  sent = sent_by old mid new wrote.answer result wrote.wrote flushed;
}

-- the sink failed at an answer
pub reply_torn : (A : List ℕ → List ℕ → Type 0) (request : List ℕ) (old new : SinkState)
    → length request ≤ SCRIPT_TEXT_MOST → WroteAnswer A request old new (λ o n text. Wrote o n text put.Failed) → SentReply A request old new put.Failed
reply_torn A request old new short wrote = record {
  reply = wrote.answer;
  is = inl (short, wrote.is);
  sent = sent_failed old new wrote.answer wrote.wrote;
}

-- the reply is that an allocation failed
pub reply_memory : (A : List ℕ → List ℕ → Type 0) (request : List ℕ) (old new : SinkState) (result : Put)
    → Sent old new memory_line result → SentReply A request old new result
reply_memory A request old new result sent = record { reply = memory_line; is = inr (inr refl); sent = sent }

-- the reply is that the request is too long
pub reply_long : (A : List ℕ → List ℕ → Type 0) (request : List ℕ) (old new : SinkState) (result : Put)
    → SCRIPT_TEXT_MOST < length request → Sent old new long_line result → SentReply A request old new result
reply_long A request old new result long sent = record { reply = long_line; is = inr (inl (long, refl)); sent = sent }

-- the step after a reply
after_reply : (A : List ℕ → List ℕ → Type 0) (s : Streams) (result : Put) (next : Option Session) → Replied A s result
    → AfterReply result next → Serves A s next
after_reply A s put.Done next replied after = subst (λ n. Serves A s n) (sym after) replied
after_reply A s put.Failed next replied after = subst (λ n. Serves A s n) (sym after) (inl replied)

-- the step after the last line
after_last : (A : List ℕ → List ℕ → Type 0) (s : Streams) (result : Put) (next : Option Session) → Finished s result
    → AfterLast result next → Serves A s next
after_last A s put.Done next finished after = subst (λ n. Serves A s n) (sym after) finished
after_last A s put.Failed next finished after = subst (λ n. Serves A s n) (sym after) (inr finished)

-- a request was read that has a text
pub step_text : (A : List ℕ → List ℕ → Type 0) (so sn : SourceState) (k kn : SinkState) (text : Vec ℕ Global) (result : Put) (next : Option Session)
    → Reads so sn (request.Text text) → SentReply A text.items k kn result → AfterReply result next → Serves A (streams so sn k kn) next
step_text A so sn k kn text result next reads reply after =
    after_reply A (streams so sn k kn) result next
    (record { read = reads.read; text = text.items; gave = reads.gave; still = reads.still; is = reads.is.0; reply = reply }) after

-- a request was read that is too long
pub step_long : (A : List ℕ → List ℕ → Type 0) (so sn : SourceState) (k kn : SinkState) (result : Put) (next : Option Session)
    → Reads so sn request.Long → Sent k kn long_line result → AfterReply result next → Serves A (streams so sn k kn) next
step_long A so sn k kn result next reads sent after =
    after_reply A (streams so sn k kn) result next
    (record { read = reads.read; text = reads.is.text; gave = reads.gave; still = reads.still; is = reads.is.is; reply = reply_long A reads.is.text k kn result reads.is.long sent }) after

-- an allocation failed while a request was read
pub step_memory : (A : List ℕ → List ℕ → Type 0) (so sn : SourceState) (k kn : SinkState) (result : Put) (next : Option Session)
    → Reads so sn request.Memory → Sent k kn memory_line result → AfterReply result next → Serves A (streams so sn k kn) next
step_memory A so sn k kn result next reads sent after =
    after_reply A (streams so sn k kn) result next
    (record { read = reads.read; text = reads.is.text; gave = reads.gave; still = reads.still; is = reads.is.is; reply = reply_memory A reads.is.text k kn result sent }) after

-- the last line of an input that ends in a request
open_some : (read : List ℕ) → 0 < length read → open_text read ≡ open_line
open_some [] some = absurd (omega (arith, some))
open_some (b ∷ bs) some = refl

-- the input ended in a request
pub step_open : (A : List ℕ → List ℕ → Type 0) (so sn : SourceState) (k kn : SinkState) (result : Put) (next : Option Session)
    → Reads so sn request.Open → Sent k kn open_line result → AfterLast result next → Serves A (streams so sn k kn) next
step_open A so sn k kn result next reads sent after =
    after_last A (streams so sn k kn) result next
    (record {
      read = reads.read;
      gave = reads.gave;
      still = reads.still;
      ended = reads.ended;
      is = reads.is.0;
      line = subst (λ t. Sent k kn t result) (sym (open_some reads.read reads.is.1)) sent;
    }) after

no_rest : (read : List ℕ) → read ≡ [] → IsRest read
unfolding cut_of
no_rest read none = subst (λ bytes. IsRest bytes) (sym none) refl

-- the input ended
pub step_nothing : (A : List ℕ → List ℕ → Type 0) (so sn : SourceState) (k : SinkState) → k.held ≡ false
    → Reads so sn request.Nothing → Serves A (streams so sn k k) (Some session.Done)
step_nothing A so sn k empty reads = record {
  read = reads.read;
  gave = reads.gave;
  still = reads.still;
  ended = reads.ended;
  is = no_rest reads.read reads.is;
  line = subst (λ r. Sent k k (open_text r) put.Done) (sym reads.is) (record { wrote = wrote_nothing k; sent = λ e. empty });
}
