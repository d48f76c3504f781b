-- A session, request by request.
use Rattle.std.proofs.Common.{◌≡◌, refl, sym, ap, ◌∙◌, subst, ℕ, arith, false, inl, inr, ◌⊎◌}
use Rattle.std.proofs.Common.{List, [], ◌∷◌, ◌++◌, length, take, append_assoc, append-nil, Option, None, Some}
use Rattle.std.proofs.Math.Seq.{take-length}
use Rattle.sky_io.specs.Sinks.{SinkState, Appended, AppendedPart, Flushed, Wrote}
use Rattle.sky_io.specs.declared.sink.Put.{Put}
use Rattle.sky_io.specs.declared.sink.Put.TheVariants as put
use Rattle.sky_io.proofs.Writes.{wrote_nothing}
use Rattle.byte_source.specs.Sources.{SourceState}
use Rattle.request_loop.specs.Requests.{Cut, after_requests, cut_of}
use Rattle.request_loop.specs.Replies.{AreReplies, IsReply, open_text}
use Rattle.request_loop.specs.Drafts.{IsRequest, IsRest}
use Rattle.request_loop.specs.Sessions.{streams, IsDone, IsSession, IsSinkFault, IsSourceFault}
use Rattle.request_loop.specs.Steps.{Broken, Finished, IsSoFar, Replied, Sent, Serves}
use Rattle.request_loop.proofs.Giving.{gave_nothing, gave_two}
use Rattle.request_loop.specs.declared.session.Session.{Session}
use Rattle.request_loop.specs.declared.session.Session.TheVariants as session

-- nothing was written
appended_none : (old new : SinkState) → new.written ≡ old.written → Appended old.written [] new.written
appended_none old new same = same ∙ (wrote_nothing old).done refl

-- two texts were written, as one
appended_both : (old mid new : Option (List ℕ)) (p q : List ℕ) → Appended old p mid → Appended mid q new → Appended old (p ++ q) new
appended_both None mid new p q a b = rw (b, a) refl
appended_both (Some bytes) mid new p q a b = rw (b, a) (ap Some (append_assoc bytes p q))

-- all of a text is a part of it
part_all : (old mid new : SinkState) (text : List ℕ) → Appended old.written text mid.written → new.written ≡ mid.written
    → Appended old.written (take (length text) text) new.written
part_all old mid new text wrote same = subst (λ t. Appended old.written t new.written) (sym (take-length text)) (same ∙ wrote)

-- a flush after a text that was written
pub sent_by : (old mid new : SinkState) (text : List ℕ) (result : Put) → Wrote old mid text put.Done → Flushed mid new result → Sent old new text result
sent_by old mid new text result wrote flushed = record {
  wrote = record {
    done = λ e. flushed.same ∙ wrote.done refl;
    calm = λ e. flushed.calm e ∙ wrote.calm refl;
    part = λ e. (length text, omega arith, part_all old mid new text (wrote.done refl) flushed.same);
    cause = λ e. let rose = flushed.cause e in omega (arith, rose, wrote.later);
    later = omega (arith, wrote.later, flushed.later);
  };
  sent = flushed.sent;
}

-- one more reply after the others
one_more : (A : List ℕ → List ℕ → Type 0) (requests : List (List ℕ)) (text request reply : List ℕ)
    → AreReplies A requests text → IsReply A request reply → AreReplies A (requests ++ request ∷ []) (text ++ reply)
one_more A [] text request reply are is = record {
  reply = reply;
  is = is;
  later = [];
  follow = refl;
  whole = ap (λ t. t ++ reply) are ∙ sym (append-nil reply);
}
one_more A (first ∷ requests) text request reply are is = record {
  reply = are.reply;
  is = are.is;
  later = are.later ++ reply;
  follow = one_more A requests are.later request reply are.follow is;
  whole = ap (λ t. t ++ reply) are.whole ∙ append_assoc are.reply are.later reply;
}

-- before the first request
pub so_far_none : (A : List ℕ → List ℕ → Type 0) (source : SourceState) (sink : SinkState) → sink.held ≡ false → IsSoFar A (streams source source sink sink)
so_far_none A source sink sent = record {
  input = [];
  gave = gave_nothing source.left;
  still = refl;
  requests = [];
  are = λ later. refl;
  replies = [];
  each = refl;
  written = (wrote_nothing sink).done refl;
  calm = refl;
  sent = sent;
}

-- a cut of these requests and this rest
abbrev cut_from : List (List ℕ) → List ℕ → Cut
cut_from requests rest = record { requests = requests; rest = rest }

-- the requests so far, and one more
pub requests_more : (input read : List ℕ) (requests : List (List ℕ)) (text : List ℕ)
    → ((later : List ℕ) → cut_of (input ++ later) ≡ after_requests requests (cut_of later)) → IsRequest text read
    → (later : List ℕ) → cut_of ((input ++ read) ++ later) ≡ after_requests (requests ++ text ∷ []) (cut_of later)
requests_more input read requests text are is later =
    ap cut_of (append_assoc input read later) ∙ are (read ++ later) ∙ ap (after_requests requests) (is later)
    ∙ ap (λ r. cut_from r (cut_of later).rest) (sym (append_assoc requests (text ∷ []) (cut_of later).requests))

abbrev requests_in : Cut → List (List ℕ)
requests_in cut = cut.requests

abbrev rest_in : Cut → List ℕ
rest_in cut = cut.rest

no_later : (requests : List (List ℕ)) → after_requests requests (cut_of []) ≡ cut_from requests []
unfolding cut_of
no_later requests = ap (λ r. cut_from r []) (append-nil requests)

-- bytes that are one request and nothing else
request_alone : (read text : List ℕ) → IsRequest text read → cut_of read ≡ cut_from (text ∷ []) []
request_alone read text is = sym (ap cut_of (append-nil read)) ∙ is [] ∙ no_later (text ∷ [])

-- one more request was answered
pub so_far_more : (A : List ℕ → List ℕ → Type 0) (so old_so : SourceState) (sn : SourceState) (k old_k kn : SinkState)
    → IsSoFar A (streams so old_so k old_k) → Replied A (streams old_so sn old_k kn) put.Done → IsSoFar A (streams so sn k kn)
so_far_more A so old_so sn k old_k kn far next = record {
  input = far.input ++ next.read;
  gave = gave_two so.left old_so.left sn.left far.input next.read far.gave next.gave;
  still = next.still ∙ far.still;
  requests = far.requests ++ next.text ∷ [];
  are = requests_more far.input next.read far.requests next.text far.are next.is;
  replies = far.replies ++ next.reply.reply;
  each = one_more A far.requests far.replies next.text next.reply.reply far.each next.reply.is;
  written = appended_both k.written old_k.written kn.written far.replies next.reply.reply far.written (next.reply.sent.wrote.done refl);
  calm = next.reply.sent.wrote.calm refl ∙ far.calm;
  sent = next.reply.sent.sent refl;
}

-- the whole input, after the rest of it
pub cut_rest : (input read : List ℕ) (requests : List (List ℕ))
    → ((later : List ℕ) → cut_of (input ++ later) ≡ after_requests requests (cut_of later)) → IsRest read
    → cut_of (input ++ read) ≡ cut_from requests read
cut_rest input read requests are is = are read ∙ ap (after_requests requests) is ∙ ap (λ r. cut_from r read) (append-nil requests)

-- the input was read to its end, and its last line was written, if it has one
pub done : (A : List ℕ → List ℕ → Type 0) (so om sn : SourceState) (k ok kn : SinkState)
    → IsSoFar A (streams so om k ok) → Finished (streams om sn ok kn) put.Done → IsDone A (streams so sn k kn)
done A so om sn k ok kn far last =
    let cut = cut_rest far.input last.read far.requests far.are last.is in
    record {
      input = far.input ++ last.read;
      read = gave_two so.left om.left sn.left far.input last.read far.gave last.gave;
      ended = last.ended;
      still = last.still ∙ far.still;
      replies = far.replies;
      each = subst (λ c. AreReplies A (requests_in c) far.replies) (sym cut) far.each;
      written = subst (λ c. Appended k.written (far.replies ++ open_text (rest_in c)) kn.written) (sym cut)
          (appended_both k.written ok.written kn.written far.replies (open_text last.read) far.written (last.line.wrote.done refl));
      calm = last.line.wrote.calm refl ∙ far.calm;
      sent = last.line.sent refl;
    }

-- the source failed
pub source_failed : (A : List ℕ → List ℕ → Type 0) (so om sn : SourceState) (k ok kn : SinkState)
    → IsSoFar A (streams so om k ok) → Broken (streams om sn ok kn) → IsSourceFault A (streams so sn k kn)
source_failed A so om sn k ok kn far last =
    let cut = cut_rest far.input last.fault.read far.requests far.are last.fault.is in
    record {
      input = far.input ++ last.fault.read;
      read = gave_two so.left om.left sn.left far.input last.fault.read far.gave last.fault.gave;
      cause = let rose = last.fault.cause in omega (arith, rose, far.still);
      replies = far.replies;
      each = subst (λ c. AreReplies A (requests_in c) far.replies) (sym cut) far.each;
      written = subst (λ s. Appended k.written far.replies s.written) (sym last.same) far.written;
      calm = ap (λ s. s.faults) last.same ∙ far.calm;
      sent = ap (λ s. s.held) last.same ∙ far.sent;
    }

-- the sink failed at the last line
pub last_failed : (A : List ℕ → List ℕ → Type 0) (so om sn : SourceState) (k ok kn : SinkState)
    → IsSoFar A (streams so om k ok) → Finished (streams om sn ok kn) put.Failed → IsSinkFault A (streams so sn k kn)
last_failed A so om sn k ok kn far last = record {
  input = far.input ++ last.read;
  read = gave_two so.left om.left sn.left far.input last.read far.gave last.gave;
  still = last.still ∙ far.still;
  answered = far.requests;
  last = cut_from [] last.read;
  cut = far.are last.read ∙ ap (after_requests far.requests) last.is;
  one = inr (refl, inl last.ended);
  replies = far.replies;
  each = far.each;
  between = ok.written;
  whole = far.written;
  reply = [];
  is = refl;
  part = last.line.wrote.part refl;
  cause = let rose = last.line.wrote.cause refl in omega (arith, rose, far.calm);
}

-- the sink failed at a reply
pub reply_failed : (A : List ℕ → List ℕ → Type 0) (so om sn : SourceState) (k ok kn : SinkState)
    → IsSoFar A (streams so om k ok) → Replied A (streams om sn ok kn) put.Failed → IsSinkFault A (streams so sn k kn)
reply_failed A so om sn k ok kn far next = record {
  input = far.input ++ next.read;
  read = gave_two so.left om.left sn.left far.input next.read far.gave next.gave;
  still = next.still ∙ far.still;
  answered = far.requests;
  last = cut_from (next.text ∷ []) [];
  cut = far.are next.read ∙ ap (after_requests far.requests) (request_alone next.read next.text next.is);
  one = inl (refl, refl);
  replies = far.replies;
  each = far.each;
  between = ok.written;
  whole = far.written;
  reply = next.reply.reply;
  is = one_more A [] [] next.text next.reply.reply refl next.reply.is;
  part = subst (λ t. AppendedPart ok.written t kn.written) (sym (append-nil next.reply.reply)) (next.reply.sent.wrote.part refl);
  cause = let rose = next.reply.sent.wrote.cause refl in omega (arith, rose, far.calm);
}

sink_failed : (A : List ℕ → List ℕ → Type 0) (so om sn : SourceState) (k ok kn : SinkState)
    → IsSoFar A (streams so om k ok) → Replied A (streams om sn ok kn) put.Failed ⊎ Finished (streams om sn ok kn) put.Failed → IsSinkFault A (streams so sn k kn)
sink_failed A so om sn k ok kn far (inl next) = reply_failed A so om sn k ok kn far next
sink_failed A so om sn k ok kn far (inr last) = last_failed A so om sn k ok kn far last

-- how a session ends
pub session_ends : (A : List ℕ → List ℕ → Type 0) (so om sn : SourceState) (k ok kn : SinkState) (it : Session)
    → IsSoFar A (streams so om k ok) → Serves A (streams om sn ok kn) (Some it) → IsSession A (streams so sn k kn) it
session_ends A so om sn k ok kn session.Done far last = done A so om sn k ok kn far last
session_ends A so om sn k ok kn session.SourceFault far last = source_failed A so om sn k ok kn far last
session_ends A so om sn k ok kn session.SinkFault far last = sink_failed A so om sn k ok kn far last

-- how a session ends that was flushed before it began
flushed_done : (A : List ℕ → List ℕ → Type 0) (so sn : SourceState) (k ok kn : SinkState) → Flushed k ok put.Done
    → IsDone A (streams so sn ok kn) → IsDone A (streams so sn k kn)
flushed_done A so sn k ok kn flushed is = record {
  input = is.input;
  read = is.read;
  ended = is.ended;
  still = is.still;
  replies = is.replies;
  each = is.each;
  written = subst (λ w. Appended w (is.replies ++ open_text (cut_of is.input).rest) kn.written) flushed.same is.written;
  calm = is.calm ∙ flushed.calm refl;
  sent = is.sent;
}

flushed_source : (A : List ℕ → List ℕ → Type 0) (so sn : SourceState) (k ok kn : SinkState) → Flushed k ok put.Done
    → IsSourceFault A (streams so sn ok kn) → IsSourceFault A (streams so sn k kn)
flushed_source A so sn k ok kn flushed is = record {
  input = is.input;
  read = is.read;
  cause = is.cause;
  replies = is.replies;
  each = is.each;
  written = subst (λ w. Appended w is.replies kn.written) flushed.same is.written;
  calm = is.calm ∙ flushed.calm refl;
  sent = is.sent;
}

flushed_sink : (A : List ℕ → List ℕ → Type 0) (so sn : SourceState) (k ok kn : SinkState) → Flushed k ok put.Done
    → IsSinkFault A (streams so sn ok kn) → IsSinkFault A (streams so sn k kn)
flushed_sink A so sn k ok kn flushed is = record {
  input = is.input;
  read = is.read;
  still = is.still;
  answered = is.answered;
  last = is.last;
  cut = is.cut;
  one = is.one;
  replies = is.replies;
  each = is.each;
  between = is.between;
  whole = subst (λ w. Appended w is.replies is.between) flushed.same is.whole;
  reply = is.reply;
  is = is.is;
  part = is.part;
  cause = let rose = is.cause in omega (arith, rose, flushed.calm refl);
}

-- a session over a sink that was flushed
pub after_flush : (A : List ℕ → List ℕ → Type 0) (so sn : SourceState) (k ok kn : SinkState) (it : Session) → Flushed k ok put.Done
    → IsSession A (streams so sn ok kn) it → IsSession A (streams so sn k kn) it
after_flush A so sn k ok kn session.Done flushed is = flushed_done A so sn k ok kn flushed is
after_flush A so sn k ok kn session.SourceFault flushed is = flushed_source A so sn k ok kn flushed is
after_flush A so sn k ok kn session.SinkFault flushed is = flushed_sink A so sn k ok kn flushed is

no_text : cut_of [] ≡ cut_from [] []
unfolding cut_of
no_text = refl

-- a session over a sink that could not be flushed
pub not_flushed : (A : List ℕ → List ℕ → Type 0) (source : SourceState) (k kn : SinkState) → Flushed k kn put.Failed
    → IsSinkFault A (streams source source k kn)
not_flushed A source k kn flushed = record {
  input = [];
  read = gave_nothing source.left;
  still = refl;
  answered = [];
  last = cut_from [] [];
  cut = no_text;
  one = inr (refl, inr refl);
  replies = [];
  each = refl;
  between = k.written;
  whole = appended_none k k refl;
  reply = [];
  is = refl;
  part = (0, omega arith, appended_none k kn flushed.same);
  cause = flushed.cause refl;
}
