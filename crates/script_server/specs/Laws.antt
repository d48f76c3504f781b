-- Facts about the replies to requests: a client that reads up to the first line that begins with `+` has exactly one.
use Rattle.std.specs.Prelude.{ℕ, List}
use Rattle.request_loop.specs.Replies.{AreReplies, IsReply}
use Rattle.reply_rules.specs.Lines.{EndsAtPlus}
use Rattle.reply_rules.specs.Found.{AreFound}
use Rattle.top_call.specs.Jobs.{IsSurveyOf}
use Rattle.top_call.specs.Reached.{Texts}
use Rattle.script_server.specs.Answers.{Basis, IsAnswer}

-- the survey is that of named texts which are accepted
abbrev pub IsSurveyOfTexts : Basis → Type 0
IsSurveyOfTexts basis = (sky catalogue : List ℕ) × (texts : Texts) × IsSurveyOf sky catalogue basis.survey texts

-- each answer over an accepted survey ends at its one line that begins with `+`
abbrev pub AnswersEndAtPlus : Type 0
AnswersEndAtPlus =
    (basis : Basis) → IsSurveyOfTexts basis → (request answer : List ℕ) → IsAnswer basis request answer → EndsAtPlus answer

-- so does each reply, which may be no answer
abbrev pub RepliesEndAtPlus : Type 0
RepliesEndAtPlus =
    (basis : Basis) → IsSurveyOfTexts basis → (request reply : List ℕ) → IsReply (IsAnswer basis) request reply → EndsAtPlus reply

-- in the replies to requests over an accepted survey a client finds the reply to each, in their order, whatever follows
abbrev pub EachReplyIsFound : Type 0
EachReplyIsFound =
    (basis : Basis) → IsSurveyOfTexts basis → (requests : List (List ℕ)) (text : List ℕ)
    → AreReplies (IsAnswer basis) requests text → AreFound (IsAnswer basis) requests text
