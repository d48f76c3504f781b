-- The replies that a client finds in what is written: it reads up to a line that begins with `+`, and then the next reply.
use Rattle.std.specs.Prelude.{◌≡◌, ℕ, List, [], ◌∷◌, ◌++◌, if◌then◌else◌}
use Rattle.request_loop.specs.Replies.{IsReply}
use Rattle.request_loop.specs.Requests.{lines_in}
use Rattle.reply_rules.specs.Lines.{begins_with_plus}

-- a line put before the first of these texts; it is a text of its own if there is none
abbrev pub with_line : List ℕ → List (List ℕ) → List (List ℕ)
with_line line [] = line ∷ []
with_line line (text ∷ texts) = (line ++ text) ∷ texts

-- these lines, cut after each that begins with `+`
abbrev pub cut_at_plus : List (List ℕ) → List (List ℕ)
cut_at_plus [] = []
cut_at_plus (line ∷ lines) =
    if begins_with_plus line then line ∷ cut_at_plus lines else with_line line (cut_at_plus lines)

-- a text, cut after each line that begins with `+`
unfoldable pub replies_in : List ℕ → List (List ℕ)
replies_in text = cut_at_plus (lines_in text)

-- these are the replies to the requests, one for each, in their order
abbrev pub AreEach : (List ℕ → List ℕ → Type 0) → (requests replies : List (List ℕ)) → Type 0
AreEach Answers [] replies = replies ≡ []
AreEach Answers (request ∷ requests) [] = ⊥
AreEach Answers (request ∷ requests) (reply ∷ replies) =
    IsReply Answers request reply × AreEach Answers requests replies

-- A client finds the reply to each of these requests in the text, in their order, whatever follows the text.
pub record AreFound (Answers : List ℕ → List ℕ → Type 0) (requests : List (List ℕ)) (text : List ℕ) : Type 0 where
  pub replies : List (List ℕ)
  pub each : AreEach Answers requests replies
  pub found : (later : List ℕ) → replies_in (text ++ later) ≡ replies ++ replies_in later
