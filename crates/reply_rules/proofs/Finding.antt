-- The replies that a client finds.
use Rattle.std.proofs.Common.{◌≡◌, refl, sym, ap, ◌∙◌, subst, ℕ, ◌==◌, Bool, true, false, cond, inl, inr, List, [], ◌∷◌, ◌++◌, append_assoc, append-nil, codes}
use Rattle.std.specs.List.{list_any}
use Rattle.std.proofs.lemmas.Bool.{or_parts}
use Rattle.std.proofs.lemmas.List.Elements.{All-head, All-tail}
use Rattle.text_rules.specs.Readings.{joined}
use Rattle.request_loop.specs.Replies.{AreReplies, IsReply, long_line, memory_line}
use Rattle.request_loop.specs.Requests.{lines_in, with_byte}
use Rattle.reply_rules.specs.Lines.{EndsAtPlus, begins_with_plus}
use Rattle.reply_rules.specs.Found.{AreFound, cut_at_plus, replies_in, with_line}
use Rattle.reply_rules.specs.Laws.{AnswerEndsAtPlus, AnswersAreFound, FixedRepliesEndAtPlus, RepliesAreFound}
use Rattle.reply_rules.proofs.Whole.{no_lines, then_plus}

-- a byte before the first line
joined_byte : (b : ℕ) (ls : List (List ℕ)) → joined (with_byte b ls) ≡ b ∷ joined ls
joined_byte b [] = refl
joined_byte b (l ∷ ls) = refl

joined_cond : (t : Bool) (b : ℕ) (bs : List ℕ) → joined (lines_in bs) ≡ bs → joined (cond t ((b ∷ []) ∷ lines_in bs) (with_byte b (lines_in bs))) ≡ b ∷ bs
joined_cond true b bs e = ap (λ t. b ∷ t) e
joined_cond false b bs e = joined_byte b (lines_in bs) ∙ ap (λ t. b ∷ t) e

-- the lines of a text are the text
lines_joined : (text : List ℕ) → joined (lines_in text) ≡ text
lines_joined [] = refl
lines_joined (b ∷ bs) = joined_cond (b == 10) b bs (lines_joined bs)

-- a client reads up to the first line that begins with `+`
cut_first : (before : List (List ℕ)) (last : List ℕ) (ls : List (List ℕ)) → list_any begins_with_plus before ≡ false → begins_with_plus last ≡ true
    → cut_at_plus (before ++ (last ∷ ls)) ≡ (joined before ++ last) ∷ cut_at_plus ls
cut_first [] last ls others plus = rw plus refl
cut_first (l ∷ before) last ls others plus =
    let e = or_parts (begins_with_plus l) (list_any begins_with_plus before) others in
    rw e.0 (ap (with_line l) (cut_first before last ls e.1 plus) ∙ ap (λ t. t ∷ cut_at_plus ls) (sym (append_assoc l (joined before) last)))

joined_last : (before : List (List ℕ)) (last : List ℕ) → joined (before ++ last ∷ []) ≡ joined before ++ last
joined_last [] last = append-nil last
joined_last (l ∷ before) last = ap (λ t. l ++ t) (joined_last before last) ∙ sym (append_assoc l (joined before) last)

-- so it finds a reply, whatever follows
found_first : (reply later : List ℕ) → EndsAtPlus reply → replies_in (reply ++ later) ≡ reply ∷ replies_in later
unfolding replies_in
found_first reply later e =
    let same : joined e.before ++ e.last ≡ reply = sym (joined_last e.before e.last) ∙ ap joined (sym e.are) ∙ lines_joined reply in
    ap cut_at_plus (e.whole later ∙ ap (λ ls. ls ++ lines_in later) e.are ∙ append_assoc e.before (e.last ∷ []) (lines_in later))
    ∙ cut_first e.before e.last (lines_in later) e.others e.plus ∙ ap (λ t. t ∷ cut_at_plus (lines_in later)) same

-- so it finds replies one after another
pub replies_are_found : RepliesAreFound
replies_are_found [] each later = refl
replies_are_found (reply ∷ replies) each later =
    ap replies_in (append_assoc reply (joined replies) later) ∙ found_first reply (joined replies ++ later) (All-head EndsAtPlus reply replies each)
    ∙ ap (λ ts. reply ∷ ts) (replies_are_found replies (All-tail EndsAtPlus reply replies each) later)

long_at_plus : EndsAtPlus long_line
long_at_plus = then_plus [] (codes "+ script: too long") no_lines refl refl

memory_at_plus : EndsAtPlus memory_line
memory_at_plus = then_plus [] (codes "+ out of memory") no_lines refl refl

pub fixed_replies_end_at_plus : FixedRepliesEndAtPlus
fixed_replies_end_at_plus = (long_at_plus, memory_at_plus)

-- ---- replies to requests

-- a reply ends at its one line that begins with `+`, if each answer does
pub reply_at_plus : (Answers : List ℕ → List ℕ → Type 0) → ((request answer : List ℕ) → Answers request answer → EndsAtPlus answer)
    → (request reply : List ℕ) → IsReply Answers request reply → EndsAtPlus reply
reply_at_plus Answers ends request reply (inl answered) = ends request reply answered.1
reply_at_plus Answers ends request reply (inr (inl long)) = subst EndsAtPlus (sym long.1) long_at_plus
reply_at_plus Answers ends request reply (inr (inr memory)) = subst EndsAtPlus (sym memory) memory_at_plus

-- if each answer ends at its one line that begins with `+`, a client finds the replies
pub all_found : (Answers : List ℕ → List ℕ → Type 0) → ((request answer : List ℕ) → Answers request answer → EndsAtPlus answer)
    → (requests : List (List ℕ)) (text : List ℕ) → AreReplies Answers requests text → AreFound Answers requests text
all_found Answers ends [] text are = record {
  replies = [];
  each = refl;
  found = λ later. ap (λ t. replies_in (t ++ later)) are;
}
all_found Answers ends (request ∷ requests) text are =
    let more = all_found Answers ends requests are.later are.follow in
    record {
      replies = are.reply ∷ more.replies;
      each = (are.is, more.each);
      found = λ later.
          ap (λ t. replies_in (t ++ later)) are.whole ∙ ap replies_in (append_assoc are.reply are.later later)
          ∙ found_first are.reply (are.later ++ later) (reply_at_plus Answers ends request are.reply are.is)
          ∙ ap (λ ts. are.reply ∷ ts) (more.found later);
    }

pub answers_are_found : AnswersAreFound
answers_are_found = all_found AnswerEndsAtPlus (λ request answer ends. ends)
