-- Each call of the board of a class adds no line that may not be in its journal.
use Rattle.std.proofs.Common.{◌≡◌, ℕ, zero, suc, List, [], ◌∷◌, ◌++◌, Bool, true, false, not, ◌⊎◌, inl, inr, ⊎_elim, refl, sym, ap, ◌∙◌, subst, arith, Contains, if◌then◌else◌, Option}
use Rattle.std.specs.List.{list_all}
use Rattle.std.proofs.lemmas.Bool.{and_from, and_parts, cases_Bool}
use Rattle.turn_lock.proofs.Splitting.{no_member}
use Rattle.scan_rules.specs.declared.journal_line.JournalLine.{JournalLine}
use Rattle.scan_rules.specs.declared.journal_line.JournalLine.TheVariants.{Attach as AttachLine, Take as TakeLine, Deliver, Cancel, Collect as CollectLine, Close}
use Rattle.scan_rules.specs.Queries.{Journal, is_closed}
use Rattle.scan_core.specs.Answers.{AnswersAttach, AnswersTake, AnswersCollect}
use Rattle.scan_core.specs.declared.answers.Attach.{Attach}
use Rattle.scan_core.specs.declared.answers.Attach.TheVariants.{Closed, Again, Full, Memory, Attached}
use Rattle.scan_core.specs.declared.answers.Take.{Take}
use Rattle.scan_core.specs.declared.answers.Take.TheVariants.{Task, Idle, Ended}
use Rattle.scan_core.specs.declared.answers.Collect.{Collect}
use Rattle.scan_core.specs.declared.answers.Collect.TheVariants.{Piece, NotYet, Cancelled, Spent, Gone}
use Rattle.scan_core.specs.Boards.{BoardState, TaskState}
use Rattle.scan_core.specs.Delivering.{DeliversTask}
use Rattle.scan_board.specs.Calls.{AnswersCancel, AnswersClose}
use Rattle.scan_classes.specs.declared.class.Class.{Class}
use Rattle.scan_classes.specs.declared.class.Class.TheVariants.{Short, Long}
use Rattle.scan_classes.specs.Pairs.{AreOfClass, class_of, may_be_at, wants_many}

-- no line is added, or one that may be at the board of the class
abbrev pub AddsOf : Class → Journal → Journal → Type 0
AddsOf class past seen = (seen ≡ past) ⊎ ((line : JournalLine) × (may_be_at class line ≡ true) × (seen ≡ past ++ line ∷ []))

-- a list of lines that may be there, by its lines
pub all_there : (class : Class) (lines : Journal) (line : JournalLine) → AreOfClass class lines → Contains lines line → may_be_at class line ≡ true
all_there class [] line h t = absurd (no_member line t)
all_there class (x ∷ xs) line h (zero, low, is) = sym (ap (may_be_at class) is) ∙ (and_parts _ _ h).0
all_there class (x ∷ xs) line h (suc k, low, is) = all_there class xs line (and_parts _ _ h).1 (k, omega (arith, low), is)

pub all_from : (class : Class) (lines : Journal) → ((line : JournalLine) → Contains lines line → may_be_at class line ≡ true) → AreOfClass class lines
all_from class [] each = refl
all_from class (x ∷ xs) each = and_from (may_be_at class x) (list_all (may_be_at class) xs) (each x (0, omega arith, refl))
    (all_from class xs (λ line t. let low = t.1 in each line (suc t.0, omega (arith, low), t.2)))

-- a list with one more line
pub all_push : (class : Class) (lines : Journal) (line : JournalLine) → AreOfClass class lines → may_be_at class line ≡ true → AreOfClass class (lines ++ line ∷ [])
all_push class [] line h k = and_from (may_be_at class line) true k refl
all_push class (x ∷ xs) line h k = and_from (may_be_at class x) (list_all (may_be_at class) (xs ++ line ∷ [])) (and_parts _ _ h).0 (all_push class xs line (and_parts _ _ h).1 k)

-- an Attach of a query of the class may be at its board
is_short : (long : Bool) → (if long then Long else Short) ≡ Short → not long ≡ true
is_short true e = absurd (long_is_not_short e) where
  long_is_not_short : Long ≡ Short → ⊥
  long_is_not_short e = cc
is_short false e = refl

is_long : (long : Bool) → (if long then Long else Short) ≡ Long → long ≡ true
is_long true e = refl
is_long false e = absurd (short_is_not_long e) where
  short_is_not_long : Short ≡ Long → ⊥
  short_is_not_long e = cc

pub attach_may : (class : Class) (seat q : ℕ) (chunks : List ℕ) → class_of chunks ≡ class → may_be_at class (AttachLine seat q chunks) ≡ true
attach_may Short seat q chunks e = is_short (wants_many chunks) e
attach_may Long seat q chunks e = is_long (wants_many chunks) e

-- so may each line that is no Attach
take_may : (class : Class) (seat ticket chunk : ℕ) (queries : List ℕ) → may_be_at class (TakeLine seat ticket chunk queries) ≡ true
take_may Short seat ticket chunk queries = refl
take_may Long seat ticket chunk queries = refl

deliver_may : (class : Class) (seat ticket : ℕ) (lost : List ℕ) → may_be_at class (Deliver seat ticket lost) ≡ true
deliver_may Short seat ticket lost = refl
deliver_may Long seat ticket lost = refl

cancel_may : (class : Class) (seat q : ℕ) → may_be_at class (Cancel seat q) ≡ true
cancel_may Short seat q = refl
cancel_may Long seat q = refl

collect_may : (class : Class) (seat q : ℕ) → may_be_at class (CollectLine seat q) ≡ true
collect_may Short seat q = refl
collect_may Long seat q = refl

close_may : (class : Class) (seat : ℕ) → may_be_at class (Close seat) ≡ true
close_may Short seat = refl
close_may Long seat = refl

-- no result of a board adds a line that may not be there
past_is : {R : Type 0} (new old : BoardState R) → new ≡ old → new.past ≡ old.past
past_is new old e = ap (λ (b : BoardState _). b.past) e

pub attach_adds : {R P : Type 0} (class : Class) (seat : ℕ) (old new : BoardState R) (q : ℕ) (chunks : List ℕ) (empty : P) (answer : Attach P)
    → class_of chunks ≡ class → AnswersAttach seat old q chunks empty answer new → AddsOf class old.past new.past
attach_adds class seat old new q chunks empty (Closed list piece) e h = inl (past_is new old h.1.same)
attach_adds class seat old new q chunks empty (Again list piece) e h = inl (past_is new old h.2.same)
attach_adds class seat old new q chunks empty (Full list piece) e h = inl (past_is new old h.3.same)
attach_adds class seat old new q chunks empty (Memory list piece) e h = inl (past_is new old h.1.same)
attach_adds class seat old new q chunks empty Attached e h = inr (AttachLine seat q chunks, attach_may class seat q chunks e, past_is new _ h.line)

pub take_adds : {R : Type 0} (class : Class) (seat : ℕ) (old new : BoardState R) (answer : Take)
    → AnswersTake seat old answer new → AddsOf class old.past new.past
take_adds class seat old new (Task task) h = inr (TakeLine seat task.ticket task.chunk task.queries, take_may class _ _ _ _, past_is new _ h.line)
take_adds class seat old new Idle h = inl (past_is new old h.2)
take_adds class seat old new Ended h = inl (past_is new old h.2)

pub deliver_adds : {R P : Type 0} (class : Class) (refuses : P → P → Type 0) (seat : ℕ) (old new : BoardState R) (task : TaskState) (entries : List (Option P))
    → DeliversTask refuses seat task entries old new → AddsOf class old.past new.past
deliver_adds class refuses seat old new task entries h = inr (Deliver seat task.ticket h.lost, deliver_may class _ _ _, past_is new _ h.line)

pub cancel_adds : {R : Type 0} (class : Class) (seat : ℕ) (old new : BoardState R) (q : ℕ) (ran : Bool)
    → AnswersCancel seat old q ran new → AddsOf class old.past new.past
cancel_adds class seat old new q true h = inr (Cancel seat q, cancel_may class _ _, past_is new _ (h.line refl))
cancel_adds class seat old new q false h = inl (past_is new old (h.same refl))

pub collect_adds : {R P : Type 0} (class : Class) (stands : R → ℕ → List ℕ → P → Type 0) (seat : ℕ) (old new : BoardState R) (q : ℕ) (answer : Collect P)
    → AnswersCollect stands seat old q answer new → AddsOf class old.past new.past
collect_adds class stands seat old new q (Piece piece) h = inr (CollectLine seat q, collect_may class _ _, past_is new _ h.0.line)
collect_adds class stands seat old new q NotYet h = inl (past_is new old h.1)
collect_adds class stands seat old new q Cancelled h = inr (CollectLine seat q, collect_may class _ _, past_is new _ h.line)
collect_adds class stands seat old new q Spent h = inr (CollectLine seat q, collect_may class _ _, past_is new _ h.line)
collect_adds class stands seat old new q Gone h = inl (past_is new old h.1)

pub close_adds : {R : Type 0} (class : Class) (seat : ℕ) (old new : BoardState R) → AnswersClose seat old new → AddsOf class old.past new.past
close_adds class seat old new h = ⊎_elim (λ t. inl (past_is new old (h.second t)))
    (λ f. inr (Close seat, close_may class _, past_is new _ (h.first f)))
    (cases_Bool (is_closed old.past))
