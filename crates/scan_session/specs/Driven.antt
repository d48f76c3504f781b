-- What holds of the lines that the czar has seen, step by step.
use Rattle.std.specs.Prelude.{◌≡◌, ℕ, ◌==◌, List, [], ◌∷◌, ◌++◌, Bool, true, false, not, ◌&&◌, Option, Some, is_some, flat_map}
use Rattle.std.specs.List.{list_any}
use Rattle.scan_rules.specs.declared.journal_line.JournalLine.{JournalLine}
use Rattle.scan_rules.specs.declared.journal_line.JournalLine.TheVariants.{Attach, Take, Deliver, Cancel, Collect, Close}
use Rattle.scan_rules.specs.Lines.{seat_of}
use Rattle.scan_rules.specs.Queries.{Journal, QueryState, is_attached, is_cancelled, is_collected, is_closed, is_running}
use Rattle.scan_rules.specs.Ends.{HasEnded}
use Rattle.session_script.specs.declared.step.Step.{Step}
use Rattle.session_rules.specs.Ends.{asks}
use Rattle.scan_worker.specs.Working.{is_work}
use Rattle.scan_session.specs.Plans.{Plans, settles, planned, MayCancel}
use Rattle.scan_session.specs.Quiet.{is_alone, Pinned, Untouched}

-- the line is an Attach, Cancel, Collect or Close that is not the czar's
abbrev pub is_foreign : JournalLine → Bool
is_foreign l = not (is_work l) && not (seat_of l == 0)

-- the lines have one that is foreign, which the czar cannot rule out before all workers are joined
abbrev pub has_foreign : Journal → Bool
has_foreign S = list_any is_foreign S

-- the query that a line attaches, with its chunks, in a list of at most one
abbrev pub attached_by : JournalLine → List (ℕ × List ℕ)
attached_by (Attach seat q chunks) = (q, chunks) ∷ []
attached_by (Take seat ticket chunk queries) = []
attached_by (Deliver seat ticket lost) = []
attached_by (Cancel seat q) = []
attached_by (Collect seat q) = []
attached_by (Close seat) = []

-- the queries attached by these lines, with their chunks, in order
abbrev pub attached_in : Journal → List (ℕ × List ℕ)
attached_in S = flat_map attached_by S

-- the query does not run before the Attach of any of the queries that these steps ask
abbrev pub RestsBefore : Journal → ℕ → List Step → Type 0
RestsBefore S q later =
    (H : Journal) (seat r : ℕ) (chunks : List ℕ) (rest : Journal)
    → S ≡ H ++ Attach seat r chunks ∷ rest → list_any (asks r) later ≡ true → is_running H q ≡ false

-- a query does not run, and did not before the Attach of any query that is later in the script
pub record Settled (S : Journal) (q : ℕ) (later : List Step) : Type 0 where
  pub attached : is_attached S q ≡ true
  pub stopped : is_running S q ≡ false
  pub before : RestsBefore S q later

-- What holds of the lines seen once these steps of the script are done, and these ends are known. The last field holds if
-- the czar works alone and there is room: all planned queries can run at once.
pub record Driven (Room : Type 0) (plan : Plans) (done : List Step) (S : Journal) (ends : ℕ → Option QueryState) : Type 0 where
  pub attached : attached_in S ≡ planned plan done
  pub open_still : is_closed S ≡ false
  pub collected : (q : ℕ) → is_collected S q ≡ is_some (ends q)
  pub ended : (q : ℕ) (s : QueryState) → ends q ≡ Some s → HasEnded S q s
  pub cancelled : (q : ℕ) → is_cancelled S q ≡ true → MayCancel done q
  pub settled : (a : List Step) (step : Step) (b : List Step) (q : ℕ)
      → done ≡ a ++ step ∷ b → settles q step ≡ true → is_some (plan q) ≡ true → Settled S q b
  pub pinned : is_alone S ≡ true → Room → Pinned plan done S

-- the lines are driven by these steps, if no participant other than the czar attached, cancelled, collected or closed
abbrev pub Driving : Type 0 → Plans → List Step → Journal → (ℕ → Option QueryState) → Type 0
Driving Room plan done S ends = has_foreign S ≡ false → Driven Room plan done S ends

-- the lines are driven between two steps: a czar that works alone, and has room, has worked only for a wait line
pub record Going (Room : Type 0) (plan : Plans) (done : List Step) (S : Journal) (ends : ℕ → Option QueryState) : Type 0 where
  pub drives : Driving Room plan done S ends
  pub calm : is_alone S ≡ true → Room → Untouched plan done S
