-- In a run over a root, all that is wanted and served was asked, and so in each of its fronts.
use Rattle.std.proofs.Common.{ℕ, [], ◌∷◌, ◌++◌, All}
use Rattle.std.proofs.lemmas.List.Elements.{All-cons, All-head, All-nil, All-tail}
use Rattle.scan_rules.proofs.Giving.{served_asked, wanted_asked}
use Rattle.scan_rules.proofs.Runs.{front_runs}
use Rattle.scan_rules.specs.Asked.{FrontsAreAsked, ServedIsAsked, WantedIsAsked}
use Rattle.scan_rules.specs.Queries.{Journal}
use Rattle.scan_rules.specs.Runs.{IsAsked}

asked_front : (asks : ℕ → ℕ → Type 0) (front rest : Journal) → All (IsAsked asks) (front ++ rest) → All (IsAsked asks) front
asked_front asks [] rest a = All-nil (IsAsked asks)
asked_front asks (line ∷ front) rest a = All-cons (IsAsked asks) line front (All-head (IsAsked asks) line (front ++ rest) a) (asked_front asks front rest (All-tail (IsAsked asks) line (front ++ rest) a))

pub wanted_is_asked : {R : Type 0} (asks : R → ℕ → ℕ → Type 0) → WantedIsAsked asks
wanted_is_asked asks root ring past q chunk r h = wanted_asked (asks root) past q chunk r.asked h

pub served_is_asked : {R : Type 0} (asks : R → ℕ → ℕ → Type 0) → ServedIsAsked asks
served_is_asked asks root ring past q chunk r h = served_asked (asks root) past q chunk r h

pub fronts_are_asked : {R : Type 0} (asks : R → ℕ → ℕ → Type 0) → FrontsAreAsked asks
fronts_are_asked asks root ring front rest r = record { run = front_runs front rest r.run; asked = asked_front (asks root) front rest r.asked }
