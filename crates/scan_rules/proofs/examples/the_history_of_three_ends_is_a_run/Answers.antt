use Rattle.std.proofs.Common.{◌≡◌, [], ◌∷◌, take, refl, arith}
use Rattle.scan_rules.specs.declared.journal_line.JournalLine.TheVariants.{Attach, Take, Deliver, Cancel}
use Rattle.scan_rules.specs.Numbers.{below}
use Rattle.scan_rules.specs.Scan.{running_count}
use Rattle.scan_rules.specs.Runs.{IsRun}
use Rattle.scan_rules.specs.Examples.{three_ends}
use Rattle.scan_rules.proofs.Runs.{no_lines_run, run_more}
use Rattle.scan_rules.proofs.examples.the_history_of_three_ends_is_a_run.Goals as goal

pub returns : goal.returns
unfolding below
returns c =
    let none : running_count (take 0 three_ends) ≡ 0 = refl in
    let none_again : running_count (take 2 three_ends) ≡ 1 = refl in
    let one : running_count (take 3 three_ends) ≡ 1 = refl in
    let after_1 : IsRun 8 (take 1 three_ends) = run_more (take 0 three_ends) (Attach 0 1 (7 ∷ [])) (no_lines_run 8) (record { not_closed = refl; from_1 = omega arith; to_255 = omega arith; fresh = refl; room = omega (arith, none); in_ring = refl }) in
    let after_2 : IsRun 8 (take 2 three_ends) = run_more (take 1 three_ends) (Take 1 0 7 (1 ∷ [])) after_1 (record { counted = refl; next = refl; all = refl }) in
    let after_3 : IsRun 8 (take 3 three_ends) = run_more (take 2 three_ends) (Attach 0 2 []) after_2 (record { not_closed = refl; from_1 = omega arith; to_255 = omega arith; fresh = refl; room = omega (arith, none_again); in_ring = refl }) in
    let after_4 : IsRun 8 (take 4 three_ends) = run_more (take 3 three_ends) (Attach 0 3 (5 ∷ [])) after_3 (record { not_closed = refl; from_1 = omega arith; to_255 = omega arith; fresh = refl; room = omega (arith, one); in_ring = refl }) in
    let after_5 : IsRun 8 (take 5 three_ends) = run_more (take 4 three_ends) (Cancel 0 3) after_4 refl in
    run_more (take 5 three_ends) (Deliver 1 0 (1 ∷ [])) after_5 (record { same_seat = refl; in_flight = refl; losable = refl })
