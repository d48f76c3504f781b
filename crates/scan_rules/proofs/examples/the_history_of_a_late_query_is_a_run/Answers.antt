use Rattle.std.proofs.Common.{◌≡◌, [], ◌∷◌, take, refl, arith}
use Rattle.scan_rules.specs.declared.journal_line.JournalLine.TheVariants.{Attach, Take, Deliver, Collect, Close}
use Rattle.scan_rules.specs.Numbers.{below}
use Rattle.scan_rules.specs.Scan.{running_count}
use Rattle.scan_rules.specs.Runs.{IsRun}
use Rattle.scan_rules.specs.Examples.{late_query}
use Rattle.scan_rules.proofs.Runs.{no_lines_run, run_more}
use Rattle.scan_rules.proofs.examples.the_history_of_a_late_query_is_a_run.Goals as goal

pub returns : goal.returns
unfolding below
returns c =
    let none : running_count (take 0 late_query) ≡ 0 = refl in
    let one : running_count (take 2 late_query) ≡ 1 = refl in
    let after_1 : IsRun 8 (take 1 late_query) = run_more (take 0 late_query) (Attach 0 1 (0 ∷ 4 ∷ [])) (no_lines_run 8) (record { not_closed = refl; from_1 = omega arith; to_255 = omega arith; fresh = refl; room = omega (arith, none); in_ring = refl }) in
    let after_2 : IsRun 8 (take 2 late_query) = run_more (take 1 late_query) (Take 1 0 0 (1 ∷ [])) after_1 (record { counted = refl; next = refl; all = refl }) in
    let after_3 : IsRun 8 (take 3 late_query) = run_more (take 2 late_query) (Attach 0 2 (0 ∷ 4 ∷ [])) after_2 (record { not_closed = refl; from_1 = omega arith; to_255 = omega arith; fresh = refl; room = omega (arith, one); in_ring = refl }) in
    let after_4 : IsRun 8 (take 4 late_query) = run_more (take 3 late_query) (Take 2 1 4 (1 ∷ 2 ∷ [])) after_3 (record { counted = refl; next = refl; all = refl }) in
    let after_5 : IsRun 8 (take 5 late_query) = run_more (take 4 late_query) (Deliver 2 1 []) after_4 (record { same_seat = refl; in_flight = refl; losable = refl }) in
    let after_6 : IsRun 8 (take 6 late_query) = run_more (take 5 late_query) (Deliver 1 0 []) after_5 (record { same_seat = refl; in_flight = refl; losable = refl }) in
    let after_7 : IsRun 8 (take 7 late_query) = run_more (take 6 late_query) (Take 1 2 0 (2 ∷ [])) after_6 (record { counted = refl; next = refl; all = refl }) in
    let after_8 : IsRun 8 (take 8 late_query) = run_more (take 7 late_query) (Deliver 1 2 []) after_7 (record { same_seat = refl; in_flight = refl; losable = refl }) in
    let after_9 : IsRun 8 (take 9 late_query) = run_more (take 8 late_query) (Collect 0 1) after_8 (record { ended = refl; not_yet = refl }) in
    let after_10 : IsRun 8 (take 10 late_query) = run_more (take 9 late_query) (Collect 0 2) after_9 (record { ended = refl; not_yet = refl }) in
    run_more (take 10 late_query) (Close 0) after_10 refl
