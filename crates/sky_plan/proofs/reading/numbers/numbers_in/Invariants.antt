use Rattle.std.proofs.Common.{◌≡◌, ◌≤◌, ◌++◌, length, map}
use Rattle.std.specs.Option.{option_map}
use Rattle.text_rules.specs.Numbers.{int_of}
use Rattle.sky_rules.specs.SkyWords.{all_there}
use Rattle.sky_plan.proofs.reading.numbers.numbers_in.Given as goal

abbrev pub invariant-loop-word : goal.invariant-loop-word
invariant-loop-word l = record {
  read :
      option_map (λ behind. l.numbers ++ behind) (all_there (map int_of l.words))
      ≡ all_there (map int_of l.fn.words);
  few : length l.numbers ≤ 5;
}

abbrev pub decreases-loop-word : goal.decreases-loop-word
decreases-loop-word l = length l.words
