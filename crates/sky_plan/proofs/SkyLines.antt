-- A sky text as all its lines.
use Rattle.std.proofs.Common.{◌≡◌, ◌∙◌, sym, ap, ℕ, ◌+◌, List, length, Ok, arith}
use Rattle.text_rules.specs.Lines.{lines_of}
use Rattle.sky_rules.specs.Partition.{Stripe}
use Rattle.sky_rules.specs.Limits.{IsSky}
use Rattle.sky_rules.specs.SkyText.{sky_of, sky_of_lines}
use Rattle.sky_rules.proofs.Accepted.{accepted_is_within_limits}
use Rattle.sky_plan.specs.Reading.{LinesLeft, said_lines, sky_on}

-- all the lines, from 1 on
abbrev all_lines : List ℕ → LinesLeft
all_lines text = record { lines = lines_of text; number = 1 }

-- all the lines say what the text says
pub sky_of_text : (text : List ℕ) → sky_on (all_lines text) ≡ sky_of text
unfolding sky_of
sky_of_text text =
    let e : 1 + length (lines_of text) ≡ length (lines_of text) + 1 = omega arith in
    ap (λ n. sky_of_lines n (said_lines (lines_of text))) e

-- and where that is a partition, it is within the limits
pub text_within : (text : List ℕ) (stripes : List Stripe) → sky_on (all_lines text) ≡ Ok (record { stripes = stripes })
    → IsSky (record { stripes = stripes })
text_within text stripes e = accepted_is_within_limits text (record { stripes = stripes }) (sym (sky_of_text text) ∙ e)
