-- The reading of a sky text line by line, which gives the meaning of the whole text.
use Rattle.std.specs.Prelude.{◌≡◌, ℕ, List, [], ◌∷◌, ◌++◌, Result, Ok, Err}
use Rattle.text_rules.specs.Lines.{Line}
use Rattle.sky_rules.specs.Partition.{Stripe, Partition}
use Rattle.sky_rules.specs.SkyWords.{Version, said_on}
use Rattle.sky_rules.specs.SkyText.{judged_stripe, sky_under, unless_fault}
use Rattle.sky_rules.specs.declared.fault.SkyFault.{SkyFault}
use Rattle.sky_rules.specs.declared.fault.SkyFault.TheVariants.{Syntax}

-- these stripes followed by those of the lines, or the first fault of a line
abbrev pub stripes_with : Version → List Stripe → List Line → Result (List Stripe) SkyFault
stripes_with version before [] = Ok before
stripes_with version before (line ∷ rest) =
    unless_fault (judged_stripe line.number before (said_on version line.text))
    (λ stripe. stripes_with version (before ++ (stripe ∷ [])) rest)

-- the partition of these stripes, if there is at least one
abbrev pub whole_sky : ℕ → List Stripe → Result Partition SkyFault
whole_sky behind [] = Err (Syntax behind)
whole_sky behind (s ∷ rest) = Ok (record { stripes = s ∷ rest })

-- reading the lines one by one gives what they mean as a whole
abbrev pub ReadLineByLine : Type 0
ReadLineByLine =
    (behind : ℕ) (version : Version) (lines : List Line)
    → sky_under behind version lines ≡ unless_fault (stripes_with version [] lines) (whole_sky behind)
