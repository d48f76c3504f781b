-- The one chord test of a join.
use Rattle.std.specs.Prelude.{Bool, true, false, ◌&&◌, List, [], ◌∷◌}
use Rattle.std.specs.List.{fold}
use Rattle.sql_tree.specs.declared.name.Name.{Name}
use Rattle.bind_rules.specs.Forms.{ChordAt, names_both}
use Rattle.bind_checks.specs.declared.forms.Chords.{Chords}
use Rattle.bind_checks.specs.declared.forms.Chords.TheVariants.{Nowhere, Once, Again}

-- the chord tests seen with one more, which fits or not
abbrev pub with_one : Chords → Bool → Chords
with_one Nowhere fits = Once fits
with_one (Once before) fits = Again
with_one Again fits = Again

-- the chord tests seen, followed by these: each fits if it is at the top and names both aliases
abbrev pub chords_met : Name → Name → Chords → List ChordAt → Chords
chords_met a b = fold (λ met c. with_one met (c.top && names_both a b c))

-- there is exactly one, and it fits
abbrev pub is_lone : Chords → Bool
is_lone (Once fits) = fits
is_lone _ = false

-- there is a chord test
abbrev pub has_chord : List ChordAt → Bool
has_chord [] = false
has_chord (c ∷ cs) = true
