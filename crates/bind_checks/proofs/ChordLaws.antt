-- The chord tests that are met one after another.
use Rattle.std.proofs.Common.{◌≡◌, Bool, true, false, List, [], ◌∷◌, ◌++◌, Some, refl, sym, ◌∙◌}
use Rattle.std.specs.Prelude.{◌&&◌, ◌||◌, not}
use Rattle.std.specs.List.{fold, flat_map, list_all}
use Rattle.std.specs.Str.{bytes_eq}
use Rattle.std.proofs.lemmas.List.Sums.{fold-append}
use Rattle.sql_tree.specs.declared.name.Name.{Name}
use Rattle.bind_rules.specs.Forms.{ChordAt, chord_by, names_both, pairs_both}
use Rattle.query_walks.specs.Walks.{Founds}
use Rattle.bind_checks.specs.declared.forms.AnyChord.{AnyChord}
use Rattle.bind_checks.specs.declared.forms.Chords.TheVariants.{Nowhere, Again}
use Rattle.bind_checks.specs.declared.forms.ChordsMet.{ChordsMet}
use Rattle.bind_checks.specs.LoneChord.{with_one, chords_met, is_lone, has_chord}

-- all chord tests of tests are met
pub met_all : (s : ChordsMet) (fs : Founds) → (fold (λ s f. record s { chords = chords_met s.a.now s.b.now s.chords (chord_by f.test f.top) }) s fs).chords ≡ chords_met s.a.now s.b.now s.chords (flat_map (λ f. chord_by f.test f.top) fs)
met_all s [] = refl
met_all s (f ∷ fs) =
    met_all (record s { chords = chords_met s.a.now s.b.now s.chords (chord_by f.test f.top) }) fs
    ∙ sym (fold-append (λ met c. with_one met (c.top && names_both s.a.now s.b.now c)) s.chords (chord_by f.test f.top) (flat_map (λ f. chord_by f.test f.top) fs))

has_either : (xs ys : List ChordAt) (b : Bool) → ((b || has_chord xs) || has_chord ys) ≡ (b || has_chord (xs ++ ys))
has_either [] ys true = refl
has_either [] ys false = refl
has_either (x ∷ xs) ys true = refl
has_either (x ∷ xs) ys false = refl

or_false : (b : Bool) → b ≡ (b || false)
or_false true = refl
or_false false = refl

-- some chord test of tests is met
pub any_met : (s : AnyChord) (fs : Founds) → (fold (λ s f. record { is_there = s.is_there || has_chord (chord_by f.test f.top) }) s fs).is_there ≡ (s.is_there || has_chord (flat_map (λ f. chord_by f.test f.top) fs))
any_met s [] = or_false s.is_there
any_met s (f ∷ fs) =
    any_met (record { is_there = s.is_there || has_chord (chord_by f.test f.top) }) fs
    ∙ has_either (chord_by f.test f.top) (flat_map (λ f. chord_by f.test f.top) fs) s.is_there

pub no_chord : (cs : List ChordAt) → not (has_chord cs) ≡ list_all (λ c. false) cs
no_chord [] = refl
no_chord (c ∷ cs) = refl

-- more than one chord test
again : (a b : Name) (cs : List ChordAt) → chords_met a b Again cs ≡ Again
again a b [] = refl
again a b (c ∷ cs) = again a b cs

and_false : (b : Bool) → false ≡ (b && false)
and_false true = refl
and_false false = refl

and_assoc : (a b c : Bool) → ((a && b) && c) ≡ (a && (b && c))
and_assoc true b c = refl
and_assoc false b c = refl

pub pairs_lone : (a b : Name) (cs : List ChordAt) → pairs_both (Some a) (Some b) cs ≡ (not (bytes_eq a.text b.text) && is_lone (chords_met a b Nowhere cs))
pairs_lone a b [] = and_false (not (bytes_eq a.text b.text))
pairs_lone a b (c ∷ []) = and_assoc (not (bytes_eq a.text b.text)) c.top (names_both a b c)
pairs_lone a b (c ∷ (d ∷ ds)) = rw (again a b ds) (and_false (not (bytes_eq a.text b.text)))
