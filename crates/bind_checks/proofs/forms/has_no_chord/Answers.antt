use Rattle.std.proofs.Common.{refl, ap, ◌∙◌}
use Rattle.std.specs.Prelude.{not}
use Rattle.bind_rules.specs.Forms.{chords_of}
use Rattle.bind_rules.specs.Tops.{tests_in}
use Rattle.bind_checks.proofs.ChordLaws.{any_met, no_chord}
use Rattle.bind_checks.proofs.forms.has_no_chord.Goals as goal

pub returns : goal.returns
returns c =
    let all = ap (λ s. s.is_there) (c.walk.ensures.so refl).1 ∙ any_met _ (tests_in c.args.query.now.cond) in
    ap not all ∙ no_chord (chords_of c.args.query.now)
