use Rattle.std.proofs.Common.{refl, sym, ap, ◌∙◌}
use Rattle.bind_rules.specs.Tops.{tests_in}
use Rattle.bind_checks.specs.LoneChord.{is_lone}
use Rattle.bind_checks.proofs.ChordLaws.{met_all}
use Rattle.bind_checks.proofs.forms.has_lone_chord.Goals as goal

pub returns-in-Once : goal.returns-in-Once
returns-in-Once c =
    let all = ap (λ s. s.chords) (c.walk.ensures.so refl).1 ∙ met_all _ (tests_in c.args.query.now.cond) in
    ap is_lone (sym c.in-Once.is ∙ all)

pub returns-in-Nowhere : goal.returns-in-Nowhere
returns-in-Nowhere c =
    let all = ap (λ s. s.chords) (c.walk.ensures.so refl).1 ∙ met_all _ (tests_in c.args.query.now.cond) in
    ap is_lone (sym c.in-Nowhere.is ∙ all)

pub returns-in-Again : goal.returns-in-Again
returns-in-Again c =
    let all = ap (λ s. s.chords) (c.walk.ensures.so refl).1 ∙ met_all _ (tests_in c.args.query.now.cond) in
    ap is_lone (sym c.in-Again.is ∙ all)
