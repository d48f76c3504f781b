use Rattle.std.proofs.Common.{None, refl, ap, ◌∙◌}
use Rattle.std.specs.Option.{option_map}
use Rattle.bind_rules.specs.declared.fault.BindFault.TheVariants as fault
use Rattle.bind_rules.specs.Forms.{bad_area, area_form}
use Rattle.bind_rules.specs.Tops.{tests_in}
use Rattle.bind_checks.specs.declared.area_forms.FirstBad.{FirstBad}
use Rattle.query_walks.specs.Behind.{first_behind}
use Rattle.query_walks.proofs.Gathered.{firsts}
use Rattle.bind_checks.proofs.area_forms.first_bad_area.Goals as goal

pub returns : goal.returns
unfolding area_form
returns c =
    let is = (c.walk.ensures.so refl).1 in
    let all = firsts {S = FirstBad} (λ s f. record { span = first_behind s.span (bad_area f.test f.top) }) (λ s. s.span) (λ f. bad_area f.test f.top) (λ s f. refl) (record { span = None }) (tests_in c.args.query.now.cond) in
    ap (option_map fault.AreaForm) (ap (λ s. s.span) is ∙ all)
