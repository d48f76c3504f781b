-- What a query was attached with is what was planned for it.
use Rattle.std.proofs.Common.{◌≡◌, ℕ, List, ◌∷◌, ◌++◌, true, false, Some, refl, sym, ◌∙◌, ap, subst, append_assoc, eq-eqb}
use Rattle.std.proofs.lemmas.Bool.{false_from_ne_true, both_ways}
use Rattle.std.specs.List.{list_any}
use Rattle.scan_rules.proofs.Lists.{any_finds, any_there}
use Rattle.session_script.specs.declared.step.Step.{Step}
use Rattle.session_script.specs.declared.step.Step.TheVariants.{Query}
use Rattle.session_rules.specs.Ends.{asks}
use Rattle.scan_session.specs.Plans.{Plans, planned as planned_in}
use Rattle.scan_session.specs.Driven.{attached_in}
use Rattle.scan_session.specs.Drove.{Drove}
use Rattle.scan_session.specs.Goes.{IsScript}
use Rattle.scan_rules.specs.Queries.{Journal, wanted}
use Rattle.scan_session.proofs.Keeping.{find_query}
use Rattle.scan_session.proofs.Quiet.{wanted_is_plan}

pub drove_wants_plans : (count workers : ℕ) (plan : Plans) (steps : List Step) (seen : Journal) (q : ℕ) (chunks : List ℕ) → IsScript count steps → Drove workers plan steps seen → list_any (asks q) steps ≡ true → plan q ≡ Some chunks → wanted seen q ≡ chunks
drove_wants_plans count workers plan steps seen q chunks s d started planned =
    let f = any_finds (asks q) steps started in
    let found = find_query q f.1 f.4 in
    let step : Step = Query q found.0 in
    let cut : steps ≡ f.0 ++ step ∷ f.2 = f.3 ∙ ap (λ (x : Step). f.0 ++ x ∷ f.2) found.1 in
    let none_before : list_any (asks q) f.0 ≡ false = s.next f.0 step f.2 cut in
    let none_behind : list_any (asks q) f.2 ≡ false = false_from_ne_true _ (λ t.
    let h = any_finds (asks q) f.2 t in
    let again = find_query q h.1 h.4 in
    let there : steps ≡ (f.0 ++ step ∷ h.0) ++ Query q again.0 ∷ h.2 = cut ∙ (ap (λ (l : List Step). f.0 ++ step ∷ l) (h.3 ∙ ap (λ (x : Step). h.0 ++ x ∷ h.2) again.1) ∙ sym (append_assoc f.0 (step ∷ h.0) (Query q again.0 ∷ h.2))) in
    both_ways _ (s.next (f.0 ++ step ∷ h.0) (Query q again.0) h.2 there) (any_there (asks q) f.0 step h.0 (eq-eqb q q refl))) in
    wanted_is_plan plan f.0 f.2 seen q found.0 chunks none_before none_behind planned (subst (λ (l : List Step). attached_in seen ≡ planned_in plan l) cut d.attached)
