-- Judgements of faults of which the first is known.
use Rattle.std.proofs.Common.{◌≡◌, ap, refl, List, [], ◌∷◌, Some, Result, Ok, Err}
use Rattle.std.proofs.lemmas.Option.{none-some, same_Some}
use Rattle.table_rules.specs.declared.fault.LoadFault.{LoadFault}
use Rattle.text_rules.specs.Readings.{judged}
use Rattle.record_text.specs.Faults.{first_of}

-- the judgement of faults of which the first is known
pub judged_first : {A : Type 0} (faults : List LoadFault) (found : A) (f : LoadFault) → first_of faults ≡ Some f → judged faults found ≡ Err f
judged_first {A} [] found f h = absurd (none-some f h)
judged_first {A} (g ∷ later) found f h = ap {B = Result A LoadFault} (λ x. Err x) (same_Some g f h)

-- the judgement where there is none
pub judged_none : {A : Type 0} (faults : List LoadFault) (found : A) → faults ≡ [] → judged faults found ≡ Ok found
judged_none {A} faults found none = rw none refl
