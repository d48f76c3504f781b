-- The fault of rows of which two have one id, by their ids.
use Rattle.std.specs.Prelude.{◌≡◌, ◌⊎◌, ◌<◌, ℕ, ◌+◌, ℤ, pos, List, true, length, get_or, take}
use Rattle.std.specs.List.{IsDistinct, list_any}
use Rattle.std.specs.Ordering.{int_eq}
use Rattle.table_rules.specs.declared.fault.LoadFault.{LoadFault}
use Rattle.table_rules.specs.declared.fault.LoadFault.TheVariants.{Repeated}

-- The row number of the first id that an earlier one equals: those before it are distinct, and it is one of them.
pub record IsFirstRepeat (ids : List ℤ) (place : ℕ) : Type 0 where
  pub there : place < length ids
  pub apart : IsDistinct int_eq (take place ids)
  pub again : list_any (int_eq (get_or ids place (pos 0))) (take place ids) ≡ true

-- The fault reports the first id that an earlier one equals, and the row that has it, from 1.
pub record IsRepeat (ids : List ℤ) (fault : LoadFault) : Type 0 where
  pub place : ℕ
  pub first : IsFirstRepeat ids place
  pub told : fault ≡ Repeated (place + 1) (get_or ids place (pos 0))

-- the first fault of rows with these ids followed by something with the fault `behind`: a repeated id's, or else that one
abbrev pub IsFirstFault : List ℤ → LoadFault → LoadFault → Type 0
IsFirstFault ids behind fault = (IsDistinct int_eq ids × (fault ≡ behind)) ⊎ IsRepeat ids fault
