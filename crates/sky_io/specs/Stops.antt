-- Why a call stopped: an allocation failure, or a fault of its own.
use Rattle.sky_io.specs.declared.Stop.{Stop}
use Rattle.sky_io.specs.declared.Stop.TheVariants.{Memory, Bad}

-- what holds of the call's own fault if it stopped with one; after an allocation failure nothing is claimed
abbrev pub IfBad : {F : Type 0} → Stop F → (F → Type 0) → Type 0
IfBad Memory holds = Unit {0}
IfBad (Bad fault) holds = holds fault
