-- What a source gives, bytes after bytes.
use Rattle.std.proofs.Common.{refl, sym, ap, append_assoc, List, ◌++◌, ℕ, [], Option, None, Some}
use Rattle.byte_source.specs.Sources.{Gave}

-- nothing was read
pub gave_nothing : (left : Option (List ℕ)) → Gave left [] left
gave_nothing None = refl
gave_nothing (Some bytes) = refl

-- some bytes were read, and then others
pub gave_two : (old mid new : Option (List ℕ)) (a b : List ℕ) → Gave old a mid → Gave mid b new → Gave old (a ++ b) new
gave_two old mid None a b first second = rw (first, second) refl
gave_two old mid (Some rest) a b first second = rw (first, second) (ap Some (sym (append_assoc a b rest)))
