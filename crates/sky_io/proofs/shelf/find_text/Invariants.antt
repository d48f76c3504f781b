use Rattle.std.proofs.Common.{◌≡◌, drop}
use Rattle.sky_io.specs.Shelves.{named_text, has_name, pairs_of}
use Rattle.sky_io.proofs.shelf.find_text.Given as goal

-- no pair before this one has the name
abbrev pub invariant-loop-other : goal.invariant-loop-other
invariant-loop-other l =
    (named_text l.name (pairs_of (drop l.other-index l.texts)) ≡ named_text l.name (pairs_of l.texts)) ×
    (has_name l.name (pairs_of (drop l.other-index l.texts)) ≡ has_name l.name (pairs_of l.texts))
