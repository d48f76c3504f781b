use Rattle.std.proofs.Common.{◌≡◌, ◌++◌, drop, map}
use Rattle.query_ends.specs.Ends.{kind_of}
use Rattle.top_call.proofs.ends.kinds_of.Given as goal

abbrev pub invariant-loop-end : goal.invariant-loop-end
invariant-loop-end l = map kind_of l.ends ≡ l.kinds.items ++ map kind_of (drop l.end-index l.ends)
