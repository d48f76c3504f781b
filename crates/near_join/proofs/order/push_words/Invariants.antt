use Rattle.std.proofs.Common.{◌≡◌, ◌++◌, take}
use Rattle.near_join.specs.Strips.{words_of}
use Rattle.near_join.proofs.order.push_words.Given as goal

abbrev pub invariant-loop-place : goal.invariant-loop-place
invariant-loop-place l = l.words.items ≡ l.fn.words.items ++ words_of l.zs (take l.place-index l.places)
