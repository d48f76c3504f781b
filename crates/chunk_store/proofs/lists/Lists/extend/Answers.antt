use Rattle.std.proofs.Common.{List, ℕ, Vec, Global, ◌<◌, subst, sym, map, set, length, arith}
use Rattle.std.proofs.lemmas.List.{length-map}
use Rattle.chunk_store.specs.Lists.{Extended}
use Rattle.chunk_store.proofs.Appending.{extended_into}
use Rattle.chunk_store.proofs.lists.Lists.extend.Goals as goal

pub returns : goal.returns
returns c =
    let vs = c.self.inside.lists.items in
    let f : Vec ℕ Global → List ℕ = λ v. v.items in
    let below = subst (λ (l : List (List ℕ)). c.args.chunk < length l) (sym c.self.view_is) c.requires in
    let there : c.args.chunk < length vs = omega (arith, length-map vs f, below) in
    subst (λ (l : List (List ℕ)). Extended c.args.chunk c.args.more.now l (map f (set vs c.args.chunk c.extend.new.list))) c.self.view_is
    (extended_into f vs c.args.chunk c.args.more.now c.extend.new.list c.index_mut.result.now there c.index_mut.ensures.value c.in_ok-extend.ensures)
