use Rattle.std.proofs.Common.{List, ℕ, Vec, Global, ◌<◌, ◌∷◌, [], subst, sym, map, set, length, arith}
use Rattle.std.proofs.lemmas.List.{length-map}
use Rattle.chunk_store.specs.Lists.{Pushed}
use Rattle.chunk_store.proofs.Pushing.{pushed_into}
use Rattle.chunk_store.proofs.lists.Lists.push.Goals as goal

pub returns : goal.returns
returns c =
    let vs = c.self.inside.lists.items in
    let f : Vec ℕ Global → List ℕ = λ v. v.items in
    let below = subst (λ (l : List (List ℕ)). c.args.chunk < length l) (sym c.self.view_is) c.requires in
    let there : c.args.chunk < length vs = omega (arith, length-map vs f, below) in
    subst (λ (l : List (List ℕ)). Pushed (c.args.chunk ∷ []) c.args.place l (map f (set vs c.args.chunk c.push.new.list))) c.self.view_is
    (pushed_into f vs c.args.chunk c.args.place c.push.new.list c.index_mut.result.now there c.index_mut.ensures.value c.in_ok-push.ensures)
