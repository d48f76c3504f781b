use Rattle.std.proofs.Common.{rules, ◌∙◌, List, ℕ, [], ◌∷◌, ◌++◌, if◌then◌else◌, sym, ap, w64, FitsSigned}
use Rattle.std.proofs.lemmas.Int.{to_z-of_z}
use Rattle.area_analyser.proofs.Single.{its_chunk, no_chunk, one_at_most}
use Rattle.area_analyser.proofs.ids.with_id.Goals as goal

pub returns-in_default : goal.returns-in_default
returns-in_default c =
    let fits : FitsSigned w64 c.args.id = search rules in
    c.new-kept.ensures ∙ sym (no_chunk c.args.index.now.plan c.args.index.now.rows c.args.id c.args.chunks.now (simp (to_z-of_z w64 c.args.id fits) at c.in_default.ensures.none))

pub returns : goal.returns
returns c =
    let fits : FitsSigned w64 c.args.id = search rules in
    let place = simp (to_z-of_z w64 c.args.id fits) at c.in-Some.ensures.found in
    c.in_ok-push_if.ensures
    ∙ ap (λ (l : List ℕ). l ++ (if c.contains.result then c.in-Some.place.chunk ∷ [] else [])) c.new-kept.ensures
    ∙ ap (λ b. if b then c.in-Some.place.chunk ∷ [] else []) c.contains.ensures.value
    ∙ sym (one_at_most c.in-Some.place.chunk c.args.chunks.now c.requires.ascend)
    ∙ sym (its_chunk c.args.index.now.plan c.args.index.now.rows c.args.id c.in-Some.place.chunk c.in-Some.place.row c.args.chunks.now place c.requires.there)
