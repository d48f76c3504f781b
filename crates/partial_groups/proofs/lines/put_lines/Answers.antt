use Rattle.std.proofs.Common.{◌≡◌, ◌∷◌, ◌++◌, [], length, map, ap, ◌∙◌, sym, append_assoc, subst, arith}
use Rattle.std.specs.List.{All}
use Rattle.std.specs.Vec.Iter.{into_iter_items}
use Rattle.std.proofs.lemmas.List.{map-append}
use Rattle.std.proofs.lemmas.List.Elements.{All-tail}
use Rattle.partial_groups.specs.declared.line.Line.{Line}
use Rattle.partial_groups.specs.Lines.{line_by}
use Rattle.partial_groups.specs.Merging.{IsMergeable}
use Rattle.partial_groups.proofs.lines.put_lines.Goals as goal

pub loop-group-preserved : goal.loop-group-preserved
loop-group-preserved c =
    let step : into_iter_items c.loop-group.group-iterator ≡ c.in-Some.group ∷ into_iter_items c.next.new.self = c.in-Some.ensures.steps.0 in
    let made = line_by c.args.tallies.now c.args.keys.now c.args.merge.now in
    let may = IsMergeable c.args.keys.now c.args.merge.now.items c.args.tallies.now in
    let items : c.push_reserved.new.self.items ≡ c.args.lines.now.items ++ map made (c.loop-group.yielded ++ c.in-Some.group ∷ []) =
    c.push_reserved.ensures.items ∙ ap (λ l. l ++ c.line.result ∷ []) c.loop-group.invariant.items
    ∙ append_assoc c.args.lines.now.items (map made c.loop-group.yielded) (c.line.result ∷ [])
    ∙ ap (λ (l : Line). c.args.lines.now.items ++ (map made c.loop-group.yielded ++ l ∷ [])) c.line.ensures
    ∙ ap (λ l. c.args.lines.now.items ++ l) (sym (map-append made c.loop-group.yielded (c.in-Some.group ∷ [])))
    in
    record {
      items = items;
      all = c.loop-group.invariant.all ∙ ap (λ l. c.loop-group.yielded ++ l) step ∙ sym (append_assoc c.loop-group.yielded (c.in-Some.group ∷ []) (into_iter_items c.next.new.self));
      room = omega (arith, c.loop-group.invariant.room, ap length step, c.push_reserved.ensures.len, c.push_reserved.ensures.capacity);
      may = All-tail may c.in-Some.group (into_iter_items c.next.new.self) (subst (λ ms. All may ms) step c.loop-group.invariant.may);
    }
