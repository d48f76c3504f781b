use Rattle.std.proofs.Common.{◌≡◌, ◌+◌, ◌*◌, ap, arith, length, List, Some, slice_range, subst, sym, ◌∙◌}
use Rattle.std.specs.List.{All}
use Rattle.answer_rules.specs.declared.value.Value.{Value}
use Rattle.answer_table.specs.Tables.{IsShort}
use Rattle.answer_table.proofs.Tabling.{part_short, place_at, place_fits}
use Rattle.answer_table.proofs.table.Table.row.Goals as goal

pub overflow_mul-i : goal.overflow_mul-i
overflow_mul-i c = omega (arith, place_fits c.args.i c.self.inside.rows c.self.inside.width c.self.inside.values.items c.args.self.now c.self.view_is c.self.invariant.long c.requires, c.self.inside.values.small, c.self.inside.values.ok.0)

pub part-requires : goal.part-requires
part-requires c = omega (arith, place_fits c.args.i c.self.inside.rows c.self.inside.width c.self.inside.values.items c.args.self.now c.self.view_is c.self.invariant.long c.requires, ap length c.as_slice.ensures.value)

pub returns-clause-value : goal.returns-clause-value
returns-clause-value c =
    let value : c.part.result.now ≡ slice_range c.self.inside.values.items (c.args.i * c.self.inside.width) (c.args.i * c.self.inside.width + c.self.inside.width) =
    c.part.ensures ∙ ap (λ vs. slice_range vs (c.args.i * c.self.inside.width) (c.args.i * c.self.inside.width + c.self.inside.width)) c.as_slice.ensures.value
    in
    place_at c.args.i c.self.inside.rows c.self.inside.width c.self.inside.values.items c.args.self.now c.self.view_is c.requires ∙ ap Some (sym value)

pub returns-clause-short : goal.returns-clause-short
returns-clause-short c =
    let short : All IsShort (slice_range c.self.inside.values.items (c.args.i * c.self.inside.width) (c.args.i * c.self.inside.width + c.self.inside.width)) = part_short _ _ c.self.inside.values.items c.self.invariant.short in
    subst (λ (vs : List Value). All IsShort vs) (sym (c.part.ensures ∙ ap (λ vs. slice_range vs (c.args.i * c.self.inside.width) (c.args.i * c.self.inside.width + c.self.inside.width)) c.as_slice.ensures.value)) short
