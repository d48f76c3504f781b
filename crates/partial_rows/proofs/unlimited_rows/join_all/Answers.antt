use Rattle.std.proofs.Common.{◌++◌, ◌∙◌, ℤ, List, Option, map, length, None, subst, sym, IsPermutation}
use Rattle.std.specs.List.{All}
use Rattle.answer_rules.specs.Keeps.{KeepsFirst}
use Rattle.answer_rules.specs.Ranks.{row_order}
use Rattle.partial_rows.specs.declared.ranked.Ranked.{Ranked}
use Rattle.partial_rows.specs.CompactRows.{all_of, full}
use Rattle.partial_rows.specs.Rows.{IsIn, moved, row_of}
use Rattle.partial_rows.specs.declared.compact_row.CompactRow.{CompactRow}
use Rattle.partial_rows.proofs.CompactRows.{compact_hold, others_hold, unlimited_join, unlimited_put, unlimited_there}
use Rattle.partial_rows.proofs.unlimited_rows.join_all.Goals as goal

-- all rows, the values of the others after those that were there
put_all : (c : goal.After-put_rows) → IsPermutation (all_of c.args.unlimited.now ++ map (moved (length c.args.cells.now.items)) (all_of c.args.others.now)) (all_of c.put_rows.new.unlimited)
put_all c =
    unlimited_put (all_of c.make_room.new.self) (all_of c.args.unlimited.now) (all_of c.put_compact_rows.new.unlimited) (all_of c.put_rows.new.unlimited) c.args.others.now.width c.len-by.result (length c.args.cells.now.items) c.as_slice.result.now c.args.others.now.compact.items c.as_slice-2.result.now c.args.others.now.rows.items
    c.make_room.ensures.same c.as_slice.ensures.value c.as_slice-2.ensures.value (c.len-by.ensures ∙ c.args.cells.now.ok.0) c.put_compact_rows.ensures.put c.put_rows.ensures.put

pub returns-clause-joined : goal.returns-clause-joined
returns-clause-joined c =
    subst (λ (cs : List (Option ℤ)). KeepsFirst row_order None (map (row_of c.args.cells.now.items) (all_of c.args.unlimited.now) ++ map (row_of c.args.more.items) (all_of c.args.others.now)) (map (row_of cs) (all_of c.put_rows.new.unlimited))) (sym c.in_ok-append.ensures.ok)
    (unlimited_join c.args.cells.now.items c.args.more.items (all_of c.args.unlimited.now) (all_of c.args.others.now) (all_of c.put_rows.new.unlimited) c.requires.mine (put_all c))

pub returns-clause-there : goal.returns-clause-there
returns-clause-there c =
    subst (λ (cs : List (Option ℤ)). All (IsIn (length cs)) (all_of c.put_rows.new.unlimited)) (sym c.in_ok-append.ensures.ok)
    (unlimited_there c.args.cells.now.items c.args.more.items (all_of c.args.unlimited.now) (all_of c.args.others.now) (all_of c.put_rows.new.unlimited) c.requires.mine c.requires.theirs (put_all c))

pub put_compact_rows-requires-clause-there : goal.put_compact_rows-requires-clause-there
put_compact_rows-requires-clause-there c =
    subst (λ (ps : List CompactRow). All (λ p. IsIn c.len-count.result (full c.args.others.now.width p)) ps) (sym c.as_slice.ensures.value)
    (subst (λ n. All (λ p. IsIn n (full c.args.others.now.width p)) c.args.others.now.compact.items) (sym (c.len-count.ensures ∙ c.args.more.ok.0))
    (compact_hold (IsIn (length c.args.more.items)) c.args.others.now.width c.args.others.now.compact.items c.args.others.now.rows.items c.requires.theirs))

pub put_rows-requires-clause-there : goal.put_rows-requires-clause-there
put_rows-requires-clause-there c =
    subst (λ (rs : List Ranked). All (IsIn c.len-count.result) rs) (sym c.as_slice-2.ensures.value)
    (subst (λ n. All (IsIn n) c.args.others.now.rows.items) (sym (c.len-count.ensures ∙ c.args.more.ok.0))
    (others_hold (IsIn (length c.args.more.items)) (map (full c.args.others.now.width) c.args.others.now.compact.items) c.args.others.now.rows.items c.requires.theirs))
