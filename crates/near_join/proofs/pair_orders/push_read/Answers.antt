use Rattle.std.proofs.Common.{◌≡◌, ◌∙◌, ◌+◌, ℕ, OnOk, sym, subst, true}
use Rattle.std.proofs.lemmas.Option.{get_or_from_slice_get}
use Rattle.table_rules.specs.Objects.{Obj}
use Rattle.table_rules.specs.declared.limits.TheConstants.{FIRST_COLUMNS}
use Rattle.sky_row.specs.Columns.{no_row}
use Rattle.value_rules.specs.Sound.{has_col}
use Rattle.near_join.specs.Gains.{Gains, if_met}
use Rattle.near_join.specs.Neighbours.{row_of}
use Rattle.near_join.specs.Sound.{IsSoundLine}
use Rattle.near_join.proofs.pair_orders.push_read.Goals as goal

pub push_if_met-requires-clause-wide : goal.push_if_met-requires-clause-wide
push_if_met-requires-clause-wide c = c.get-other.ensures.wide ∙ sym c.get-row.ensures.wide

pub push_if_met-requires-clause-sound : goal.push_if_met-requires-clause-sound
push_if_met-requires-clause-sound c = subst (λ (n : ℕ). IsSoundLine (has_col (FIRST_COLUMNS + n) true) c.args.asked.now.query.now) (sym c.get-row.ensures.wide) c.requires.asked.sound

pub returns : goal.returns
returns c =
    let cq = c.args.asked.now.query.now in
    let objects = c.args.asked.now.rows.now.objects in
    let first : row_of objects c.args.first.now ≡ c.get-row.result = get_or_from_slice_get objects c.args.first.now.place c.get-row.result no_row c.get-row.ensures.value in
    let second : row_of objects c.args.second.now ≡ c.get-other.result = get_or_from_slice_get objects c.args.second.now.place c.get-other.result no_row c.get-other.ensures.value in
    subst (λ (u : Obj). OnOk c.push_if_met.result (Gains cq (if_met cq.conds u (row_of objects c.args.second.now)) c.args.piece.now c.push_if_met.new.piece)) (sym first)
    (subst (λ (v : Obj). OnOk c.push_if_met.result (Gains cq (if_met cq.conds c.get-row.result v) c.args.piece.now c.push_if_met.new.piece)) (sym second) c.push_if_met.ensures)
