-- A piece of a child query finishes as its answer, and the plan covers it.
use Rattle.std.proofs.Common.{◌≡◌, Bool, true, false, ◌&&◌, map, refl, sym, ap, subst, ◌∙◌, None}
use Rattle.std.specs.Prelude.{Ok}
use Rattle.table_rules.specs.declared.limits.TheConstants.{COLUMNS_MOST}
use Rattle.sky_rules.specs.Chunks.{all_chunks}
use Rattle.sql_bound.specs.declared.query.Bound.{Bound}
use Rattle.sql_bound.specs.declared.query.Shape.{Shape}
use Rattle.value_rules.specs.Truth.{meets}
use Rattle.answer_rules.specs.Answers.{Answer}
use Rattle.answer_rules.specs.Finish.{column_value}
use Rattle.answer_rules.specs.InOrder.{first}
use Rattle.answer_rules.specs.Picks.{lies_in}
use Rattle.answer_rules.specs.Pieces.{OfRows, OfGroups}
use Rattle.answer_rules.specs.Plans.{plan_of}
use Rattle.answer_rules.specs.Ranks.{row_order}
use Rattle.answer_rules.specs.Rewriting.{merged_from}
use Rattle.answer_rules.specs.Rows.{limit_of, rows_answer}
use Rattle.answer_rules.proofs.Chunks.{lies_somewhere}
use Rattle.answer_rules.proofs.Covering.{Known, known, covers_pick, filter_same_on}
use Rattle.answer_rules.proofs.Keeping.{first_kept, keeps_all}
use Rattle.answer_rules.proofs.LinesMerged.{items_merged_of}
use Rattle.answer_rules.proofs.Orders.{each_weaker}
use Rattle.answer_rules.proofs.RowsFinish.{AreLines, all_plain}
use Rattle.answer_rules.proofs.Totals.{row_total}
use Rattle.child_rules.specs.Children.{IsChild, child_answer_in, child_found, child_picks}
use Rattle.child_rules.specs.ChildLaws.{ChildPieceFinishes, ChildAnswerIsFlat, ChildPlanCovers}
use Rattle.child_rules.specs.ChildPieces.{child_lines}
use Rattle.child_rules.proofs.Joined.{lines_apart}
use Rattle.child_rules.proofs.Scanning.{each_first}

are_lines : (q : Bound) → IsChild q → AreLines q.shape
are_lines q h = subst (λ (shape : Shape). AreLines shape) (sym h.shape) tt

pub child_piece_finishes : ChildPieceFinishes
child_piece_finishes g table sources q B (OfRows pushed rows) c up rise h =
    let lines = child_lines g table sources q B in
    let order = first_kept row_order row_total None lines rows (lines_apart g table sources q B up rise) (keeps_all row_order None lines rows h.1) in
    let merged = items_merged_of q (child_found g table sources q.conds B) (are_lines q c) (all_plain COLUMNS_MOST q.shape (are_lines q c) q.items c.sound.items) in
    let answer : Answer = Ok (child_answer_in g table sources q B) in
    ap (λ l. let a : Answer = Ok (map (λ r. map (column_value r.cells) (merged_from q.shape 0 q.items)) (first (limit_of q.limit) l)) in a) order
    ∙ ap (λ l. let a : Answer = Ok l in a) merged
child_piece_finishes g table sources q B (OfGroups parts) c up rise h = absurd h

and_there : (m b : Bool) → b ≡ true → (m && b) ≡ m
and_there true b h = h
and_there false b h = refl

and_covered : (m a b : Bool) → (m ≡ true → a ≡ b) → b ≡ true → (m && a) ≡ m
and_covered true a b f h = f refl ∙ h
and_covered false a b f h = refl

pub child_answer_is_flat : ChildAnswerIsFlat
child_answer_is_flat g table sources q sky at =
    ap (rows_answer q)
    (filter_same_on (λ p. meets q.conds p && lies_in g (all_chunks g) p.first.at) (meets q.conds) (child_picks table sources)
    (each_weaker (λ p. Known table p.first) (λ p. (meets q.conds p && lies_in g (all_chunks g) p.first.at) ≡ meets q.conds p)
    (λ p k. and_there (meets q.conds p) (lies_in g (all_chunks g) p.first.at) (lies_somewhere g p.first.at sky k.0)) (child_picks table sources) (each_first (Known table) sources table (known table at))))

pub child_plan_covers : ChildPlanCovers
child_plan_covers g table sources q sky at c =
    ap (rows_answer q)
    (filter_same_on (λ p. meets q.conds p && lies_in g (plan_of g table q) p.first.at) (meets q.conds) (child_picks table sources)
    (each_weaker (λ p. Known table p.first) (λ p. (meets q.conds p && lies_in g (plan_of g table q) p.first.at) ≡ meets q.conds p)
    (λ p k. and_covered (meets q.conds p) (lies_in g (plan_of g table q) p.first.at) (lies_in g (all_chunks g) p.first.at) (λ m. covers_pick COLUMNS_MOST g table q p sky c.sound c.tested k m) (lies_somewhere g p.first.at sky k.0))
    (child_picks table sources) (each_first (Known table) sources table (known table at))))
