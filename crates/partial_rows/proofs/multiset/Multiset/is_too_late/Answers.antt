use Rattle.std.proofs.Common.{◌≡◌, ◌≤◌, ◌++◌, ◌∷◌, [], ℤ, length, true, List, Option, subst}
use Rattle.std.specs.Prelude.{IfSome}
use Rattle.std.specs.Bool.{OnTrue}
use Rattle.answer_rules.specs.Keeps.{KeepsFirst}
use Rattle.answer_rules.specs.Ranks.{row_order}
use Rattle.partial_rows.specs.Multisets.{ComesBeforeNone, IsTooLate, out_row}
use Rattle.partial_rows.specs.Pairs.{pairs_in}
use Rattle.partial_rows.specs.Views.{MultisetView}
use Rattle.partial_rows.specs.declared.ranked.Ranked.{Ranked}
use Rattle.partial_rows.proofs.Pairs.{late_for_all, reported_late}
use Rattle.partial_rows.proofs.multiset.Multiset.is_too_late.Goals as goal

pub returns-clause-late : goal.returns-clause-late
returns-clause-late c =
    subst (λ (v : MultisetView). OnTrue c.is_too_late.result ((values : List (Option ℤ)) → KeepsFirst row_order v.pushed (v.rows ++ out_row c.args.rank.now values ∷ []) v.rows)) c.self.view_is
    (late_for_all c.self.inside.cells.items c.args.rank.now c.self.inside.buffer (pairs_in c.self.inside.pairs) c.is_too_late.result (subst (λ (r : Ranked). OnTrue c.is_too_late.result (IsTooLate r c.self.inside.buffer)) c.at.ensures c.is_too_late.ensures.late))

pub returns-clause-reported : goal.returns-clause-reported
returns-clause-reported c =
    subst (λ (v : MultisetView). IfSome v.pushed (λ n. n ≤ length v.rows → ComesBeforeNone c.args.rank.now v.rows → c.is_too_late.result ≡ true)) c.self.view_is
    (reported_late c.self.inside.cells.items c.args.rank.now c.self.inside.buffer (pairs_in c.self.inside.pairs) c.is_too_late.result c.self.invariant.all
    (subst (λ (r : Ranked). IsTooLate r c.self.inside.buffer → c.is_too_late.result ≡ true) c.at.ensures c.is_too_late.ensures.reported))
