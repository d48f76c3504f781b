use Rattle.std.proofs.Common.{◌≡◌, ◌∙◌, [], ℕ, ◌++◌, List, map, subst, sym, vec_len}
use Rattle.std.proofs.lemmas.Bool.{eqb-true}
use Rattle.std.proofs.lemmas.List.{nil_from_length}
use Rattle.answer_rules.specs.Keeps.{AreApart}
use Rattle.answer_rules.specs.Ranks.{row_order}
use Rattle.partial_rows.specs.PackedKeys.{pair_in}
use Rattle.partial_rows.specs.Pairs.{pair_row}
use Rattle.partial_rows.proofs.pair_table.sorted_pair_table.Goals as goal

pub sorted_short_pair_table-requires : goal.sorted_short_pair_table-requires
sorted_short_pair_table-requires c =
    let none : c.args.pairs.wide.items ≡ [] = nil_from_length c.args.pairs.wide.items (sym c.args.pairs.wide.ok.0 ∙ eqb-true (vec_len c.args.pairs.wide) 0 (sym c.is_empty.ensures ∙ c.if-is_empty.true)) in
    subst (λ (ps : List ℕ). AreApart row_order (map pair_row (ps ++ map pair_in c.args.pairs.short.items))) none c.requires

pub sorted_wide_pair_table-requires : goal.sorted_wide_pair_table-requires
sorted_wide_pair_table-requires c = subst (λ (ps : List ℕ). AreApart row_order (map pair_row ps)) (sym c.in_ok-all_wide.ensures) c.requires
