-- None of the demo's queries is refused.
use Rattle.std.proofs.Common.{◌≡◌, ◌∙◌, refl, sym, ap, subst, [], ◌∷◌, None, Ok}
use Rattle.std.specs.Prelude.{All}
use Rattle.std.specs.Option.{option_or}
use Rattle.std.proofs.lemmas.List.Elements.{All-from_recursion}
use Rattle.table_rules.specs.Objects.{Catalogue}
use Rattle.sky_rules.specs.Partition.{Partition}
use Rattle.sql_tree.specs.declared.query.Query.{Query}
use Rattle.sql_rules.specs.PrintedExprs.{Bytes}
use Rattle.sql_rules.specs.Trees.{tree_of}
use Rattle.sql_bound.specs.declared.query.Bound.{Bound}
use Rattle.bind_rules.specs.Binding.{bound_of}
use Rattle.answer_rules.specs.Answers.{flat_answer}
use Rattle.answer_rules.specs.Plans.{radius_refusal}
use Rattle.session_script.specs.Views.{query_lines}
use Rattle.transcript_rules.specs.Refusals.{refusal_of, total_by, total_refusal, total_refusal_by, understood}
use Rattle.transcript_rules.proofs.Steps.{early_known, understood_by}
use Rattle.demo_answers.specs.DemoInput.{demo_plan}
use Rattle.demo_answers.proofs.DemoQueries.{demo_totals, demo_kinds, demo_belt, demo_pairs}
use Rattle.demo_answers.proofs.DemoReads.{demo_names, text_totals, tree_totals, read_totals, bound_totals}
use Rattle.demo_answers.proofs.DemoReads.{text_kinds, tree_kinds, read_kinds, bound_kinds}
use Rattle.demo_answers.proofs.DemoReads.{text_belt, tree_belt, read_belt, bound_belt}
use Rattle.demo_answers.proofs.DemoReads.{text_pairs, tree_pairs, read_pairs, bound_pairs}
use Rattle.demo_answers.specs.Laws.{DemoIsAnswered, demo_read}
use Rattle.demo_answers.proofs.Fluxes.{totals_have_an_answer, kinds_have_an_answer, belt_has_an_answer, pairs_have_an_answer}
use Rattle.demo_answers.proofs.Overlap.{totals_are_near, kinds_are_near, belt_is_near, pairs_are_near}

-- the lines of the script
pub lines_are : query_lines demo_read ≡ text_totals ∷ text_kinds ∷ text_belt ∷ text_pairs ∷ []
lines_are = refl

-- a query that is understood, that has no radius above the overlap and no total out of range is not refused
not_refused : (g : Partition) (c : Catalogue) (text : Bytes) (q : Query) (b : Bound)
    → understood c.names text ≡ Ok (record { tree = q; bound = b })
    → radius_refusal g c.objects b ≡ None → total_by (flat_answer c.objects b) ≡ None
    → refusal_of g c text ≡ None
unfolding refusal_of total_refusal
not_refused g c text q b known near within =
    ap (λ r. option_or r (total_refusal c text)) (early_known g c text q b None known near)
    ∙ ap (total_refusal_by c.objects) known ∙ within

-- the same of a query over the columns of the demo
not_refused_over : (c : Catalogue) (text : Bytes) (q : Query) (b : Bound) → c.names ≡ demo_names
    → tree_of text ≡ Ok q → bound_of demo_names q ≡ Ok b
    → radius_refusal demo_plan c.objects b ≡ None → total_by (flat_answer c.objects b) ≡ None
    → refusal_of demo_plan c text ≡ None
not_refused_over c text q b names read bound near within =
    not_refused demo_plan c text q b
    (ap (λ ns. understood ns text) names ∙ understood_by demo_names text q b read bound) near within

pub demo_is_answered : DemoIsAnswered
demo_is_answered count seed c few demo =
    subst (λ texts. All (λ text. refusal_of demo_plan c text ≡ None) texts) (sym lines_are)
    (All-from_recursion (λ text. refusal_of demo_plan c text ≡ None) (text_totals ∷ text_kinds ∷ text_belt ∷ text_pairs ∷ []) (
      not_refused_over c text_totals tree_totals demo_totals demo.names read_totals bound_totals (totals_are_near c.objects) (totals_have_an_answer count seed c few demo),
      (
        not_refused_over c text_kinds tree_kinds demo_kinds demo.names read_kinds bound_kinds (kinds_are_near c.objects) (kinds_have_an_answer c.objects),
        (
          not_refused_over c text_belt tree_belt demo_belt demo.names read_belt bound_belt (belt_is_near c.objects) (belt_has_an_answer c.objects),
          (not_refused_over c text_pairs tree_pairs demo_pairs demo.names read_pairs bound_pairs (pairs_are_near c.objects) (pairs_have_an_answer c.objects), tt),
        ),
      ),
    ))
