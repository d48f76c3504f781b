use Rattle.std.proofs.Common.{◌≡◌, ◌∙◌, refl, ap, ℕ, List, [], ◌∷◌, ◌++◌, length}
use Rattle.std.specs.Prelude.{codes}
use Rattle.std.specs.Fmt.{digits}
use Rattle.sql_rules.specs.PrintedExprs.{Bytes}
use Rattle.sql_rules.proofs.PrintOpened.{print_signed_roll}
use Rattle.transcript_rules.proofs.Reading.{printed_columns}
use Rattle.sky_rules.specs.Examples.{halves}
use Rattle.sql_bound.specs.declared.query.Bound.{Bound}
use Rattle.answer_rules.specs.Examples.{six}
use Rattle.answer_rules.specs.Plans.{plan_of}
use Rattle.answer_rules.specs.Queries.{one_point}
use Rattle.answer_rules.specs.declared.value.Value.{Value}
use Rattle.transcript_rules.specs.Tables.{headings, table_lines}
use Rattle.child_rules.specs.ChildExamples.{all_gains, five_sources, gains_in, gains_of_4, gains_shown}
use Rattle.child_rules.specs.Children.{child_answer}
use Rattle.child_transcripts.specs.ChildExamples.{gains_tree, six_objects}
use Rattle.child_transcripts.proofs.examples.lines_of_answers.Goals as goal

-- the headings
abbrev heads : List Bytes
heads = codes "o.objectId" ∷ codes "s.sourceId" ∷ codes "s.flux-o.flux" ∷ []

heads_are : headings six_objects.names gains_tree ≡ heads
unfolding headings
heads_are = simp (printed_columns, print_signed_roll)

-- the lines of an answer whose rows and plan are known
lines_for : (q : Bound) (rows : List (List Value)) (chunks : List ℕ) → child_answer six five_sources q ≡ rows
    → plan_of halves six q ≡ chunks
    → table_lines (headings six_objects.names gains_tree) (child_answer six five_sources q) (length (plan_of halves six q))
    ≡ table_lines heads rows (length chunks)
lines_for q rows chunks answer plan =
    ap (λ hs. table_lines hs (child_answer six five_sources q) (length (plan_of halves six q))) heads_are
    ∙ ap (λ r. table_lines heads r (length (plan_of halves six q))) answer
    ∙ ap (λ cs. table_lines heads rows (length cs)) plan

all_shown : table_lines heads (gains_shown ((1, 101, 1) ∷ (1, 103, 2) ∷ (4, 102, 1) ∷ (5, 105, 1) ∷ [])) 3
    ≡ codes "o.objectId,s.sourceId,s.flux-o.flux\n1,101,1\n1,103,2\n4,102,1\n5,105,1\n" ++ codes "4 rows, 3 chunks\n"
unfolding table_lines digits
all_shown = refl

point_shown : table_lines heads (gains_shown ((1, 101, 1) ∷ (1, 103, 2) ∷ [])) 2
    ≡ codes "o.objectId,s.sourceId,s.flux-o.flux\n1,101,1\n1,103,2\n2 rows, 2 chunks\n"
unfolding table_lines digits
point_shown = refl

id_shown : table_lines heads (gains_shown ((4, 102, 1) ∷ [])) 1
    ≡ codes "o.objectId,s.sourceId,s.flux-o.flux\n4,102,1\n1 rows, 1 chunks\n"
unfolding table_lines digits
id_shown = refl

pub returns-clause-all : goal.returns-clause-all
returns-clause-all c =
    lines_for all_gains _ _ c.sources_with_their_objects.ensures.all c.sources_with_their_objects.ensures.plan ∙ all_shown

pub returns-clause-point : goal.returns-clause-point
returns-clause-point c =
    lines_for (gains_in one_point) _ _ c.sources_of_some_objects.ensures.point c.sources_of_some_objects.ensures.plan ∙ point_shown

pub returns-clause-id : goal.returns-clause-id
returns-clause-id c =
    lines_for gains_of_4 _ _ c.sources_of_some_objects.ensures.id c.sources_of_some_objects.ensures.its ∙ id_shown
