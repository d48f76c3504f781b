-- The block of a query, step by step: its tree, what it is bound to, its refusal or its answer, and its plan.
use Rattle.std.proofs.Common.{◌≡◌, ℕ, List, Ok, Option, None, Some, ◌++◌, length, ap, ◌∙◌, option_map}
use Rattle.std.proofs.Common.{refl, sym, codes, false, not, ◌&&◌, [], ◌∷◌}
use Rattle.std.specs.Option.{is_some, option_or}
use Rattle.table_rules.specs.Objects.{Catalogue}
use Rattle.sky_rules.specs.Partition.{Partition}
use Rattle.sql_tree.specs.declared.query.Query.{Query}
use Rattle.sql_rules.specs.PrintedExprs.{Bytes}
use Rattle.sql_rules.specs.Trees.{tree_of}
use Rattle.sql_bound.specs.declared.query.Bound.{Bound}
use Rattle.bind_rules.specs.Binding.{bound_of}
use Rattle.answer_rules.specs.Answers.{flat_answer}
use Rattle.answer_rules.specs.Plans.{plan_of, radius_refusal}
use Rattle.answer_rules.specs.declared.refusal.Radius.{Radius}
use Rattle.answer_rules.specs.declared.value.Value.{Value}
use Rattle.session_rules.specs.declared.end.EndKind.TheVariants.{Answered, Refused, Cancelled}
use Rattle.transcript_rules.specs.declared.refusal.Refusal.{Refusal}
use Rattle.transcript_rules.specs.declared.refusal.Refusal.TheVariants as refusal
use Rattle.transcript_rules.specs.Refusals.{Understood, understood, with_tree, with_bound, early_by, early_refusal}
use Rattle.transcript_rules.specs.Refusals.{total_refusal}
use Rattle.transcript_rules.specs.Refusals.{refusal_of}
use Rattle.transcript_rules.specs.RefusalLines.{line, refusal_line}
use Rattle.transcript_rules.specs.Tables.{headings, table_lines}
use Rattle.transcript_rules.specs.Blocks.{number_line, answer_lines, answered_lines, refused_lines, block}
use Rattle.transcript_rules.specs.Transcripts.{is_none_of, is_idle, judged_of}
use Rattle.transcript_rules.specs.Explained.{plan_lines, explain_lines, explain_block}
use Rattle.transcript_rules.specs.BlockLaws.{AnsweredIsItsTable, ExplainedIsItsPlan, SpentIsItsLine}
use Rattle.transcript_rules.specs.BlockLaws.{WorkIsAPlan}
use Rattle.session_rules.specs.Ends.{has_work}

-- a query whose tree and bound query are known is understood
pub understood_by : (names : List Bytes) (text : Bytes) (q : Query) (b : Bound)
    → tree_of text ≡ Ok q → bound_of names q ≡ Ok b
    → understood names text ≡ Ok (record { tree = q; bound = b })
unfolding understood
understood_by names text q b read bound =
    ap (with_tree names) read ∙ ap (with_bound q) bound

-- the block of a query that is answered, of the parts of the answer
pub answered_by : (g : Partition) (c : Catalogue) (k : ℕ) (text : Bytes) (q : Query) (b : Bound)
    (heads : List Bytes) (rows : List (List Value)) (chunks : List ℕ)
    → understood c.names text ≡ Ok (record { tree = q; bound = b })
    → headings c.names q ≡ heads → flat_answer c.objects b ≡ Ok rows → plan_of g c.objects b ≡ chunks
    → block g c k text Answered ≡ number_line k ++ table_lines heads rows (length chunks)
unfolding block
answered_by g c k text q b heads rows chunks known headed answered planned =
    ap (λ u. number_line k ++ answered_lines g c u) known
    ∙ ap (λ hs. number_line k ++ answer_lines hs (flat_answer c.objects b) (length (plan_of g c.objects b))) headed
    ∙ ap (λ a. number_line k ++ answer_lines heads a (length (plan_of g c.objects b))) answered
    ∙ ap (λ cs. number_line k ++ table_lines heads rows (length cs)) planned

-- the refusal of a query that is refused before it is run
pub refused_early : (g : Partition) (c : Catalogue) (text : Bytes) (why : Refusal)
    → early_refusal g c text ≡ Some why → refusal_of g c text ≡ Some why
unfolding refusal_of
refused_early g c text why early = ap (λ r. option_or r (total_refusal c text)) early

-- the block of a query that is refused
pub refused_by : (g : Partition) (c : Catalogue) (k : ℕ) (text : Bytes) (why : Refusal)
    → refusal_of g c text ≡ Some why → block g c k text Refused ≡ number_line k ++ refusal_line text why
unfolding block
refused_by g c k text why is = ap (λ r. number_line k ++ refused_lines text r) is

-- the early refusal of what is understood
pub early_known : (g : Partition) (c : Catalogue) (text : Bytes) (q : Query) (b : Bound) (why : Option Radius)
    → understood c.names text ≡ Ok (record { tree = q; bound = b }) → radius_refusal g c.objects b ≡ why
    → early_refusal g c text ≡ option_map refusal.Radius why
unfolding early_refusal
early_known g c text q b why known is =
    ap (early_by g c.objects) known ∙ ap (option_map refusal.Radius) is

-- the block of a query that is cancelled
pub cancelled_by : (g : Partition) (c : Catalogue) (k : ℕ) (text : Bytes)
    → block g c k text Cancelled ≡ number_line k ++ line (codes "cancelled")
unfolding block
cancelled_by g c k text = refl

-- the block that explains a query which is refused before it is run
pub told_by : (g : Partition) (c : Catalogue) (k : ℕ) (text : Bytes) (why : Refusal)
    → early_refusal g c text ≡ Some why → explain_block g c k text ≡ number_line k ++ refusal_line text why
unfolding explain_block
told_by g c k text why early = ap (λ r. number_line k ++ explain_lines g c text r) early

-- the block of a query that is out of memory
pub spent_by : SpentIsItsLine
unfolding block
spent_by g c k text = refl

-- the block of a query that has an answer
pub answered_is_its_table : AnsweredIsItsTable
answered_is_its_table g c k text u rows known answered =
    answered_by g c k text u.tree u.bound (headings c.names u.tree) rows (plan_of g c.objects u.bound) known refl answered refl

-- the block that explains a query which is planned
pub explained_is_its_plan : ExplainedIsItsPlan
unfolding explain_block
explained_is_its_plan g c k text u known none =
    ap (λ r. number_line k ++ explain_lines g c text r) none ∙ ap (λ x. number_line k ++ plan_lines g c x) known

-- whether a query that is planned has work
work_is : (g : Partition) (c : Catalogue) (text : Bytes) (u : Understood) → understood c.names text ≡ Ok u
    → early_refusal g c text ≡ None → has_work (judged_of g c text) ≡ not (is_none_of (plan_of g c.objects u.bound))
unfolding judged_of
work_is g c text u known none =
    ap (λ r. not (is_some r) && not (is_idle g c.objects (understood c.names text))) none
    ∙ ap (λ x. not (is_idle g c.objects x)) known

no_chunks : (chunks : List ℕ) → not (is_none_of chunks) ≡ false → chunks ≡ []
no_chunks [] h = refl
no_chunks (c ∷ chunks) h = absurd (cc h)

pub work_is_a_plan : WorkIsAPlan
work_is_a_plan g c text u known none =
    let is = work_is g c text u known none in
    (λ idle. no_chunks (plan_of g c.objects u.bound) (sym is ∙ idle), λ empty. is ∙ ap (λ chunks. not (is_none_of chunks)) empty)
