use Rattle.std.proofs.Common.{◌≡◌, ◌∙◌, refl, ap, ◌++◌, Ok, Err, Result, Option, None, Some}
use Rattle.std.specs.Result.{result_err}
use Rattle.sql_rules.specs.declared.fault.SqlFault.{SqlFault}
use Rattle.sql_rules.specs.Trees.{tree_of}
use Rattle.sql_bound.specs.declared.query.Bound.{Bound}
use Rattle.sql_tree.specs.declared.query.Query.{Query}
use Rattle.bind_rules.specs.Binding.{by_fault as bound_by_fault}
use Rattle.bind_rules.specs.Examples.{Refused, by_fault}
use Rattle.bind_rules.specs.declared.fault.BindFault.{BindFault}
use Rattle.std.specs.Fmt.{digits}
use Rattle.transcript_rules.specs.Blocks.{number_line, refused_lines}
use Rattle.transcript_rules.specs.RefusalLines.{refusal_line}
use Rattle.transcript_rules.specs.Refusals.{Understood, with_bound, with_tree_by}
use Rattle.transcript_rules.specs.declared.refusal.Refusal.{Refusal}
use Rattle.transcript_rules.specs.declared.refusal.Refusal.TheVariants as refusal
use Rattle.child_bind_rules.specs.ChildBinding.{child_bound_of, child_query}
use Rattle.child_bind_rules.specs.ChildChecks.{child_fault}
use Rattle.child_bind_rules.specs.ChildExamples.{child_by_tree, flux_and_time}
use Rattle.child_transcripts.specs.ChildBlocks.{child_block}
use Rattle.child_transcripts.specs.ChildExamples.{not_by_ids}
use Rattle.child_transcripts.specs.ChildQueries.{child_refusal, child_understood}
use Rattle.child_transcripts.proofs.examples.blocks_without_rows.Goals as goal

same_fault : (f h : BindFault) → Refused f ≡ Refused h → f ≡ h
same_fault f h e = cc e

abbrev refused_as : BindFault → Result Understood Refusal
refused_as f = Err (refusal.Bind f)

-- a fault of both tables is the refusal
fault_is : (q : Query) (b : Bound) (fault : Option BindFault) (f : BindFault) → by_fault fault ≡ Refused f
    → with_bound q (bound_by_fault fault b) ≡ Err (refusal.Bind f)
fault_is q b None f is = absurd (cc is)
fault_is q b (Some h) f is = ap refused_as (same_fault h f is)

refused_by : (r : Result Query SqlFault) (f : BindFault) → child_by_tree r ≡ Refused f
    → with_tree_by (child_bound_of flux_and_time) r ≡ Err (refusal.Bind f)
unfolding child_bound_of
refused_by (Ok q) f is = fault_is q (child_query flux_and_time q) (child_fault flux_and_time q) f is
refused_by (Err e) f is = absurd (cc is)

pub returns-clause-refused : goal.returns-clause-refused
unfolding child_block child_refusal child_understood refusal_line digits
returns-clause-refused c =
    ap (λ u. number_line 2 ++ refused_lines not_by_ids (result_err u))
    (refused_by (tree_of not_by_ids) _ c.join_conditions.ensures.none) ∙ refl

pub returns-clause-cancelled : goal.returns-clause-cancelled
unfolding child_block digits
returns-clause-cancelled c = refl
