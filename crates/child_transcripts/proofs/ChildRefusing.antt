-- A query over a child table is refused for its grammar or its binding alone.
use Rattle.std.proofs.Common.{◌≡◌, subst, Ok, Err, Result, None, Some}
use Rattle.std.specs.Result.{result_err}
use Rattle.std.proofs.lemmas.Option.{same_Some, none-some}
use Rattle.sql_bound.specs.declared.query.Bound.{Bound}
use Rattle.sql_rules.specs.Trees.{tree_of}
use Rattle.sql_rules.specs.declared.fault.SqlFault.{SqlFault}
use Rattle.sql_tree.specs.declared.query.Query.{Query}
use Rattle.bind_rules.specs.declared.fault.BindFault.{BindFault}
use Rattle.transcript_rules.specs.declared.refusal.Refusal.{Refusal}
use Rattle.transcript_rules.specs.declared.refusal.Refusal.TheVariants.{Sql, Bind}
use Rattle.transcript_rules.specs.Refusals.{with_bound, with_tree_by}
use Rattle.child_bind_rules.specs.ChildBinding.{child_bound_of}
use Rattle.child_bind_rules.specs.PairColumns.{Schemas, schemas_of}
use Rattle.child_transcripts.specs.ChildLaws.{ChildRefusedBeforeItRuns, IsGrammarOrBinding}
use Rattle.child_transcripts.specs.ChildQueries.{child_refusal, child_understood}

of_binding : (q : Query) (r : Result Bound BindFault) (why : Refusal) → result_err (with_bound q r) ≡ Some why → IsGrammarOrBinding why
of_binding q (Ok b) why is = absurd (none-some why is)
of_binding q (Err fault) why is = subst (λ (x : Refusal). IsGrammarOrBinding x) (same_Some (Bind fault) why is) tt

of_reading : (s : Schemas) (r : Result Query SqlFault) (why : Refusal) → result_err (with_tree_by (child_bound_of s) r) ≡ Some why
    → IsGrammarOrBinding why
of_reading s (Ok q) why is = of_binding q (child_bound_of s q) why is
of_reading s (Err fault) why is = subst (λ (x : Refusal). IsGrammarOrBinding x) (same_Some (Sql fault) why is) tt

pub refused_before_it_runs : ChildRefusedBeforeItRuns
unfolding child_refusal child_understood
refused_before_it_runs c t text why is = of_reading (schemas_of c.names t.names) (tree_of text) why is
