-- The plan of a line, by its tree and its bound query.
use Rattle.std.proofs.Common.{◌≡◌, ◌∙◌, sym, ap, refl, subst, Result, Ok, Err, Some, IfOk}
use Rattle.std.specs.Result.{result_err}
use Rattle.sky_io.specs.Stops.{IfBad}
use Rattle.sky_io.specs.declared.Memory.{Memory}
use Rattle.sky_io.specs.declared.Stop.{Stop}
use Rattle.sky_io.specs.declared.Stop.TheVariants as stop
use Rattle.sql_tree.specs.declared.query.Query.{Query}
use Rattle.sql_rules.specs.PrintedExprs.{Bytes}
use Rattle.sql_rules.specs.Trees.{tree_of}
use Rattle.sql_rules.specs.declared.fault.SqlFault.{SqlFault}
use Rattle.sql_bound.specs.declared.query.Bound.{Bound}
use Rattle.bind_rules.specs.declared.fault.BindFault.{BindFault}
use Rattle.child_bind_rules.specs.ChildBinding.{child_bound_of}
use Rattle.child_bind_rules.specs.PairColumns.{Schemas, schemas_of}
use Rattle.child_rules.specs.declared.bound.ChildBound.{ChildBound}
use Rattle.transcript_rules.specs.Refusals.{with_bound, with_tree_by}
use Rattle.transcript_rules.specs.declared.refusal.Refusal.TheVariants as refusal
use Rattle.child_transcripts.specs.ChildQueries.{child_refusal, child_understood}
use Rattle.child_session.specs.ChildPlans.{ChildPlanFor, IsChildPlanBy, IsChildPlanOf}
use Rattle.child_session.specs.ChildRefusals.{IsUnboundPlan, IsUnreadPlan}
use Rattle.child_session.specs.ChildSurvey.{ChildSurvey}
use Rattle.child_session.specs.declared.plan.ChildPlan.{ChildPlan}

-- a line that has no tree
no_query : (s : Schemas) (text : Bytes) (fault : SqlFault) → tree_of text ≡ Err fault
    → child_refusal s text ≡ Some (refusal.Sql fault)
unfolding child_refusal child_understood
no_query s text fault read = ap (λ r. result_err (with_tree_by (child_bound_of s) r)) read

-- a line whose tree does not bind
unbound : (s : Schemas) (text : Bytes) (q : Query) (fault : BindFault) → tree_of text ≡ Ok q
    → child_bound_of s q ≡ Err fault → child_refusal s text ≡ Some (refusal.Bind fault)
unfolding child_refusal child_understood
unbound s text q fault read bound =
    ap (λ r. result_err (with_tree_by (child_bound_of s) r)) read ∙ ap (λ r. result_err (with_bound q r)) bound

-- a line whose tree binds
bound : (s : Schemas) (text : Bytes) (q : Query) (b : Bound) → tree_of text ≡ Ok q → child_bound_of s q ≡ Ok b
    → child_understood s text ≡ Ok (record { tree = q; bound = b })
unfolding child_understood
bound s text q b read is = ap (with_tree_by (child_bound_of s)) read ∙ ap (with_bound q) is

-- the plan of a line on which the reader stops so
pub unread_plan : (t : ChildSurvey) (text : Bytes) (s : Stop SqlFault) (r : Result ChildPlan Memory)
    → IfBad s (λ fault. tree_of text ≡ Err fault) → IfOk r (IsUnreadPlan s) → IfOk r (ChildPlanFor t text)
unread_plan t text s (Err m) bad is = tt
unread_plan t text (stop.Bad fault) (Ok p) bad is =
    subst (λ (x : ChildPlan). ChildPlanFor t text x) (sym is) (no_query (schemas_of t.rows.names t.table.names) text fault bad)
unread_plan t text stop.Memory (Ok p) bad is = absurd is

-- the plan of the lines with a tree on which the binder stops so
pub unbound_plan : (t : ChildSurvey) (q : Query) (s : Stop BindFault) (r : Result ChildPlan Memory)
    → IfBad s (λ fault. child_bound_of (schemas_of t.rows.names t.table.names) q ≡ Err fault) → IfOk r (IsUnboundPlan s)
    → IfOk r (IsChildPlanOf t q)
unbound_plan t q s (Err m) bad is = tt
unbound_plan t q (stop.Bad fault) (Ok p) bad is = λ text read.
    subst (λ (x : ChildPlan). ChildPlanFor t text x) (sym is) (unbound (schemas_of t.rows.names t.table.names) text q fault read bad)
unbound_plan t q stop.Memory (Ok p) bad is = absurd is

-- the plan of the lines with a tree that binds
pub bound_plan : (t : ChildSurvey) (q : Query) (query : ChildBound) (r : Result ChildPlan Memory)
    → child_bound_of (schemas_of t.rows.names t.table.names) q ≡ Ok query.bound → IfOk r (IsChildPlanBy t q query)
    → IfOk r (IsChildPlanOf t q)
bound_plan t q query (Err m) binds is = tt
bound_plan t q query (Ok p) binds is = λ text read.
    subst (λ (x : ChildPlan). ChildPlanFor t text x) (sym is)
    (record { known = bound (schemas_of t.rows.names t.table.names) text q query.bound read binds; plan = refl })

-- the plan of a line that has this tree
pub of_line : (t : ChildSurvey) (text : Bytes) (tree : Query) (r : Result ChildPlan Memory) → tree_of text ≡ Ok tree
    → IfOk r (IsChildPlanOf t tree) → IfOk r (ChildPlanFor t text)
of_line t text tree (Ok p) read is = is text read
of_line t text tree (Err m) read is = tt
