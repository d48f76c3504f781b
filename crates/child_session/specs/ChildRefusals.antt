-- The plan of a query that is refused, by the error on which the reader or the binder stops.
use Rattle.std.specs.Prelude.{◌≡◌}
use Rattle.sky_io.specs.declared.Stop.{Stop}
use Rattle.sky_io.specs.declared.Stop.TheVariants as stop
use Rattle.sql_rules.specs.declared.fault.SqlFault.{SqlFault}
use Rattle.bind_rules.specs.declared.fault.BindFault.{BindFault}
use Rattle.transcript_rules.specs.declared.refusal.Refusal.TheVariants as refusal
use Rattle.child_session.specs.declared.plan.ChildPlan.{ChildPlan}
use Rattle.child_session.specs.declared.plan.ChildPlan.TheVariants.{Refused}

-- the fault of a line without a tree is its refusal
abbrev pub IsUnreadPlan : Stop SqlFault → ChildPlan → Type 0
IsUnreadPlan (stop.Bad fault) plan = plan ≡ Refused (refusal.Sql fault)
IsUnreadPlan stop.Memory plan = ⊥

-- the fault of a tree that does not bind is its refusal
abbrev pub IsUnboundPlan : Stop BindFault → ChildPlan → Type 0
IsUnboundPlan (stop.Bad fault) plan = plan ≡ Refused (refusal.Bind fault)
IsUnboundPlan stop.Memory plan = ⊥
