-- The plan of a query whose chunks are known.
use Rattle.std.proofs.Common.{◌≡◌, ◌∙◌, sym, subst, ap, refl, List, ℕ, Result, Ok, Err, None, Some, IfOk}
use Rattle.sky_io.specs.declared.Memory.{Memory}
use Rattle.czar.specs.QueryPlans.{Plan}
use Rattle.table_rules.specs.Objects.{Catalogue}
use Rattle.sky_rules.specs.Partition.{Partition}
use Rattle.sql_tree.specs.declared.query.Query.{Query}
use Rattle.sql_rules.specs.PrintedExprs.{Bytes}
use Rattle.sql_bound.specs.declared.query.Bound.{Bound}
use Rattle.answer_rules.specs.Plans.{plan_of, overlap_of, radius_by, radius_refusal}
use Rattle.answer_rules.specs.Rewriting.{rewritten}
use Rattle.answer_rules.specs.declared.refusal.Radius.{Radius}
use Rattle.answer_rules.specs.declared.rewritten.Rewritten.{Rewritten}
use Rattle.transcript_rules.specs.declared.refusal.Refusal.TheVariants as refusal
use Rattle.transcript_rules.specs.declared.refusal.Refusal.{Refusal}
use Rattle.transcript_rules.specs.Refusals.{early_by, early_refusal}
use Rattle.transcript_rules.proofs.Steps.{early_known}
use Rattle.czar.specs.Plans.{IsCutOf, IsPlanBy, IsPlanOf, PlanFor}
use Rattle.czar.specs.Understandings.{IsUnderstanding}
use Rattle.czar.specs.declared.understanding.Understanding.{Understanding}
use Rattle.czar.specs.declared.understanding.Understanding.TheVariants.{Known, Unknown}
use Rattle.query_ends.specs.declared.plan.QueryPlan.TheVariants.{Planned, Refused}

-- the radius refusal over the chunks of the plan is that of the query
over : (g : Partition) (c : Catalogue) (b : Bound) (chunks : List ℕ) → chunks ≡ plan_of g c.objects b
    → radius_refusal g c.objects b ≡ radius_by b.shape (overlap_of g chunks)
over g c b chunks is = ap (λ cs. radius_by b.shape (overlap_of g cs)) (sym is)

-- a query that its chunks' overlap does not allow is refused
pub refused : (g : Partition) (c : Catalogue) (tree : Query) (b : Bound) (chunks : List ℕ) (far : Radius)
    → chunks ≡ plan_of g c.objects b → radius_by b.shape (overlap_of g chunks) ≡ Some far
    → IsPlanOf g c tree b (Refused (refusal.Radius far))
refused g c tree b chunks far is allowed text known =
    early_known g c text tree b (Some far) known (over g c b chunks is ∙ allowed)

-- a query that it allows is planned
pub planned : (g : Partition) (c : Catalogue) (tree : Query) (b : Bound) (query : Rewritten) (chunks : List ℕ)
    → chunks ≡ plan_of g c.objects b → radius_by b.shape (overlap_of g chunks) ≡ None
    → query ≡ rewritten b → IsPlanOf g c tree b (Planned tree query chunks)
planned g c tree b query chunks is allowed cut text known = record {
  understanding = record { tree = tree; bound = b };
  known = known;
  tree = refl;
  cut = cut;
  plan = is;
  accepted = early_known g c text tree b None known (over g c b chunks is ∙ allowed);
}

-- what is cut over the chunks of a query is its plan, where their overlap allows it
pub cut_is_planned : (g : Partition) (c : Catalogue) (tree : Query) (b : Bound) (chunks : List ℕ) (r : Result Plan Memory)
    → chunks ≡ plan_of g c.objects b → radius_by b.shape (overlap_of g chunks) ≡ None → IfOk r (IsCutOf tree b chunks)
    → IfOk r (IsPlanOf g c tree b)
cut_is_planned g c tree b chunks (Ok p) is allowed cut =
    subst (λ (it : Plan). IsPlanOf g c tree b it) (sym cut) (planned g c tree b (rewritten b) chunks is allowed refl)
cut_is_planned g c tree b chunks (Err m) is allowed cut = tt

-- a line that is not understood is refused
pub unknown : (g : Partition) (c : Catalogue) (it : Understanding) (why : Refusal) → it ≡ Unknown why
    → IsPlanBy g c it (Refused why)
unfolding early_refusal
unknown g c it why same text is =
    ap (early_by g c.objects) (subst (λ (u : Understanding). IsUnderstanding c.names text u) same is)

-- the plan of the lines of which a tree and its bound query are understood
pub known : (g : Partition) (c : Catalogue) (it : Understanding) (tree : Query) (b : Bound) (r : Result Plan Memory)
    → it ≡ Known tree b → IfOk r (IsPlanOf g c tree b) → IfOk r (IsPlanBy g c it)
known g c it tree b (Ok p) same is =
    λ text u. is text (subst (λ (v : Understanding). IsUnderstanding c.names text v) same u)
known g c it tree b (Err m) same is = tt

-- the plan of a line of which this is understood
pub of_line : (g : Partition) (c : Catalogue) (text : Bytes) (it : Understanding) (r : Result Plan Memory)
    → IsUnderstanding c.names text it → IfOk r (IsPlanBy g c it) → IfOk r (PlanFor g c text)
of_line g c text it (Ok p) u is = is text u
of_line g c text it (Err m) u is = tt
