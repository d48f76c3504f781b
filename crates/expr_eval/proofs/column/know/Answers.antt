use Rattle.value_rules.proofs.Ranges.{pair_is_within, row_is_within}
use Rattle.expr_eval.proofs.column.know.Goals as goal

pub returns-in-Some : goal.returns-in-Some
returns-in-Some c = rw c.in-Some.is (record {
  wide = rw c.in-Some.is at c.requires;
  within = pair_is_within _ _ c.id.ensures.limits c.id-in-Some.ensures.limits;
})

pub returns-in_default : goal.returns-in_default
returns-in_default c = rw c.in_default.is (record {
  wide = tt;
  within = row_is_within _ c.id.ensures.limits;
})
