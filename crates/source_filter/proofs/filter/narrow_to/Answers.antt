use Rattle.std.proofs.Common.{ℕ, subst}
use Rattle.source_filter.specs.Columns.{IsColumnOf}
use Rattle.source_filter.proofs.Narrowing.{narrowed_to}
use Rattle.source_filter.proofs.filter.narrow_to.Goals as goal

pub returns-in-Some : goal.returns-in-Some
returns-in-Some c =
    narrowed_to c.args.lists.now c.args.test c.in-Some.column c.args.mask.now c.keep_passing.new.mask
    (subst (λ (n : ℕ). IsColumnOf n c.in-Some.column c.args.test.col) c.requires.width c.in-Some.ensures) c.keep_passing.ensures
