use Rattle.std.proofs.Common.{◌≡◌, ℤ, List, sym, subst, get_or, pos, false, Option, None}
use Rattle.source_filter.specs.Columns.{value_in}
use Rattle.source_filter.specs.Masks.{IsNarrowedBy}
use Rattle.source_filter.specs.Tests.{number_passes, passes}
use Rattle.source_filter.proofs.kernel.keep_passing.Goals as goal

pub returns-in-Id : goal.returns-in-Id
returns-in-Id c =
    subst (λ col. IsNarrowedBy (λ k. passes c.args.test (value_in c.args.lists.now col k) ≡ false) c.args.mask.now c.keep_numbers.new.mask) (sym c.in-Id.is)
    (subst (λ (l : List ℤ). IsNarrowedBy (λ k. number_passes c.args.test (get_or l k (pos 0)) ≡ false) c.args.mask.now c.keep_numbers.new.mask) c.ids.ensures
    c.keep_numbers.ensures)

pub returns-in-Object : goal.returns-in-Object
returns-in-Object c =
    subst (λ col. IsNarrowedBy (λ k. passes c.args.test (value_in c.args.lists.now col k) ≡ false) c.args.mask.now c.keep_numbers-in-Object.new.mask) (sym c.in-Object.is)
    (subst (λ (l : List ℤ). IsNarrowedBy (λ k. number_passes c.args.test (get_or l k (pos 0)) ≡ false) c.args.mask.now c.keep_numbers-in-Object.new.mask) c.objects.ensures
    c.keep_numbers-in-Object.ensures)

pub returns-in-Further : goal.returns-in-Further
returns-in-Further c =
    subst (λ col. IsNarrowedBy (λ k. passes c.args.test (value_in c.args.lists.now col k) ≡ false) c.args.mask.now c.keep_values.new.mask) (sym c.in-Further.is)
    (subst (λ (l : List (Option ℤ)). IsNarrowedBy (λ k. passes c.args.test (get_or l k None) ≡ false) c.args.mask.now c.keep_values.new.mask) c.further.ensures
    c.keep_values.ensures)
