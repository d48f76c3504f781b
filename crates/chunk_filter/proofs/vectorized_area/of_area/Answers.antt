use Rattle.std.proofs.Common.{rules, sym, subst, w64, FitsSigned}
use Rattle.std.proofs.lemmas.Int.{to_z-of_z}
use Rattle.sql_bound.specs.declared.area.AreaTest.TheVariants.{Boxed}
use Rattle.value_rules.specs.Formulas.{LiesIn}
use Rattle.chunk_filter.specs.Asking.{IsVectorized}
use Rattle.chunk_filter.proofs.Vectorizing.{box_vectorized}
use Rattle.chunk_filter.proofs.vectorized_area.of_area.Goals as goal

pub returns-in-Boxed : goal.returns-in-Boxed
returns-in-Boxed c =
    let fits_lo : FitsSigned w64 c.in-Boxed.lo = search rules in
    let fits_hi : FitsSigned w64 c.in-Boxed.hi = search rules in
    let made = simp (to_z-of_z w64 c.in-Boxed.lo fits_lo, to_z-of_z w64 c.in-Boxed.hi fits_hi) at c.heights-in-Boxed.ensures in
    let box = Boxed c.in-Boxed.lo c.in-Boxed.hi c.in-Boxed.a c.in-Boxed.b in
    subst (λ t. IsVectorized (LiesIn t) c.heights-in-Boxed.result) (sym c.in-Boxed.is)
    (subst (IsVectorized (LiesIn box)) (sym made) (box_vectorized c.in-Boxed.lo c.in-Boxed.hi c.in-Boxed.a c.in-Boxed.b))
