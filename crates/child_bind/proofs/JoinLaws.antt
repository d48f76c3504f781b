-- The join conditions that are met one after another.
use Rattle.std.proofs.Common.{◌≡◌, ◌∙◌, refl, sym, ap, List, [], ◌∷◌}
use Rattle.std.specs.List.{fold, flat_map}
use Rattle.std.proofs.lemmas.List.Sums.{fold-append}
use Rattle.bind_rules.specs.Tops.{Found, Test}
use Rattle.query_walks.specs.Behind.{top_only}
use Rattle.child_bind_rules.specs.JoinCondition.{is_single, join_condition_by}
use Rattle.child_bind.specs.Joins.{is_once, joins_met, one_more}
use Rattle.child_bind.specs.declared.join_condition.Joins.TheVariants.{Nowhere, Again}
use Rattle.child_bind.specs.declared.join_condition.JoinsMet.{JoinsMet}

-- all join conditions of tests are met
pub met_all : (m : JoinsMet) (fs : List Found) → (fold (λ m f. record m { joins = joins_met m.joins (top_only (join_condition_by m.o.now m.s.now) f) }) m fs).joins ≡ joins_met m.joins (flat_map (top_only (join_condition_by m.o.now m.s.now)) fs)
met_all m [] = refl
met_all m (f ∷ fs) =
    met_all (record m { joins = joins_met m.joins (top_only (join_condition_by m.o.now m.s.now) f) }) fs
    ∙ sym (fold-append (λ met t. one_more met) m.joins (top_only (join_condition_by m.o.now m.s.now) f) (flat_map (top_only (join_condition_by m.o.now m.s.now)) fs))

again : (ts : List Test) → joins_met Again ts ≡ Again
again [] = refl
again (t ∷ ts) = again ts

-- exactly one is met if there is exactly one
pub once : (ts : List Test) → is_once (joins_met Nowhere ts) ≡ is_single ts
once [] = refl
once (t ∷ []) = refl
once (t ∷ (u ∷ us)) = ap is_once (again us)
