-- Negations, BETWEEN, and the tables of three truths.
use Rattle.std.proofs.Common.{◌≡◌, true, false, Some, None, refl}
use Rattle.value_rules.specs.Truth.{truth_and, truth_or}
use Rattle.value_rules.specs.Laws.{AndTable, OrTable, NotTable, NotIsNegation, NotBetween, NotAmong, IsNotNull, BetweenIsTwoComparisons}
use Rattle.value_rules.proofs.Trees.{trees}

pub not_is_negation : NotIsNegation
not_is_negation p test = simp trees refl

pub not_between : NotBetween
not_between p v low high = simp trees refl

pub not_among : NotAmong
not_among p v list = simp trees refl

pub not_null : IsNotNull
not_null p v = simp trees refl

pub between_is_two_comparisons : BetweenIsTwoComparisons
between_is_two_comparisons p v low high = simp trees refl

pub and_table : AndTable
and_table = record {
  false_first = λ b. refl;
  false_second = λ a. elim a as (λ x. truth_and x (Some false) ≡ Some false) [ None ↦ refl | Some true ↦ refl | Some false ↦ refl ];
  unknown_first = refl;
  unknown_second = refl;
  unknown_both = refl;
  true_both = refl;
}

pub or_table : OrTable
or_table = record {
  true_first = λ b. refl;
  true_second = λ a. elim a as (λ x. truth_or x (Some true) ≡ Some true) [ None ↦ refl | Some true ↦ refl | Some false ↦ refl ];
  unknown_first = refl;
  unknown_second = refl;
  unknown_both = refl;
  false_both = refl;
}

pub not_table : NotTable
not_table = record { of_true = refl; of_false = refl; of_unknown = refl }
