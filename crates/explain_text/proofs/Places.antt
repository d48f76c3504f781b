-- The columns of ids and of ties by their positions.
use Rattle.std.proofs.Common.{◌≡◌, ℕ, ◌+◌, ◌-◌, ◌≤◌, length, ap, arith}
use Rattle.sql_bound.specs.declared.query.Shape.{Shape}
use Rattle.sql_bound.specs.declared.query.Shape.TheVariants.{Rows, Pairs, Groups}
use Rattle.sql_rules.specs.PrintedExprs.{Bytes}
use Rattle.answer_rules.specs.declared.rewritten.MergePlan.{MergePlan}
use Rattle.transcript_rules.specs.ColumnNames.{clause, id_count, id_names, place_names}
use Rattle.transcript_rules.specs.MergeLines.{tie_names}
use Rattle.explain_text.specs.Explaining.{tie_end, tie_start}

-- the columns that ties are ordered by stand side by side
pub tie_places : (m : MergePlan) (shape : Shape)
    → tie_names m shape ≡ place_names (tie_start (length m.items) shape) (tie_end (length m.items) shape - tie_start (length m.items) shape)
tie_places m Rows =
    let one : 1 ≡ (length m.items + 1) - length m.items = omega arith in
    ap (place_names (length m.items)) one
tie_places m (Pairs limit) =
    let two : 2 ≡ (length m.items + 2) - length m.items = omega arith in
    ap (place_names (length m.items)) two
tie_places m (Groups keys) =
    let all : length keys ≡ length keys - 0 = omega arith in
    ap (place_names 0) all

-- they begin before they end
pub tie_within : (n : ℕ) (shape : Shape) → tie_start n shape ≤ tie_end n shape
tie_within n Rows = omega arith
tie_within n (Pairs limit) = omega arith
tie_within n (Groups keys) = omega arith

-- the names from the first column on
pub first_places : (words : Bytes) (n : ℕ) → clause words (place_names 0 n) ≡ clause words (place_names 0 (n - 0))
first_places words n =
    let all : n ≡ n - 0 = omega arith in
    ap (λ k. clause words (place_names 0 k)) all

-- what is added is there when the rest is taken away
added : (n k : ℕ) → k ≡ (n + k) - n
added n k = omega arith

-- the ids stand side by side behind the items
pub id_places : (n : ℕ) (shape : Shape) → id_names n shape ≡ place_names n ((n + id_count shape) - n)
id_places n shape = ap (place_names n) (added n (id_count shape))

-- they begin before they end
pub ids_within : (n : ℕ) (shape : Shape) → n ≤ n + id_count shape
ids_within n shape = omega arith
