-- A base with one more child query is a base.
use Rattle.std.proofs.Common.{◌≡◌, ℕ, ◌<◌, ◌≤◌, List, [], ◌∷◌, ◌++◌, subst, sym}
use Rattle.std.specs.List.{All}
use Rattle.std.specs.Prelude.{Err, Ok, OnErr, OnOk, Result}
use Rattle.std.proofs.lemmas.List.Quantifiers.{all_pairs_push}
use Rattle.scan_rules.specs.declared.limits.TheConstants.{QUERY_MOST}
use Rattle.partial_merge.proofs.Rooting.{one_more}
use Rattle.child_rules.specs.declared.bound.ChildBound.{ChildBound}
use Rattle.child_rules.specs.ChildBases.{ChildBase, IsChildBase}
use Rattle.child_rules.specs.Children.{IsChild}
use Rattle.child_piece.specs.ChildRoots.{with_child}

pub rooted : (b : ChildBase) (q : ℕ) (query : ChildBound) → IsChildBase b → All (λ (e : ℕ × ChildBound). e.0 < q) b.queries → 1 ≤ q → q ≤ QUERY_MOST → IsChild query.bound → IsChildBase (with_child b q query)
rooted b q query i above least most child = record {
  sky = i.sky;
  rows = i.rows;
  table = i.table;
  ascend = all_pairs_push (λ (e f : ℕ × ChildBound). e.0 < f.0) b.queries (q, query) i.ascend above;
  from_1 = one_more (λ (e : ℕ × ChildBound). 1 ≤ e.0) b.queries (q, query) i.from_1 least;
  to_255 = one_more (λ (e : ℕ × ChildBound). e.0 ≤ QUERY_MOST) b.queries (q, query) i.to_255 most;
  child = one_more (λ (e : ℕ × ChildBound). IsChild e.1.bound) b.queries (q, query) i.child child;
}

-- so it is whether there was memory for the query or not
pub rooted_if : {A E : Type 0} (b : ChildBase) (q : ℕ) (query : ChildBound) (result : Result A E) (now : List (ℕ × ChildBound)) → OnOk result (now ≡ b.queries ++ (q, query) ∷ []) → OnErr result (now ≡ b.queries) → IsChildBase b → All (λ (e : ℕ × ChildBound). e.0 < q) b.queries → 1 ≤ q → q ≤ QUERY_MOST → IsChild query.bound → IsChildBase (record { plan = b.plan; rows = b.rows; table = b.table; queries = now })
rooted_if b q query (Ok a) now given same i above least most child =
    subst (λ (es : List (ℕ × ChildBound)). IsChildBase (record { plan = b.plan; rows = b.rows; table = b.table; queries = es })) (sym given) (rooted b q query i above least most child)
rooted_if b q query (Err e) now given same i above least most child =
    subst (λ (es : List (ℕ × ChildBound)). IsChildBase (record { plan = b.plan; rows = b.rows; table = b.table; queries = es })) (sym same) i
