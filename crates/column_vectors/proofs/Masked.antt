-- Masks and numbers that a loop makes place by place.
use Rattle.std.proofs.Common.{◌≡◌, ◌∙◌, ℕ, ◌+◌, ◌<◌, ◌≤◌, ℤ, pos, Bool, false, ap, arith, below_more, List, [], ◌∷◌, ◌++◌, length, get_or, set}
use Rattle.std.proofs.lemmas.List.{get_or_append_left, get_or_push, get_or-set_other, get_or-set_same, length_push}
use Rattle.column_vectors.specs.Masks.{IsMask}

-- a mask with one place more
pub mask_more : (says : ℕ → Bool) (i : ℕ) (found new : List Bool) (x : Bool) → IsMask i says found → new ≡ found ++ x ∷ [] → x ≡ says i
    → IsMask (i + 1) says new
mask_more says i found new x h is own = record {
  len = ap length is ∙ (length_push found x ∙ ap (λ n. n + 1) h.len);
  each = λ k low.
      below_more (λ k. get_or new k false ≡ says k) i
      (λ k low. ap (λ l. get_or l k false) is ∙ (get_or_append_left found (x ∷ []) false k (omega (arith, h.len, low)) ∙ h.each k low))
      (ap (λ l. get_or l i false) is ∙ (get_or_push found x false i h.len ∙ own)) k low;
}

-- numbers of which one more is joined
pub joined_more : (op : ℤ → ℤ → ℤ) (old right left : List ℤ) (i : ℕ) (x : ℤ) → i < length left
    → ((k : ℕ) → k < i → get_or left k (pos 0) ≡ op (get_or old k (pos 0)) (get_or right k (pos 0)))
    → x ≡ op (get_or old i (pos 0)) (get_or right i (pos 0))
    → (k : ℕ) → k < i + 1 → get_or (set left i x) k (pos 0) ≡ op (get_or old k (pos 0)) (get_or right k (pos 0))
joined_more op old right left i x there h own =
    below_more (λ k. get_or (set left i x) k (pos 0) ≡ op (get_or old k (pos 0)) (get_or right k (pos 0))) i
    (λ k low. get_or-set_other left i k x (pos 0) (λ e. omega (arith, low, e)) ∙ h k low)
    (get_or-set_same left i x (pos 0) there ∙ own)

-- and those behind it stay
pub rest_kept : (old left : List ℤ) (i : ℕ) (x : ℤ) → ((k : ℕ) → i ≤ k → get_or left k (pos 0) ≡ get_or old k (pos 0))
    → (k : ℕ) → i + 1 ≤ k → get_or (set left i x) k (pos 0) ≡ get_or old k (pos 0)
rest_kept old left i x h k high =
    get_or-set_other left i k x (pos 0) (λ e. omega (arith, high, e)) ∙ h k (omega (arith, high))
