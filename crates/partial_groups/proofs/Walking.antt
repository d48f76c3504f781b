-- A list is gone through from its front on, while what was passed changes.
use Rattle.std.proofs.Common.{◌≡◌, ◌<◌, ◌+◌, ℕ, List, [], ◌∷◌, ◌++◌, drop, take, get_or, length, slice_set, sym, ap, ◌∙◌, arith}
use Rattle.std.proofs.lemmas.List.{drop-set-lt, drop_more, length-set, take-append-drop, take_more}

-- What is known of the element at a place, of which the list had the rest before anything changed.
pub record Stands {X : Type 0} (was : List X) (i : ℕ) (x : X) : Type 0 where
  pub all : was ≡ take i was ++ x ∷ drop (i + 1) was
  pub more : length (drop i was) ≡ length (drop (i + 1) was) + 1
  pub front : take (i + 1) was ≡ take i was ++ x ∷ []

-- the element is that of the list as it was
same_read : {X : Type 0} (was now : List X) (i : ℕ) (d : X) → i < length was → i < length now → drop i now ≡ drop i was → get_or now i d ≡ get_or was i d
same_read was now i d below there rest =
    ap (λ l. get_or l 0 d) (sym (drop_more now i d there) ∙ rest ∙ drop_more was i d below)

pub stands : {X : Type 0} (was now : List X) (i : ℕ) (x d : X) → i < length was → length now ≡ length was → drop i now ≡ drop i was → x ≡ get_or now i d → Stands was i x
stands was now i x d below long rest is =
    let there : i < length now = omega (arith, below, long) in
    let read : get_or was i d ≡ x = sym (is ∙ same_read was now i d below there rest) in
    let next : drop i was ≡ x ∷ drop (i + 1) was = drop_more was i d below ∙ ap (λ y. y ∷ drop (i + 1) was) read in
    record {
      all = sym (take-append-drop i was) ∙ ap (λ l. take i was ++ l) next;
      more = omega (arith, ap length next);
      front = take_more was i d below ∙ ap (λ y. take i was ++ y ∷ []) read;
    }

-- the rest behind a place stays where the element there changes
pub rest_stays : {X : Type 0} (was now : List X) (i : ℕ) (d y : X) → i < length was → length now ≡ length was → drop i now ≡ drop i was → drop (i + 1) (slice_set now i y) ≡ drop (i + 1) was
rest_stays was now i d y below long rest =
    drop-set-lt (i + 1) now i y (omega (arith))
    ∙ ap (drop 1) (sym (drop_more now i d (omega (arith, below, long))) ∙ rest ∙ drop_more was i d below)

pub long_stays : {X : Type 0} (was now : List X) (i : ℕ) (y : X) → length now ≡ length was → length (slice_set now i y) ≡ length was
long_stays was now i y long = length-set now i y ∙ long
