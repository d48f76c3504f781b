-- A list that grows by one element of another list.
use Rattle.std.proofs.Common.{◌≡◌, ℕ, ◌+◌, ◌<◌, List, [], ◌∷◌, ◌++◌, length, take, get_or, sym, ap, ◌∙◌}
use Rattle.std.proofs.lemmas.List.{append_assoc, take_more}

-- one element more of a list that is put behind another one
pub one_more_of : {X : Type 0} (xs old new ys : List X) (i : ℕ) (d v : X) → i < length ys → d ≡ get_or ys i d → v ≡ d → new ≡ old ++ v ∷ [] → old ≡ xs ++ take i ys → new ≡ xs ++ take (i + 1) ys
one_more_of xs old new ys i d v l is e g h =
    g ∙ ap (λ o. o ++ v ∷ []) h ∙ append_assoc xs (take i ys) (v ∷ [])
    ∙ ap (λ x. xs ++ (take i ys ++ x ∷ [])) (e ∙ is) ∙ ap (λ t. xs ++ t) (sym (take_more ys i d l))
