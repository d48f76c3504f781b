-- The lines of a script's queries, one after the other.
use Rattle.std.proofs.Common.{◌≡◌, refl, sym, ap, ◌∙◌, subst, ℕ, zero, suc, ◌+◌, ◌<◌, arith, List, [], ◌∷◌, ◌++◌, length, take, map, Some}
use Rattle.std.specs.List.{AllZip}
use Rattle.std.proofs.Math.Seq.{take-suc}
use Rattle.std.proofs.lemmas.List.{length-map}
use Rattle.std.proofs.lemmas.Option.{get_or_from_slice_get}
use Rattle.session_script.specs.Scripts.{part_of, query_count, query_spans, query_text}
use Rattle.session_script.specs.Views.{ScriptView, query_lines}
use Rattle.session_script.specs.Laws.{LinesAreTexts}
use Rattle.query_ends.proofs.Zips.{zip_length, zip_more}

-- there are as many lines as queries
pub lines_count : (s : ScriptView) → length (query_lines s) ≡ query_count s.steps
lines_count s = length-map (query_spans s.steps) (λ span. part_of s.text (Some span))

-- the lines of one query more
lines_more : LinesAreTexts → (s : ScriptView) (k : ℕ) → k < query_count s.steps
    → take (k + 1) (query_lines s) ≡ take k (query_lines s) ++ query_text s.steps s.text (k + 1) ∷ []
lines_more law s k within =
    let next : k + 1 ≡ suc k = omega arith in
    let there : k < length (query_lines s) = omega (arith, within, lines_count s) in
    ap (λ n. take n (query_lines s)) next ∙ take-suc (query_lines s) k [] there
    ∙ ap (λ t. take k (query_lines s) ++ t ∷ []) (get_or_from_slice_get (query_lines s) k (query_text s.steps s.text (k + 1)) [] (law s k within))

-- what belongs to the lines, one by one, with that of one line more
pub one_more : {Y : Type 0} (R : List ℕ → Y → Type 0) → LinesAreTexts → (s : ScriptView) (k : ℕ) (ys : List Y) (y : Y)
    → k < query_count s.steps → AllZip R (take k (query_lines s)) ys → R (query_text s.steps s.text (k + 1)) y
    → AllZip R (take (k + 1) (query_lines s)) (ys ++ y ∷ [])
one_more {Y} R law s k ys y within are is =
    subst (λ (texts : List (List ℕ)). AllZip R texts (ys ++ y ∷ [])) (sym (lines_more law s k within))
    (zip_more R (take k (query_lines s)) ys (query_text s.steps s.text (k + 1)) y are is)

-- there is one for each query
pub one_each : {Y : Type 0} (R : List ℕ → Y → Type 0) (s : ScriptView) (ys : List Y) → AllZip R (query_lines s) ys
    → length ys ≡ query_count s.steps
one_each R s ys are = zip_length R (query_lines s) ys are ∙ lines_count s

-- as many lines as there are queries are all of them
whole : {A : Type 0} (xs : List A) (n : ℕ) → length xs ≡ n → take n xs ≡ xs
whole [] zero same = refl
whole [] (suc n) same = refl
whole (x ∷ xs) zero same = absurd (omega (arith, same))
whole (x ∷ xs) (suc n) same = ap (λ ys. x ∷ ys) (whole xs n (omega (arith, same)))

pub all_lines : (s : ScriptView) → take (query_count s.steps) (query_lines s) ≡ query_lines s
all_lines s = whole (query_lines s) (query_count s.steps) (lines_count s)
