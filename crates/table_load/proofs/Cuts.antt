-- Texts cut in two.
use Rattle.std.proofs.Common.{◌≡◌, ◌≢◌, ◌∙◌, sym, refl, ap, subst, ℕ, ◌+◌, ◌-◌, ◌<◌, ◌==◌, arith, Bool, true, false, List, [], ◌∷◌, length, take, drop, get_or, length-take, get_or-take, Option, None, Some}
use Rattle.std.specs.Prelude.{All}
use Rattle.std.specs.Bool.{OnFalse}
use Rattle.std.specs.Option.{is_some}
use Rattle.std.proofs.lemmas.List.{take-append-drop, get_or_default}
use Rattle.memchr.specs.Find.{IsFirstByte, is_byte}
use Rattle.csv.specs.Reading.{strip_bom}
use Rattle.table_load.specs.InParts.{AreParts}

-- a text whose first byte is no mark's has none
pub no_mark : (text : List ℕ) → (get_or text 0 0 == 239) ≡ false → strip_bom text ≡ text
unfolding strip_bom
no_mark [] e = refl
no_mark (a ∷ []) e = refl
no_mark (a ∷ b ∷ []) e = refl
no_mark (a ∷ b ∷ c ∷ rest) e = rw e refl

mark_by : (text : List ℕ) (t : Bool) → (get_or text 0 0 == 239) ≡ t → OnFalse t (strip_bom text ≡ text)
mark_by text true e = tt
mark_by text false e = no_mark text e

-- whether the first byte may be a mark's
pub mark_first : (text : List ℕ) (b : ℕ) → b ≡ get_or text 0 0 → OnFalse (b == 239) (strip_bom text ≡ text)
mark_first text b is = subst (λ n. OnFalse (n == 239) (strip_bom text ≡ text)) (sym is) (mark_by text (get_or text 0 0 == 239) refl)

-- a search that finds no quote
pub none_found : (text : List ℕ) (found : Option ℕ) → IsFirstByte (is_byte 34) text found → OnFalse (is_some found) (All (λ b. b ≢ 34) text)
none_found text (Some place) is = tt
none_found text None is = λ i d low same.
    let here : get_or text i 0 ≡ 34 = get_or_default text i 0 d low ∙ same in
    is i (omega arith) low (grind (arith, here))

-- a text cut after a line feed
pub cut_there : (text : List ℕ) (place : ℕ) → place < length text → get_or text place 0 ≡ 10 → AreParts text (take (place + 1) text) (drop (place + 1) text)
cut_there text place low feed = record {
  whole = take-append-drop (place + 1) text;
  ended =
      let last : length (take (place + 1) text) - 1 ≡ place = omega (arith, low, length-take (place + 1) text) in
      ap (λ k. get_or (take (place + 1) text) k 0) last ∙ (get_or-take (place + 1) text place 0 (omega arith) ∙ feed);
}
