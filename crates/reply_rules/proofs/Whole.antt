-- Whole lines, of which none begins with `+`.
use Rattle.std.proofs.Common.{◌≡◌, refl, sym, ap, ◌∙◌, ℕ, ◌==◌, true, false, List, [], ◌∷◌, ◌++◌, append_assoc, append-nil}
use Rattle.std.specs.List.{list_any}
use Rattle.std.proofs.lemmas.Bool.{or_parts}
use Rattle.text_rules.specs.Readings.{joined}
use Rattle.request_loop.specs.Requests.{lines_in, with_byte}
use Rattle.transcript_rules.proofs.Blocks.{split_and}
use Rattle.print_rules.proofs.Fronts.{unmet}
use Rattle.print_rules.proofs.Walks.{Each}
use Rattle.reply_rules.specs.Lines.{EndsAtPlus, HasNoPlusLine, IsWholeLines, begins_with_plus}
use Rattle.reply_rules.proofs.Bytes.{Plain, begins_both, flat, stays}

-- The text is whole lines, and none of them begins with `+`.
pub record AreWhole (text : List ℕ) : Type 0 where
  pub whole : IsWholeLines text
  pub none : HasNoPlusLine text

pub no_lines : AreWhole []
no_lines = record { whole = λ later. refl; none = refl }

any_both : (a b : List (List ℕ)) → list_any begins_with_plus a ≡ false → list_any begins_with_plus b ≡ false
    → list_any begins_with_plus (a ++ b) ≡ false
any_both [] b x y = y
any_both (l ∷ ls) b x y =
    let e = or_parts (begins_with_plus l) (list_any begins_with_plus ls) x in
    rw (e.0, any_both ls b e.1 y) refl

-- a line before others
line_before : (t later : List ℕ) → flat t ≡ true → lines_in ((t ++ 10 ∷ []) ++ later) ≡ (t ++ 10 ∷ []) ∷ lines_in later
line_before [] later h = refl
line_before (b ∷ bs) later h =
    let e = split_and (stays b) (flat bs) h in
    rw (unmet (b == 10) e.0) (ap (with_byte b) (line_before bs later e.1))

-- one line
line_alone : (t : List ℕ) → flat t ≡ true → lines_in (t ++ 10 ∷ []) ≡ (t ++ 10 ∷ []) ∷ []
line_alone t h = ap lines_in (sym (append-nil (t ++ 10 ∷ []))) ∙ line_before t [] h

pub line_whole : (t : List ℕ) → flat t ≡ true → IsWholeLines (t ++ 10 ∷ [])
line_whole t h later = line_before t later h ∙ ap (λ ls. ls ++ lines_in later) (sym (line_alone t h))

pub plain_line : (t : List ℕ) → Plain t → AreWhole (t ++ 10 ∷ [])
plain_line t h = record {
  whole = line_whole t h.flat';
  none = rw (line_alone t h.flat', begins_both t (10 ∷ []) h.begins refl) refl;
}

whole_both : (a b : List ℕ) → IsWholeLines a → IsWholeLines b → IsWholeLines (a ++ b)
whole_both a b x y later =
    ap lines_in (append_assoc a b later) ∙ x (b ++ later) ∙ ap (λ ls. lines_in a ++ ls) (y later)
    ∙ sym (append_assoc (lines_in a) (lines_in b) (lines_in later)) ∙ ap (λ ls. ls ++ lines_in later) (sym (x b))

-- lines after lines
pub lines_both : (a b : List ℕ) → AreWhole a → AreWhole b → AreWhole (a ++ b)
lines_both a b x y = record {
  whole = whole_both a b x.whole y.whole;
  none = rw (x.whole b) (any_both (lines_in a) (lines_in b) x.none y.none);
}

-- all the parts
pub lines_each : (parts : List (List ℕ)) → Each AreWhole parts → AreWhole (joined parts)
lines_each [] each = no_lines
lines_each (t ∷ ts) each = lines_both t (joined ts) each.0 (lines_each ts each.1)

-- lines of which none begins with `+`, and then one that does
pub then_plus : (a t : List ℕ) → AreWhole a → flat t ≡ true → begins_with_plus (t ++ 10 ∷ []) ≡ true → EndsAtPlus (a ++ (t ++ 10 ∷ []))
then_plus a t x h plus = record {
  before = lines_in a;
  last = t ++ 10 ∷ [];
  whole = whole_both a (t ++ 10 ∷ []) x.whole (line_whole t h);
  are = x.whole (t ++ 10 ∷ []) ∙ ap (λ ls. lines_in a ++ ls) (line_alone t h);
  others = x.none;
  plus = plus;
}
