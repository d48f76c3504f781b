-- The number of lines that pass a test, one line more at a time.
use Rattle.std.proofs.Common.{◌≡◌, ℕ, ◌+◌, ◌<◌, ◌≤◌, List, length, take, get_or, Bool, true, false, cond, count_by, ◌∙◌, subst, arith, ⊎_elim}
use Rattle.std.proofs.lemmas.Bool.{cases_Bool, cond-true, cond-false}
use Rattle.std.proofs.lemmas.List.{length-take-le}
use Rattle.std.proofs.lemmas.List.Sums.{count_by-le-length, count_by_more_no, count_by_more_yes}
use Rattle.scan_rules.specs.declared.journal_line.JournalLine.{JournalLine}

pub count_more : (p : JournalLine → Bool) (lines : List JournalLine) (i : ℕ) (line : JournalLine) (count one : ℕ) → line ≡ get_or lines i line → i < length lines
    → count ≡ count_by p (take i lines) → one ≡ cond (p line) 1 0 → count + one ≡ count_by p (take (i + 1) lines)
count_more p lines i line count one is low so e = ⊎_elim
    (λ t. let here : p (get_or lines i line) ≡ true = subst (λ l. p l ≡ true) is t in
    let more : count_by p (take (i + 1) lines) ≡ count_by p (take i lines) + 1 = count_by_more_yes p lines i line low here in
    let one_is : one ≡ 1 = e ∙ cond-true (p line) 1 0 t in
    omega (arith, so, more, one_is))
    (λ f. let here : p (get_or lines i line) ≡ false = subst (λ l. p l ≡ false) is f in
    let more : count_by p (take (i + 1) lines) ≡ count_by p (take i lines) = count_by_more_no p lines i line low here in
    let one_is : one ≡ 0 = e ∙ cond-false (p line) 1 0 f in
    omega (arith, so, more, one_is))
    (cases_Bool (p line))

-- at most all lines pass
pub count_low : (p : JournalLine → Bool) (lines : List JournalLine) (i : ℕ) → i ≤ length lines → count_by p (take i lines) ≤ i
count_low p lines i low = let l : length (take i lines) ≡ i = length-take-le i lines low in omega (arith, count_by-le-length p (take i lines), l)

one_or_none : (b : Bool) → cond b 1 0 ≤ 1
one_or_none true = omega arith
one_or_none false = omega arith

pub count_fits : (p : JournalLine → Bool) (lines : List JournalLine) (i : ℕ) (line : JournalLine) (count one : ℕ) → i < length lines → length lines < 8388608
    → count ≡ count_by p (take i lines) → one ≡ cond (p line) 1 0 → count + one < 4294967296
count_fits p lines i line count one low small so e =
    let few : count_by p (take i lines) ≤ i = count_low p lines i (omega (arith, low)) in
    let at_most : cond (p line) 1 0 ≤ 1 = one_or_none (p line) in
    omega (arith, low, small, so, few, e, at_most)
