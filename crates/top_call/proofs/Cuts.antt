-- Of a text that was fetched to one byte past its limit: the whole of it where it is no longer, and a front of a longer one.
use Rattle.std.proofs.Common.{◌≡◌, ℕ, ◌+◌, ◌<◌, ◌≤◌, Bool, true, false, List, length, take, Option, None, Some, nat_le, refl, sym, subst, arith, ◌∙◌}
use Rattle.std.proofs.lemmas.List.{take_all, length-take-le}
use Rattle.std.proofs.lemmas.Bool.{leb-true}
use Rattle.sky_io.specs.Shelves.{ShelfState, GivesText, named_text}
use Rattle.top_call.specs.Reached.{IfObservable, IsLong, Texts, limit_of}
use Rattle.top_call.specs.Steps.{IsGiven, IsRead, IsWhole, OfNamed}
use Rattle.top_call.specs.declared.outcome.Which.{Which}

-- a text is within a limit, or its front of one byte more is not
within_by : (limit : ℕ) (t : List ℕ) (b : Bool) → nat_le (length t) limit ≡ b → length (take (limit + 1) t) ≤ limit → length t ≤ limit
within_by limit t true h short = leb-true (length t) limit h
within_by limit t false h short =
    let long : limit < length t = grind arith in
    let more : limit + 1 ≤ length t = omega arith in
    let cut : length (take (limit + 1) t) ≡ limit + 1 = length-take-le (limit + 1) t more in
    absurd (omega (arith, cut))

-- a front of no more bytes than the limit is all of the text
whole_front : (limit : ℕ) (t : List ℕ) → length (take (limit + 1) t) ≤ limit → t ≡ take (limit + 1) t
whole_front limit t short =
    let within : length t ≤ limit = within_by limit t (nat_le (length t) limit) refl short in
    let within' : length t ≤ limit + 1 = omega arith in
    sym (take_all (limit + 1) t within')

-- a front of more bytes than the limit is of a text of more
long_by : (limit : ℕ) (t : List ℕ) (b : Bool) → nat_le (length t) limit ≡ b → limit < length (take (limit + 1) t) → limit < length t
long_by limit t true h long =
    let le : length t ≤ limit = leb-true (length t) limit h in
    let le' : length t ≤ limit + 1 = omega arith in
    absurd (omega (arith, subst (λ u. limit < length u) (take_all (limit + 1) t le') long))
long_by limit t false h long = grind arith

whole_visible : (visible : Option Texts) (name text : List ℕ) (limit : ℕ) → GivesText visible name limit text → length text ≤ limit
    → IfObservable visible (λ texts. named_text name texts ≡ text)
whole_visible None name text limit given short = tt
whole_visible (Some texts) name text limit given short =
    whole_front limit (named_text name texts) (subst (λ t. length t ≤ limit) given short) ∙ sym given

long_visible : (visible : Option Texts) (name text : List ℕ) (limit : ℕ) → GivesText visible name limit text → limit < length text
    → IfObservable visible (λ texts. limit < length (named_text name texts))
long_visible None name text limit given long = tt
long_visible (Some texts) name text limit given long =
    long_by limit (named_text name texts) (nat_le (length (named_text name texts)) limit) refl (subst (λ t. limit < length t) given long)

-- A text that is given within its limit is given whole.
pub whole_given : (old new : ShelfState) (name text : List ℕ) (which : Which) (limit : ℕ) → limit ≡ limit_of which
    → IsGiven name limit text old new → length text ≤ limit → IsWhole name which text old new
whole_given old new name text which limit is got short = record {
  short = subst (λ n. length text ≤ n) is short;
  read = record { same = got.same; holds = whole_visible old.texts name text limit got.given short };
}

-- A text that is given past its limit is too long.
pub long_given : (old new : ShelfState) (name text : List ℕ) (which : Which) (limit : ℕ) → limit ≡ limit_of which
    → IsGiven name limit text old new → limit < length text → IsRead (OfNamed name (IsLong which)) old new
long_given old new name text which limit is got long = record {
  same = got.same;
  holds = long_visible old.texts name text (limit_of which) (subst (λ n. GivesText old.texts name n text) is got.given) (subst (λ n. n < length text) is long);
}

holds_visible : (visible : Option Texts) (name text slice : List ℕ) (Holds : List ℕ → Type 0)
    → IfObservable visible (λ texts. named_text name texts ≡ text) → slice ≡ text → Holds slice → IfObservable visible (OfNamed name Holds)
holds_visible None name text slice Holds given same h = tt
holds_visible (Some texts) name text slice Holds given same h = subst Holds (same ∙ sym given) h

-- What holds of the whole text that was given holds of the named one.
pub of_whole : (old new : ShelfState) (name text slice : List ℕ) (which : Which) (Holds : List ℕ → Type 0)
    → IsWhole name which text old new → slice ≡ text → Holds slice → IsRead (OfNamed name Holds) old new
of_whole old new name text slice which Holds whole same h = record {
  same = whole.read.same;
  holds = holds_visible old.texts name text slice Holds whole.read.holds same h;
}
