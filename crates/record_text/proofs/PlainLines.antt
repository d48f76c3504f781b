-- The records of texts without double quotes and carriage returns: each line that is not empty, split at its commas.
use Rattle.std.proofs.Common.{◌≡◌, ◌≢◌, ◌⊎◌, ◌∙◌, inl, inr, sym, refl, ap, subst, ℕ, ◌+◌, ◌≤◌, ◌<◌, ◌==◌, suc, zero, Bool, true, false, if◌then◌else◌, List, [], ◌∷◌, ◌++◌, length, take, drop, get_or, get_or-take, length-take, ◌||◌, Option, None, Some, arith, Bor}
use Rattle.std.specs.Prelude.{All}
use Rattle.std.specs.Bool.{OnTrue}
use Rattle.std.specs.Option.{is_none}
use Rattle.std.proofs.lemmas.List.{append-nil, drop_more, get_or_default, map-append}
use Rattle.std.proofs.lemmas.Option.{none-some, same_Some}
use Rattle.std.proofs.lemmas.List.Elements.{All-drop, All-head, All-tail}
use Rattle.std.proofs.Math.Seq.{append_snoc}
use Rattle.memchr.specs.Find.{IsFirstByte, is_byte2}
use Rattle.csv.specs.Machine.{Read, next_record, step, in_field, is_end, fields_after, field_after}
use Rattle.csv.specs.Reading.{default_config, strip_bom}
use Rattle.csv.specs.declared.parser.State.{State}
use Rattle.csv.specs.declared.parser.State.TheVariants as st
use Rattle.csv.specs.declared.parser.Action.{Action}
use Rattle.csv.specs.declared.parser.Action.TheVariants as act
use Rattle.record_text.specs.PlainText.{EndsAt, IsFieldByte, IsLine, IsPlain, IsPlainByte, ReadsOn, TookRecord, bytes_of}

abbrev Fields : Type 0
Fields = List (List ℕ)

abbrev next : State → Fields → List ℕ → List ℕ → Option Read
next s fields field xs = next_record default_config s fields field xs

-- ---- one byte

other_by : (c k : ℕ) (t : Bool) → (c == k) ≡ t → c ≢ k → t ≡ false
other_by c k false e unlike = refl
other_by c k true e unlike = absurd (unlike (grind arith))

other : (c k : ℕ) → c ≢ k → (c == k) ≡ false
other c k unlike = other_by c k (c == k) refl unlike

-- what follows a byte, by what it does
abbrev after_byte : State × Action → ℕ → List ℕ → Fields → List ℕ → Option Read
after_byte p c more fields field =
    if is_end p.1 then Some (fields_after p.1 fields field, p.0, more)
    else next_record default_config p.0 (fields_after p.1 fields field) (field_after p.1 c field) more

next_is : (s : State) (c : ℕ) (more : List ℕ) (fields : Fields) (field : List ℕ) (p : State × Action) → step default_config s c ≡ p
    → next s fields field (c ∷ more) ≡ after_byte p c more fields field
unfolding next_record
next_is s c more fields field p e = ap (λ (q : State × Action). after_byte q c more fields field) e

copies_step : (c : ℕ) → c ≢ 44 → c ≢ 13 → c ≢ 10 → step default_config st.InField c ≡ (st.InField, act.Copy)
copies_step c a b d = rw (other c 44 a, other c 13 b, other c 10 d) refl

-- a byte of a field is appended to it
copies : (c : ℕ) (more : List ℕ) (fields : Fields) (field : List ℕ) → IsPlainByte c → IsFieldByte c
    → next st.InField fields field (c ∷ more) ≡ next st.InField fields (field ++ (c ∷ [])) more
copies c more fields field plain inside = next_is st.InField c more fields field _ (copies_step c inside.0 plain.1 inside.1)

comma : (more : List ℕ) (fields : Fields) (field : List ℕ) → next st.InField fields field (44 ∷ more) ≡ next st.StartField (fields ++ (field ∷ [])) [] more
comma more fields field = next_is st.InField 44 more fields field (st.StartField, act.EndField) refl

feed : (more : List ℕ) (fields : Fields) (field : List ℕ) → next st.InField fields field (10 ∷ more) ≡ Some (fields ++ (field ∷ []), st.StartRecord, more)
feed more fields field = next_is st.InField 10 more fields field (st.StartRecord, act.EndRecord) refl

at_end : (fields : Fields) (field : List ℕ) → next st.InField fields field [] ≡ Some (fields ++ (field ∷ []), st.StartRecord, [])
unfolding next_record
at_end fields field = refl

empty_line : (more : List ℕ) (fields : Fields) (field : List ℕ) → next st.StartRecord fields field (10 ∷ more) ≡ next st.StartRecord fields field more
empty_line more fields field = next_is st.StartRecord 10 more fields field (st.StartRecord, act.Skip) refl

open_step : (c : ℕ) → c ≢ 34 → step default_config st.StartField c ≡ in_field default_config c
open_step c a = rw (other c 34 a) refl

-- without a double quote a field starts as it goes on
opens : (xs : List ℕ) (fields : Fields) (field : List ℕ) → IsPlain xs → next st.StartField fields field xs ≡ next st.InField fields field xs
unfolding next_record
opens [] fields field plain = refl
opens (c ∷ more) fields field plain =
    next_is st.StartField c more fields field _ (open_step c (All-head IsPlainByte c more plain).0) ∙ sym (next_is st.InField c more fields field _ refl)

begin_step : (c : ℕ) → c ≢ 34 → c ≢ 13 → c ≢ 10 → step default_config st.StartRecord c ≡ in_field default_config c
begin_step c a b d = rw (other c 13 b, other c 10 d, other c 34 a) refl

-- a line that is not empty starts a record
begins : (xs : List ℕ) (fields : Fields) (field : List ℕ) → IsPlain xs → 0 < length xs → get_or xs 0 0 ≢ 10 → next st.StartRecord fields field xs ≡ next st.InField fields field xs
begins [] fields field plain some first = absurd (omega (arith, some))
begins (c ∷ more) fields field plain some first =
    let byte = All-head IsPlainByte c more plain in
    next_is st.StartRecord c more fields field _ (begin_step c byte.0 byte.1 first) ∙ sym (next_is st.InField c more fields field _ refl)

-- ---- one field

run : (k : ℕ) (xs : List ℕ) (fields : Fields) (field : List ℕ) → k ≤ length xs → IsPlain xs → All IsFieldByte (take k xs)
    → next st.InField fields field xs ≡ next st.InField fields (field ++ take k xs) (drop k xs)
run zero xs fields field low plain inside = ap (λ f. next st.InField fields f xs) (sym (append-nil field))
run (suc k) [] fields field low plain inside = absurd (omega (arith, low))
run (suc k) (c ∷ xs) fields field low plain inside =
    copies c xs fields field (All-head IsPlainByte c xs plain) (All-head IsFieldByte c (take k xs) inside)
    ∙ (run k xs fields (field ++ (c ∷ [])) (omega (arith, low)) (All-tail IsPlainByte c xs plain) (All-tail IsFieldByte c (take k xs) inside)
    ∙ ap (λ f. next st.InField fields f (drop k xs)) (append_snoc field c (take k xs)))

-- the first field of what is left
first_field : (xs : List ℕ) (k : ℕ) (fields : Fields) → IsPlain xs → EndsAt xs k → next st.InField fields [] xs ≡ next st.InField fields (take k xs) (drop k xs)
first_field xs k fields plain ends = run k xs fields [] ends.within plain ends.inside

-- nothing starts after the end
none_from : (xs : List ℕ) (k : ℕ) → length xs ≤ k → drop k xs ≡ []
none_from [] zero low = refl
none_from [] (suc k) low = refl
none_from (x ∷ xs) zero low = absurd (omega (arith, low))
none_from (x ∷ xs) (suc k) low = none_from xs k (omega (arith, low))

-- what starts at a byte
from_byte : (xs : List ℕ) (k b : ℕ) → k < length xs → get_or xs k 0 ≡ b → drop k xs ≡ b ∷ drop (k + 1) xs
from_byte xs k b low is = drop_more xs k 0 low ∙ ap (λ c. c ∷ drop (k + 1) xs) is

comma_by : (xs : List ℕ) (k : ℕ) → EndsAt xs k → k < length xs → get_or xs k 0 ≢ 10 → get_or xs k 0 ≡ 44
comma_by xs k ends low unlike = by (ends.ended low)
  where
    by : (get_or xs k 0 ≡ 44) ⊎ (get_or xs k 0 ≡ 10) → get_or xs k 0 ≡ 44
    by (inl is) = is
    by (inr is) = absurd (unlike is)

-- a field that a comma follows
field_more : (text xs : List ℕ) (k : ℕ) (fields : Fields) → ReadsOn text fields xs → EndsAt xs k → k < length xs → get_or xs k 0 ≢ 10
    → ReadsOn text (fields ++ (take k xs ∷ [])) (drop (k + 1) xs)
field_more text xs k fields on ends low unlike =
    let left : IsPlain (drop (k + 1) xs) = All-drop IsPlainByte (k + 1) xs on.plain in
    let all = fields ++ (take k xs ∷ []) in
    let here : next st.InField fields [] xs ≡ next st.InField all [] (drop (k + 1) xs) =
    first_field xs k fields on.plain ends
    ∙ (ap (next st.InField fields (take k xs)) (from_byte xs k 44 low (comma_by xs k ends low unlike))
    ∙ (comma (drop (k + 1) xs) fields (take k xs) ∙ opens (drop (k + 1) xs) all [] left)) in
    record { plain = left; same = sym here ∙ on.same }

line_by : (text xs : List ℕ) (k : ℕ) (fields : Fields) → ReadsOn text fields xs → EndsAt xs k → (k < length xs) ⊎ (k ≡ length xs) → (k < length xs → get_or xs k 0 ≡ 10)
    → IsLine text (fields ++ (take k xs ∷ [])) (drop (k + 1) xs)
line_by text xs k fields on ends (inl low) last = record {
  plain = All-drop IsPlainByte (k + 1) xs on.plain;
  read =
      sym on.same
      ∙ (first_field xs k fields on.plain ends
      ∙ (ap (next st.InField fields (take k xs)) (from_byte xs k 10 low (last low)) ∙ feed (drop (k + 1) xs) fields (take k xs)));
}
line_by text xs k fields on ends (inr all) last =
    let none : drop k xs ≡ [] = none_from xs k (omega (arith, all)) in
    let gone : drop (k + 1) xs ≡ [] = none_from xs (k + 1) (omega (arith, all)) in record {
      plain = All-drop IsPlainByte (k + 1) xs on.plain;
      read =
          sym on.same
          ∙ (first_field xs k fields on.plain ends
          ∙ (ap (next st.InField fields (take k xs)) none
          ∙ (at_end fields (take k xs) ∙ ap (λ l. Some (fields ++ (take k xs ∷ []), st.StartRecord, l)) (sym gone))));
    }

within_or_all : (k n : ℕ) → k ≤ n → (k < n) ⊎ (k ≡ n)
within_or_all zero zero low = inr refl
within_or_all zero (suc n) low = inl (omega arith)
within_or_all (suc k) zero low = absurd (omega (arith, low))
within_or_all (suc k) (suc n) low = one_up (within_or_all k n (omega (arith, low)))
  where
    one_up : (k < n) ⊎ (k ≡ n) → (suc k < suc n) ⊎ (suc k ≡ suc n)
    one_up (inl less) = inl (omega (arith, less))
    one_up (inr same) = inr (ap suc same)

-- the last field of a line
pub line_ends : (text xs : List ℕ) (k : ℕ) (fields : Fields) → ReadsOn text fields xs → EndsAt xs k → (k < length xs → get_or xs k 0 ≡ 10)
    → IsLine text (fields ++ (take k xs ∷ [])) (drop (k + 1) xs)
line_ends text xs k fields on ends last = line_by text xs k fields on ends (within_or_all k (length xs) ends.within) last

-- ---- the loop

bytes_more : (fields : List (Bor (List ℕ))) (field : Bor (List ℕ)) (xs : List ℕ) → field.now ≡ xs → bytes_of fields ++ (xs ∷ []) ≡ bytes_of (fields ++ (field ∷ []))
bytes_more fields field xs is = ap (λ l. bytes_of fields ++ (l ∷ [])) (sym is) ∙ sym (map-append (λ (s : Bor (List ℕ)). s.now) fields (field ∷ []))

-- before the first field
pub reads_start : (text : List ℕ) (fields : List (Bor (List ℕ))) → fields ≡ [] → IsPlain text → ReadsOn text (bytes_of fields) text
reads_start text fields none plain = subst (λ l. ReadsOn text (bytes_of l) text) (sym none) (record { plain = plain; same = refl })

-- after a field that is not the last
pub reads_more : (text xs more : List ℕ) (k : ℕ) (fields all : List (Bor (List ℕ))) (field : Bor (List ℕ)) → (IsPlain text → ReadsOn text (bytes_of fields) xs)
    → EndsAt xs k → k < length xs → get_or xs k 0 ≢ 10 → field.now ≡ take k xs → all ≡ fields ++ (field ∷ []) → more ≡ drop (k + 1) xs
    → IsPlain text → ReadsOn text (bytes_of all) more
reads_more text xs more k fields all field on ends low unlike is added left plain =
    subst (λ l. ReadsOn text (bytes_of l) more) (sym added) (subst (λ l. ReadsOn text l more) (bytes_more fields field (take k xs) is)
    (subst (λ l. ReadsOn text (bytes_of fields ++ (take k xs ∷ [])) l) (sym left) (field_more text xs k (bytes_of fields) (on plain) ends low unlike)))

-- after the last field
pub reads_last : (text xs more : List ℕ) (k : ℕ) (fields all : List (Bor (List ℕ))) (field : Bor (List ℕ)) → (IsPlain text → ReadsOn text (bytes_of fields) xs)
    → EndsAt xs k → (k < length xs → get_or xs k 0 ≡ 10) → field.now ≡ take k xs → all ≡ fields ++ (field ∷ []) → more ≡ drop (k + 1) xs
    → IsPlain text → IsLine text (bytes_of all) more
reads_last text xs more k fields all field on ends last is added left plain =
    subst (λ l. IsLine text (bytes_of l) more) (sym added) (subst (λ l. IsLine text l more) (bytes_more fields field (take k xs) is)
    (subst (λ l. IsLine text (bytes_of fields ++ (take k xs ∷ [])) l) (sym left) (line_ends text xs k (bytes_of fields) (on plain) ends last)))

-- ---- the first record

-- a line that is read is the first record
pub took_line : (text start rest : List ℕ) (fields : Fields) → next st.StartRecord [] [] start ≡ next st.StartRecord [] [] text → (IsPlain text → IsPlain start)
    → (0 < length start → get_or start 0 0 ≢ 10) → 0 < length start → (IsPlain start → IsLine start fields rest) → IsPlain text → TookRecord text fields rest
took_line text start rest fields same plain first some line is =
    let read = line (plain is) in
    record { plain = read.plain; read = sym same ∙ (begins start [] [] (plain is) some (first some) ∙ read.read) }

nothing : (start : List ℕ) → length start ≡ 0 → next st.StartRecord [] [] start ≡ None
unfolding next_record
nothing [] e = refl
nothing (c ∷ start) e = absurd (cc e)

-- a text of empty lines has no record
pub no_line : (text start : List ℕ) → next st.StartRecord [] [] start ≡ next st.StartRecord [] [] text → length start ≡ 0 → next st.StartRecord [] [] text ≡ None
no_line text start same none = sym same ∙ nothing start none

-- an empty line more
pub empty_more : (text : List ℕ) (at : ℕ) → at < length text → get_or text at 0 ≡ 10 → next st.StartRecord [] [] (drop at text) ≡ next st.StartRecord [] [] text
    → next st.StartRecord [] [] (drop (at + 1) text) ≡ next st.StartRecord [] [] text
empty_more text at low is same =
    sym (empty_line (drop (at + 1) text) [] []) ∙ (ap (next st.StartRecord [] []) (sym (from_byte text at 10 low is)) ∙ same)

-- ---- searches

is_either : (x a b : ℕ) (t u : Bool) → (x == a) ≡ t → (x == b) ≡ u → t || u ≡ true → (x ≡ a) ⊎ (x ≡ b)
is_either x a b true u e f h = inl (grind (arith, e))
is_either x a b false true e f h = inr (grind (arith, f))
is_either x a b false false e f h = absurd (cc h)

-- neither of two bytes is at a position before the first of them
neither : (text : List ℕ) (a b i : ℕ) → ¬ (is_byte2 a b (get_or text i 0) ≡ true) → (x : ℕ) → get_or text i 0 ≡ x → (x ≢ a) × (x ≢ b)
neither text a b i unlike x is = (λ same. unlike (one_is same), λ same. unlike (two_is same))
  where
    one_is : x ≡ a → is_byte2 a b (get_or text i 0) ≡ true
    one_is same = let here : get_or text i 0 ≡ a = is ∙ same in grind (arith, here)

    two_is : x ≡ b → is_byte2 a b (get_or text i 0) ≡ true
    two_is same = let here : get_or text i 0 ≡ b = is ∙ same in grind (arith, here)

-- the position of the first comma or line feed
pub ends_found : (text : List ℕ) (found : Option ℕ) (k : ℕ) → IsFirstByte (is_byte2 44 10) text found → found ≡ Some k → EndsAt text k
ends_found text None k is e = absurd (none-some k e)
ends_found text (Some at) k is e = subst (EndsAt text) (same_Some at k e) (record {
  within = omega (arith, is.0.high);
  inside = λ i d low.
      let below : i < at = omega (arith, low, length-take at text) in
      neither text 44 10 i (is.0.before i (omega arith) below) _ (get_or_default text i 0 d (omega (arith, below, is.0.high)) ∙ sym (get_or-take at text i d below));
  ended = λ low. is_either (get_or text at 0) 44 10 _ _ refl refl is.1;
})

-- there is none
pub ends_missing : (text : List ℕ) (found : Option ℕ) → IsFirstByte (is_byte2 44 10) text found → found ≡ None → EndsAt text (length text)
ends_missing text (Some at) is e = absurd (none-some at (sym e))
ends_missing text None is e = record {
  within = omega arith;
  inside = λ i d low.
      let below : i < length text = omega (arith, low, length-take (length text) text) in
      neither text 44 10 i (is i (omega arith) below) _ (get_or_default text i 0 d below ∙ sym (get_or-take (length text) text i d below));
  ended = λ low. absurd (omega (arith, low));
}

-- a search that finds no double quote and no carriage return
pub none_found : (text : List ℕ) (found : Option ℕ) → IsFirstByte (is_byte2 34 13) text found → OnTrue (is_none found) (IsPlain text)
none_found text (Some at) is = tt
none_found text None is = λ i d low. neither text 34 13 i (is i (omega arith) low) _ (get_or_default text i 0 d low)

-- a text whose first byte is no mark's has none
no_mark : (text : List ℕ) → (get_or text 0 0 == 239) ≡ false → strip_bom text ≡ text
unfolding strip_bom
no_mark [] e = refl
no_mark (a ∷ []) e = refl
no_mark (a ∷ b ∷ []) e = refl
no_mark (a ∷ b ∷ c ∷ rest) e = rw e refl

pub unmarked : (text : List ℕ) → get_or text 0 0 ≢ 239 → strip_bom text ≡ text
unmarked text unlike = no_mark text (other (get_or text 0 0) 239 unlike)

-- after the last byte
pub none_after : (text : List ℕ) (place : ℕ) → place ≡ length text → drop place text ≡ drop (place + 1) text
none_after text place is = none_from text place (omega (arith, is)) ∙ sym (none_from text (place + 1) (omega (arith, is)))
