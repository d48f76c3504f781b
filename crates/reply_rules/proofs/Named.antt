-- The names of columns, and of the words of a query: their bytes are above those of a line feed and of `+`.
use Rattle.std.proofs.Common.{◌≡◌, refl, ap, ◌∙◌, subst, ℕ, suc, ◌+◌, ◌<◌, ◌≤◌, arith, true, false, not, cond, ◌&&◌, nat_le, nat_lt, max}
use Rattle.std.proofs.Common.{List, [], ◌∷◌, ◌++◌, length, take, drop, get_or}
use Rattle.std.specs.List.{list_all, list_any}
use Rattle.std.proofs.lemmas.List.{get_or-drop, length-drop}
use Rattle.std.specs.Str.{bytes_eq}
use Rattle.text_rules.specs.Words.{continues_word}
use Rattle.table_rules.specs.Names.{begins_as_a_name, can_follow, first_names, is_name}
use Rattle.table_rules.specs.Objects.{Catalogue}
use Rattle.table_rules.specs.Records.{catalogue_with, faults_of_header, faults_of_rows, field_in, object_form, right_in, table_under, unless}
use Rattle.table_rules.specs.declared.fault.LoadFault.TheVariants.{Header}
use Rattle.table_rules.specs.declared.limits.TheConstants.{COLUMNS_MOST, FIRST_COLUMNS, NAME_MOST}
use Rattle.table_rules.proofs.Faults.{judged_ok, none_in, none_of_both, right_unless}
use Rattle.transcript_rules.proofs.Blocks.{split_and}
use Rattle.reply_rules.specs.Laws.{AcceptedIsNamed}
use Rattle.reply_rules.proofs.Bytes.{all_cons, high, is_high}

goes_high : (b : ℕ) → continues_word b ≡ true → nat_le 44 b ≡ true
goes_high b h = grind (arith, h)

-- bytes that continue a word
pub word_high : (t : List ℕ) → list_all continues_word t ≡ true → high t ≡ true
word_high [] x = refl
word_high (b ∷ bs) x =
    let e = split_and (continues_word b) (list_all continues_word bs) x in
    all_cons is_high b bs (goes_high b e.0) (word_high bs e.1)

-- a column's name
pub name_high : (t : List ℕ) → is_name t ≡ true → high t ≡ true
name_high t x =
    let whole = split_and (begins_as_a_name t && list_all continues_word t) (nat_le (length t) NAME_MOST) x in
    word_high t (split_and (begins_as_a_name t) (list_all continues_word t) whole.0).1

pub names_high : (names : List (List ℕ)) → list_all is_name names ≡ true → list_all high names ≡ true
names_high [] x = refl
names_high (n ∷ ns) x =
    let e = split_and (is_name n) (list_all is_name ns) x in
    rw (name_high n e.0, names_high ns e.1) refl

-- ---- an accepted catalogue

-- names at each position
named_by : (names : List (List ℕ)) → ((i : ℕ) → i < length names → is_name (get_or names i []) ≡ true) → list_all is_name names ≡ true
named_by [] each = refl
named_by (n ∷ ns) each = rw (each 0 (omega arith), named_by ns (λ i low. each (suc i) (omega arith))) refl

-- a later field of a header that is right is a name
later_is_name : (header : List (List ℕ)) (col : ℕ) → 4 ≤ col → right_in object_form header col ≡ true → is_name (field_in header col) ≡ true
later_is_name header col late right =
    let past : nat_lt col 4 ≡ false = grind (arith, late) in
    let follows : can_follow (take col header) (field_in header col) ≡ true =
    subst (λ t. cond t (bytes_eq (field_in header col) (field_in first_names col)) (can_follow (take col header) (field_in header col)) ≡ true) past right in
    let room = nat_lt (length (take col header)) COLUMNS_MOST in
    let whole = split_and (room && is_name (field_in header col)) (not (list_any (bytes_eq (field_in header col)) (take col header))) follows in
    (split_and room (is_name (field_in header col)) whole.0).1

-- the fields of a header without a fault
header_named : (header : List (List ℕ)) → faults_of_header object_form header ≡ [] → list_all is_name (drop FIRST_COLUMNS header) ≡ true
header_named header none = named_by (drop FIRST_COLUMNS header) (λ i low.
    let within : 4 + i < max FIRST_COLUMNS (length header) = omega (arith, low, length-drop FIRST_COLUMNS header) in
    let fault = none_in (λ col. unless (right_in object_form header col) (Header (col + 1))) (max FIRST_COLUMNS (length header)) (4 + i) none within in
    let right : right_in object_form header (4 + i) ≡ true = right_unless (right_in object_form header (4 + i)) (Header (4 + i + 1)) fault in
    ap is_name (get_or-drop FIRST_COLUMNS header i []) ∙ later_is_name header (4 + i) (omega arith) right)

pub accepted_is_named : AcceptedIsNamed
accepted_is_named [] c e = absurd (cc e)
accepted_is_named (header ∷ rows) c e =
    let ok = judged_ok (faults_of_header object_form header ++ faults_of_rows object_form (length header) rows) (table_under object_form catalogue_with (drop FIRST_COLUMNS header) rows) c e in
    let faults = none_of_both (faults_of_header object_form header) (faults_of_rows object_form (length header) rows) ok.0 in
    subst (λ (x : Catalogue). list_all is_name x.names ≡ true) ok.1 (header_named header faults.0)
