-- The table of a form that the records of a text are, or the first of their faults, and the catalogue as such a table.
-- A record is the list of its fields, and a field is its bytes. The first record is the header, and the others are the data
-- rows, numbered from 1. Columns are numbered from 0, and in a fault from 1.
use Rattle.std.specs.Prelude.{ℕ, ◌+◌, ◌==◌, ℤ, pos, neg_ℤ, int_le, nat_le, nat_lt, max, Bool, not, ◌&&◌}
use Rattle.std.specs.Prelude.{List, [], ◌∷◌, ◌++◌, length, map, get_or, take, drop}
use Rattle.std.specs.Prelude.{Option, None, Some, unwrap_or, Result, Err, if◌then◌else◌}
use Rattle.std.specs.List.{flat_map, range_with_len}
use Rattle.std.specs.Str.{bytes_eq}
use Rattle.text_rules.specs.Numbers.{int_of}
use Rattle.text_rules.specs.Readings.{judged}
use Rattle.sky_vector.specs.Points.{is_admissible}
use Rattle.table_rules.specs.Objects.{Obj, Catalogue, column_bound}
use Rattle.table_rules.specs.Names.{first_names}
use Rattle.table_rules.specs.Forms.{Form, may_follow}
use Rattle.table_rules.specs.IdOrder.{has_this_id, in_id_order}
use Rattle.table_rules.specs.declared.limits.TheConstants.{FIRST_COLUMNS, ROWS_MOST}
use Rattle.table_rules.specs.declared.fault.LoadFault.{LoadFault}
use Rattle.table_rules.specs.declared.fault.LoadFault.TheVariants.{Header, FieldCount, Number, Range, Length, Repeated, TooManyRows}

-- the fault, if the test is false
abbrev pub unless : Bool → LoadFault → List LoadFault
unless right fault = if right then [] else fault ∷ []

-- the field of a column, and an empty one if the record ends before it
abbrev pub field_in : List (List ℕ) → ℕ → List ℕ
field_in fields col = get_or fields col []

-- the number in a column of a record
abbrev pub number_in : List (List ℕ) → ℕ → ℤ
number_in fields col = unwrap_or (int_of (field_in fields col)) (pos 0)

-- the header is right in a column: the first fields are the names of their columns, and a later one can follow those before
-- it
abbrev pub right_in : {R : Type 0} → Form R → List (List ℕ) → ℕ → Bool
right_in form header col =
    if nat_lt col (length form.first) then bytes_eq (field_in header col) (field_in form.first col)
    else may_follow form (take col header) (field_in header col)

-- the faults of a header: one for each of its fields, and for each of the first columns, that isn't right
abbrev pub faults_of_header : {R : Type 0} → Form R → List (List ℕ) → List LoadFault
faults_of_header form header =
    flat_map (λ col. unless (right_in form header col) (Header (col + 1)))
    (range_with_len 0 (max (length form.first) (length header)))

-- the number is between these two, which are included
abbrev pub is_between : ℤ → ℤ → ℤ → Bool
is_between least most z = int_le least z && int_le z most

-- the fault of a field that has to be a number between these two: it is none, or one outside the range
abbrev pub faults_between : ℤ → ℤ → ℕ → ℕ → Option ℤ → List LoadFault
faults_between least most row col None = Number row (col + 1) ∷ []
faults_between least most row col (Some z) = unless (is_between least most z) (Range row (col + 1) z)

-- the number is in the range of the column
abbrev pub in_range : {R : Type 0} → Form R → ℕ → ℤ → Bool
in_range form col z = is_between (form.least col) (form.most col) z

-- the fault of a field that has to be a number of its column
abbrev pub faults_of_number : {R : Type 0} → Form R → ℕ → ℕ → Option ℤ → List LoadFault
faults_of_number form row col o = faults_between (form.least col) (form.most col) row col o

-- the field is NULL: it is an empty field of an extra column
abbrev pub null_in : {R : Type 0} → Form R → ℕ → List ℕ → Bool
null_in form col field = nat_le (length form.first) col && (length field == 0)

-- the fault of a field
abbrev pub faults_of_field : {R : Type 0} → Form R → ℕ → ℕ → List ℕ → List LoadFault
faults_of_field form row col field =
    if null_in form col field then [] else faults_of_number form row col (int_of field)

-- the faults of a record by itself, in the order in which they are checked, for a header with the given number of fields
abbrev pub faults_by_itself : {R : Type 0} → Form R → ℕ → ℕ → List (List ℕ) → List LoadFault
faults_by_itself form width row fields =
    unless (length fields == width) (FieldCount row (length fields))
    ++ flat_map (λ col. faults_of_field form row col (field_in fields col)) (range_with_len 0 (length fields))
    ++ form.whole row fields

-- the faults of a record that follows these rows: there are not too many, and no two of one id
abbrev pub faults_after : {R : Type 0} → Form R → ℕ → List R → List (List ℕ) → List LoadFault
faults_after form width earlier fields =
    unless (nat_lt (length earlier) ROWS_MOST) TooManyRows
    ++ faults_by_itself form width (length earlier + 1) fields
    ++ unless (not (has_this_id form.id earlier (form.id (form.row fields))))
    (Repeated (length earlier + 1) (form.id (form.row fields)))

-- the faults of the data rows, row by row, each checked after those before it
abbrev pub faults_of_rows : {R : Type 0} → Form R → ℕ → List (List (List ℕ)) → List LoadFault
faults_of_rows form width rows =
    flat_map (λ i. faults_after form width (map form.row (take i rows)) (get_or rows i []))
    (range_with_len 0 (length rows))

-- the table of these records under a header, made of the names of the extra columns and of the rows in ascending order of id
abbrev pub table_under : {R T : Type 0} → Form R → (List (List ℕ) → List R → T) → List (List ℕ) → List (List (List ℕ)) → T
table_under form made names rows = made names (in_id_order form.id (map form.row rows))

-- the table of these records, the first of which is the header, or their first fault
abbrev pub table_of : {R T : Type 0} → Form R → (List (List ℕ) → List R → T) → List (List (List ℕ)) → Result T LoadFault
table_of form made [] = Err (Header 1)
table_of form made (header ∷ rows) =
    judged (faults_of_header form header ++ faults_of_rows form (length header) rows)
    (table_under form made (drop (length form.first) header) rows)

-- the least value in a column of the object table
abbrev pub column_least : ℕ → ℤ
column_least col = if col == 0 then pos 0 else neg_ℤ (column_bound col)

-- the row of the object table that a record spells; an empty extra field is no number, and so it is NULL
abbrev pub row_of : List (List ℕ) → Obj
row_of fields = record {
  id = number_in fields 0;
  at = record { x = number_in fields 1; y = number_in fields 2; z = number_in fields 3 };
  further = map int_of (drop FIRST_COLUMNS fields);
}

-- the form of the object table: a record as a whole has a fault if its position isn't admissible
abbrev pub object_form : Form Obj
object_form = record {
  first = first_names;
  least = column_least;
  most = column_bound;
  row = row_of;
  id = λ o. o.id;
  whole = λ row fields. unless (is_admissible (row_of fields).at) (Length row);
}

-- the catalogue of these extra columns and these rows
abbrev pub catalogue_with : List (List ℕ) → List Obj → Catalogue
catalogue_with names objects = record { names = names; objects = objects }

-- the catalogue that all the records of a text are, or their first fault
abbrev pub catalogue_of_records : List (List (List ℕ)) → Result Catalogue LoadFault
catalogue_of_records records = table_of object_form catalogue_with records
