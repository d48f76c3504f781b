-- A transcript is whole lines, and none of them begins with `+`.
use Rattle.std.proofs.Common.{◌≡◌, refl, ap, ℕ, ◌+◌, true, List, [], ◌∷◌, ◌++◌, map, length, Option, None, Some, Result, Ok, Err, codes, decimal}
use Rattle.std.specs.Fmt.{signed_decimal}
use Rattle.std.specs.List.{flat_map, list_all}
use Rattle.table_rules.specs.Names.{column_names, first_names}
use Rattle.table_rules.specs.Objects.{Catalogue}
use Rattle.sky_rules.specs.Partition.{Partition}
use Rattle.sql_tree.specs.declared.query.Item.{Item}
use Rattle.sql_tree.specs.declared.query.Query.{Query}
use Rattle.sql_tree.specs.declared.query.Selection.{Selection}
use Rattle.sql_tree.specs.declared.query.Selection.TheVariants as selection
use Rattle.sql_tree.specs.declared.query.TableRef.{TableRef}
use Rattle.sql_rules.specs.Printed.{heading}
use Rattle.sql_rules.specs.PrintedExprs.{Bytes, behind_each}
use Rattle.sql_token.specs.declared.sign.Sign.TheVariants as sign
use Rattle.sql_rules.specs.Queries.{spell_item, spell_items, spell_second}
use Rattle.sql_rules.specs.Spelling.{led_by}
use Rattle.sql_rules.specs.Symbols.{of_sign}
use Rattle.sql_rules.specs.Trees.{tree_of}
use Rattle.sql_rules.specs.declared.fault.SqlFault.{SqlFault}
use Rattle.sql_rules.specs.declared.fault.SqlFault.TheVariants as sql
use Rattle.sql_bound.specs.declared.query.Bound.{Bound}
use Rattle.bind_rules.specs.Binding.{bound_of}
use Rattle.bind_rules.specs.Columns.{qualifier}
use Rattle.bind_rules.specs.declared.fault.BindFault.{BindFault}
use Rattle.bind_rules.specs.declared.fault.BindFault.TheVariants as bind
use Rattle.answer_rules.specs.Answers.{Answer, flat_answer}
use Rattle.answer_rules.specs.Plans.{plan_of}
use Rattle.answer_rules.specs.declared.value.Value.{Value}
use Rattle.answer_rules.specs.declared.value.Value.TheVariants.{Null, Whole, Fixed4}
use Rattle.session_script.specs.Scripts.{script_of}
use Rattle.session_script.specs.Views.{ScriptView, query_lines}
use Rattle.session_rules.specs.declared.end.EndKind.{EndKind}
use Rattle.session_rules.specs.declared.end.EndKind.TheVariants.{Answered, Refused, Cancelled, Spent}
use Rattle.transcript_rules.specs.Blocks.{answer_lines, answered_lines, block, end_lines, number_line, refused_lines}
use Rattle.transcript_rules.specs.RefusalLines.{bind_words, quoted, refusal_line, refusal_words, sql_words}
use Rattle.transcript_rules.specs.Refusals.{Understood, refusal_of, understood, with_bound, with_tree}
use Rattle.transcript_rules.specs.Tables.{by_commas, count_line, headings, headings_of, qualified, row_line, star_columns, table_lines, value_text}
use Rattle.transcript_rules.specs.Transcripts.{blocks_from, blocks_of, transcript}
use Rattle.transcript_rules.specs.declared.refusal.Refusal.{Refusal}
use Rattle.transcript_rules.specs.declared.refusal.Refusal.TheVariants as refusal
use Rattle.transcript_rules.proofs.Blocks.{split_and}
use Rattle.print_rules.proofs.Limits.{Printable}
use Rattle.print_rules.proofs.Walks.{Each}
use Rattle.reply_rules.specs.Laws.{AnsweredEndsAtPlus, IsNamed, NoLineBeginsWithPlus, TranscriptsAreLines}
use Rattle.reply_rules.proofs.Bytes.{Plain, decimal_high, fixed_high, flat, flat_both, high, high_both, high_flat, high_plain, plain_both, signed_high, slice_flat, solid_plain, solid_then}
use Rattle.reply_rules.proofs.Headings.{IsReadWell, both_printable, item_solid, items_flat, read_well, table_high}
use Rattle.reply_rules.proofs.Named.{names_high}
use Rattle.reply_rules.proofs.Scripts.{queries_flat}
use Rattle.reply_rules.proofs.Whole.{AreWhole, lines_both, lines_each, no_lines, plain_line, then_plus}

-- ---- headings

-- texts after commas
commas_high : (texts : List Bytes) → list_all high texts ≡ true → high (behind_each (codes ",") texts) ≡ true
commas_high [] each = refl
commas_high (t ∷ ts) each =
    let e = split_and (high t) (list_all high ts) each in
    high_both (codes "," ++ t) (behind_each (codes ",") ts) (high_both (codes ",") t refl e.0) (commas_high ts e.1)

list_high : (texts : List Bytes) → list_all high texts ≡ true → high (by_commas texts) ≡ true
list_high [] each = refl
list_high (t ∷ ts) each =
    let e = split_and (high t) (list_all high ts) each in
    high_both t (behind_each (codes ",") ts) e.0 (commas_high ts e.1)

both_high : (a b : List Bytes) → list_all high a ≡ true → list_all high b ≡ true → list_all high (a ++ b) ≡ true
both_high [] b x y = y
both_high (t ∷ ts) b x y = let e = split_and (high t) (list_all high ts) x in rw (e.0, both_high ts b e.1 y) refl

qualified_high : (side : Bytes) (names : List Bytes) → high side ≡ true → list_all high names ≡ true → list_all high (qualified side names) ≡ true
qualified_high side [] h each = refl
qualified_high side (n ∷ ns) h each =
    let e = split_and (high n) (list_all high ns) each in
    rw (high_both side (codes "." ++ n) h (high_both (codes ".") n refl e.0), qualified_high side ns h e.1) refl

columns_high : (names : List Bytes) → list_all high names ≡ true → list_all high (column_names names) ≡ true
columns_high names each = both_high first_names names refl each

star_high : (names : List Bytes) (q : Query) (w : IsReadWell q) (second : Option TableRef) → Printable (spell_second w.words.second_as second) → list_all high names ≡ true
    → list_all high (star_columns names q.first second) ≡ true
star_high names q w None printable each = columns_high names each
star_high names q w (Some t) printable each =
    both_high (qualified (qualifier q.first) (column_names names)) (qualified (qualifier t) (column_names names))
    (qualified_high (qualifier q.first) (column_names names) (table_high w.words.first_as q.first w.first) (columns_high names each))
    (qualified_high (qualifier t) (column_names names) (table_high w.words.second_as t printable.1) (columns_high names each))

later_flat : (xs : List Item) → Each (λ i. flat (heading i) ≡ true) xs → flat (behind_each (codes ",") (map heading xs)) ≡ true
later_flat [] each = refl
later_flat (i ∷ is) each =
    flat_both (codes "," ++ heading i) (behind_each (codes ",") (map heading is)) (flat_both (codes ",") (heading i) refl each.0) (later_flat is each.1)

items_plain : (names : List Bytes) (q : Query) (w : IsReadWell q) (x : Selection) → Printable (spell_items x) → list_all high names ≡ true → Plain (by_commas (headings_of names q x))
items_plain names q w (selection.Star span) printable each =
    high_plain (by_commas (star_columns names q.first q.second)) (list_high (star_columns names q.first q.second) (star_high names q w q.second w.second each))
items_plain names q w (selection.List l) printable each =
    let parts = both_printable (spell_item l.first) (led_by (of_sign sign.Comma) (map spell_item l.rest)) printable in
    solid_plain (by_commas (map heading (l.first ∷ l.rest))) (solid_then (heading l.first) (behind_each (codes ",") (map heading l.rest)) (item_solid l.first parts.0)
    (later_flat l.rest (items_flat l.rest parts.1)))

headings_plain : (names : List Bytes) (q : Query) → IsReadWell q → list_all high names ≡ true → Plain (by_commas (headings names q))
unfolding headings
headings_plain names q w each = items_plain names q w q.items w.items each

-- ---- rows

value_high : (v : Value) → high (value_text v) ≡ true
value_high Null = refl
value_high (Whole z) = signed_high z
value_high (Fixed4 z) = fixed_high z

values_high : (row : List Value) → list_all high (map value_text row) ≡ true
values_high [] = refl
values_high (v ∷ vs) = rw (value_high v, values_high vs) refl

rows_whole : (rows : List (List Value)) → AreWhole (flat_map row_line rows)
rows_whole [] = no_lines
rows_whole (row ∷ rows) =
    lines_both (row_line row) (flat_map row_line rows)
    (plain_line (by_commas (map value_text row)) (high_plain (by_commas (map value_text row)) (list_high (map value_text row) (values_high row)))) (rows_whole rows)

count_flat : (rows chunks : ℕ) → flat (codes " rows, " ++ (decimal chunks ++ codes " chunks")) ≡ true
count_flat rows chunks =
    flat_both (codes " rows, ") (decimal chunks ++ codes " chunks") refl (flat_both (decimal chunks) (codes " chunks") (high_flat (decimal chunks) (decimal_high chunks)) refl)

count_whole : (rows chunks : ℕ) → AreWhole (count_line rows chunks)
count_whole rows chunks =
    plain_line (decimal rows ++ (codes " rows, " ++ (decimal chunks ++ codes " chunks")))
    (plain_both (decimal rows) (codes " rows, " ++ (decimal chunks ++ codes " chunks")) (high_plain (decimal rows) (decimal_high rows))
    (record { flat' = count_flat rows chunks; begins = refl }))

table_whole : (heads : List Bytes) (rows : List (List Value)) (chunks : ℕ) → Plain (by_commas heads) → AreWhole (table_lines heads rows chunks)
unfolding table_lines
table_whole heads rows chunks h =
    lines_both (by_commas heads ++ codes "\n") (flat_map row_line rows ++ count_line (length rows) chunks) (plain_line (by_commas heads) h)
    (lines_both (flat_map row_line rows) (count_line (length rows) chunks) (rows_whole rows) (count_whole (length rows) chunks))

answer_whole : (heads : List Bytes) (a : Answer) (chunks : ℕ) → Plain (by_commas heads) → AreWhole (answer_lines heads a chunks)
answer_whole heads (Ok rows) chunks h = table_whole heads rows chunks h
answer_whole heads (Err total) chunks h = no_lines

-- ---- refusals

sql_flat : (fault : SqlFault) → flat (sql_words fault) ≡ true
sql_flat (sql.BadByte place) = flat_both (codes "bad byte at ") (decimal place) refl (high_flat (decimal place) (decimal_high place))
sql_flat (sql.Literal place) = flat_both (codes "number too large at ") (decimal place) refl (high_flat (decimal place) (decimal_high place))
sql_flat sql.TooMany = refl
sql_flat (sql.Depth place) = flat_both (codes "brackets too deep at ") (decimal place) refl (high_flat (decimal place) (decimal_high place))
sql_flat sql.Syntax = refl

bind_flat : (text : Bytes) (fault : BindFault) → flat text ≡ true → flat (bind_words text fault) ≡ true
bind_flat text (bind.UnknownName span) h = flat_both (codes "unknown name ") (quoted text span) refl (slice_flat text span.from span.to h)
bind_flat text (bind.NotGrouped span) h = flat_both (quoted text span) (codes " is not grouped") (slice_flat text span.from span.to h) refl
bind_flat text bind.JoinForm h = refl
bind_flat text (bind.AreaForm span) h = flat_both (codes "area form ") (quoted text span) refl (slice_flat text span.from span.to h)
bind_flat text bind.TooWide h = refl
bind_flat text (bind.OrderName span) h = flat_both (codes "unknown order key ") (quoted text span) refl (slice_flat text span.from span.to h)

words_flat : (text : Bytes) (why : Refusal) → flat text ≡ true → flat (refusal_words text why) ≡ true
words_flat text (refusal.Sql fault) h = sql_flat fault
words_flat text (refusal.Bind fault) h = bind_flat text fault h
words_flat text (refusal.Radius r) h =
    flat_both (codes "radius ") (signed_decimal r.asked ++ (codes " above " ++ signed_decimal r.allowed)) refl
    (flat_both (signed_decimal r.asked) (codes " above " ++ signed_decimal r.allowed) (high_flat (signed_decimal r.asked) (signed_high r.asked))
    (flat_both (codes " above ") (signed_decimal r.allowed) refl (high_flat (signed_decimal r.allowed) (signed_high r.allowed))))
words_flat text (refusal.Total t) h =
    flat_both (codes "total ") (signed_decimal t.total ++ codes " out of range") refl
    (flat_both (signed_decimal t.total) (codes " out of range") (high_flat (signed_decimal t.total) (signed_high t.total)) refl)

refused_whole : (text : Bytes) (r : Option Refusal) → flat text ≡ true → AreWhole (refused_lines text r)
unfolding refusal_line
refused_whole text None h = no_lines
refused_whole text (Some why) h =
    plain_line (codes "refused: " ++ refusal_words text why)
    (record { flat' = flat_both (codes "refused: ") (refusal_words text why) refl (words_flat text why h); begins = refl })

-- ---- blocks

same_tree : (q : Query) (r : Result Bound BindFault) (u : Understood) → with_bound q r ≡ Ok u → q ≡ u.tree
same_tree q (Ok b) u e = ap (λ (x : Result Understood Refusal). tree_in x q) e
  where
    tree_in : Result Understood Refusal → Query → Query
    tree_in (Ok x) other = x.tree
    tree_in (Err why) other = other
same_tree q (Err fault) u e = absurd (cc e)

tree_by : (names : List (List ℕ)) (r : Result Query SqlFault) (u : Understood) → with_tree names r ≡ Ok u → r ≡ Ok u.tree
tree_by names (Ok q) u e = ap {B = Result Query SqlFault} (λ x. Ok x) (same_tree q (bound_of names q) u e)
tree_by names (Err fault) u e = absurd (cc e)

-- a query that binds is read
tree_read : (names : List (List ℕ)) (text : List ℕ) (u : Understood) → understood names text ≡ Ok u → tree_of text ≡ Ok u.tree
unfolding understood
tree_read names text u e = tree_by names (tree_of text) u e

answered_whole : (g : Partition) (c : Catalogue) (text : Bytes) (r : Result Understood Refusal) → understood c.names text ≡ r → list_all high c.names ≡ true → AreWhole (answered_lines g c r)
answered_whole g c text (Ok u) is named =
    answer_whole (headings c.names u.tree) (flat_answer c.objects u.bound) (length (plan_of g c.objects u.bound))
    (headings_plain c.names u.tree (read_well text u.tree (tree_read c.names text u is)) named)
answered_whole g c text (Err why) is named = no_lines

end_whole : (g : Partition) (c : Catalogue) (text : Bytes) (end : EndKind) → flat text ≡ true → list_all high c.names ≡ true → AreWhole (end_lines g c text end)
end_whole g c text Answered h named = answered_whole g c text (understood c.names text) refl named
end_whole g c text Refused h named = refused_whole text (refusal_of g c text) h
end_whole g c text Cancelled h named = plain_line (codes "cancelled") (record { flat' = refl; begins = refl })
end_whole g c text Spent h named = plain_line (codes "out of memory") (record { flat' = refl; begins = refl })

number_whole : (k : ℕ) → AreWhole (number_line k)
number_whole k =
    plain_line (codes "query " ++ decimal k) (record { flat' = flat_both (codes "query ") (decimal k) refl (high_flat (decimal k) (decimal_high k)); begins = refl })

block_whole : (g : Partition) (c : Catalogue) (k : ℕ) (text : Bytes) (end : EndKind) → flat text ≡ true → list_all high c.names ≡ true → AreWhole (block g c k text end)
unfolding block
block_whole g c k text end h named = lines_both (number_line k) (end_lines g c text end) (number_whole k) (end_whole g c text end h named)

blocks_whole : (g : Partition) (c : Catalogue) (k : ℕ) (texts : List Bytes) (ends : List EndKind) → Each (λ t. flat t ≡ true) texts → list_all high c.names ≡ true
    → Each AreWhole (blocks_from g c k texts ends)
blocks_whole g c k [] ends each named = tt
blocks_whole g c k (t ∷ ts) [] each named = tt
blocks_whole g c k (t ∷ ts) (e ∷ es) each named = (block_whole g c k t e each.0 named, blocks_whole g c (k + 1) ts es each.1 named)

-- ---- transcripts

pub transcript_whole : (g : Partition) (c : Catalogue) (s : ScriptView) (ends : List EndKind) → IsNamed c → script_of s.text ≡ Ok s.steps → AreWhole (transcript g c s ends)
unfolding transcript
transcript_whole g c s ends named read = lines_each (blocks_of g c s ends) (blocks_whole g c 1 (query_lines s) ends (queries_flat s read) (names_high c.names named))

pub no_line_begins_with_plus : NoLineBeginsWithPlus
no_line_begins_with_plus g c s ends named read = (transcript_whole g c s ends named read).none

pub transcripts_are_lines : TranscriptsAreLines
transcripts_are_lines g c s ends named read = (transcript_whole g c s ends named read).whole

-- then a line `+ ok` ends the reply
pub answered_ends_at_plus : AnsweredEndsAtPlus
answered_ends_at_plus g c s ends named read =
    then_plus (transcript g c s ends) (codes "+ ok") (transcript_whole g c s ends named read) refl refl
