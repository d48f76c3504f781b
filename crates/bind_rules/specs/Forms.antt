-- The rules of a join and of an area test.
use Rattle.std.specs.Prelude.{ℤ, pos, ◌-ℤ◌, Bool, false, ◌&&◌, ◌||◌, not}
use Rattle.std.specs.Prelude.{if◌then◌else◌}
use Rattle.std.specs.Prelude.{List, [], ◌∷◌, map, Option, None, Some}
use Rattle.std.specs.List.{list_all, flat_map}
use Rattle.std.specs.Option.{is_some, option_map}
use Rattle.std.specs.Str.{bytes_eq}
use Rattle.sql_token.specs.declared.token.Span.{Span}
use Rattle.sql_tree.specs.declared.cond.AreaKind.{AreaKind}
use Rattle.sql_tree.specs.declared.cond.IntList.{IntList}
use Rattle.sql_tree.specs.declared.cond.SignedInt.{SignedInt}
use Rattle.sql_tree.specs.declared.name.Name.{Name}
use Rattle.sql_tree.specs.declared.query.Query.{Query}
use Rattle.sql_tree.specs.declared.query.TableRef.{TableRef}
use Rattle.bind_rules.specs.declared.fault.BindFault.{BindFault}
use Rattle.bind_rules.specs.declared.fault.BindFault.TheVariants as fault
use Rattle.bind_rules.specs.Areas.{area_test}
use Rattle.bind_rules.specs.Mentions.{columns_in}
use Rattle.bind_rules.specs.Tops.{Test, Area, Chord, tests_in}
use Rattle.bind_rules.specs.Names.{is_grouped}

-- ---- a join

-- A chord test: its names, and whether it is a top-level conjunct.
pub record ChordAt : Type 0 where
  pub left : Name
  pub right : Name
  pub top : Bool

-- the test, if it is a chord test
abbrev pub chord_by : Test → Bool → List ChordAt
chord_by (Chord left right strict n) top = record { left = left; right = right; top = top } ∷ []
chord_by _ top = []

-- the chord tests of a query
abbrev pub chords_of : Query → List ChordAt
chords_of q = flat_map (λ f. chord_by f.test f.top) (tests_in q.cond)

-- the test names both aliases, in either order
abbrev pub names_both : Name → Name → ChordAt → Bool
names_both a b c =
    (bytes_eq c.left.text a.text && bytes_eq c.right.text b.text)
    || (bytes_eq c.left.text b.text && bytes_eq c.right.text a.text)

-- there are two different aliases, and the one chord test is at the top level and names both
abbrev pub pairs_both : Option Name → Option Name → List ChordAt → Bool
pairs_both (Some a) (Some b) (c ∷ []) = not (bytes_eq a.text b.text) && c.top && names_both a b c
pairs_both _ _ _ = false

-- a query of one table has no chord test; a join has two aliases and its chord test, a qualifier at each column but the
-- order key, and is not grouped
abbrev pub is_join_form : Query → Option TableRef → Bool
is_join_form q None = list_all (λ c. false) (chords_of q)
is_join_form q (Some second) =
    pairs_both q.first.alias second.alias (chords_of q) && list_all (λ c. is_some c.table) (columns_in q)
    && not (is_grouped q)

-- the fault of a query that breaks the rules of a join, or that has a chord test and is no join
unfoldable pub join_form : Query → Option BindFault
join_form q = if is_join_form q q.second then None else Some fault.JoinForm

-- ---- an area test

-- the value of a signed integer
abbrev pub int_value : SignedInt → ℤ
int_value i = if i.minus then pos 0 -ℤ i.size else i.size

-- the arguments of an area test
abbrev pub values_of : IntList → List ℤ
values_of l = map int_value (l.first ∷ l.rest)

-- the arguments fit the function: there is a test of them
abbrev pub is_area_form : AreaKind → List ℤ → Bool
is_area_form kind args = is_some (area_test kind args)

-- the span of the name of an area test that is not a top-level conjunct, or whose arguments do not fit
abbrev pub bad_area : Test → Bool → List Span
bad_area (Area kind span args) top = if top && is_area_form kind (values_of args) then [] else span ∷ []
bad_area _ top = []

-- the first of a list
abbrev pub first_of : {A : Type 0} → List A → Option A
first_of [] = None
first_of (x ∷ xs) = Some x

-- the fault of the first area test that breaks its rules
unfoldable pub area_form : Query → Option BindFault
area_form q = option_map fault.AreaForm (first_of (flat_map (λ f. bad_area f.test f.top) (tests_in q.cond)))
