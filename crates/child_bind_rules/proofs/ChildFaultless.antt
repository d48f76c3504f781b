-- What is known of a query over objects and their sources without a fault.
use Rattle.std.proofs.Common.{◌≡◌, true, false, Option, Some, None, Ok}
use Rattle.std.specs.Prelude.{◌&&◌, not}
use Rattle.std.specs.List.{list_all}
use Rattle.std.specs.Option.{is_some}
use Rattle.std.proofs.lemmas.Bool.{and_parts}
use Rattle.sql_bound.specs.declared.query.Bound.{Bound}
use Rattle.sql_tree.specs.declared.query.Query.{Query}
use Rattle.sql_tree.specs.declared.query.TableRef.{TableRef}
use Rattle.bind_rules.specs.declared.fault.BindFault.TheVariants as fault
use Rattle.bind_rules.specs.Checks.{order_by, too_wide_by}
use Rattle.bind_rules.specs.Columns.{is_object_table}
use Rattle.bind_rules.specs.Forms.{area_form, chords_of}
use Rattle.bind_rules.specs.Mentions.{columns_in}
use Rattle.bind_rules.specs.Names.{is_grouped, unknown_by}
use Rattle.bind_rules.proofs.Faultless.{ok_parts, or_none}
use Rattle.bind_rules.proofs.Shapes.{if_no_fault, not_true}
use Rattle.child_bind_rules.specs.ChildBinding.{child_bound_of, child_query}
use Rattle.child_bind_rules.specs.ChildChecks.{child_fault}
use Rattle.child_bind_rules.specs.JoinCondition.{are_joined, are_object_and_source, child_form, has_join_condition, have_aliases, is_child_form, is_listed, is_plain_list, is_qualified_without_chords}
use Rattle.child_bind_rules.specs.PairColumns.{Schemas, is_source_table, pair_names, pair_size}

-- A query that passes each check.
pub record Faultless (s : Schemas) (q : Query) : Type 0 where
  pub unknown : unknown_by (pair_names s q) q ≡ None
  pub form : child_form q ≡ None
  pub area : area_form q ≡ None
  pub wide : too_wide_by (pair_size s q) q ≡ None
  pub order : order_by (pair_names s q) q ≡ None

faultless : (s : Schemas) (q : Query) → child_fault s q ≡ None → Faultless s q
unfolding child_fault
faultless s q h =
    let a = or_none (unknown_by (pair_names s q) q) _ h in
    let b = or_none (child_form q) _ a.1 in
    let c = or_none (area_form q) _ b.1 in
    let d = or_none (too_wide_by (pair_size s q) q) _ c.1 in
    record { unknown = a.0; form = b.0; area = c.0; wide = d.0; order = d.1 }

-- a query that binds has no fault, and is bound to its bound query
pub binds : (s : Schemas) (q : Query) (b : Bound) → child_bound_of s q ≡ Ok b → Faultless s q × (child_query s q ≡ b)
unfolding child_bound_of
binds s q b h =
    let two = ok_parts (child_fault s q) (child_query s q) b h in (faultless s q two.0, two.1)

-- What the form of the join tells: the first table is Object, and there is no aggregate, no GROUP BY and no chord test.
pub record Formed (q : Query) : Type 0 where
  pub first : is_object_table q.first.name.text ≡ true
  pub plain : is_grouped q ≡ false
  pub chords : list_all (λ c. false) (chords_of q) ≡ true

formed_by : (q : Query) (o : Option TableRef) → is_child_form q o ≡ true → Formed q
formed_by q None h = absurd cc
formed_by q (Some t) h =
    let two = and_parts (are_joined q t && is_plain_list q) (is_qualified_without_chords q) h in
    let joined = and_parts (are_joined q t) (is_plain_list q) two.0 in
    let aliases = and_parts (are_object_and_source q.first.name.text t.name.text && have_aliases q.first.alias t.alias) (has_join_condition q q.first.alias t.alias) joined.0 in
    let tables = and_parts (are_object_and_source q.first.name.text t.name.text) (have_aliases q.first.alias t.alias) aliases.0 in
    record {
      first = (and_parts (is_object_table q.first.name.text) (is_source_table t.name.text) tables.0).0;
      plain = not_true (is_grouped q) (and_parts (is_listed q.items) (not (is_grouped q)) joined.1).1;
      chords = (and_parts (list_all (λ c. is_some c.table) (columns_in q)) (list_all (λ c. false) (chords_of q)) two.1).1;
    }

pub formed : (s : Schemas) (q : Query) → Faultless s q → Formed q
unfolding child_form
formed s q f = formed_by q q.second (if_no_fault (is_child_form q q.second) fault.JoinForm f.form)
