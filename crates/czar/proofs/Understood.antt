-- What is understood of a line that is no query, or that does not fit the schema.
use Rattle.std.proofs.Common.{◌≡◌, ◌∙◌, List, Result, Ok, Err, ap, sym, subst, IfOk}
use Rattle.sky_io.specs.Stops.{IfBad}
use Rattle.sky_io.specs.declared.Memory.{Memory}
use Rattle.sky_io.specs.declared.Stop.{Stop}
use Rattle.sky_io.specs.declared.Stop.TheVariants as stop
use Rattle.czar.specs.declared.understanding.Understanding.{Understanding}
use Rattle.czar.specs.Understandings.{IsUnbound, IsUnderstanding, IsUnderstandingOf, IsUnread}
use Rattle.sql_tree.specs.declared.query.Query.{Query}
use Rattle.sql_rules.specs.PrintedExprs.{Bytes}
use Rattle.sql_rules.specs.Trees.{tree_of}
use Rattle.sql_rules.specs.declared.fault.SqlFault.{SqlFault}
use Rattle.sql_bound.specs.declared.query.Bound.{Bound}
use Rattle.bind_rules.specs.Binding.{bound_of}
use Rattle.bind_rules.specs.declared.fault.BindFault.{BindFault}
use Rattle.transcript_rules.specs.declared.refusal.Refusal.TheVariants as refusal
use Rattle.transcript_rules.specs.Refusals.{understood, with_tree, with_bound}

-- a line that has no tree
pub no_query : (names : List Bytes) (text : Bytes) (fault : SqlFault) → tree_of text ≡ Err fault
    → understood names text ≡ Err (refusal.Sql fault)
unfolding understood
no_query names text fault read = ap (with_tree names) read

-- a line whose tree is bound to nothing
pub unbound : (names : List Bytes) (text : Bytes) (q : Query) (fault : BindFault) → tree_of text ≡ Ok q
    → bound_of names q ≡ Err fault → understood names text ≡ Err (refusal.Bind fault)
unfolding understood
unbound names text q fault read bound = ap (with_tree names) read ∙ ap (with_bound q) bound

-- a line whose tree is bound so
pub bound : (names : List Bytes) (text : Bytes) (q : Query) (b : Bound) → tree_of text ≡ Ok q → bound_of names q ≡ Ok b
    → understood names text ≡ Ok (record { tree = q; bound = b })
unfolding understood
bound names text q b read is = ap (with_tree names) read ∙ ap (with_bound q) is

-- what is understood of a line on which the reader stops so
pub unread : (names : List Bytes) (text : Bytes) (s : Stop SqlFault) (r : Result Understanding Memory)
    → IfBad s (λ fault. tree_of text ≡ Err fault) → IfOk r (IsUnread s) → IfOk r (IsUnderstanding names text)
unread names text s (Err m) bad is = tt
unread names text (stop.Bad fault) (Ok it) bad is =
    subst (λ (u : Understanding). IsUnderstanding names text u) (sym is) (no_query names text fault bad)
unread names text stop.Memory (Ok it) bad is = absurd is

-- what is understood of the lines with a tree on which the binder stops so
pub unfit : (names : List Bytes) (q : Query) (s : Stop BindFault) (r : Result Understanding Memory)
    → IfBad s (λ fault. bound_of names q ≡ Err fault) → IfOk r (IsUnbound s) → IfOk r (IsUnderstandingOf names q)
unfit names q s (Err m) bad is = tt
unfit names q (stop.Bad fault) (Ok it) bad is = record {
  each = λ text read. subst (λ (u : Understanding). IsUnderstanding names text u) (sym is) (unbound names text q fault read bad);
}
unfit names q stop.Memory (Ok it) bad is = absurd is

-- what is understood of each line with this tree, of a line that has it
pub of_line : (names : List Bytes) (text : Bytes) (tree : Query) (r : Result Understanding Memory) → tree_of text ≡ Ok tree
    → IfOk r (IsUnderstandingOf names tree) → IfOk r (IsUnderstanding names text)
of_line names text tree (Ok u) read is = is.each text read
of_line names text tree (Err m) read is = tt
