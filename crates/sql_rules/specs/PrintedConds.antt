-- The printed texts of conditions.
use Rattle.std.specs.Prelude.{◌++◌, map, codes}
use Rattle.std.specs.Fmt.{signed_decimal}
use Rattle.sql_tree.specs.Bare.{is_minus}
use Rattle.sql_tree.specs.declared.cond.AreaKind.{AreaKind}
use Rattle.sql_tree.specs.declared.cond.AreaKind.TheVariants as area
use Rattle.sql_tree.specs.declared.cond.Cmp.{Cmp}
use Rattle.sql_tree.specs.declared.cond.Cmp.TheVariants as cmp
use Rattle.sql_tree.specs.declared.cond.Cond.{Cond}
use Rattle.sql_tree.specs.declared.cond.Conj.{Conj}
use Rattle.sql_tree.specs.declared.cond.IntList.{IntList}
use Rattle.sql_tree.specs.declared.cond.Neg.{Neg}
use Rattle.sql_tree.specs.declared.cond.Pred.{Pred}
use Rattle.sql_tree.specs.declared.cond.Pred.TheFolds.{fold-Cond, fold-Conj, fold-Neg, fold-Pred}
use Rattle.sql_tree.specs.declared.cond.Pred.TheOpen.{Cond-F, Conj-F, Neg-F, Pred-F}
use Rattle.sql_tree.specs.declared.cond.SignedInt.{SignedInt}
use Rattle.sql_rules.specs.SpellingConds.{chord_op}
use Rattle.sql_rules.specs.PrintedExprs.{Bytes, text_if, behind_each, in_brackets, print_expr}

-- the text of an integer of a list, with its sign; a zero has none
abbrev pub print_int : SignedInt → Bytes
print_int i = text_if (is_minus i) (codes "-") ++ signed_decimal i.size

-- the text of integers in brackets
abbrev pub print_ints : IntList → Bytes
print_ints l = in_brackets (print_int l.first ++ behind_each (codes ",") (map print_int l.rest))

-- the text of a comparison operator
abbrev pub print_cmp : Cmp → Bytes
print_cmp cmp.Equal = codes "="
print_cmp cmp.Differs = codes "<>"
print_cmp cmp.Less = codes "<"
print_cmp cmp.AtMost = codes "<="
print_cmp cmp.More = codes ">"
print_cmp cmp.AtLeast = codes ">="

-- the name of an area function
abbrev pub print_area : AreaKind → Bytes
print_area area.Band = codes "area_band"
print_area area.Cap = codes "area_cap"
print_area area.Boxed = codes "area_box"

-- the text of a predicate, given the texts of its conditions
abbrev pub print_pred_step : Pred-F Bytes Bytes Bytes Bytes → Bytes
print_pred_step (Pred-F.Bracket c) = in_brackets c
print_pred_step (Pred-F.Compare left op right) = print_expr left ++ print_cmp op ++ print_expr right
print_pred_step (Pred-F.Between not value low high) =
    print_expr value ++ text_if not (codes " NOT") ++ codes " BETWEEN " ++ print_expr low
    ++ codes " AND " ++ print_expr high
print_pred_step (Pred-F.Among not value list) =
    print_expr value ++ text_if not (codes " NOT") ++ codes " IN " ++ print_ints list
print_pred_step (Pred-F.IsNull not value) =
    print_expr value ++ codes " IS" ++ text_if not (codes " NOT") ++ codes " NULL"
print_pred_step (Pred-F.Area kind span args) = print_area kind ++ print_ints args
print_pred_step (Pred-F.Chord left right strict n) =
    codes "chord2" ++ in_brackets (left.text ++ codes "," ++ right.text) ++ print_cmp (chord_op strict)
    ++ signed_decimal n

-- the text of a condition, given the texts of its parts
abbrev pub print_cond_step : Cond-F Bytes Bytes Bytes Bytes → Bytes
print_cond_step c = c.first ++ behind_each (codes " OR ") c.rest

-- the text of a conjunction, given the texts of its parts
abbrev pub print_conj_step : Conj-F Bytes Bytes Bytes Bytes → Bytes
print_conj_step c = c.first ++ behind_each (codes " AND ") c.rest

-- the text of a predicate with or without NOT, given the text of the predicate
abbrev pub print_neg_step : Neg-F Bytes Bytes Bytes Bytes → Bytes
print_neg_step n = text_if n.not (codes "NOT ") ++ n.pred

-- the text of a condition
unfoldable pub print_cond : Cond → Bytes
print_cond = fold-Cond Bytes Bytes Bytes Bytes print_pred_step print_cond_step print_conj_step print_neg_step

-- the text of a conjunction
unfoldable pub print_conj : Conj → Bytes
print_conj = fold-Conj Bytes Bytes Bytes Bytes print_pred_step print_cond_step print_conj_step print_neg_step

-- the text of a predicate with or without NOT
unfoldable pub print_neg : Neg → Bytes
print_neg = fold-Neg Bytes Bytes Bytes Bytes print_pred_step print_cond_step print_conj_step print_neg_step

-- the text of a predicate
unfoldable pub print_pred : Pred → Bytes
print_pred = fold-Pred Bytes Bytes Bytes Bytes print_pred_step print_cond_step print_conj_step print_neg_step
