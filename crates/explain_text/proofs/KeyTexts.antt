-- How an expression over the keys of a group is written, part by part.
use Rattle.std.proofs.Common.{codes, ◌≡◌, ℤ, List, [], ◌++◌, map, sym, ap, ◌∙◌}
use Rattle.std.specs.Fmt.{signed_decimal}
use Rattle.std.specs.Prelude.{if◌then◌else◌}
use Rattle.sql_bound.specs.declared.expr.BoundAtom.TheFolds.{fold_out-BoundExpr, fold_out-BoundFactor, fold_out-BoundProd, fold_out-BoundSigned}
use Rattle.sql_bound.specs.declared.expr.BoundAtom.TheFolds.{fold-roll-BoundAtom}
use Rattle.sql_bound.specs.declared.expr.BoundAtom.TheOpen.{BoundAtom-F}
use Rattle.sql_bound.specs.declared.expr.BoundAtom.TheVariants as atom
use Rattle.sql_bound.specs.declared.expr.BoundCol.{BoundCol}
use Rattle.sql_bound.specs.declared.expr.BoundExpr.{BoundExpr, out-BoundExpr}
use Rattle.sql_bound.specs.declared.expr.BoundFactor.{BoundFactor, out-BoundFactor}
use Rattle.sql_bound.specs.declared.expr.BoundProd.{BoundProd, out-BoundProd}
use Rattle.sql_bound.specs.declared.expr.BoundSigned.{BoundSigned, out-BoundSigned}
use Rattle.sql_rules.specs.PrintedExprs.{Bytes, behind_each, in_brackets, text_if}
use Rattle.answer_rules.specs.Rewriting.{key_place}
use Rattle.transcript_rules.specs.ColumnNames.{column_name}
use Rattle.transcript_rules.specs.MergeLines.{factor_text, key_atom, key_expr_text, product_text, signed_text, sum_text}
use Rattle.explain_text.specs.Explaining.{key_atom_text, key_factor_text, key_prod_text, key_signed_text}

pub expr_parts : (keys : List BoundCol) (e : BoundExpr)
    → key_expr_text keys e ≡ key_prod_text keys (out-BoundExpr e).first ++ behind_each [] (map (key_signed_text keys) (out-BoundExpr e).rest)
unfolding key_atom_text key_expr_text key_factor_text key_prod_text key_signed_text
expr_parts keys e = fold_out-BoundExpr Bytes Bytes Bytes Bytes Bytes (key_atom keys) sum_text factor_text product_text signed_text e

pub prod_parts : (keys : List BoundCol) (p : BoundProd)
    → key_prod_text keys p ≡ key_factor_text keys (out-BoundProd p).first ++ behind_each (codes "*") (map (key_factor_text keys) (out-BoundProd p).rest)
unfolding key_atom_text key_expr_text key_factor_text key_prod_text key_signed_text
prod_parts keys p = fold_out-BoundProd Bytes Bytes Bytes Bytes Bytes (key_atom keys) sum_text factor_text product_text signed_text p

pub signed_parts : (keys : List BoundCol) (s : BoundSigned)
    → key_signed_text keys s ≡ (if (out-BoundSigned s).minus then codes "-" else codes "+") ++ key_prod_text keys (out-BoundSigned s).prod
unfolding key_atom_text key_expr_text key_factor_text key_prod_text key_signed_text
signed_parts keys s = fold_out-BoundSigned Bytes Bytes Bytes Bytes Bytes (key_atom keys) sum_text factor_text product_text signed_text s

pub factor_parts : (keys : List BoundCol) (f : BoundFactor)
    → key_factor_text keys f ≡ text_if (out-BoundFactor f).minus (codes "-") ++ key_atom_text keys (out-BoundFactor f).atom
unfolding key_atom_text key_expr_text key_factor_text key_prod_text key_signed_text
factor_parts keys f = fold_out-BoundFactor Bytes Bytes Bytes Bytes Bytes (key_atom keys) sum_text factor_text product_text signed_text f

pub int_atom : (keys : List BoundCol) (n : ℤ) → key_atom_text keys (atom.Int n) ≡ signed_decimal n
unfolding key_atom_text key_expr_text
int_atom keys n = ap (key_atom_text keys) (sym (atom.rolls-Int n)) ∙ fold-roll-BoundAtom Bytes Bytes Bytes Bytes Bytes (key_atom keys) sum_text factor_text product_text signed_text (BoundAtom-F.Int n)

pub col_atom : (keys : List BoundCol) (c : BoundCol) → key_atom_text keys (atom.Col c) ≡ column_name (key_place keys c)
unfolding key_atom_text key_expr_text
col_atom keys c = ap (key_atom_text keys) (sym (atom.rolls-Col c)) ∙ fold-roll-BoundAtom Bytes Bytes Bytes Bytes Bytes (key_atom keys) sum_text factor_text product_text signed_text (BoundAtom-F.Col c)

pub bracket_atom : (keys : List BoundCol) (e : BoundExpr) → key_atom_text keys (atom.Bracket e) ≡ in_brackets (key_expr_text keys e)
unfolding key_atom_text key_expr_text
bracket_atom keys e = ap (key_atom_text keys) (sym (atom.rolls-Bracket e)) ∙ fold-roll-BoundAtom Bytes Bytes Bytes Bytes Bytes (key_atom keys) sum_text factor_text product_text signed_text (BoundAtom-F.Bracket e)
