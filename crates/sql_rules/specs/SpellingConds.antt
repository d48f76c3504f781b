-- The symbols that spell a condition: one equation for each rule of the grammar.
use Rattle.std.specs.Prelude.{[], ◌∷◌, ◌++◌, Bool, if◌then◌else◌, map, true}
use Rattle.sql_token.specs.declared.keyword.Keyword.TheVariants as keyword
use Rattle.sql_token.specs.declared.sign.Sign.TheVariants as sign
use Rattle.sql_tree.specs.declared.cond.Cmp.{Cmp}
use Rattle.sql_tree.specs.declared.cond.Cmp.TheVariants as cmp
use Rattle.sql_tree.specs.declared.cond.Cond.{Cond}
use Rattle.sql_tree.specs.declared.cond.Conj.{Conj}
use Rattle.sql_tree.specs.declared.cond.IntList.{IntList}
use Rattle.sql_tree.specs.declared.cond.Neg.{Neg}
use Rattle.sql_tree.specs.declared.cond.Pred.{Pred}
use Rattle.sql_tree.specs.declared.cond.Pred.TheFolds.{fold-Cond, fold-Conj, fold-Neg, fold-Pred}
use Rattle.sql_tree.specs.declared.cond.Pred.TheOpen.{Cond-F, Conj-F, Neg-F, Pred-F}
use Rattle.sql_tree.specs.declared.cond.SignedInt.{SignedInt}
use Rattle.sql_rules.specs.Symbols.{Named, Number, Adds, Compares, AreaName, of_keyword, of_sign}
use Rattle.sql_rules.specs.Spelling.{Symbols, optional, led_by, bracketed, spell_expr}

-- sint = [-] int
abbrev pub spell_int : SignedInt → Symbols
spell_int i = optional i.minus (Adds true) ++ (Number i.size ∷ [])

-- ( sint {, sint} )
abbrev pub spell_ints : IntList → Symbols
spell_ints l = bracketed (spell_int l.first ++ led_by (of_sign sign.Comma) (map spell_int l.rest))

-- (<= | <)
abbrev pub chord_op : Bool → Cmp
chord_op strict = if strict then cmp.Less else cmp.AtMost

-- pred, in its seven kinds
abbrev pub at_pred : Pred-F Symbols Symbols Symbols Symbols → Symbols
at_pred (Pred-F.Bracket c) = bracketed c
at_pred (Pred-F.Compare left op right) = spell_expr left ++ (Compares op ∷ spell_expr right)
at_pred (Pred-F.Between not value low high) =
    spell_expr value ++ (optional not (of_keyword keyword.Not) ++ (of_keyword keyword.Between ∷
    (spell_expr low ++ (of_keyword keyword.And ∷ spell_expr high))))
at_pred (Pred-F.Among not value list) =
    spell_expr value ++ (optional not (of_keyword keyword.Not) ++ (of_keyword keyword.In ∷ spell_ints list))
at_pred (Pred-F.IsNull not value) =
    spell_expr value ++ (of_keyword keyword.Is ∷ (optional not (of_keyword keyword.Not)
    ++ (of_keyword keyword.Null ∷ [])))
at_pred (Pred-F.Area kind span args) = AreaName kind span ∷ spell_ints args
at_pred (Pred-F.Chord left right strict n) =
    of_keyword keyword.Chord2 ∷ (bracketed (Named left ∷ of_sign sign.Comma ∷ Named right ∷ [])
    ++ (Compares (chord_op strict) ∷ Number n ∷ []))

-- neg = [NOT] pred
abbrev pub at_neg : Neg-F Symbols Symbols Symbols Symbols → Symbols
at_neg n = optional n.not (of_keyword keyword.Not) ++ n.pred

-- conj = neg {AND neg}
abbrev pub at_conj : Conj-F Symbols Symbols Symbols Symbols → Symbols
at_conj c = c.first ++ led_by (of_keyword keyword.And) c.rest

-- cond = conj {OR conj}
abbrev pub at_cond : Cond-F Symbols Symbols Symbols Symbols → Symbols
at_cond c = c.first ++ led_by (of_keyword keyword.Or) c.rest

-- the symbols of a condition
abbrev pub spell_cond : Cond → Symbols
spell_cond = fold-Cond Symbols Symbols Symbols Symbols at_pred at_cond at_conj at_neg

-- the symbols of a conjunction
abbrev pub spell_conj : Conj → Symbols
spell_conj = fold-Conj Symbols Symbols Symbols Symbols at_pred at_cond at_conj at_neg

-- the symbols of a predicate, with the NOT before it
abbrev pub spell_neg : Neg → Symbols
spell_neg = fold-Neg Symbols Symbols Symbols Symbols at_pred at_cond at_conj at_neg

-- the symbols of a predicate
abbrev pub spell_pred : Pred → Symbols
spell_pred = fold-Pred Symbols Symbols Symbols Symbols at_pred at_cond at_conj at_neg
