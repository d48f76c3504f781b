-- Reading is the grammar: what is read of a text is what its tokens spell.
use Rattle.std.proofs.Common.{append-nil, ◌≡◌, ℕ, List, [], ◌∷◌, refl, ap, ◌∙◌, subst, Bool, true, false, Option}
use Rattle.std.proofs.Common.{None, Some, length, cond, nat_lt, Result, Ok, Err}
use Rattle.sql_token.specs.Faults.{TokenFault, TooMany}
use Rattle.sql_token.specs.Tokens.{tokens_of, tokens_from, too_deep, within_limits, if_flat, and_then}
use Rattle.sql_token.specs.declared.token.Token.{Token}
use Rattle.sql_tree.specs.declared.query.Query.{Query}
use Rattle.sql_tree.specs.declared.query.Selection.{Selection}
use Rattle.sql_rules.proofs.AgainQuery.{query_again}
use Rattle.sql_rules.proofs.FoundQuery.{StarAt, query_takes}
use Rattle.sql_rules.proofs.Tokens.{maybe_takes}
use Rattle.sql_rules.proofs.Within.{within, within_tokens}
use Rattle.sql_rules.specs.Laws.{Writes, OneTree, SyntaxIsNothing}
use Rattle.sql_rules.specs.declared.fault.SqlFault.{SqlFault}
use Rattle.sql_rules.specs.Symbols.{of_sign, symbols, Symbol, OfSign}
use Rattle.sql_rules.specs.Queries.{spell_query, second_span, StarStands, Spells}
use Rattle.sql_rules.specs.Readers.{maybe_at, Answer, Got, Stuck}
use Rattle.sql_rules.specs.Spelling.{optional}
use Rattle.sql_rules.specs.Trees.{query_at, nothing_left, whole, query_of, or_syntax, tree_from, tree_of}
use Rattle.sql_token.specs.declared.sign.Sign.TheVariants as sign
use Rattle.sql_tree.specs.declared.query.Selection.TheVariants as selection

left : (q r : Query) (rest : List Symbol) → nothing_left q rest ≡ Some r → (rest ≡ []) × (q ≡ r)
left q r [] e = (refl, cc)
left q r (p ∷ ps) e = absurd cc

is_whole : (a : Answer Query) (q : Query) → whole a ≡ Some q → (b : Bool) × (a ≡ Got q (optional b (of_sign sign.Semicolon)))
is_whole (Got r rest) q e =
    let l = left r q (maybe_at (OfSign sign.Semicolon) rest).1 e in
    let m : rest ≡ optional (maybe_at (OfSign sign.Semicolon) rest).0 (of_sign sign.Semicolon) = maybe_takes (OfSign sign.Semicolon) rest ∙ rw l.0 (append-nil (optional (maybe_at (OfSign sign.Semicolon) rest).0 (of_sign sign.Semicolon))) in
    ((maybe_at (OfSign sign.Semicolon) rest).0, rw (← l.1) (ap (λ t. Got r t) m))
is_whole Stuck q e = absurd cc

is_ok : (o : Option Query) (q : Query) → or_syntax o ≡ Ok q → o ≡ Some q
is_ok (Some r) q e = cc
is_ok None q e = absurd cc

stands : (ts : List Token) (x : Selection) → StarAt (second_span ts) x → StarStands ts x
stands ts (selection.Star span) h = h
stands ts (selection.List l) h = tt

stood : (ts : List Token) (x : Selection) → StarStands ts x → StarAt (second_span ts) x
stood ts (selection.Star span) h = h
stood ts (selection.List l) h = tt

found : (text : List ℕ) (ts : List Token) (q : Query) → tokens_of text ≡ Ok ts → tree_of text ≡ Ok q → Spells text ts q
unfolding tree_of query_of spell_query
found text ts q tokens e =
    let tree : or_syntax (whole (query_at (second_span ts) (symbols text ts))) ≡ Ok q = subst (λ r. tree_from text r ≡ Ok q) tokens e in
    let w = is_whole (query_at (second_span ts) (symbols text ts)) q (is_ok (whole (query_at (second_span ts) (symbols text ts))) q tree) in
    let t = query_takes (second_span ts) (symbols text ts) q (optional w.0 (of_sign sign.Semicolon)) w.1 in
    record {
      words = record { first_as = t.first_as; second_as = t.second_as; asc = t.asc; semicolon = w.0 };
      spelled = t.text;
      columns = t.few;
      star = stands ts q.items t.star;
    }

ended : (b : Bool) (q : Query) → whole (Got q (optional b (of_sign sign.Semicolon))) ≡ Some q
ended true q = refl
ended false q = refl

-- the tokens of a text are nowhere too deep
flat : (r : Result (List Token) TokenFault) (ts : List Token) → and_then r within_limits ≡ Ok ts → too_deep 0 ts ≡ None
flat (Err why) ts e = absurd cc
flat (Ok us) ts e = many (nat_lt 2048 (length us)) e where
  few : (o : Option ℕ) → if_flat us o ≡ Ok ts → too_deep 0 us ≡ o → too_deep 0 ts ≡ None
  few None h d = let same : us ≡ ts = cc in rw (← same) d
  few (Some place) h d = absurd cc

  many : (b : Bool) → cond b (Err TooMany) (if_flat us (too_deep 0 us)) ≡ Ok ts → too_deep 0 ts ≡ None
  many true h = absurd cc
  many false h = few (too_deep 0 us) h refl

only : (text : List ℕ) (ts : List Token) (q : Query) → tokens_of text ≡ Ok ts → Spells text ts q → tree_of text ≡ Ok q
unfolding tree_of query_of
only text ts q tokens s =
    let shallow : within 32 0 (spell_query s.words q) ≡ true = rw (← s.spelled) (within_tokens text 0 ts (flat (tokens_from 0 0 text) ts tokens)) in
    let is = query_again (second_span ts) s.words q s.columns (stood ts q.items s.star) shallow in
    let all : whole (query_at (second_span ts) (symbols text ts)) ≡ Some q = rw (s.spelled, is) (ended s.words.semicolon q) in
    rw (tokens, all) refl

written : (text : List ℕ) (r : Result (List Token) TokenFault) (q : Query) → tokens_of text ≡ r → tree_from text r ≡ Ok q → tree_of text ≡ Ok q → Writes text q
written text (Ok ts) q tokens e whole' = record { tokens = ts; are = tokens; spell = found text ts q tokens whole' }
written text (Err why) q tokens e whole' = absurd cc

pub read_is_written : (text : List ℕ) (q : Query) → tree_of text ≡ Ok q → Writes text q
unfolding tree_of
read_is_written text q e = written text (tokens_of text) q refl e e

pub written_is_read : (text : List ℕ) (q : Query) → Writes text q → tree_of text ≡ Ok q
written_is_read text q w = only text w.tokens q w.are w.spell

-- ---- one tree

-- an answer has one tree
same_ok : (a : Result Query SqlFault) (q r : Query) → a ≡ Ok q → a ≡ Ok r → q ≡ r
same_ok a q r x y = cc

-- a text writes at most one tree
pub one_tree : OneTree
one_tree text q r v w = same_ok (tree_of text) q r (written_is_read text q v) (written_is_read text r w)

-- no answer is a fault and a tree
no_both : (a : Result Query SqlFault) (why : SqlFault) (q : Query) → a ≡ Err why → a ≡ Ok q → ⊥
no_both a why q x y = absurd cc

-- where the fault is `Syntax`, a text writes no tree
pub nothing : SyntaxIsNothing
nothing text e q w = no_both (tree_of text) _ q e (written_is_read text q w)
