-- Where a space stands between two symbols, by what leads and what ends a part of a query.
use Rattle.std.proofs.Common.{◌≡◌, refl, Bool, true, false, not, ◌&&◌, ◌||◌, [], ◌∷◌, codes, if◌then◌else◌}
use Rattle.sql_token.specs.declared.keyword.Keyword.{Keyword}
use Rattle.sql_token.specs.declared.keyword.Keyword.TheVariants as keyword
use Rattle.sql_token.specs.declared.sign.Sign.TheVariants as sign
use Rattle.sql_rules.specs.Symbols.{Symbol, of_keyword, of_sign}
use Rattle.sql_rules.specs.PrintedExprs.{Bytes}
use Rattle.sql_rules.specs.Spelling.{Symbols}
use Rattle.print_rules.specs.Gaps.{is_lone_key, is_lone, is_open, is_close, gap, spaced_behind}
use Rattle.print_rules.specs.Spaced.{text_of, is_wordlike, is_comparison, may_touch, parted_behind}

-- the text of symbols behind one
abbrev pub behind : Symbol → Symbols → Bytes
behind p qs = text_of (spaced_behind p qs)

-- a space that may stand there
abbrev pub space : Bool → Bytes
space there = if there then codes " " else []

-- ---- each symbol is parted from the one before it

parted_by : (a b t : Bool) → (a || b || not t || t) ≡ true
parted_by true b t = refl
parted_by false true t = refl
parted_by false false true = refl
parted_by false false false = refl

-- since a space stands wherever it may not touch that one
pub parted : (p : Symbol) (qs : Symbols) → parted_behind p (spaced_behind p qs) ≡ true
unfolding gap
parted p [] = refl
parted p (q ∷ qs) = rw (parted_by (is_lone p && not (is_close q)) (is_lone q && not (is_open p)) (may_touch p q)) (parted q qs)

-- ---- what stands before a part of a query, and what ends it

-- A space stands behind the symbol just where it is a keyword, before any symbol that no space of its own has.
pub record Leads (p : Symbol) : Type 0 where
  pub is : (q : Symbol) → is_lone q ≡ false → is_close q ≡ false → is_comparison q ≡ false → gap p q ≡ is_lone p

-- The same, and before NOT.
pub record LeadsCond (p : Symbol) : Type 0 where
  pub leads : Leads p
  pub without : gap p (of_keyword keyword.Not) ≡ is_lone p

-- A space stands before keywords behind the symbol, and before no sign.
pub record Ends (l : Symbol) : Type 0 where
  pub sign' : (s : Symbol) → is_lone s ≡ false → is_wordlike s ≡ false → gap l s ≡ false
  pub key' : (k : Symbol) → is_lone k ≡ true → gap l k ≡ true

-- A space stands before keywords behind the symbol, and before no closing bracket.
pub record EndsCond (l : Symbol) : Type 0 where
  pub close : gap l (of_sign sign.Close) ≡ false
  pub key' : (k : Symbol) → is_lone k ≡ true → is_close k ≡ false → gap l k ≡ true

-- A space stands before names too.
pub record EndsName (l : Symbol) : Type 0 where
  pub ends : Ends l
  pub name' : (n : Symbol) → is_wordlike n ≡ true → gap l n ≡ true

lead_by : (a b c d : Bool) → ((a && true) || (false && b) || not (not (a && c) && not (d && false))) ≡ a
lead_by true b c d = refl
lead_by false b c true = refl
lead_by false b c false = refl

-- whatever is a keyword or a sign leads
pub leads : (p : Symbol) → is_wordlike p ≡ is_lone p → Leads p
unfolding gap
leads p same = record {
  is = λ q lone drop comp. rw (lone, drop, comp, same) (lead_by (is_lone p) (not (is_open p)) (is_wordlike q) (is_comparison p));
}

-- keywords and opening brackets lead conditions
pub leads_cond : (p : Symbol) → is_wordlike p ≡ is_lone p → not (is_open p) ≡ is_lone p → is_comparison p ≡ false → LeadsCond p
unfolding gap
leads_cond p same open' comp = record { leads = leads p same; without = rw (same, open', comp) (go (is_lone p)) } where
  go : (a : Bool) → ((a && true) || (true && a) || not (not (a && true) && not (false && false))) ≡ a
  go true = refl
  go false = refl

ends_by : (b c d : Bool) → ((false && b) || (false && c) || not (not (d && false) && not (false && c))) ≡ false
ends_by b c true = refl
ends_by b c false = refl

-- whatever is neither a keyword, nor an opening bracket, nor a comparison ends
pub ends : (l : Symbol) → is_lone l ≡ false → is_open l ≡ false → is_comparison l ≡ false → Ends l
unfolding gap
ends l lone open' comp = record {
  sign' = λ s a b. rw (lone, open', comp, a, b) (go (not (is_close s)) (is_wordlike l) (is_comparison s));
  key' = λ k a. rw (lone, open', comp, a) refl;
} where
  go : (b d c : Bool) → ((false && b) || (false && true) || not (not (d && false) && not (false && c))) ≡ false
  go b true c = refl
  go b false c = refl

-- what ends an expression ends a condition
pub also_cond : (l : Symbol) → Ends l → EndsCond l
also_cond l e = record { close = e.sign' (of_sign sign.Close) refl refl; key' = λ k a b. e.key' k a }

-- a keyword ends
pub ends_key : (k : Keyword) → is_lone_key k ≡ true → EndsCond (of_keyword k)
unfolding gap
ends_key k lone = record { close = rw lone refl; key' = λ q a b. rw (lone, b) refl }

-- a name ends
pub ends_name : (l : Symbol) → is_lone l ≡ false → is_open l ≡ false → is_comparison l ≡ false → is_wordlike l ≡ true → EndsName l
unfolding gap
ends_name l lone open' comp word = record { ends = ends l lone open' comp; name' = λ n a. rw (lone, open', comp, a, word) (go (not (is_close n)) (is_lone n)) } where
  go : (b c : Bool) → ((false && b) || (c && true) || not (not (true && true) && not (false && is_comparison l))) ≡ true
  go b true = refl
  go b false = refl
