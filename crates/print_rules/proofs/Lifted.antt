-- Symbols that are others but for their places: where those spell a part of a query, these spell the same part at other
-- places.
use Rattle.std.proofs.Common.{◌≡◌, refl, sym, ap, ◌∙◌, Bool, true, false, List, [], ◌∷◌, ◌++◌, map}
use Rattle.std.specs.List.{flat_map}
use Rattle.sql_token.specs.declared.sign.Sign.TheVariants as sign
use Rattle.sql_token.specs.declared.token.Span.{Span}
use Rattle.sql_tree.specs.Bare.{bare_name, nowhere}
use Rattle.sql_tree.specs.declared.cond.AreaKind.{AreaKind}
use Rattle.sql_tree.specs.declared.name.Name.{Name}
use Rattle.sql_rules.specs.Symbols.{Symbol, Named, Number, Adds, Compares, AreaName, Fixed, of_sign}
use Rattle.sql_rules.proofs.Opened.{flat_map-map}
use Rattle.sql_rules.specs.Spelling.{Symbols, optional, led_by, bracketed}
use Rattle.print_rules.specs.Spaced.{bare_symbol}
use Rattle.print_rules.proofs.Walks.{Each, each_map}

-- The symbols spell the part, but for places.
pub record Lifted {A : Type 0} (spell : A → Symbols) (out : A → A) (x : A) (ps : Symbols) : Type 0 where
  pub value : A
  pub spelled : ps ≡ spell value
  pub same : out value ≡ out x

abbrev pub Lifts : {A : Type 0} → (A → Symbols) → (A → A) → A → Type 0
Lifts spell out x = (ps : Symbols) → map bare_symbol ps ≡ spell (out x) → Lifted spell out x ps

-- ---- symbols one behind another

tails : (p q : Symbol) (ps qs : Symbols) → ◌≡◌ {A = Symbols} (p ∷ ps) (q ∷ qs) → ps ≡ qs
tails p q ps qs e = cc

heads : (p q : Symbol) (ps qs : Symbols) → ◌≡◌ {A = Symbols} (p ∷ ps) (q ∷ qs) → p ≡ q
heads p q ps qs e = cc

-- equal parts make equal lists
pub cons_both : {A : Type 0} (x y : A) (xs ys : List A) → x ≡ y → xs ≡ ys → ◌≡◌ {A = List A} (x ∷ xs) (y ∷ ys)
cons_both x y xs ys e f = rw (e, f) refl

pub append_both : (a b c d : Symbols) → a ≡ c → b ≡ d → a ++ b ≡ c ++ d
append_both a b c d e f = rw (e, f) refl

-- Two parts.
pub record Split (ps a b : Symbols) : Type 0 where
  pub front : Symbols
  pub back : Symbols
  pub whole : ps ≡ front ++ back
  pub first : map bare_symbol front ≡ a
  pub rest : map bare_symbol back ≡ b

-- symbols that are two parts but for places are two parts
pub split : (a b ps : Symbols) → map bare_symbol ps ≡ a ++ b → Split ps a b
split [] b ps e = record { front = []; back = ps; whole = refl; first = refl; rest = e }
split (x ∷ a) b [] e = absurd cc
split (x ∷ a) b (p ∷ ps) e =
    let more = split a b ps (tails (bare_symbol p) x (map bare_symbol ps) (a ++ b) e) in
    let head = heads (bare_symbol p) x (map bare_symbol ps) (a ++ b) e in
    record { front = p ∷ more.front; back = more.back; whole = ap (λ t. p ∷ t) more.whole; first = cons_both (bare_symbol p) x (map bare_symbol more.front) a head more.first; rest = more.rest }

-- no symbols
pub nothing_left : (ps : Symbols) → map bare_symbol ps ≡ [] → ps ≡ []
nothing_left [] e = refl
nothing_left (p ∷ ps) e = absurd cc

-- the symbol has no place
abbrev pub is_placeless : Symbol → Bool
is_placeless (Named n) = false
is_placeless (AreaName kind span) = false
is_placeless p = true

-- it is the same with or without places
no_place : (p q : Symbol) → is_placeless q ≡ true → bare_symbol p ≡ q → p ≡ q
no_place (Named n) q pl e = absurd (let f = ap is_placeless e in cc)
no_place (AreaName kind span) q pl e = absurd (let f = ap is_placeless e in cc)
no_place (Number n) q pl e = e
no_place (Adds b) q pl e = e
no_place (Compares op) q pl e = e
no_place (Fixed m) q pl e = e

-- What comes behind a front.
pub record Behind (front ps b : Symbols) : Type 0 where
  pub tail : Symbols
  pub whole : ps ≡ front ++ tail
  pub rest : map bare_symbol tail ≡ b

-- a front of one symbol, and of one that may stand there
pub headed : (q : Symbol) (b ps : Symbols) → is_placeless q ≡ true → map bare_symbol ps ≡ q ∷ b → Behind (q ∷ []) ps b
headed q b [] pl e = absurd cc
headed q b (p ∷ ps) pl e =
    let head = no_place p q pl (heads (bare_symbol p) q (map bare_symbol ps) b e) in
    record { tail = ps; whole = ap (λ t. t ∷ ps) head; rest = tails (bare_symbol p) q (map bare_symbol ps) b e }

pub optional_front : (m : Bool) (q : Symbol) (b ps : Symbols) → is_placeless q ≡ true → map bare_symbol ps ≡ optional m q ++ b → Behind (optional m q) ps b
optional_front true q b ps pl e = headed q b ps pl e
optional_front false q b ps pl e = record { tail = ps; whole = refl; rest = e }

-- the last symbol
pub last_symbol : (q : Symbol) (ps : Symbols) → is_placeless q ≡ true → map bare_symbol ps ≡ q ∷ [] → ps ≡ q ∷ []
last_symbol q ps pl e = let h = headed q [] ps pl e in h.whole ∙ ap (λ t. q ∷ t) (nothing_left h.tail h.rest)

-- A name, and what comes behind it.
pub record Worded (n : Name) (ps b : Symbols) : Type 0 where
  pub name : Name
  pub tail : Symbols
  pub whole : ps ≡ Named name ∷ tail
  pub same : bare_name name ≡ bare_name n
  pub rest : map bare_symbol tail ≡ b

same_word : (m n : Name) → ◌≡◌ {A = Symbol} (Named m) (Named n) → m ≡ n
same_word m n e = cc

-- symbols that begin with a name but for places begin with a name
pub worded : (n : Name) (b ps : Symbols) → map bare_symbol ps ≡ Named (bare_name n) ∷ b → Worded n ps b
worded n b [] e = absurd cc
worded n b (Named m ∷ ps) e = record {
  name = m;
  tail = ps;
  whole = refl;
  same = same_word (bare_name m) (bare_name n) (heads (Named (bare_name m)) (Named (bare_name n)) (map bare_symbol ps) b e);
  rest = tails (Named (bare_name m)) (Named (bare_name n)) (map bare_symbol ps) b e;
}
worded n b (AreaName kind span ∷ ps) e = absurd cc
worded n b (Number k ∷ ps) e = absurd cc
worded n b (Adds m ∷ ps) e = absurd cc
worded n b (Compares op ∷ ps) e = absurd cc
worded n b (Fixed m ∷ ps) e = absurd cc

-- An area word, and what comes behind it.
pub record Placed (kind : AreaKind) (ps b : Symbols) : Type 0 where
  pub span : Span
  pub tail : Symbols
  pub whole : ps ≡ AreaName kind span ∷ tail
  pub rest : map bare_symbol tail ≡ b

same_kind : (k l : AreaKind) (s t : Span) → ◌≡◌ {A = Symbol} (AreaName k s) (AreaName l t) → k ≡ l
same_kind k l s t e = cc

-- and so with an area word
pub placed : (kind : AreaKind) (b ps : Symbols) → map bare_symbol ps ≡ AreaName kind nowhere ∷ b → Placed kind ps b
placed kind b [] e = absurd cc
placed kind b (AreaName k span ∷ ps) e = record {
  span = span;
  tail = ps;
  whole = ap (λ t. AreaName t span ∷ ps) (same_kind k kind nowhere nowhere (heads (AreaName k nowhere) (AreaName kind nowhere) (map bare_symbol ps) b e));
  rest = tails (AreaName k nowhere) (AreaName kind nowhere) (map bare_symbol ps) b e;
}
placed kind b (Named m ∷ ps) e = absurd cc
placed kind b (Number k ∷ ps) e = absurd cc
placed kind b (Adds m ∷ ps) e = absurd cc
placed kind b (Compares op ∷ ps) e = absurd cc
placed kind b (Fixed m ∷ ps) e = absurd cc

-- What stands in brackets.
pub record Inside (ps a : Symbols) : Type 0 where
  pub inner : Symbols
  pub whole : ps ≡ bracketed inner
  pub is : map bare_symbol inner ≡ a

-- and so with brackets
pub inside : (a ps : Symbols) → map bare_symbol ps ≡ bracketed a → Inside ps a
inside a ps e =
    let open' = headed (of_sign sign.Open) (a ++ (of_sign sign.Close ∷ [])) ps refl e in
    let two = split a (of_sign sign.Close ∷ []) open'.tail open'.rest in
    let close = last_symbol (of_sign sign.Close) two.back refl two.rest in
    record { inner = two.front; whole = open'.whole ∙ ap (λ t. of_sign sign.Open ∷ t) (two.whole ∙ ap (λ t. two.front ++ t) close); is = two.first }

-- ---- several

-- where each spells its part, all spell all parts
pub each_lifts : {A : Type 0} (spell : A → Symbols) (out : A → A) (xs : List A) → Each (Lifts spell out) xs → (ps : Symbols) → map bare_symbol ps ≡ flat_map (λ x. spell (out x)) xs → Lifted (flat_map spell) (map out) xs ps
each_lifts spell out [] each ps e = record { value = []; spelled = nothing_left ps e; same = refl }
each_lifts spell out (x ∷ xs) each ps e =
    let two = split (spell (out x)) (flat_map (λ y. spell (out y)) xs) ps e in
    let one = each.0 two.front two.first in
    let more = each_lifts spell out xs each.1 two.back two.rest in
    record { value = one.value ∷ more.value; spelled = two.whole ∙ append_both two.front two.back (spell one.value) (flat_map spell more.value) one.spelled more.spelled; same = cons_both (out one.value) (out x) (map out more.value) (map out xs) one.same more.same }

-- a part behind one symbol that has no place
pub led_lifts : {A : Type 0} (q : Symbol) (spell : A → Symbols) (out : A → A) (x : A) → is_placeless q ≡ true → Lifts spell out x → Lifts (λ y. q ∷ spell y) out x
led_lifts q spell out x pl h ps e =
    let first = headed q (spell (out x)) ps pl e in
    let one = h first.tail first.rest in
    record { value = one.value; spelled = first.whole ∙ ap (λ t. q ∷ t) one.spelled; same = one.same }

-- several parts, each behind one and the same symbol
pub led_list_lifts : {A : Type 0} (q : Symbol) (spell : A → Symbols) (out : A → A) (xs : List A) → is_placeless q ≡ true → Each (Lifts spell out) xs → (ps : Symbols) → map bare_symbol ps ≡ led_by q (map spell (map out xs)) → Lifted (λ ys. led_by q (map spell ys)) (map out) xs ps
led_list_lifts q spell out xs pl each ps e =
    let flat = flat_map-map (λ t. q ∷ t) spell (map out xs) ∙ flat_map-map (λ x. q ∷ spell x) out xs in
    let all = each_lifts (λ x. q ∷ spell x) out xs (each_map (Lifts spell out) (Lifts (λ x. q ∷ spell x) out) (λ x h. led_lifts q spell out x pl h) xs each) ps (e ∙ flat) in
    record { value = all.value; spelled = all.spelled ∙ sym (flat_map-map (λ t. q ∷ t) spell all.value); same = all.same }
