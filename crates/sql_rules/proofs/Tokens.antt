-- Single tokens, and steps of a reading.
use Rattle.std.proofs.Common.{◌≡◌, ℕ, suc, zero, ◌≤◌, List, [], ◌∷◌, ◌++◌, map, refl, sym, ap, ◌∙◌, Bool, true, false}
use Rattle.std.proofs.Common.{append_assoc, arith, length, cond, drop}
use Rattle.std.specs.List.{flat_map}
use Rattle.sql_tree.specs.declared.cond.Cmp.{Cmp}
use Rattle.sql_tree.specs.declared.name.Name.{Name}
use Rattle.sql_rules.proofs.Nesting.{most}
use Rattle.sql_rules.specs.Marks.{mark_number, same_mark}
use Rattle.sql_rules.specs.Symbols.{Mark, Symbol, OfKeyword, OfSign, Named, Number, Adds, Compares, AreaName, Fixed}
use Rattle.sql_rules.specs.Readers.{Reader, ◌>>=◌, either, mark_at, name_at, number_at, adds_at, cmp_at, area_at}
use Rattle.sql_rules.specs.Readers.{minus_at, maybe_mark, maybe_at, many, Answer, AreaWord, Got, Stuck}
use Rattle.sql_rules.specs.Spelling.{Symbols, optional}
use Rattle.sql_token.specs.declared.keyword.Keyword.TheVariants as keyword
use Rattle.sql_token.specs.declared.sign.Sign.TheVariants as sign

pub bind_got : {A B P : Type 0} (o : Answer A) (f : A → Reader B) (y : B) (rest : List Symbol) → (o >>= f) ≡ Got y rest → ((x : A) (ts : List Symbol) → o ≡ Got x ts → f x ts ≡ Got y rest → P) → P
bind_got (Got x ts) f y rest e go = go x ts refl e
bind_got Stuck f y rest e go = absurd cc

pub either_got : {A B P : Type 0} (o : Answer A) (f : A → Reader B) (other : Answer B) (y : B) (rest : List Symbol) → either o f other ≡ Got y rest → ((x : A) (ts : List Symbol) → o ≡ Got x ts → f x ts ≡ Got y rest → P) → (o ≡ Stuck → other ≡ Got y rest → P) → P
either_got (Got x ts) f other y rest e go or_go = go x ts refl e
either_got Stuck f other y rest e go or_go = or_go refl e

-- one part after another
pub takes_both : (ts a us b rest : List Symbol) → ts ≡ a ++ us → us ≡ b ++ rest → ts ≡ a ++ b ++ rest
takes_both ts a us b rest first later = first ∙ ap (λ t. a ++ t) later ∙ sym (append_assoc a b rest)

-- all marks, in the order of their numbers
all_marks : List Mark
all_marks = OfKeyword keyword.Select ∷ OfKeyword keyword.From ∷ OfKeyword keyword.Where ∷ OfKeyword keyword.Group ∷ OfKeyword keyword.By ∷ OfKeyword keyword.Order ∷ OfKeyword keyword.Asc ∷ OfKeyword keyword.Desc ∷ OfKeyword keyword.Limit ∷ OfKeyword keyword.As ∷ OfKeyword keyword.And ∷ OfKeyword keyword.Or ∷ OfKeyword keyword.Not ∷ OfKeyword keyword.Between ∷ OfKeyword keyword.In ∷ OfKeyword keyword.Is ∷ OfKeyword keyword.Null ∷ OfKeyword keyword.Count ∷ OfKeyword keyword.Sum ∷ OfKeyword keyword.Min ∷ OfKeyword keyword.Max ∷ OfKeyword keyword.Avg ∷ OfKeyword keyword.Chord2 ∷ OfKeyword keyword.AreaBand ∷ OfKeyword keyword.AreaCap ∷ OfKeyword keyword.AreaBox ∷ OfSign sign.AtMost ∷ OfSign sign.AtLeast ∷ OfSign sign.Differs ∷ OfSign sign.Less ∷ OfSign sign.More ∷ OfSign sign.Equal ∷ OfSign sign.Comma ∷ OfSign sign.Open ∷ OfSign sign.Close ∷ OfSign sign.Star ∷ OfSign sign.Plus ∷ OfSign sign.Minus ∷ OfSign sign.Dot ∷ OfSign sign.Semicolon ∷ []

-- the mark of a number
mark_of : ℕ → List Mark
unfolding all_marks
mark_of n = drop n all_marks

front : List Mark → Mark
front [] = OfKeyword keyword.Select
front (m ∷ ms) = m

mark_of_number : (m : Mark) → front (mark_of (mark_number m)) ≡ m
unfolding all_marks mark_of front
mark_of_number (OfKeyword keyword.Select) = refl
mark_of_number (OfKeyword keyword.From) = refl
mark_of_number (OfKeyword keyword.Where) = refl
mark_of_number (OfKeyword keyword.Group) = refl
mark_of_number (OfKeyword keyword.By) = refl
mark_of_number (OfKeyword keyword.Order) = refl
mark_of_number (OfKeyword keyword.Asc) = refl
mark_of_number (OfKeyword keyword.Desc) = refl
mark_of_number (OfKeyword keyword.Limit) = refl
mark_of_number (OfKeyword keyword.As) = refl
mark_of_number (OfKeyword keyword.And) = refl
mark_of_number (OfKeyword keyword.Or) = refl
mark_of_number (OfKeyword keyword.Not) = refl
mark_of_number (OfKeyword keyword.Between) = refl
mark_of_number (OfKeyword keyword.In) = refl
mark_of_number (OfKeyword keyword.Is) = refl
mark_of_number (OfKeyword keyword.Null) = refl
mark_of_number (OfKeyword keyword.Count) = refl
mark_of_number (OfKeyword keyword.Sum) = refl
mark_of_number (OfKeyword keyword.Min) = refl
mark_of_number (OfKeyword keyword.Max) = refl
mark_of_number (OfKeyword keyword.Avg) = refl
mark_of_number (OfKeyword keyword.Chord2) = refl
mark_of_number (OfKeyword keyword.AreaBand) = refl
mark_of_number (OfKeyword keyword.AreaCap) = refl
mark_of_number (OfKeyword keyword.AreaBox) = refl
mark_of_number (OfSign sign.AtMost) = refl
mark_of_number (OfSign sign.AtLeast) = refl
mark_of_number (OfSign sign.Differs) = refl
mark_of_number (OfSign sign.Less) = refl
mark_of_number (OfSign sign.More) = refl
mark_of_number (OfSign sign.Equal) = refl
mark_of_number (OfSign sign.Comma) = refl
mark_of_number (OfSign sign.Open) = refl
mark_of_number (OfSign sign.Close) = refl
mark_of_number (OfSign sign.Star) = refl
mark_of_number (OfSign sign.Plus) = refl
mark_of_number (OfSign sign.Minus) = refl
mark_of_number (OfSign sign.Dot) = refl
mark_of_number (OfSign sign.Semicolon) = refl

pub same_mark-true : (a b : Mark) → same_mark a b ≡ true → a ≡ b
same_mark-true a b e = sym (mark_of_number a) ∙ ap (λ n. front (mark_of n)) (grind (arith, e)) ∙ mark_of_number b

pub same_mark-same : (a : Mark) → same_mark a a ≡ true
same_mark-same a = grind arith

-- a test that was met
chosen : {A : Type 0} (b : Bool) (x y : A) (ts rest : List Symbol) → cond b (Got x ts) Stuck ≡ Got y rest → (b ≡ true) × (x ≡ y) × (ts ≡ rest)
chosen true x y ts rest e = (refl, cc, cc)
chosen false x y ts rest e = absurd cc

pub mark_takes : (m : Mark) (ts : List Symbol) (k : Mark) (rest : List Symbol) → mark_at m ts ≡ Got k rest → ts ≡ Fixed m ∷ rest
mark_takes m [] k rest e = absurd cc
mark_takes m (Fixed j ∷ ts) k rest e = let g = chosen (same_mark m j) m k ts rest e in let s = same_mark-true m j g.0 in cc
mark_takes m (Named x ∷ ts) k rest e = absurd cc
mark_takes m (Number x ∷ ts) k rest e = absurd cc
mark_takes m (Adds x ∷ ts) k rest e = absurd cc
mark_takes m (Compares x ∷ ts) k rest e = absurd cc
mark_takes m (AreaName x span ∷ ts) k rest e = absurd cc

pub name_takes : (ts : List Symbol) (x : Name) (rest : List Symbol) → name_at ts ≡ Got x rest → ts ≡ Named x ∷ rest
name_takes (Named y ∷ ts) x rest e = cc
name_takes _ x rest e = absurd cc

pub number_takes : (ts : List Symbol) (x : _) (rest : List Symbol) → number_at ts ≡ Got x rest → ts ≡ Number x ∷ rest
number_takes (Number y ∷ ts) x rest e = cc
number_takes _ x rest e = absurd cc

pub adds_takes : (ts : List Symbol) (x : Bool) (rest : List Symbol) → adds_at ts ≡ Got x rest → ts ≡ Adds x ∷ rest
adds_takes (Adds y ∷ ts) x rest e = cc
adds_takes _ x rest e = absurd cc

pub cmp_takes : (ts : List Symbol) (x : Cmp) (rest : List Symbol) → cmp_at ts ≡ Got x rest → ts ≡ Compares x ∷ rest
cmp_takes (Compares y ∷ ts) x rest e = cc
cmp_takes _ x rest e = absurd cc

pub area_takes : (ts : List Symbol) (x : AreaWord) (rest : List Symbol) → area_at ts ≡ Got x rest → ts ≡ AreaName x.kind x.span ∷ rest
area_takes (AreaName a s ∷ ts) x rest e = let same : ◌≡◌ {A = AreaWord} (record { kind = a; span = s }) x = cc in let more : ts ≡ rest = cc in rw (← same, ← more) refl
area_takes _ x rest e = absurd cc

pub minus_takes : (ts : List Symbol) → ts ≡ optional (minus_at ts).0 (Adds true) ++ (minus_at ts).1
minus_takes [] = refl
minus_takes (Adds true ∷ ts) = refl
minus_takes (Adds false ∷ ts) = refl
minus_takes (Named x ∷ ts) = refl
minus_takes (Number x ∷ ts) = refl
minus_takes (Compares x ∷ ts) = refl
minus_takes (AreaName x span ∷ ts) = refl
minus_takes (Fixed x ∷ ts) = refl

by_test : (m k : Mark) (ts : List Symbol) (b : Bool) → (b ≡ true → m ≡ k) → Fixed k ∷ ts ≡ optional (maybe_mark k ts b).0 (Fixed m) ++ (maybe_mark k ts b).1
by_test m k ts true f = ap (λ x. Fixed x ∷ ts) (sym (f refl))
by_test m k ts false f = refl

pub maybe_takes : (m : Mark) (ts : List Symbol) → ts ≡ optional (maybe_at m ts).0 (Fixed m) ++ (maybe_at m ts).1
maybe_takes m [] = refl
maybe_takes m (Fixed k ∷ ts) = by_test m k ts (same_mark m k) (same_mark-true m k)
maybe_takes m (Named x ∷ ts) = refl
maybe_takes m (Number x ∷ ts) = refl
maybe_takes m (Adds x ∷ ts) = refl
maybe_takes m (Compares x ∷ ts) = refl
maybe_takes m (AreaName x span ∷ ts) = refl

-- ---- several

-- what a leading token and its item take
abbrev pub Step : {S A : Type 0} → Reader S → (S → Reader A) → (A → Symbols) → Type 0
Step {S} {A} lead item spell = (ts : List Symbol) (s : S) (us : List Symbol) (a : A) (rest : List Symbol) → lead ts ≡ Got s us → item s us ≡ Got a rest → ts ≡ spell a ++ rest

pub many_takes : {S A : Type 0} (lead : Reader S) (item : S → Reader A) (spell : A → Symbols) → Step lead item spell →
    (n : ℕ) (ts : List Symbol) (xs : List A) (rest : List Symbol) → many lead item n ts ≡ Got xs rest → ts ≡ flat_map spell xs ++ rest
unfolding many
many_takes {S} {A} lead item spell step zero ts xs rest e = let none : ◌≡◌ {A = List A} [] xs = cc in let same : ts ≡ rest = cc in rw (← none) same
many_takes {S} {A} lead item spell step (suc n) ts xs rest e =
    either_got (lead ts) (λ s us. item s us >>= λ x vs. many lead item n vs >>= λ ys r. Got (x ∷ ys) r) (Got [] ts) xs rest e
    (λ s us led e1. bind_got (item s us) (λ x vs. many lead item n vs >>= λ ys r. Got (x ∷ ys) r) xs rest e1
    (λ x vs is e2. bind_got (many lead item n vs) (λ ys r. Got (x ∷ ys) r) xs rest e2
    (λ ys r more e3.
    let both = takes_both ts (spell x) vs (flat_map spell ys) r (step ts s us x vs led is) (many_takes lead item spell step n vs ys r more) in
    let whole : x ∷ ys ≡ xs = cc in
    let same : r ≡ rest = cc in
    rw (← whole, ← same) both)))
    (λ stuck e1. let none : ◌≡◌ {A = List A} [] xs = cc in let same : ts ≡ rest = cc in rw (← none) same)

-- ---- what was spelled is read again

-- what a value's spelling gives, where what follows it cannot go on with it
abbrev pub Again : {A : Type 0} → (A → Symbols) → (A → ℕ) → ℕ → (List Symbol → Type 0) → Reader A → Type 0
Again {A} spell nest levels Ends read = (x : A) (rest : List Symbol) → nest x ≤ levels → Ends rest → read (spell x ++ rest) ≡ Got x rest

-- the same of an item behind its leading token
pub record Leads {S A : Type 0} (lead : Reader S) (item : S → Reader A) (spell : A → Symbols) (x : A) (rest : List Symbol) : Type 0 where
  pub s : S
  pub us : List Symbol
  pub led : lead (spell x ++ rest) ≡ Got s us
  pub is : item s us ≡ Got x rest

abbrev pub EachLeads : {S A : Type 0} → Reader S → (S → Reader A) → (A → Symbols) → (A → ℕ) → ℕ → (List Symbol → Type 0) → Type 0
EachLeads {S} {A} lead item spell nest levels Ends = (x : A) (rest : List Symbol) → nest x ≤ levels → Ends rest → Leads lead item spell x rest

pub many_again : {S A : Type 0} (lead : Reader S) (item : S → Reader A) (spell : A → Symbols) (nest : A → ℕ) (levels : ℕ) (Ends : List Symbol → Type 0) →
    EachLeads lead item spell nest levels Ends → ((x : A) (rest : List Symbol) → Ends (spell x ++ rest)) →
    (n : ℕ) (xs : List A) (rest : List Symbol) → most (map nest xs) ≤ levels → length xs ≤ n → Ends rest → lead rest ≡ Stuck → many lead item n (flat_map spell xs ++ rest) ≡ Got xs rest
unfolding many
many_again lead item spell nest levels Ends step starts zero [] rest deep few ends stuck = refl
many_again lead item spell nest levels Ends step starts zero (x ∷ xs) rest deep few ends stuck = absurd (omega arith)
many_again lead item spell nest levels Ends step starts (suc n) [] rest deep few ends stuck = rw stuck refl
many_again {S} {A} lead item spell nest levels Ends step starts (suc n) (x ∷ xs) rest deep few ends stuck =
    let after : (ys : List A) → Ends (flat_map spell ys ++ rest) = λ ys. elim ys as (λ zs. Ends (flat_map spell zs ++ rest)) [ [] ↦ ends | y ∷ ys' ↦ rw (append_assoc (spell y) (flat_map spell ys') rest) (starts y _) ] in
    let one = step x (flat_map spell xs ++ rest) (omega arith) (after xs) in
    let more = many_again lead item spell nest levels Ends step starts n xs rest (omega arith) (omega arith) ends stuck in
    rw (append_assoc (spell x) (flat_map spell xs) rest, one.led, one.is, more) refl
