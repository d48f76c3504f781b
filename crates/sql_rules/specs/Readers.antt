-- Parser combinators: a reader takes a value from the start of a list of symbols, and returns it with the rest.
use Rattle.std.specs.Prelude.{ℕ, zero, suc, ℤ, Bool, true, false, if◌then◌else◌, List, [], ◌∷◌, length}
use Rattle.sql_token.specs.declared.token.Span.{Span}
use Rattle.sql_tree.specs.declared.cond.AreaKind.{AreaKind}
use Rattle.sql_tree.specs.declared.cond.Cmp.{Cmp}
use Rattle.sql_tree.specs.declared.name.Name.{Name}
use Rattle.sql_rules.specs.Symbols.{Symbol, Named, Number, Adds, Compares, AreaName, Fixed, Mark}
use Rattle.sql_rules.specs.Marks.{same_mark}

-- The result of a reader: a value and the remaining symbols, or that none could be read.
pub data Answer (A : Type 0) : Type 0 where
  Got : A → List Symbol → Answer A
  Stuck : Answer A

-- a reader of values
abbrev pub Reader : Type 0 → Type 0
Reader A = List Symbol → Answer A

infixl 10 ◌>>=◌
-- the continuation on the value and the rest, if something was read
abbrev pub ◌>>=◌ : {A B : Type 0} → Answer A → (A → Reader B) → Answer B
(Got x rest) >>= f = f x rest
Stuck >>= f = Stuck

-- the continuation on the value and the rest, if something was read, and else the alternative
abbrev pub either : {A B : Type 0} → Answer A → (A → Reader B) → Answer B → Answer B
either (Got x rest) f other = f x rest
either Stuck f other = other

-- reads a keyword or a sign
abbrev pub mark_at : Mark → Reader Mark
mark_at m [] = Stuck
mark_at m (Fixed k ∷ ts) = if same_mark m k then Got m ts else Stuck
mark_at m (Named x ∷ ts) = Stuck
mark_at m (Number x ∷ ts) = Stuck
mark_at m (Adds x ∷ ts) = Stuck
mark_at m (Compares x ∷ ts) = Stuck
mark_at m (AreaName x span ∷ ts) = Stuck

-- reads a name
abbrev pub name_at : Reader Name
name_at (Named x ∷ ts) = Got x ts
name_at _ = Stuck

-- reads an integer
abbrev pub number_at : Reader ℤ
number_at (Number n ∷ ts) = Got n ts
number_at _ = Stuck

-- reads a plus or a minus
abbrev pub adds_at : Reader Bool
adds_at (Adds minus ∷ ts) = Got minus ts
adds_at _ = Stuck

-- reads a comparison operator
abbrev pub cmp_at : Reader Cmp
cmp_at (Compares c ∷ ts) = Got c ts
cmp_at _ = Stuck

-- The name of an area function, with its span.
pub record AreaWord : Type 0 where
  pub kind : AreaKind
  pub span : Span

-- reads the name of an area function
abbrev pub area_at : Reader AreaWord
area_at (AreaName kind span ∷ ts) = Got (record { kind = kind; span = span }) ts
area_at _ = Stuck

-- whether a minus comes first, and the symbols after it
abbrev pub minus_at : List Symbol → Bool × List Symbol
minus_at (Adds true ∷ ts) = (true, ts)
minus_at ts = (false, ts)

-- whether a mark is the one that is looked for, and the symbols after it or all of them
abbrev pub maybe_mark : Mark → List Symbol → Bool → Bool × List Symbol
maybe_mark k ts true = (true, ts)
maybe_mark k ts false = (false, Fixed k ∷ ts)

-- whether a mark comes first, and the symbols after it or all of them
abbrev pub maybe_at : Mark → List Symbol → Bool × List Symbol
maybe_at m [] = (false, [])
maybe_at m (Fixed k ∷ ts) = maybe_mark k ts (same_mark m k)
maybe_at m (Named x ∷ ts) = (false, Named x ∷ ts)
maybe_at m (Number x ∷ ts) = (false, Number x ∷ ts)
maybe_at m (Adds x ∷ ts) = (false, Adds x ∷ ts)
maybe_at m (Compares x ∷ ts) = (false, Compares x ∷ ts)
maybe_at m (AreaName x span ∷ ts) = (false, AreaName x span ∷ ts)

-- reads a sequence of at most the given number of items: each leading symbol has to be followed by an item
unfoldable pub many : {S A : Type 0} → Reader S → (S → Reader A) → ℕ → Reader (List A)
many lead item zero ts = Got [] ts
many lead item (suc n) ts =
    either (lead ts) (λ s us. item s us >>= λ x vs. many lead item n vs >>= λ xs rest. Got (x ∷ xs) rest) (Got [] ts)

-- reads a sequence as long as leading symbols follow
abbrev pub each : {S A : Type 0} → Reader S → (S → Reader A) → Reader (List A)
each lead item ts = many lead item (length ts) ts
