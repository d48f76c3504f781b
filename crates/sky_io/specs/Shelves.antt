-- The observable state of a shelf of named texts, and the effect of a fetch on it.
use Rattle.std.specs.Prelude.{◌≡◌, ◌≢◌, ℕ, ◌+◌, ◌<◌, ◌≤◌, List, [], ◌∷◌, ◌++◌, length, take}
use Rattle.std.specs.Prelude.{Option, None, Some, Bool, map, count_by, if◌then◌else◌, replicate, String, Vec}
use Rattle.std.specs.List.{list_any}
use Rattle.std.specs.Str.{bytes_eq}
use Rattle.std.specs.String.{string_bytes}
use Rattle.std.specs.declared.alloc.Global.{Global}
use Rattle.sky_io.specs.declared.shelf.Fetch.{Fetch}
use Rattle.sky_io.specs.declared.shelf.Fetch.TheVariants.{Done, Failed}

-- The observable state of a shelf: its texts, if they are observable, and the names whose fetch has failed.
pub record ShelfState : Type 0 where
  pub texts : Option (List (List ℕ × List ℕ))
  pub failed : List (List ℕ)

-- how often a name is in the list
abbrev pub times : List ℕ → List (List ℕ) → ℕ
times name names = count_by (λ other. bytes_eq other name) names

-- the text of the first pair with the name, and the empty text if there is none
abbrev pub named_text : List ℕ → List (List ℕ × List ℕ) → List ℕ
named_text name [] = []
named_text name (pair ∷ pairs) = if bytes_eq pair.0 name then pair.1 else named_text name pairs

-- a pair has the name
abbrev pub has_name : List ℕ → List (List ℕ × List ℕ) → Bool
has_name name pairs = list_any (λ pair. bytes_eq pair.0 name) pairs

-- the names, as lists of bytes
abbrev pub names_of : List (String Global) → List (List ℕ)
names_of names = map string_bytes names

-- the names and their texts, as lists of bytes
abbrev pub pairs_of : List (String Global × Vec ℕ Global) → List (List ℕ × List ℕ)
pairs_of pairs = map (λ pair. (string_bytes pair.0, pair.1.items)) pairs

-- if the texts are observable, these are the first limit + 1 bytes of the named one, or all of a shorter one
abbrev pub GivesText : Option (List (List ℕ × List ℕ)) → List ℕ → ℕ → List ℕ → Type 0
GivesText None name limit into = Unit {0}
GivesText (Some texts) name limit into = into ≡ take (limit + 1) (named_text name texts)

-- the list of failed names has grown at its end, by this name alone
abbrev pub GrewBy : List ℕ → List (List ℕ) → List (List ℕ) → Type 0
GrewBy name old new = (k : ℕ) × (new ≡ old ++ replicate k name)

-- A fetch of a text by its name, which gives at most limit + 1 bytes of it.
pub record Fetched (old new : ShelfState) (name : List ℕ) (limit : ℕ) (into : List ℕ) (result : Fetch) : Type 0 where
  -- the texts stay the same
  pub texts : new.texts ≡ old.texts
  -- no other name's count of failures changes
  pub grew : GrewBy name old.failed new.failed
  -- after Done the bytes are those of the named text
  pub done : result ≡ Done → GivesText old.texts name limit into
  -- a failure is counted only with the result Failed
  pub still : result ≢ Failed → new.failed ≡ old.failed
  -- the bytes are at most one more than the limit, even if the texts are not observable
  pub short : result ≡ Done → length into ≤ limit + 1
  -- after Failed a failure is counted under this name
  pub cause : result ≡ Failed → times name old.failed < times name new.failed
  -- after any result but Done no bytes are given
  pub emptied : result ≢ Done → into ≡ []
