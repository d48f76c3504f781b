-- What is spelled as a keyword is a word, and is that keyword alone.
use Rattle.std.proofs.Common.{◌≡◌, refl, ap, ◌∙◌, sym, ℕ, arith, true, List, [], ◌∷◌, Some, find}
use Rattle.std.specs.Char.{to_ascii_lowercase}
use Rattle.std.specs.List.{list_all}
use Rattle.std.specs.Str.{bytes_eq, str_to_ascii_lowercase}
use Rattle.std.proofs.lemmas.Slice.Eq.{bytes_eq-Decides}
use Rattle.sql_token.specs.declared.keyword.Keyword.{Keyword}
use Rattle.sql_token.specs.declared.keyword.Keyword.TheVariants as keyword
use Rattle.text_rules.specs.Words.{begins_word, continues_word}
use Rattle.sql_token.specs.Keywords.{is_spelled, keyword_of, keywords, spelling}
use Rattle.sql_token.specs.Laws.{is_word}

-- The bytes are a word, and it is the keyword.
pub record IsKeyword (bytes : List ℕ) (k : Keyword) : Type 0 where
  pub word : is_word bytes ≡ true
  pub is : keyword_of bytes ≡ Some k

-- case counts for nothing in what makes a word
begins_lower : (b : ℕ) → begins_word (to_ascii_lowercase b) ≡ begins_word b
begins_lower b = grind (arith)

continues_lower : (b : ℕ) → continues_word (to_ascii_lowercase b) ≡ continues_word b
continues_lower b = grind (arith)

all_lower : (bs : List ℕ) → list_all continues_word (str_to_ascii_lowercase bs) ≡ list_all continues_word bs
all_lower [] = refl
all_lower (b ∷ bs) = rw (continues_lower b, all_lower bs) refl

word_lower : (bs : List ℕ) → is_word (str_to_ascii_lowercase bs) ≡ is_word bs
word_lower [] = refl
word_lower (b ∷ bs) = rw (begins_lower b, all_lower bs) refl

-- the spelling of a keyword is that keyword
spelling_is : (k : Keyword) → IsKeyword (spelling k) k
unfolding keyword_of
spelling_is keyword.Select = record { word = refl; is = refl }
spelling_is keyword.From = record { word = refl; is = refl }
spelling_is keyword.Where = record { word = refl; is = refl }
spelling_is keyword.Group = record { word = refl; is = refl }
spelling_is keyword.By = record { word = refl; is = refl }
spelling_is keyword.Order = record { word = refl; is = refl }
spelling_is keyword.Asc = record { word = refl; is = refl }
spelling_is keyword.Desc = record { word = refl; is = refl }
spelling_is keyword.Limit = record { word = refl; is = refl }
spelling_is keyword.As = record { word = refl; is = refl }
spelling_is keyword.And = record { word = refl; is = refl }
spelling_is keyword.Or = record { word = refl; is = refl }
spelling_is keyword.Not = record { word = refl; is = refl }
spelling_is keyword.Between = record { word = refl; is = refl }
spelling_is keyword.In = record { word = refl; is = refl }
spelling_is keyword.Is = record { word = refl; is = refl }
spelling_is keyword.Null = record { word = refl; is = refl }
spelling_is keyword.Count = record { word = refl; is = refl }
spelling_is keyword.Sum = record { word = refl; is = refl }
spelling_is keyword.Min = record { word = refl; is = refl }
spelling_is keyword.Max = record { word = refl; is = refl }
spelling_is keyword.Avg = record { word = refl; is = refl }
spelling_is keyword.Chord2 = record { word = refl; is = refl }
spelling_is keyword.AreaBand = record { word = refl; is = refl }
spelling_is keyword.AreaCap = record { word = refl; is = refl }
spelling_is keyword.AreaBox = record { word = refl; is = refl }

-- a word is a keyword by its small letters alone
keyword_lower : (a b : List ℕ) → str_to_ascii_lowercase a ≡ str_to_ascii_lowercase b → keyword_of a ≡ keyword_of b
unfolding keyword_of
keyword_lower a b same = ap (λ low. find (λ k. bytes_eq low (str_to_ascii_lowercase (spelling k))) keywords) same

-- what is spelled as a keyword is that keyword
pub spelled_is : (bytes : List ℕ) (k : Keyword) → is_spelled bytes k ≡ true → IsKeyword bytes k
spelled_is bytes k spelled =
    let same : str_to_ascii_lowercase bytes ≡ str_to_ascii_lowercase (spelling k) = (bytes_eq-Decides _ _).0 spelled in
    record {
      word = sym (word_lower bytes) ∙ (ap is_word same ∙ (word_lower (spelling k) ∙ (spelling_is k).word));
      is = keyword_lower bytes (spelling k) same ∙ (spelling_is k).is;
    }
