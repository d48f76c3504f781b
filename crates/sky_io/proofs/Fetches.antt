-- The three answers of a fetch, as laws on what a shelf shows.
use Rattle.std.proofs.Common.{◌≡◌, ℕ, ◌+◌, ◌<◌, ◌≤◌, List, [], ◌∷◌, ◌++◌, length, refl, ap, sym, arith, cond, true, append-nil}
use Rattle.std.specs.Str.{bytes_eq}
use Rattle.std.proofs.lemmas.List.Sums.{sum_by-append, sum_by-cons}
use Rattle.std.proofs.lemmas.Slice.Eq.{bytes_eq-Decides}
use Rattle.sky_io.specs.Shelves.{ShelfState, Fetched, GivesText, times}
use Rattle.sky_io.specs.declared.shelf.Fetch.{Fetch}
use Rattle.sky_io.specs.declared.shelf.Fetch.TheVariants.{Done, Failed, Memory}

-- a name counts once more in a list that ends with it
pub one_more : (name : List ℕ) (names : List (List ℕ)) → times name names < times name (names ++ name ∷ [])
one_more name names =
    let same : bytes_eq name name ≡ true = (bytes_eq-Decides name name).1 refl in
    omega (arith, sum_by-append (λ other. cond (bytes_eq other name) 1 0) names (name ∷ []), sum_by-cons (λ other. cond (bytes_eq other name) 1 0) name [], ap {B = ℕ} (λ t. cond t 1 0) same)

-- a text was given
pub fetch_done : (shelf : ShelfState) (name : List ℕ) (limit : ℕ) (into : List ℕ) → GivesText shelf.texts name limit into → length into ≤ limit + 1 → Fetched shelf shelf name limit into Done
fetch_done shelf name limit into gives short = record {
  texts = refl;
  grew = (0, sym (append-nil shelf.failed));
  done = λ _. gives;
  still = λ _. refl;
  short = λ _. short;
  cause = λ e. absurd (cc e);
  emptied = λ ne. absurd (ne refl);
}

-- memory was wanting
pub fetch_memory : (shelf : ShelfState) (name : List ℕ) (limit : ℕ) → Fetched shelf shelf name limit [] Memory
fetch_memory shelf name limit = record {
  texts = refl;
  grew = (0, sym (append-nil shelf.failed));
  done = λ e. absurd (cc e);
  still = λ _. refl;
  short = λ e. absurd (cc e);
  cause = λ e. absurd (cc e);
  emptied = λ _. refl;
}

-- the fetch failed, and its name was noted
pub fetch_failed : (old new : ShelfState) (name : List ℕ) (limit : ℕ) (into : List ℕ) (result : Fetch) → result ≡ Failed → into ≡ [] → new.texts ≡ old.texts → new.failed ≡ old.failed ++ name ∷ [] → Fetched old new name limit into result
fetch_failed old new name limit into result failed nothing texts noted = record {
  texts = texts;
  grew = (1, noted);
  done = λ e. absurd (cc (e, failed));
  still = λ ne. absurd (ne failed);
  short = λ e. absurd (cc (e, failed));
  cause = λ _. rw noted (one_more name old.failed);
  emptied = λ _. nothing;
}
