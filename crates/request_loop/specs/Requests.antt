-- The requests of an input: each is the lines before a line `+`.
use Rattle.std.specs.Prelude.{ℕ, ◌==◌, ◌||◌, Bool, List, [], ◌∷◌, ◌++◌, codes, if◌then◌else◌}
use Rattle.std.specs.Str.{bytes_eq}

-- a byte put before the first of these lines; it is a line of its own if there is none
abbrev pub with_byte : ℕ → List (List ℕ) → List (List ℕ)
with_byte b [] = (b ∷ []) ∷ []
with_byte b (line ∷ lines) = (b ∷ line) ∷ lines

-- the lines of an input, each with its line feed, which the last one may lack
abbrev pub lines_in : List ℕ → List (List ℕ)
lines_in [] = []
lines_in (b ∷ bs) = if b == 10 then (b ∷ []) ∷ lines_in bs else with_byte b (lines_in bs)

-- the line ends a request: it is `+` and a line feed, with or without a carriage return between them
abbrev pub ends_request : List ℕ → Bool
ends_request line = bytes_eq line (codes "+\n") || bytes_eq line (codes "+\r\n")

-- An input, cut at the lines that end a request.
pub record Cut : Type 0 where
  -- the text of each request, in their order: the lines before the line that ends it
  pub requests : List (List ℕ)
  -- what follows the last of those lines
  pub rest : List ℕ

-- the first of these requests begins with the line; without any request the rest does
abbrev pub begun_with : List ℕ → List (List ℕ) → List ℕ → Cut
begun_with line [] rest = record { requests = []; rest = line ++ rest }
begun_with line (text ∷ texts) rest = record { requests = (line ++ text) ∷ texts; rest = rest }

-- the cut of an input that begins with the line, if the line ends no request; the cut is that of what follows the line
abbrev pub begun_by : List ℕ → Cut → Cut
begun_by line cut = begun_with line cut.requests cut.rest

-- the cut of an input that begins with these requests; the cut is that of what follows them
abbrev pub after_requests : List (List ℕ) → Cut → Cut
after_requests texts cut = record { requests = texts ++ cut.requests; rest = cut.rest }

-- these lines, cut where one of them ends a request
abbrev pub cut_lines : List (List ℕ) → Cut
cut_lines [] = record { requests = []; rest = [] }
cut_lines (line ∷ lines) =
    if ends_request line then after_requests ([] ∷ []) (cut_lines lines) else begun_by line (cut_lines lines)

-- the requests of an input, and what follows the last of them
unfoldable pub cut_of : List ℕ → Cut
cut_of input = cut_lines (lines_in input)
