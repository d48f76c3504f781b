-- A request while it is read.
use Rattle.std.specs.Prelude.{◌≡◌, ℕ, ◌==◌, ◌<◌, ◌||◌, Bool, true, false, List, [], ◌∷◌, ◌++◌, length, take, if◌then◌else◌}
use Rattle.request_loop.specs.Requests.{after_requests, begun_by, cut_of}
use Rattle.request_loop.specs.declared.draft.Draft.{Draft}
use Rattle.request_loop.specs.declared.draft.TheConstants.{DRAFT_MOST}
use Rattle.request_loop.specs.declared.line_start.LineStart.{LineStart}
use Rattle.request_loop.specs.declared.line_start.LineStart.TheVariants.{Empty, Plus, PlusReturn, Other}

-- how a line begins that has one more byte, which is no line feed
abbrev pub start_in : LineStart → ℕ → LineStart
start_in Empty b = if b == 43 then Plus else Other
start_in Plus b = if b == 13 then PlusReturn else Other
start_in PlusReturn b = Other
start_in Other b = Other

-- how a line begins that has one more byte; after a line feed it is the next line
abbrev pub start_after : LineStart → ℕ → LineStart
start_after start b = if b == 10 then Empty else start_in start b

-- how a line begins that has these bytes more
abbrev pub start_from : LineStart → List ℕ → LineStart
start_from start [] = start
start_from start (b ∷ bs) = start_from (start_in start b) bs

-- a line that begins so ends a request if a line feed follows
abbrev pub may_end : LineStart → Bool
may_end Empty = false
may_end Plus = true
may_end PlusReturn = true
may_end Other = false

-- the number of bytes of such a line without its line feed
abbrev pub bytes_in : LineStart → ℕ
bytes_in Empty = 0
bytes_in Plus = 1
bytes_in PlusReturn = 2
bytes_in Other = 0

-- a line feed is among the bytes
abbrev pub has_feed : List ℕ → Bool
has_feed [] = false
has_feed (b ∷ bs) = (b == 10) || has_feed bs

-- whatever follows these bytes, they belong to the request or the rest with which it begins
abbrev pub IsOpen : List ℕ → Type 0
IsOpen bytes = (later : List ℕ) → cut_of (bytes ++ later) ≡ begun_by bytes (cut_of later)

-- whatever follows these bytes, they are a request with this text and the line that ends it
abbrev pub IsRequest : (text bytes : List ℕ) → Type 0
IsRequest text bytes = (later : List ℕ) → cut_of (bytes ++ later) ≡ after_requests (text ∷ []) (cut_of later)

-- these bytes are no request
abbrev pub IsRest : List ℕ → Type 0
IsRest bytes = cut_of bytes ≡ record { requests = []; rest = bytes }

-- A draft after these bytes were read: whole lines of which none ends a request, and the beginning of a line. It has the
-- first of the bytes, unless an allocation failed.
pub record IsDraft (read : List ℕ) (draft : Draft) : Type 0 where
  pub lines : List ℕ
  pub line : List ℕ
  pub parts : read ≡ lines ++ line
  pub begins : IsOpen lines
  pub flat : has_feed line ≡ false
  pub start : draft.start ≡ start_from Empty line
  pub kept : draft.is_spent ≡ false → draft.text.items ≡ take DRAFT_MOST read
  pub some : draft.is_spent ≡ true → 0 < length read
