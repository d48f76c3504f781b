-- A draft of a request, byte by byte.
use Rattle.std.proofs.Common.{◌≡◌, refl, sym, ap, ◌∙◌, subst, ℕ, ◌+◌, ◌-◌, ◌<◌, ◌≤◌, ◌==◌, arith, Bool, true, false, ◌&&◌, ◌||◌, if◌then◌else◌}
use Rattle.std.proofs.Common.{List, [], ◌∷◌, ◌++◌, length, take, append_assoc, append-nil, length-append, length-take, eqb-true, ltb-true, ltb-false, nat_lt, take_all, Some, None}
use Rattle.std.proofs.lemmas.List.{take-append-le}
use Rattle.std.proofs.Math.Seq.{take-append_seam}
use Rattle.text_rules.specs.declared.limits.TheConstants.{SCRIPT_TEXT_MOST}
use Rattle.request_loop.specs.Requests.{ends_request}
use Rattle.request_loop.specs.Drafts.{IsDraft, IsOpen, IsRequest, IsRest, bytes_in, has_feed, may_end, start_from, start_in}
use Rattle.byte_source.specs.Sources.{SourceState, Gave, IsAtEnd}
use Rattle.sky_io.specs.Sinks.{Rose}
use Rattle.request_loop.specs.Readings.{Adds, HasRead, HasReadAll, IsLong, IsRequestOf, IsRestOf, Reads, ReadsFault, ReadsLines, TakesNext, TookByte}
use Rattle.request_loop.specs.declared.draft.Draft.{Draft}
use Rattle.request_loop.specs.declared.draft.TheConstants.{DRAFT_MOST}
use Rattle.request_loop.specs.declared.line_start.LineStart.{LineStart}
use Rattle.request_loop.specs.declared.line_start.LineStart.TheVariants.{Empty, Plus, PlusReturn, Other}
use Rattle.request_loop.specs.declared.draft.Stop.{Stop}
use Rattle.request_loop.specs.declared.draft.Stop.TheVariants.{Ended, Over, Failed}
use Rattle.request_loop.specs.declared.request.Request.{Request}
use Rattle.request_loop.specs.declared.request.Request.TheVariants as request
use Rattle.request_loop.proofs.Giving.{gave_nothing, gave_two}
use Rattle.request_loop.proofs.Cutting.{open_none, bytes_by_start, ends_by_start, open_ended, open_more, open_rest, or_false}

pub flat_more : (line : List ℕ) (b : ℕ) → has_feed line ≡ false → (b == 10) ≡ false → has_feed (line ++ b ∷ []) ≡ false
flat_more [] b flat other = ap (λ t. t || false) other
flat_more (c ∷ cs) b flat other =
    let both = or_false (c == 10) (has_feed cs) flat in
    ap (λ t. t || has_feed (cs ++ b ∷ [])) both.0 ∙ flat_more cs b both.1 other

start_more : (start : LineStart) (line : List ℕ) (b : ℕ) → start_from start (line ++ b ∷ []) ≡ start_in (start_from start line) b
start_more start [] b = refl
start_more start (c ∷ cs) b = start_more (start_in start c) cs b

kept_by : (most : ℕ) (read text new : List ℕ) (b : ℕ) (t : Bool) → nat_lt (length text) most ≡ t → text ≡ take most read
    → (length text < most → new ≡ text ++ b ∷ []) → (most ≤ length text → new ≡ text) → new ≡ take most (read ++ b ∷ [])
kept_by most read text new b true below is room full =
    let less : length text < most = ltb-true _ _ below in
    let short : length read < most = omega (arith, less, ap length is, length-take most read) in
    let all : text ≡ read = is ∙ take_all most read (omega (arith, short)) in
    room less ∙ ap (λ t. t ++ b ∷ []) all ∙ sym (take_all most (read ++ b ∷ []) (omega (arith, short, length-append read (b ∷ []))))
kept_by most read text new b false below is room full =
    let much : most ≤ length text = ltb-false _ _ below in
    let long : most ≤ length read = omega (arith, much, ap length is, length-take most read) in
    full much ∙ is ∙ sym (take-append-le most read (b ∷ []) long)

-- what is kept of one byte more
kept_more : (most : ℕ) (read text new : List ℕ) (b : ℕ) → text ≡ take most read
    → (length text < most → new ≡ text ++ b ∷ []) → (most ≤ length text → new ≡ text) → new ≡ take most (read ++ b ∷ [])
kept_more most read text new b is room full = kept_by most read text new b (nat_lt (length text) most) refl is room full

draft_by : (read : List ℕ) (old new : Draft) (b : ℕ) (t : Bool) → (b == 10) ≡ t → IsDraft read old → (t && may_end old.start) ≡ false
    → Adds old new b → IsDraft (read ++ b ∷ []) new
draft_by read old new b false other is goes adds = record {
  lines = is.lines;
  line = is.line ++ b ∷ [];
  parts = ap (λ r. r ++ b ∷ []) is.parts ∙ append_assoc is.lines is.line (b ∷ []);
  begins = is.begins;
  flat = flat_more is.line b is.flat other;
  start = adds.start ∙ ap {B = LineStart} (λ t. if t then Empty else start_in old.start b) other
      ∙ ap (λ s. start_in s b) is.start ∙ sym (start_more Empty is.line b);
  kept = λ unspent. kept_more DRAFT_MOST read old.text.items new.text.items b (is.kept (adds.spent unspent)) (adds.room unspent) (adds.full unspent);
  some = λ spent. omega (arith, length-append read (b ∷ []));
}
draft_by read old new b true feed is goes adds =
    let ten : b ≡ 10 = eqb-true b 10 feed in
    let no_end : ends_request (is.line ++ 10 ∷ []) ≡ false = ends_by_start is.line is.flat ∙ sym (ap may_end is.start) ∙ goes in
    record {
      lines = is.lines ++ (is.line ++ b ∷ []);
      line = [];
      parts = ap (λ r. r ++ b ∷ []) is.parts ∙ append_assoc is.lines is.line (b ∷ []) ∙ sym (append-nil (is.lines ++ (is.line ++ b ∷ [])));
      begins = subst (λ x. IsOpen (is.lines ++ (is.line ++ x ∷ []))) (sym ten) (open_more is.lines is.line is.begins is.flat no_end);
      flat = refl;
      start = adds.start ∙ ap {B = LineStart} (λ t. if t then Empty else start_in old.start b) feed;
      kept = λ unspent. kept_more DRAFT_MOST read old.text.items new.text.items b (is.kept (adds.spent unspent)) (adds.room unspent) (adds.full unspent);
      some = λ spent. omega (arith, length-append read (b ∷ []));
    }

-- a draft after one byte more
pub draft_more : (read : List ℕ) (old new : Draft) (b : ℕ) → IsDraft read old → ((b == 10) && may_end old.start) ≡ false
    → Adds old new b → IsDraft (read ++ b ∷ []) new
draft_more read old new b is goes adds = draft_by read old new b (b == 10) refl is goes adds

-- The lines of a draft are a request, if a line feed now ends it.
pub record EndedDraft (read : List ℕ) (draft : Draft) : Type 0 where
  pub lines : List ℕ
  pub line : List ℕ
  pub parts : read ≡ lines ++ line
  pub is : IsRequest lines (read ++ 10 ∷ [])
  pub size : length line ≡ bytes_in draft.start

pub draft_ended : (read : List ℕ) (draft : Draft) → IsDraft read draft → may_end draft.start ≡ true → EndedDraft read draft
draft_ended read draft is ends =
    let begun : may_end (start_from Empty is.line) ≡ true = sym (ap may_end is.start) ∙ ends in
    let whole : is.lines ++ (is.line ++ 10 ∷ []) ≡ read ++ 10 ∷ [] = sym (ap (λ r. r ++ 10 ∷ []) is.parts ∙ append_assoc is.lines is.line (10 ∷ [])) in
    record {
      lines = is.lines;
      line = is.line;
      parts = is.parts;
      is = subst (λ bytes. IsRequest is.lines bytes) whole
          (open_ended is.lines is.line is.begins is.flat (ends_by_start is.line is.flat ∙ begun));
      size = bytes_by_start is.line begun ∙ sym (ap bytes_in is.start);
    }

-- a draft is no request
pub draft_rest : (read : List ℕ) (draft : Draft) → IsDraft read draft → IsRest read
draft_rest read draft is = subst (λ bytes. IsRest bytes) (sym is.parts) (open_rest is.lines is.line is.begins is.flat)

at_most_two : (start : LineStart) → bytes_in start ≤ 2
at_most_two Empty = omega arith
at_most_two Plus = omega arith
at_most_two PlusReturn = omega arith
at_most_two Other = omega arith

-- the text of a request above the limit
pub long_by : (read : List ℕ) (draft : Draft) (size : ℕ) → IsDraft read draft → may_end draft.start ≡ true → draft.is_spent ≡ false
    → size ≡ length draft.text.items - bytes_in draft.start → SCRIPT_TEXT_MOST < size → IsLong (read ++ 10 ∷ [])
long_by read draft size is ends unspent sized above =
    let it = draft_ended read draft is ends in
    let kept : length draft.text.items ≤ length read = omega (arith, ap length (is.kept unspent), length-take DRAFT_MOST read) in
    let parts : length read ≡ length it.lines + length it.line = ap length it.parts ∙ length-append it.lines it.line in
    record { text = it.lines; is = it.is; long = omega (arith, kept, parts, it.size, sized, above) }

-- the text of a request within the limit, which is what is kept without the line that ends it
pub text_by : (read : List ℕ) (draft : Draft) (size : ℕ) → IsDraft read draft → may_end draft.start ≡ true → draft.is_spent ≡ false
    → size ≡ length draft.text.items - bytes_in draft.start → size ≤ SCRIPT_TEXT_MOST → IsRequest (take size draft.text.items) (read ++ 10 ∷ [])
text_by read draft size is ends unspent sized within =
    let it = draft_ended read draft is ends in
    let two : bytes_in draft.start ≤ 2 = at_most_two draft.start in
    let capped : length draft.text.items ≡ length (take DRAFT_MOST read) = ap length (is.kept unspent) in
    let short : length read ≤ DRAFT_MOST = omega (arith, capped, length-take DRAFT_MOST read, sized, within, two) in
    let all : draft.text.items ≡ it.lines ++ it.line = is.kept unspent ∙ take_all DRAFT_MOST read short ∙ it.parts in
    let parts : length draft.text.items ≡ length it.lines + length it.line = ap length all ∙ length-append it.lines it.line in
    let same : size ≡ length it.lines = omega (arith, parts, it.size, sized) in
    subst (λ text. IsRequest text (read ++ 10 ∷ []))
    (sym (ap (λ n. take n draft.text.items) same ∙ ap (take (length it.lines)) all ∙ take-append_seam it.lines it.line)) it.is

-- nothing was read into a new draft
pub draft_none : (draft : Draft) → draft.text.items ≡ [] → draft.start ≡ Empty → draft.is_spent ≡ false → IsDraft [] draft
draft_none draft empty start unspent = record {
  lines = [];
  line = [];
  parts = refl;
  begins = open_none;
  flat = refl;
  start = start;
  kept = λ e. empty ∙ sym (take_all DRAFT_MOST [] (omega arith));
  some = λ spent. absurd (cc (spent, unspent));
}

-- nothing was read yet
pub read_none : (source : SourceState) (draft : Draft) → IsDraft [] draft → HasRead source source draft
read_none source draft is = record { read = []; gave = gave_nothing source.left; is = is }

-- one more byte was read
pub read_more : (so sm sn : SourceState) (old new : Draft) → HasRead so sm old → TookByte sm sn old new None → HasRead so sn new
read_more so sm sn old new has took = record {
  read = has.read ++ took.byte ∷ [];
  gave = gave_two so.left sm.left sn.left has.read (took.byte ∷ []) has.gave took.gave;
  is = draft_more has.read old new took.byte has.is took.takes.0 took.takes.1;
}

-- the reading stopped
pub stopped : (so sm sn : SourceState) (old new : Draft) (stop : Stop) → HasRead so sm old → sm.faults ≡ so.faults
    → TakesNext sm sn old new (Some stop) → ReadsLines so sn new stop
stopped so sm sn old new Ended has still took = record {
  read = has.read;
  gave = gave_two so.left sm.left sn.left has.read (10 ∷ []) has.gave
      (subst (λ b. Gave sm.left (b ∷ []) sn.left) took.takes.1 took.gave);
  still = took.still ∙ still;
  is = subst (λ d. IsDraft has.read d) (sym took.takes.3) has.is;
  ends = ap (λ d. may_end d.start) took.takes.3 ∙ took.takes.2;
}
stopped so sm sn old new Over has still took = (
  record {
    read = has.read;
    gave = subst (λ s. Gave so.left has.read s.left) (sym took.1) has.gave;
    is = subst (λ d. IsDraft has.read d) (sym took.2) has.is;
  },
  ap (λ s. s.faults) took.1 ∙ still,
  subst (λ s. IsAtEnd s.left) (sym took.1) took.0,
)
stopped so sm sn old new Failed has still took = (
  record {
    read = has.read;
    gave = subst (λ l. Gave so.left has.read l) (sym took.0) has.gave;
    is = subst (λ d. IsDraft has.read d) (sym took.2) has.is;
  },
  (subst (λ n. Rose n sn.faults) still took.1),
)

-- a request was read
pub reads_ended : (so sn : SourceState) (draft : Draft) (it : Request) → HasReadAll so sn draft
    → ((read : List ℕ) → IsDraft read draft → IsRequestOf (read ++ 10 ∷ []) it) → Reads so sn it
reads_ended so sn draft (request.Text text) has is = record { read = has.read ++ 10 ∷ []; gave = has.gave; still = has.still; is = is has.read has.is }
reads_ended so sn draft request.Long has is = record { read = has.read ++ 10 ∷ []; gave = has.gave; still = has.still; is = is has.read has.is }
reads_ended so sn draft request.Memory has is = record { read = has.read ++ 10 ∷ []; gave = has.gave; still = has.still; is = is has.read has.is }
reads_ended so sn draft request.Open has is = absurd (is has.read has.is)
reads_ended so sn draft request.Nothing has is = absurd (is has.read has.is)
reads_ended so sn draft request.Failed has is = absurd (is has.read has.is)

-- the rest of the input was read
pub reads_over : (so sn : SourceState) (draft : Draft) (it : Request) → HasRead so sn draft × (sn.faults ≡ so.faults) × IsAtEnd sn.left
    → ((read : List ℕ) → IsDraft read draft → IsRestOf read it) → Reads so sn it
reads_over so sn draft (request.Text text) has is = absurd (is has.0.read has.0.is)
reads_over so sn draft request.Long has is = absurd (is has.0.read has.0.is)
reads_over so sn draft request.Memory has is = absurd (is has.0.read has.0.is)
reads_over so sn draft request.Open has is = record { read = has.0.read; gave = has.0.gave; still = has.1; ended = has.2; is = is has.0.read has.0.is }
reads_over so sn draft request.Nothing has is = record { read = has.0.read; gave = has.0.gave; still = has.1; ended = has.2; is = is has.0.read has.0.is }
reads_over so sn draft request.Failed has is = absurd (is has.0.read has.0.is)

-- the source failed
pub reads_failed : (so sn : SourceState) (draft : Draft) → HasRead so sn draft × Rose so.faults sn.faults → ReadsFault so sn
reads_failed so sn draft has = record { read = has.0.read; gave = has.0.gave; cause = has.1; is = draft_rest has.0.read draft has.0.is }

-- some bytes were read into a draft that is not empty
pub over_open : (read : List ℕ) (draft : Draft) → IsDraft read draft → 0 < length draft.text.items → draft.is_spent ≡ false → 0 < length read
over_open read draft is some unspent = omega (arith, some, ap length (is.kept unspent), length-take DRAFT_MOST read)

empty_by : (read : List ℕ) → length read ≤ 0 → read ≡ []
empty_by [] le = refl
empty_by (b ∷ bs) le = absurd (omega (arith, le))

-- no byte was read into a draft that is empty
pub over_none : (read : List ℕ) (draft : Draft) → IsDraft read draft → length draft.text.items ≤ 0 → draft.is_spent ≡ false → read ≡ []
over_none read draft is none unspent = empty_by read (omega (arith, none, ap length (is.kept unspent), length-take DRAFT_MOST read))
