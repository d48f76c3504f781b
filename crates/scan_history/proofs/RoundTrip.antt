-- The text of a journal is read as the same journal.
use Rattle.std.proofs.Common.{◌≡◌, ℕ, ◌+◌, ◌<◌, ◌≤◌, List, [], ◌∷◌, ◌++◌, flat_map, codes, length, All, Bool, true, cond, Option, None, Some, option_map, Result, Ok, Err, nat_le, refl, sym, ◌∙◌, ap, arith, le-leb, leb-true, decimal, append_assoc}
use Rattle.std.specs.List.{list_all}
use Rattle.std.specs.Option.{option_and_then}
use Rattle.std.specs.Str.Lines.{lines}
use Rattle.std.proofs.lemmas.Fmt.{digits_decimal}
use Rattle.std.proofs.lemmas.Bool.{and_parts}
use Rattle.std.proofs.lemmas.List.Elements.{All-cons, All-nil, All-head, All-tail}
use Rattle.text_rules.specs.Lines.{Line, numbered}
use Rattle.text_rules.specs.Numbers.{is_digit}
use Rattle.scan_rules.specs.declared.journal_line.JournalLine.{JournalLine}
use Rattle.scan_rules.specs.declared.journal_line.JournalLine.TheVariants.{Attach, Take, Deliver, Cancel, Collect, Close}
use Rattle.scan_rules.specs.Lines.{seat_of}
use Rattle.scan_history.specs.declared.fault.HistoryFault.{HistoryFault}
use Rattle.scan_history.specs.Parts.{only_if, number_of, chunks_in, queries_in}
use Rattle.scan_history.specs.Entries.{entry_in, entry_of, event_in, ring_in, ring_of, lost_in}
use Rattle.scan_history.specs.Texts.{entries_on, headed, journal_on, with_ring}
use Rattle.scan_history.specs.Printed.{decimals, lost_parts, event_parts, spaced, entry_text, journal_text}
use Rattle.scan_history.specs.Laws.{IsNumber, IsQuery, AreQueries, IsPrintable, PrintedIsRead}
use Rattle.scan_history.proofs.NumberTexts.{own, number_read, query_read, chunks_read, queries_read}
use Rattle.scan_history.proofs.PartTexts.{Unspaced, cut_spaced, parts_in_line, line_first}
use Rattle.scan_history.proofs.ReadLines.{one_by, with_front}

-- bytes that pass a test above the space
plain_by : (test : ℕ → Bool) → ((b : ℕ) → test b ≡ true → 33 ≤ b) → (part : List ℕ) → list_all test part ≡ true → Unspaced part
plain_by test high [] h = All-nil (λ b. 33 ≤ b)
plain_by test high (b ∷ bs) h = let p = and_parts (test b) _ h in All-cons (λ b. 33 ≤ b) b bs (high b p.0) (plain_by test high bs p.1)

word : (part : List ℕ) → list_all (λ b. nat_le 33 b) part ≡ true → Unspaced part
word part h = plain_by (λ b. nat_le 33 b) (λ b t. leb-true 33 b t) part h

digit_high : (b : ℕ) → is_digit b ≡ true → 33 ≤ b
digit_high b t = let low : 48 ≤ b = leb-true 48 b (and_parts (nat_le 48 b) _ t).0 in omega (arith, low)

number : (n : ℕ) → IsNumber n → Unspaced (decimal n)
number n small = plain_by is_digit digit_high (decimal n) (digits_decimal own n (omega (arith, small)))

query_small : (q : ℕ) → IsQuery q → IsNumber q
query_small q h = let low : q ≤ 255 = h.1 in omega (arith, low)

numbers : {P : ℕ → Type 0} → ((n : ℕ) → P n → IsNumber n) → (ns : List ℕ) → All P ns → All Unspaced (decimals ns)
numbers small [] h = All-nil Unspaced
numbers {P = P} small (n ∷ ns) h = All-cons Unspaced (decimal n) (decimals ns) (number n (small n (All-head P n ns h))) (numbers small ns (All-tail P n ns h))

lost_plain : (lost : List ℕ) → All IsQuery lost → All Unspaced (lost_parts lost)
lost_plain [] h = All-nil Unspaced
lost_plain (q ∷ qs) h = All-cons Unspaced (codes "lost") (decimals (q ∷ qs)) (word (codes "lost") refl) (numbers query_small (q ∷ qs) h)

one : (first : List ℕ) → Unspaced first → All Unspaced (first ∷ [])
one first h = All-cons Unspaced first [] h (All-nil Unspaced)

-- the parts of an entry have no spaces
parts_plain : (entry : JournalLine) → IsPrintable entry → All Unspaced (event_parts entry)
parts_plain (Attach seat q chunks) h =
    All-cons Unspaced (codes "attach") (decimal q ∷ decimals chunks) (word (codes "attach") refl)
    (All-cons Unspaced (decimal q) (decimals chunks) (number q (query_small q h.1)) (numbers (λ n small. small) chunks h.2.each))
parts_plain (Take seat ticket chunk queries) h =
    All-cons Unspaced (codes "take") (decimal ticket ∷ decimal chunk ∷ decimals queries) (word (codes "take") refl)
    (All-cons Unspaced (decimal ticket) (decimal chunk ∷ decimals queries) (number ticket h.1)
    (All-cons Unspaced (decimal chunk) (decimals queries) (number chunk h.2) (numbers query_small queries h.4.each)))
parts_plain (Deliver seat ticket lost) h =
    All-cons Unspaced (codes "deliver") (decimal ticket ∷ lost_parts lost) (word (codes "deliver") refl)
    (All-cons Unspaced (decimal ticket) (lost_parts lost) (number ticket h.1) (lost_plain lost h.2.each))
parts_plain (Cancel seat q) h = All-cons Unspaced (codes "cancel") (decimal q ∷ []) (word (codes "cancel") refl) (one (decimal q) (number q (query_small q h.1)))
parts_plain (Collect seat q) h = All-cons Unspaced (codes "collect") (decimal q ∷ []) (word (codes "collect") refl) (one (decimal q) (number q (query_small q h.1)))
parts_plain (Close seat) h = one (codes "close") (word (codes "close") refl)

seat_small : (entry : JournalLine) → IsPrintable entry → IsNumber (seat_of entry)
seat_small (Attach seat q chunks) h = h.0
seat_small (Take seat ticket chunk queries) h = h.0
seat_small (Deliver seat ticket lost) h = h.0
seat_small (Cancel seat q) h = h.0
seat_small (Collect seat q) h = h.0
seat_small (Close seat) h = h

take_read : (seat ticket chunk : ℕ) (queries : List ℕ) → IsNumber ticket → IsNumber chunk → 0 < length queries → AreQueries queries
    → event_in seat (codes "take") (decimal ticket ∷ decimal chunk ∷ decimals queries) ≡ Some (Take seat ticket chunk queries)
take_read seat ticket chunk [] t c some h = absurd (omega (arith, some))
take_read seat ticket chunk (q ∷ qs) t c some h =
    ap (option_and_then (λ n. option_and_then (λ m. option_map (λ ns. Take seat n m ns) (queries_in (decimals (q ∷ qs)))) (number_of (decimal chunk)))) (number_read ticket t)
    ∙ (ap (option_and_then (λ m. option_map (λ ns. Take seat ticket m ns) (queries_in (decimals (q ∷ qs))))) (number_read chunk c)
    ∙ ap (λ (o : Option (List ℕ)). option_map (λ ns. Take seat ticket chunk ns) o) (queries_read q qs h))

lost_read : (lost : List ℕ) → AreQueries lost → lost_in (lost_parts lost) ≡ Some lost
lost_read [] h = refl
lost_read (q ∷ qs) h = queries_read q qs h

-- an entry's parts are read as the entry
event_read : (entry : JournalLine) → IsPrintable entry → entry_in (decimal (seat_of entry) ∷ event_parts entry) ≡ Some entry
event_read (Attach seat q chunks) h =
    ap (option_and_then (λ n. event_in n (codes "attach") (decimal q ∷ decimals chunks))) (number_read seat h.0)
    ∙ (ap (option_and_then (λ p. option_map (λ cs. Attach seat p cs) (chunks_in (decimals chunks)))) (query_read q h.1)
    ∙ ap (λ (o : Option (List ℕ)). option_map (λ cs. Attach seat q cs) o) (chunks_read chunks h.2))
event_read (Take seat ticket chunk queries) h =
    ap (option_and_then (λ n. event_in n (codes "take") (decimal ticket ∷ decimal chunk ∷ decimals queries))) (number_read seat h.0)
    ∙ take_read seat ticket chunk queries h.1 h.2 h.3 h.4
event_read (Deliver seat ticket lost) h =
    ap (option_and_then (λ n. event_in n (codes "deliver") (decimal ticket ∷ lost_parts lost))) (number_read seat h.0)
    ∙ (ap (option_and_then (λ t. option_map (λ ls. Deliver seat t ls) (lost_in (lost_parts lost)))) (number_read ticket h.1)
    ∙ ap (λ (o : Option (List ℕ)). option_map (λ ls. Deliver seat ticket ls) o) (lost_read lost h.2))
event_read (Cancel seat q) h =
    ap (option_and_then (λ n. event_in n (codes "cancel") (decimal q ∷ []))) (number_read seat h.0)
    ∙ ap (λ (o : Option ℕ). option_map (λ p. Cancel seat p) o) (query_read q h.1)
event_read (Collect seat q) h =
    ap (option_and_then (λ n. event_in n (codes "collect") (decimal q ∷ []))) (number_read seat h.0)
    ∙ ap (λ (o : Option ℕ). option_map (λ p. Collect seat p) o) (query_read q h.1)
event_read (Close seat) h = ap (option_and_then (λ n. event_in n (codes "close") [])) (number_read seat h)

-- the line of an entry, without its end
abbrev body : JournalLine → List ℕ
body entry = decimal (seat_of entry) ++ spaced (event_parts entry)

body_read : (entry : JournalLine) → IsPrintable entry → entry_of (body entry) ≡ Some entry
body_read entry h = ap entry_in (cut_spaced (decimal (seat_of entry)) (event_parts entry) (number (seat_of entry) (seat_small entry h)) (parts_plain entry h)) ∙ event_read entry h

-- a line, its end and the text after it
ended_by : (first middle rest : List ℕ) → (first ++ (middle ++ 10 ∷ [])) ++ rest ≡ (first ++ middle) ++ 10 ∷ rest
ended_by first middle rest =
    ap (λ (l : List ℕ). l ++ rest) (sym (append_assoc first middle (10 ∷ []))) ∙ append_assoc (first ++ middle) (10 ∷ []) rest

entry_line : (entry : JournalLine) (rest : List ℕ) → IsPrintable entry → lines (entry_text entry ++ rest) ≡ body entry ∷ lines rest
entry_line entry rest h =
    ap lines (ended_by (decimal (seat_of entry)) (spaced (event_parts entry)) rest)
    ∙ line_first (body entry) rest (parts_in_line (decimal (seat_of entry)) (event_parts entry) (number (seat_of entry) (seat_small entry h)) (parts_plain entry h))

-- the lines of all entries are read as the entries
entries_read : (n : ℕ) (entries : List JournalLine) → All IsPrintable entries → entries_on (numbered n (lines (flat_map entry_text entries))) ≡ Ok entries
entries_read n [] h = refl
entries_read n (entry ∷ entries) h =
    let here = All-head IsPrintable entry entries h in
    let rest : entries_on (numbered (n + 1) (lines (flat_map entry_text entries))) ≡ Ok entries = entries_read (n + 1) entries (All-tail IsPrintable entry entries h) in
    let line : Line = record { number = n; text = body entry } in
    let more : List Line = numbered (n + 1) (lines (flat_map entry_text entries)) in
    ap (λ (ls : List (List ℕ)). entries_on (numbered n ls)) (entry_line entry (flat_map entry_text entries) here)
    ∙ (unfront (entries_on (line ∷ more)) (with_front (entry ∷ []) (entries_on more)) (one_by line more [] entry (entry_of (body entry)) refl (body_read entry here))
    ∙ ap (with_front (entry ∷ [])) rest) where
      unfront : (a b : Result (List JournalLine) HistoryFault) → with_front [] a ≡ b → a ≡ b
      unfront (Ok entries) b e = e
      unfront (Err fault) b e = e

ring_read : (ring : ℕ) → ring ≤ 16384 → ring_of (codes "ring" ++ spaced (decimal ring ∷ [])) ≡ Some ring
ring_read ring low =
    let small : IsNumber ring = omega (arith, low) in
    ap ring_in (cut_spaced (codes "ring") (decimal ring ∷ []) (word (codes "ring") refl) (one (decimal ring) (number ring small)))
    ∙ (ap (only_if (λ r. nat_le r 16384)) (number_read ring small) ∙ ap (λ (b : Bool). cond b (Some ring) None) (le-leb ring 16384 low))

pub printed_is_read : PrintedIsRead
printed_is_read journal low h =
    let small : IsNumber journal.ring = omega (arith, low) in
    let head : List ℕ = codes "ring" ++ spaced (decimal journal.ring ∷ []) in
    let rest : List ℕ = flat_map entry_text journal.lines in
    let cut : lines (journal_text journal) ≡ head ∷ lines rest =
    ap lines (ended_by (codes "ring") (spaced (decimal journal.ring ∷ [])) rest)
    ∙ line_first head rest (parts_in_line (codes "ring") (decimal journal.ring ∷ []) (word (codes "ring") refl) (one (decimal journal.ring) (number journal.ring small))) in
    ap (λ (ls : List (List ℕ)). journal_on (numbered 1 ls)) cut
    ∙ (ap (λ (o : Option ℕ). headed 1 o (numbered 2 (lines rest))) (ring_read journal.ring low)
    ∙ ap (λ (r : Result (List JournalLine) HistoryFault). with_ring journal.ring r) (entries_read 2 journal.lines h))
