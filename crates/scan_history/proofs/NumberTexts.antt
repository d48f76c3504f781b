-- Numbers in decimal, and lists of them, are read as themselves.
use Rattle.std.proofs.Common.{◌≡◌, ℕ, ◌^◌, ◌<◌, ◌≤◌, ◌==◌, eq-eqb, List, [], ◌∷◌, map, length, All, AllPairs, Bool, true, cond, Option, None, Some, option_map, nat_lt, nat_le, refl, sym, ◌∙◌, ap, subst, arith, rules, lt-ltb, le-leb, decimal}
use Rattle.std.specs.List.{list_all}
use Rattle.std.proofs.lemmas.Fmt.{decimal_nonempty, digits_decimal, digits_value-decimal, length-decimal-le}
use Rattle.std.proofs.lemmas.Str.Parse.{IsNumeralModel, numerals_by_fold}
use Rattle.std.proofs.lemmas.Bool.{and_from, or_left}
use Rattle.scan_rules.specs.Numbers.{has}
use Rattle.scan_rules.proofs.Ascending.{pairs_head, pairs_tail}
use Rattle.std.proofs.lemmas.List.Elements.{All-cons, All-nil, All-head, All-tail}
use Rattle.text_rules.specs.Numbers.{is_digit, is_natural, natural, value_after}
use Rattle.scan_history.specs.Parts.{only_if, number_of, is_query, query_of, all_there, is_above, ascend_from, ascending, chunks_in, queries_in}
use Rattle.scan_history.specs.Printed.{decimals}
use Rattle.scan_history.specs.Laws.{IsNumber, IsQuery, AreChunks, AreQueries}

-- digits and their value, by the definitions of numerals
pub own : IsNumeralModel (λ ds. list_all is_digit ds ≡ true) (value_after 0)
own = numerals_by_fold _ (search rules) value_after (search rules)

-- the decimal text of a number has it as its value
pub number_read : (n : ℕ) → IsNumber n → number_of (decimal n) ≡ Some n
number_read n small =
    let fits : n < 2 ^ 64 = omega (arith, small) in
    let some : nat_lt 0 (length (decimal n)) ≡ true = lt-ltb 0 (length (decimal n)) (decimal_nonempty n fits) in
    let short : nat_le (length (decimal n)) 10 ≡ true = le-leb (length (decimal n)) 10 (length-decimal-le 10 n (omega arith) (omega (arith, small)) fits) in
    let is : is_natural 10 (decimal n) ≡ true = and_from _ _ (and_from _ _ some short) (digits_decimal own n fits) in
    let value : value_after 0 (decimal n) ≡ n = digits_value-decimal own n fits in
    let read : natural 10 (decimal n) ≡ Some n = ap (λ (b : Bool). cond b (Some (value_after 0 (decimal n))) None) is ∙ ap {B = Option ℕ} (λ v. Some v) value in
    ap (only_if (λ v. nat_lt v 4294967296)) read ∙ ap (λ (b : Bool). cond b (Some n) None) (lt-ltb n 4294967296 small)

-- the decimal text of a query's number
pub query_read : (q : ℕ) → IsQuery q → query_of (decimal q) ≡ Some q
query_read q h =
    let low : q ≤ 255 = h.1 in
    let number : number_of (decimal q) ≡ Some q = number_read q (omega (arith, low)) in
    ap (only_if is_query) number ∙ ap (λ (b : Bool). cond b (Some q) None) (and_from _ _ (le-leb 1 q h.0) (le-leb q 255 low))

-- a list of numbers, each of which is read
pub all_read : (meaning : List ℕ → Option ℕ) (numbers : List ℕ) → All (λ n. meaning (decimal n) ≡ Some n) numbers → all_there (map meaning (decimals numbers)) ≡ Some numbers
all_read meaning [] h = refl
all_read meaning (n ∷ ns) h =
    ap (λ (o : Option ℕ). all_there (o ∷ map meaning (decimals ns))) (All-head (λ n. meaning (decimal n) ≡ Some n) n ns h)
    ∙ ap (λ (o : Option (List ℕ)). option_map (λ (more : List ℕ). n ∷ more) o) (all_read meaning ns (All-tail (λ n. meaning (decimal n) ≡ Some n) n ns h))

-- numbers that ascend pass the test
ascends_from : (last : Option ℕ) (numbers : List ℕ) → ((first : ℕ) (rest : List ℕ) → numbers ≡ first ∷ rest → is_above last first ≡ true) → AllPairs (λ a b. a < b) numbers → ascend_from last numbers ≡ true
ascends_from last [] first up = refl
ascends_from last (n ∷ ns) first up =
    and_from _ _ (first n ns refl)
    (ascends_from (Some n) ns (λ m rest e. lt-ltb n m (pairs_head (λ a b. a < b) n ns m up (subst (λ (l : List ℕ). has l m ≡ true) (sym e) (or_left (m == m) (has rest m) (eq-eqb m m refl))))) (pairs_tail (λ a b. a < b) n ns up))

pub ascends : (numbers : List ℕ) → AllPairs (λ a b. a < b) numbers → ascend_from None numbers ≡ true
ascends numbers up = ascends_from None numbers (λ first rest e. refl) up

each_read : {P : ℕ → Type 0} (meaning : List ℕ → Option ℕ) → ((n : ℕ) → P n → meaning (decimal n) ≡ Some n) → (numbers : List ℕ) → All P numbers → All (λ n. meaning (decimal n) ≡ Some n) numbers
each_read meaning read [] h = All-nil (λ n. meaning (decimal n) ≡ Some n)
each_read {P = P} meaning read (n ∷ ns) h = All-cons (λ n. meaning (decimal n) ≡ Some n) n ns (read n (All-head P n ns h)) (each_read meaning read ns (All-tail P n ns h))

-- an ascending list is read
list_read : {P : ℕ → Type 0} (meaning : List ℕ → Option ℕ) → ((n : ℕ) → P n → meaning (decimal n) ≡ Some n) → (numbers : List ℕ) → All P numbers → AllPairs (λ a b. a < b) numbers → ascending meaning (decimals numbers) ≡ Some numbers
list_read meaning read numbers each up =
    ap (only_if (ascend_from None)) (all_read meaning numbers (each_read meaning read numbers each)) ∙ ap (λ (b : Bool). cond b (Some numbers) None) (ascends numbers up)

pub chunks_read : (chunks : List ℕ) → AreChunks chunks → chunks_in (decimals chunks) ≡ Some chunks
chunks_read chunks h = list_read number_of number_read chunks h.each h.ascend

pub queries_read : (q : ℕ) (queries : List ℕ) → AreQueries (q ∷ queries) → queries_in (decimals (q ∷ queries)) ≡ Some (q ∷ queries)
queries_read q queries h = list_read query_of query_read (q ∷ queries) h.each h.ascend
