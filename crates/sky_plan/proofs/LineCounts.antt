-- How many lines a text has.
use Rattle.std.proofs.Common.{◌≡◌, ℕ, zero, suc, ◌+◌, ◌<◌, ◌≤◌, Bool, true, false, cond, List, [], ◌∷◌, length, arith, refl, ◌==◌}
use Rattle.std.specs.List.{slice_split, onto_first}
use Rattle.std.specs.Str.Lines.{lines, lines_of_parts}
use Rattle.text_rules.specs.Lines.{numbered, lines_of}

-- numbers change no count
count_numbered : (n : ℕ) (texts : List (List ℕ)) → length (numbered n texts) ≡ length texts
count_numbered n [] = refl
count_numbered n (text ∷ rest) = grind (arith, count_numbered (n + 1) rest)

-- a byte in front of a part that is not the last adds no line, and in front of the last at most one
one_more : (b : ℕ) (parts : List (List ℕ)) → length (lines_of_parts (onto_first b parts)) ≤ length (lines_of_parts parts) + 1
one_more b [] = omega arith
one_more b ([] ∷ []) = grind arith
one_more b ((c ∷ part) ∷ []) = grind arith
one_more b (part ∷ next ∷ rest) = omega arith

-- a part in front adds at most one line
one_part : (parts : List (List ℕ)) → length (lines_of_parts ([] ∷ parts)) ≤ length (lines_of_parts parts) + 1
one_part [] = omega arith
one_part (part ∷ rest) = omega arith

by_test : (b : ℕ) (parts : List (List ℕ)) (test : Bool) → length (lines_of_parts (cond test ([] ∷ parts) (onto_first b parts))) ≤ length (lines_of_parts parts) + 1
by_test b parts true = one_part parts
by_test b parts false = one_more b parts

count_lines : (text : List ℕ) → length (lines text) ≤ length text
count_lines [] = omega arith
count_lines (b ∷ rest) =
    let more = by_test b (slice_split (λ b. b == 10) rest) (b == 10) in
    let fewer = count_lines rest in omega (arith, more, fewer)

-- a text has no more lines than bytes
pub few_lines : (text : List ℕ) → length (lines_of text) ≤ length text
few_lines text =
    let same = count_numbered 1 (lines text) in
    let few = count_lines text in omega (arith, same, few)
