-- Ascending numbers, read part by part.
use Rattle.std.proofs.Common.{◌≡◌, ℕ, ◌<◌, List, [], ◌∷◌, ◌++◌, map, Bool, true, false, ◌&&◌, cond, Option, None, Some, option_map, IfSome, refl, sym, ◌∙◌, ap, subst, append_assoc, append-nil}
use Rattle.std.proofs.lemmas.Bool.{ltb-true}
use Rattle.std.specs.List.{last_or}
use Rattle.scan_history.specs.Parts.{only_if, all_there, is_above, ascend_from, ascending}

-- the values of the parts after a last number
abbrev pub rising : (List ℕ → Option ℕ) → Option ℕ → List (List ℕ) → Option (List ℕ)
rising meaning last parts = only_if (ascend_from last) (all_there (map meaning parts))

-- the numbers so far, and those of the parts that are left
abbrev pub with_front : List ℕ → Option (List ℕ) → Option (List ℕ)
with_front front rest = option_map (λ after. front ++ after) rest

pub no_front : (rest : Option (List ℕ)) → with_front [] rest ≡ rest
no_front None = refl
no_front (Some ns) = refl

-- a part without a value
bad_by : (meaning : List ℕ → Option ℕ) (last : Option ℕ) (part : List ℕ) (parts : List (List ℕ)) (o : Option ℕ) → meaning part ≡ o → o ≡ None
    → rising meaning last (part ∷ parts) ≡ None
bad_by meaning last part parts o e n = ap (λ x. only_if (ascend_from last) (all_there (x ∷ map meaning parts))) (e ∙ n)

pub bad_part : (meaning : List ℕ → Option ℕ) (last : Option ℕ) (part : List ℕ) (parts : List (List ℕ)) → meaning part ≡ None
    → rising meaning last (part ∷ parts) ≡ None
bad_part meaning last part parts e = bad_by meaning last part parts None e refl

-- a number that is not above the last
low_by : (last : Option ℕ) (n : ℕ) (rest : Option (List ℕ)) → is_above last n ≡ false
    → only_if (ascend_from last) (option_map (λ more. n ∷ more) rest) ≡ None
low_by last n None low = refl
low_by last n (Some ns) low = ap (λ (b : Bool). cond (b && ascend_from (Some n) ns) (Some (n ∷ ns)) None) low

pub low_part : (meaning : List ℕ → Option ℕ) (last : Option ℕ) (part : List ℕ) (parts : List (List ℕ)) (n : ℕ) → meaning part ≡ Some n → is_above last n ≡ false
    → rising meaning last (part ∷ parts) ≡ None
low_part meaning last part parts n e low = ap (λ x. only_if (ascend_from last) (all_there (x ∷ map meaning parts))) e ∙ low_by last n (all_there (map meaning parts)) low

cond_map : (n : ℕ) (ns : List ℕ) (b : Bool) → cond b (Some (n ∷ ns)) None ≡ option_map (λ (more : List ℕ). n ∷ more) (cond b (Some ns) None)
cond_map n ns true = refl
cond_map n ns false = refl

more_by : (last : Option ℕ) (n : ℕ) (rest : Option (List ℕ)) → is_above last n ≡ true
    → only_if (ascend_from last) (option_map (λ more. n ∷ more) rest) ≡ option_map (λ (more : List ℕ). n ∷ more) (only_if (ascend_from (Some n)) rest)
more_by last n None up = refl
more_by last n (Some ns) up = ap (λ (b : Bool). cond (b && ascend_from (Some n) ns) (Some (n ∷ ns)) None) up ∙ cond_map n ns (ascend_from (Some n) ns)

-- a number that is above it
more_part : (meaning : List ℕ → Option ℕ) (last : Option ℕ) (part : List ℕ) (parts : List (List ℕ)) (n : ℕ) → meaning part ≡ Some n → is_above last n ≡ true
    → rising meaning last (part ∷ parts) ≡ option_map (λ (more : List ℕ). n ∷ more) (rising meaning (Some n) parts)
more_part meaning last part parts n e up = ap (λ x. only_if (ascend_from last) (all_there (x ∷ map meaning parts))) e ∙ more_by last n (all_there (map meaning parts)) up

front_more : (front : List ℕ) (n : ℕ) (rest : Option (List ℕ)) → with_front front (option_map (λ (more : List ℕ). n ∷ more) rest) ≡ with_front (front ++ n ∷ []) rest
front_more front n None = refl
front_more front n (Some ns) = ap {B = Option (List ℕ)} (λ l. Some l) (sym (append_assoc front (n ∷ []) ns))

-- the numbers so far and those of the parts left are those of all parts
pub record Risen (meaning : List ℕ → Option ℕ) (whole left : List (List ℕ)) (last : Option ℕ) (numbers : List ℕ) : Type 0 where
  pub read : with_front numbers (rising meaning last left) ≡ ascending meaning whole
  pub last_is : last ≡ last_or None numbers

pub risen_first : (meaning : List ℕ → Option ℕ) (whole : List (List ℕ)) → Risen meaning whole whole None []
risen_first meaning whole = record { read = no_front (rising meaning None whole); last_is = refl }

pub risen_all : (meaning : List ℕ → Option ℕ) (whole : List (List ℕ)) (last : Option ℕ) (numbers : List ℕ) → Risen meaning whole [] last numbers → Some numbers ≡ ascending meaning whole
risen_all meaning whole last numbers h = ap {B = Option (List ℕ)} (λ l. Some l) (sym (append-nil numbers)) ∙ h.read

last_push : (o : Option ℕ) (ns : List ℕ) (n : ℕ) → last_or o (ns ++ n ∷ []) ≡ Some n
last_push o [] n = refl
last_push o (x ∷ xs) n = last_push (Some x) xs n

pub risen_more : (meaning : List ℕ → Option ℕ) (whole left : List (List ℕ)) (last : Option ℕ) (numbers : List ℕ) (part : List ℕ) (n : ℕ)
    → Risen meaning whole (part ∷ left) last numbers → meaning part ≡ Some n → is_above last n ≡ true → Risen meaning whole left (Some n) (numbers ++ n ∷ [])
risen_more meaning whole left last numbers part n h e up = record {
  read = sym (front_more numbers n (rising meaning (Some n) left)) ∙ (ap (with_front numbers) (sym (more_part meaning last part left n e up)) ∙ h.read);
  last_is = sym (last_push None numbers n);
}

pub risen_bad : (meaning : List ℕ → Option ℕ) (whole left : List (List ℕ)) (last : Option ℕ) (numbers : List ℕ) (part : List ℕ)
    → Risen meaning whole (part ∷ left) last numbers → meaning part ≡ None → None ≡ ascending meaning whole
risen_bad meaning whole left last numbers part h e = ap (with_front numbers) (sym (bad_part meaning last part left e)) ∙ h.read

pub risen_low : (meaning : List ℕ → Option ℕ) (whole left : List (List ℕ)) (last : Option ℕ) (numbers : List ℕ) (part : List ℕ) (n : ℕ)
    → Risen meaning whole (part ∷ left) last numbers → meaning part ≡ Some n → is_above last n ≡ false → None ≡ ascending meaning whole
risen_low meaning whole left last numbers part n h e low = ap (with_front numbers) (sym (low_part meaning last part left n e low)) ∙ h.read

-- a number above the last one is above the last of the list
above_by : (o : Option ℕ) (n : ℕ) → is_above o n ≡ true → IfSome o (λ last. last < n)
above_by None n up = record {}
above_by (Some last) n up = ltb-true last n up

pub above_last : (meaning : List ℕ → Option ℕ) (whole left : List (List ℕ)) (last : Option ℕ) (numbers : List ℕ) (n : ℕ)
    → Risen meaning whole left last numbers → is_above last n ≡ true → IfSome (last_or None numbers) (λ last. last < n)
above_last meaning whole left last numbers n h up = subst (λ o. IfSome o (λ last. last < n)) h.last_is (above_by last n up)
