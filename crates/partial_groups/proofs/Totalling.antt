-- The first total that is out of range, found one after the other; where there is none, all are in range.
use Rattle.std.proofs.Common.{◌≡◌, ℕ, zero, suc, ◌+◌, ◌<◌, ◌≤◌, ℤ, Bool, true, false, not, cond, List, [], ◌∷◌, ◌++◌, map, length, get_or, drop, is_some, Option, Some, None, refl, sym, ap, ◌∙◌, arith}
use Rattle.std.specs.List.{All, AllByRecursion as Each, flat_map, find}
use Rattle.std.specs.Option.{option_or}
use Rattle.std.proofs.lemmas.List.{drop_more}
use Rattle.std.proofs.lemmas.List.Folds.{find-append}
use Rattle.std.proofs.lemmas.List.Elements.{All-from_recursion, recursion_from_All}
use Rattle.sky_vector.specs.Numbers.{is_query_number}
use Rattle.sql_bound.specs.declared.expr.BoundCol.{BoundCol}
use Rattle.answer_rules.specs.declared.rewritten.MergeItem.{MergeItem}
use Rattle.answer_rules.specs.Finish.{merged_out, merged_totals}
use Rattle.answer_rules.specs.Parts.{Part}
use Rattle.partial_groups.specs.declared.group_entry.GroupEntry.{GroupEntry}
use Rattle.partial_groups.specs.Groups.{Gathered, IsThere, group_of}
use Rattle.partial_groups.specs.Merging.{IsMergeable, IsTested, MayMerge}

-- ---- one after the other

or_none : {A : Type 0} (a b : Option A) → a ≡ None → option_or a b ≡ b
or_none a b e = ap (λ x. option_or x b) e

first_here : {X : Type 0} (p : ℤ → Bool) (f : X → List ℤ) (xs : List X) (i : ℕ) (d : X) → i < length xs → find p (flat_map f (drop i xs)) ≡ option_or (find p (f (get_or xs i d))) (find p (flat_map f (drop (i + 1) xs)))
first_here p f xs i d l = ap (λ ys. find p (flat_map f ys)) (drop_more xs i d l) ∙ find-append p (f (get_or xs i d)) (flat_map f (drop (i + 1) xs))

is_none : {A : Type 0} (o : Option A) → is_some o ≡ false → o ≡ None
is_none None h = refl
is_none (Some a) h = absurd (cc h)

there_is : {A : Type 0} (o rest : Option A) → is_some o ≡ true → option_or o rest ≡ o
there_is None rest h = absurd (cc h)
there_is (Some a) rest h = refl

-- none here: the first is behind it
pub none_here : {X : Type 0} (p : ℤ → Bool) (f : X → List ℤ) (xs : List X) (i : ℕ) (x : X) (out all : Option ℤ) → i < length xs → x ≡ get_or xs i x → out ≡ find p (f x) → is_some out ≡ false → find p (flat_map f (drop i xs)) ≡ all → find p (flat_map f (drop (i + 1) xs)) ≡ all
none_here p f xs i x out all l is e n h = sym (first_here p f xs i x l ∙ or_none (find p (f (get_or xs i x))) _ (sym (e ∙ ap (λ y. find p (f y)) is) ∙ is_none out n)) ∙ h

-- here it is
pub some_here : {X : Type 0} (p : ℤ → Bool) (f : X → List ℤ) (xs : List X) (i : ℕ) (x : X) (out all : Option ℤ) → i < length xs → x ≡ get_or xs i x → out ≡ find p (f x) → is_some out ≡ true → find p (flat_map f (drop i xs)) ≡ all → out ≡ all
some_here p f xs i x out all l is e s h =
    sym (first_here p f xs i x l ∙ ap (λ o. option_or o (find p (flat_map f (drop (i + 1) xs)))) (sym (e ∙ ap (λ y. find p (f y)) is)) ∙ there_is out _ s) ∙ h

nothing_left : {X : Type 0} (xs : List X) (i : ℕ) → length xs ≤ i → drop i xs ≡ []
nothing_left [] zero l = refl
nothing_left [] (suc i) l = refl
nothing_left (x ∷ xs) zero l = absurd (omega (arith, l))
nothing_left (x ∷ xs) (suc i) l = nothing_left xs i (omega (arith, l))

-- none is left
pub none_left : {X : Type 0} (p : ℤ → Bool) (f : X → List ℤ) (xs : List X) (i : ℕ) (all : Option ℤ) → length xs ≤ i → find p (flat_map f (drop i xs)) ≡ all → None ≡ all
none_left p f xs i all l h = sym (ap (λ ys. find p (flat_map f ys)) (nothing_left xs i l)) ∙ h

-- ---- none is out of range

in_step : (b : Bool) (t : ℤ) (rest : Option ℤ) → cond (not b) (Some t) rest ≡ None → (b ≡ true) × (rest ≡ None)
in_step true t rest h = (refl, h)
in_step false t rest h = absurd (cc h)

none_out : (ts : List ℤ) → find (λ t. not (is_query_number t)) ts ≡ None → Each (λ t. is_query_number t ≡ true) ts
none_out [] h = tt
none_out (t ∷ ts) h = (let both = in_step (is_query_number t) t (find (λ t. not (is_query_number t)) ts) h in (both.0, none_out ts both.1))

each_front : {X : Type 0} (P : X → Type 0) (xs ys : List X) → Each P (xs ++ ys) → Each P xs
each_front P [] ys h = tt
each_front P (x ∷ xs) ys h = (h.0, each_front P xs ys h.1)

each_back : {X : Type 0} (P : X → Type 0) (xs ys : List X) → Each P (xs ++ ys) → Each P ys
each_back P [] ys h = h
each_back P (x ∷ xs) ys h = each_back P xs ys h.1

each_flat : {X Y : Type 0} (P : Y → Type 0) (f : X → List Y) (xs : List X) → Each P (flat_map f xs) → Each (λ x. Each P (f x)) xs
each_flat P f [] h = tt
each_flat P f (x ∷ xs) h = (each_front P (f x) (flat_map f xs) h, each_flat P f xs (each_back P (f x) (flat_map f xs) h))

-- groups whose parts are there, of which each item can be merged and no total is out
each_mergeable : (keys : List BoundCol) (items : List MergeItem) (parts : List Part) (groups : List GroupEntry) → Each (IsThere (length parts)) groups → Each (λ g. All (MayMerge keys g) items) (map (group_of parts) groups) → Each (λ g. Each (λ t. is_query_number t ≡ true) (flat_map (merged_totals g) items)) (map (group_of parts) groups) → Each (IsMergeable keys items parts) groups
each_mergeable keys items parts [] h k o = tt
each_mergeable keys items parts (m ∷ ms) h k o =
    let one : IsMergeable keys items parts m = record {
      there = h.0;
      may = k.0;
      tested = All-from_recursion (IsTested (group_of parts m)) items (each_flat (λ t. is_query_number t ≡ true) (merged_totals (group_of parts m)) items o.0);
    } in
    (one, each_mergeable keys items parts ms h.1 k.1 o.1)

pub all_mergeable : (keys : List BoundCol) (items : List MergeItem) (parts : List Part) (groups : List GroupEntry) → All (IsThere (length parts)) groups → All (λ g. All (MayMerge keys g) items) (map (group_of parts) groups) → merged_out items (map (group_of parts) groups) ≡ None → All (IsMergeable keys items parts) groups
all_mergeable keys items parts groups h k o =
    let gs : Gathered = map (group_of parts) groups in
    All-from_recursion (IsMergeable keys items parts) groups
    (each_mergeable keys items parts groups (recursion_from_All (IsThere (length parts)) groups h) (recursion_from_All (λ g. All (MayMerge keys g) items) gs k)
    (each_flat (λ t. is_query_number t ≡ true) (λ g. flat_map (merged_totals g) items) gs (none_out _ o)))

-- the totals of the groups, one after the other
pub totals_by_group_entry : (items : List MergeItem) (parts : List Part) (groups : List GroupEntry) → flat_map (λ g. flat_map (merged_totals g) items) (map (group_of parts) groups) ≡ flat_map (λ m. flat_map (merged_totals (group_of parts m)) items) groups
totals_by_group_entry items parts [] = refl
totals_by_group_entry items parts (m ∷ ms) = ap (λ l. flat_map (merged_totals (group_of parts m)) items ++ l) (totals_by_group_entry items parts ms)
