-- In one chunk a child query finds the pairs of the sources that stand with it.
use Rattle.std.proofs.Common.{◌≡◌, ℕ, ◌<◌, ℤ, ◌<ℤ◌, Bool, true, false, cond, ◌&&◌, ◌||◌, List, [], ◌∷◌, map, filter, refl, sym, ap, subst, ◌∙◌, arith, IsPermutation, Some}
use Rattle.std.specs.List.{AllByRecursion as Each, flat_map}
use Rattle.std.specs.Ordering.{int_eq}
use Rattle.std.specs.Prelude.{find, option_map, option_to_list}
use Rattle.std.proofs.lemmas.Int.{ints}
use Rattle.table_rules.specs.Objects.{Obj}
use Rattle.sky_rules.specs.Limits.{IsSky}
use Rattle.sky_rules.specs.Partition.{Partition, chunk_count}
use Rattle.sky_rules.specs.Bounds.{in_chunk}
use Rattle.source_rules.specs.Sources.{Source}
use Rattle.source_rules.specs.SourcePlaces.{object_is_in}
use Rattle.sql_bound.specs.declared.cond.BoundCond.{BoundCond}
use Rattle.value_rules.specs.Truth.{meets}
use Rattle.value_rules.specs.Values.{Pick}
use Rattle.answer_rules.specs.Coverage.{AreInTheSky}
use Rattle.answer_rules.specs.Picks.{lies_in}
use Rattle.answer_rules.proofs.Apart.{IdsClimb, ids_climb, each-append, each_always, each_map}
use Rattle.answer_rules.proofs.Chunks.{lies_in_one}
use Rattle.answer_rules.proofs.Covering.{Known, known, filter_same_on}
use Rattle.answer_rules.proofs.Orders.{each_weaker}
use Rattle.child_rules.specs.Children.{child_found, child_pair, child_picks, is_source_of, source_pairs}
use Rattle.child_rules.specs.ChildLaws.{ChildFoundInOne, met_pairs}
use Rattle.child_rules.proofs.Crossing.{blocks_kept, blocks_same, crossed, crossed_kept}

-- what is so of each object is so of each first row
pub each_first : (Q : Obj → Type 0) (sources : List Source) (os : List Obj) → Each Q os → Each (λ p. Q p.first) (child_picks os sources)
each_first Q sources [] h = tt
each_first Q sources (o ∷ os) h =
    each-append (λ p. Q p.first) (source_pairs sources o) (child_picks os sources)
    (each_map (λ p. Q p.first) (child_pair o) (filter (is_source_of o) sources) (each_always (λ s. Q o) (λ s. h.0) (filter (is_source_of o) sources)))
    (each_first Q sources os h.1)

flip : (a b : ℤ) → int_eq a b ≡ int_eq b a
flip a b = grind (arith, ints)

not_above : (a b d : ℤ) → int_eq a b ≡ true → b <ℤ d → int_eq a d ≡ false
not_above a b d h k = grind (arith, ints)

module _ (g : Partition) (conds : List BoundCond) (c : ℕ) (s : Source) where
  -- the object is that of the source, lies in the chunk, and the pair meets the conditions
  abbrev test : Obj → Bool
  test o = is_source_of o s && (in_chunk g c o.at && meets conds (child_pair o s))

  abbrev of_pair : Obj → Pick
  of_pair o = child_pair o s

  above : (o : Obj) (os : List Obj) → is_source_of o s ≡ true → Each (λ p. o.id <ℤ p.id) os → Each (λ p. is_source_of p s ≡ false) os
  above o os e h = each_weaker (λ p. o.id <ℤ p.id) (λ p. is_source_of p s ≡ false) (λ p k. not_above s.object o.id p.id e k) os h

  none_kept : (os : List Obj) → Each (λ p. is_source_of p s ≡ false) os → filter test os ≡ []
  none_kept [] h = refl
  none_kept (o ∷ os) h =
      ap (λ b. cond (b && (in_chunk g c o.at && meets conds (child_pair o s))) (o ∷ filter test os) (filter test os)) h.0 ∙ none_kept os h.1

  none_lie : (os : List Obj) → Each (λ p. is_source_of p s ≡ false) os → object_is_in g os c s ≡ false
  none_lie [] h = refl
  none_lie (o ∷ os) h = ap (λ b. (b && in_chunk g c o.at) || object_is_in g os c s) (flip o.id s.object ∙ h.0) ∙ none_lie os h.1

  hit : (o : Obj) (i m : Bool) → map of_pair (cond (i && m) (o ∷ []) []) ≡ cond (i || false) (cond m (child_pair o s ∷ []) []) []
  hit o true true = refl
  hit o true false = refl
  hit o false m = refl

  -- what the head and the tail give, by whether the head is the object
  one_step : (o : Obj) (os : List Obj) (b : Bool) → is_source_of o s ≡ b → Each (λ p. o.id <ℤ p.id) os
      → map of_pair (filter test os) ≡ cond (object_is_in g os c s) (met_pairs os conds s) []
      → map of_pair (cond (is_source_of o s && (in_chunk g c o.at && meets conds (child_pair o s))) (o ∷ filter test os) (filter test os))
      ≡ cond ((int_eq o.id s.object && in_chunk g c o.at) || object_is_in g os c s) (filter (meets conds) (option_to_list (option_map of_pair (cond (is_source_of o s) (Some o) (find (λ p. is_source_of p s) os))))) []
  one_step o os true e h rest =
      let i : Bool = in_chunk g c o.at in
      let m : Bool = meets conds (child_pair o s) in
      let none = above o os e h in
      ap (λ l. map of_pair (cond (is_source_of o s && (i && m)) (o ∷ l) l)) (none_kept os none)
      ∙ ap (λ b. map of_pair (cond (b && (i && m)) (o ∷ []) [])) e
      ∙ hit o i m
      ∙ sym (
      ap (λ b. cond ((b && i) || object_is_in g os c s) (filter (meets conds) (option_to_list (option_map of_pair (cond (is_source_of o s) (Some o) (find (λ p. is_source_of p s) os))))) []) (flip o.id s.object ∙ e)
      ∙ ap (λ b. cond (i || b) (filter (meets conds) (option_to_list (option_map of_pair (cond (is_source_of o s) (Some o) (find (λ p. is_source_of p s) os))))) []) (none_lie os none)
      ∙ ap (λ b. cond (i || false) (filter (meets conds) (option_to_list (option_map of_pair (cond b (Some o) (find (λ p. is_source_of p s) os))))) []) e
      )
  one_step o os false e h rest =
      let i : Bool = in_chunk g c o.at in
      let m : Bool = meets conds (child_pair o s) in
      ap (λ b. map of_pair (cond (b && (i && m)) (o ∷ filter test os) (filter test os))) e
      ∙ rest
      ∙ sym (
      ap (λ b. cond ((b && i) || object_is_in g os c s) (filter (meets conds) (option_to_list (option_map of_pair (cond (is_source_of o s) (Some o) (find (λ p. is_source_of p s) os))))) []) (flip o.id s.object ∙ e)
      ∙ ap (λ b. cond (object_is_in g os c s) (filter (meets conds) (option_to_list (option_map of_pair (cond b (Some o) (find (λ p. is_source_of p s) os))))) []) e
      )

  -- the pairs of a source in a chunk: its own, where its object lies there
  per_source : (table : List Obj) → IdsClimb table → map of_pair (filter test table) ≡ cond (object_is_in g table c s) (met_pairs table conds s) []
  per_source [] h = refl
  per_source (o ∷ os) h = one_step o os (is_source_of o s) refl h.0 (per_source os h.1)

swap_and : (m i : Bool) → (m && i) ≡ (i && m)
swap_and true true = refl
swap_and true false = refl
swap_and false true = refl
swap_and false false = refl

found_one : (g : Partition) (table : List Obj) (sources : List Source) (conds : List BoundCond) (c : ℕ) → IsSky g → AreInTheSky table → c < chunk_count g → child_found g table sources conds (c ∷ []) ≡ filter (λ p. in_chunk g c p.first.at && meets conds p) (child_picks table sources)
found_one g table sources conds c sky at l =
    filter_same_on (λ p. meets conds p && lies_in g (c ∷ []) p.first.at) (λ p. in_chunk g c p.first.at && meets conds p) (child_picks table sources)
    (each_weaker (λ p. Known table p.first) (λ p. (meets conds p && lies_in g (c ∷ []) p.first.at) ≡ (in_chunk g c p.first.at && meets conds p))
    (λ p k. ap (λ b. meets conds p && b) (lies_in_one g p.first.at c sky k.0 l) ∙ swap_and (meets conds p) (in_chunk g c p.first.at)) (child_picks table sources) (each_first (Known table) sources table (known table at)))

pub child_found_in_one : ChildFoundInOne
child_found_in_one g table sources conds c sky at up l =
    let climb = ids_climb table up in
    let met : Pick → Bool = λ p. in_chunk g c p.first.at && meets conds p in
    let by_objects = found_one g table sources conds c sky at l ∙ crossed_kept is_source_of child_pair met table sources in
    let by_sources =
    blocks_same (λ s. map (λ o. child_pair o s) (filter (λ o. is_source_of o s && met (child_pair o s)) table)) (λ s. cond (object_is_in g table c s) (met_pairs table conds s) [])
    (λ s. per_source g conds c s table climb) sources
    ∙ blocks_kept (object_is_in g table c) (met_pairs table conds) sources
    in
    subst (λ l. IsPermutation l (flat_map (met_pairs table conds) (filter (object_is_in g table c) sources))) (sym by_objects)
    (subst (IsPermutation _) by_sources (crossed (λ o s. is_source_of o s && met (child_pair o s)) child_pair table sources))
