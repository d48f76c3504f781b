-- What holds of each pair holds after each call.
use Rattle.std.proofs.Common.{◌≡◌, ◌<◌, ◌+◌, ℕ, zero, suc, List, [], ◌∷◌, ◌++◌, ◌⊎◌, ⊎_elim, refl, sym, ap, ◌∙◌, subst, arith, Contains, slice_index_or}
use Rattle.std.proofs.lemmas.List.Elements.{Contains-append_cases}
use Rattle.turn_lock.proofs.Splitting.{no_member}
use Rattle.turn_lock.proofs.Ends.{entries_are_kept}
use Rattle.turn_lock.specs.Ends.{AllHaveEnded, IsKeptOf}
use Rattle.turn_lock.specs.Seats.{Knows, joined_with, next_seat, one_more_made}
use Rattle.scan_rules.specs.declared.journal_line.JournalLine.{JournalLine}
use Rattle.scan_rules.specs.Lines.{seat_of}
use Rattle.scan_rules.specs.Queries.{Journal}
use Rattle.scan_core.specs.Boards.{BoardState}
use Rattle.scan_core.specs.declared.board_root.BoardRoot.{BoardRoot}
use Rattle.scan_board.specs.Calls.{BoardSeat, Called}
use Rattle.scan_board.proofs.Holding.{seat_adds, seat_looks}
use Rattle.scan_classes.specs.declared.class.Class.{Class}
use Rattle.scan_classes.specs.declared.class.Class.TheVariants.{Short, Long}
use Rattle.scan_classes.specs.Pairs.{AreOfClass, IsPair, KeepsClass, PairSeat, may_be_at, seat_at}
use Rattle.scan_classes.proofs.ClassLines.{AddsOf, all_from, all_push, all_there}

-- what a call leaves of a participant
pub record Unmoved {R : Type 0} (old new : BoardSeat R) : Type 0 where
  pub root : new.root ≡ old.root
  pub number : new.number ≡ old.number
  pub made : new.made ≡ old.made

module _ {R : Type 0} (asks : R → ℕ → ℕ → Type 0) where
  called_unmoved : (answers : BoardState R → BoardState R → Type 0) (old new : BoardSeat R) → Called asks answers old new → Unmoved old new
  called_unmoved answers old new c = record {
    root = ap (λ (s : BoardSeat R). s.root) c.same;
    number = ap (λ (s : BoardSeat R). s.number) c.same;
    made = ap (λ (s : BoardSeat R). s.made) c.same;
  }

  called_keeps : (answers : BoardState R → BoardState R → Type 0) (class : Class) (old new : BoardSeat R) (c : Called asks answers old new)
      → AddsOf class c.past new.seen → KeepsClass class old → KeepsClass class new
  called_keeps answers class old new c a k = ⊎_elim
      (λ e. subst (KeepsClass class) (sym (seat_looks asks answers old new c e)) (record { mine = k.mine; ended = k.ended }))
      (λ m. subst (KeepsClass class) (sym (seat_adds asks answers old new c m.0 m.2)) (record { mine = all_push class old.mine m.0 k.mine m.1; ended = k.ended }))
      a

  -- after a call of the short board, and after one of the long board
  pub after_short : (answers : BoardState R → BoardState R → Type 0) (old : PairSeat R) (new : BoardSeat R) (c : Called asks answers old.short new)
      → AddsOf Short c.past new.seen → IsPair old → IsPair (record { short = new; long = old.long })
  after_short answers old new c a p =
      let r = called_unmoved answers old.short new c in
      record {
        root = p.root ∙ sym r.root;
        number = p.number ∙ sym r.number;
        made = p.made ∙ sym r.made;
        keeps = both;
      } where
        both : (class : Class) → KeepsClass class (seat_at (record { short = new; long = old.long }) class)
        both Short = called_keeps answers Short old.short new c a (p.keeps Short)
        both Long = p.keeps Long

  pub after_long : (answers : BoardState R → BoardState R → Type 0) (old : PairSeat R) (new : BoardSeat R) (c : Called asks answers old.long new)
      → AddsOf Long c.past new.seen → IsPair old → IsPair (record { short = old.short; long = new })
  after_long answers old new c a p =
      let r = called_unmoved answers old.long new c in
      record {
        root = r.root ∙ p.root;
        number = r.number ∙ p.number;
        made = r.made ∙ p.made;
        keeps = both;
      } where
        both : (class : Class) → KeepsClass class (seat_at (record { short = old.short; long = new }) class)
        both Short = p.keeps Short
        both Long = called_keeps answers Long old.long new c a (p.keeps Long)

-- two participants that have made no line
pub first_pair : {R : Type 0} (pair : PairSeat R) → pair.long.root ≡ pair.short.root → pair.long.number ≡ pair.short.number → pair.long.made ≡ pair.short.made
    → ((class : Class) → (seat_at pair class).mine ≡ []) → ((class : Class) → (seat_at pair class).ended ≡ []) → IsPair pair
first_pair pair r n m mine ended = record {
  root = r;
  number = n;
  made = m;
  keeps = λ class. record {
    mine = subst (AreOfClass class) (sym (mine class)) refl;
    ended = λ k lines t. absurd (no_member (k, lines) (subst (λ (l : List (ℕ × Journal)). Contains l (k, lines)) (ended class) t));
  };
}

only_one : {A : Type 0} (x y : A) (k : ℕ) → k < 1 → slice_index_or (x ∷ []) k y ≡ y → x ≡ y
only_one x y zero h e = e
only_one x y (suc k) h e = absurd (omega (arith, h))

-- a participant in which another has ended
joined_keeps : {R : Type 0} (class : Class) (seat other : BoardSeat R) → KeepsClass class seat → KeepsClass class other → KeepsClass class (joined_with seat other)
joined_keeps class seat other k o = record {
  mine = k.mine;
  ended = λ n lines t. ⊎_elim
      (λ a. k.ended n lines a)
      (λ b. ⊎_elim
      (λ c. let e = only_one (other.number, other.mine) (n, lines) c.0 c.1 c.2 in subst (AreOfClass class) (ap (λ (p : ℕ × Journal). p.1) e) o.mine)
      (λ d. o.ended n lines d)
      (Contains-append_cases ((other.number, other.mine) ∷ []) other.ended (n, lines) b))
      (Contains-append_cases seat.ended ((other.number, other.mine) ∷ other.ended) (n, lines) t);
}

pub joined_pair : {R : Type 0} (pair other : PairSeat R) → IsPair pair → IsPair other
    → IsPair (record { short = joined_with pair.short other.short; long = joined_with pair.long other.long })
joined_pair pair other p o = record {
  root = p.root;
  number = p.number;
  made = p.made;
  keeps = both;
} where
  both : (class : Class) → KeepsClass class (seat_at (record { short = joined_with pair.short other.short; long = joined_with pair.long other.long }) class)
  both Short = joined_keeps Short pair.short other.short (p.keeps Short) (o.keeps Short)
  both Long = joined_keeps Long pair.long other.long (p.keeps Long) (o.keeps Long)

-- a pair that has made another, and the one that it made
pub split_pair : {R : Type 0} (pair : PairSeat R) → IsPair pair → IsPair (record { short = one_more_made pair.short; long = one_more_made pair.long })
split_pair pair p = record {
  root = p.root;
  number = p.number;
  made = ap (λ n. n + 1) p.made;
  keeps = both;
} where
  both : (class : Class) → KeepsClass class (seat_at (record { short = one_more_made pair.short; long = one_more_made pair.long }) class)
  both Short = record { mine = (p.keeps Short).mine; ended = (p.keeps Short).ended }
  both Long = record { mine = (p.keeps Long).mine; ended = (p.keeps Long).ended }

pub next_pair : {R : Type 0} (pair : PairSeat R) → IsPair pair → IsPair (record { short = next_seat pair.short; long = next_seat pair.long })
next_pair pair p = first_pair (record { short = next_seat pair.short; long = next_seat pair.long }) p.root p.made refl mine ended where
  mine : (class : Class) → (seat_at (record { short = next_seat pair.short; long = next_seat pair.long }) class).mine ≡ []
  mine Short = refl
  mine Long = refl

  ended : (class : Class) → (seat_at (record { short = next_seat pair.short; long = next_seat pair.long }) class).ended ≡ []
  ended Short = refl
  ended Long = refl

-- each line that participant 0 has seen is its own or kept, once all others have ended in it
pub all_of_class : {R : Type 0} (class : Class) (seat : BoardSeat R) → seat.number ≡ 0 → Knows seat_of seat → AllHaveEnded seat → KeepsClass class seat
    → AreOfClass class seat.seen
all_of_class {R} class seat zero_is knows all k = all_from class seat.seen (λ line t. ⊎_elim
    (λ own. all_there class seat.mine line k.mine own)
    (λ kept. all_there class kept.entries line (k.ended (seat_of line) kept.entries kept.ended) kept.there)
    (entries_are_kept (BoardRoot R) seat_of seat line zero_is knows all t))

-- a pair of participants that are equal to those of a pair
pub both_is : {R : Type 0} (s t l m : BoardSeat R) → s ≡ t → l ≡ m → IsPair (record { short = t; long = m }) → IsPair (record { short = s; long = l })
both_is s t l m e f p = subst (λ (x : BoardSeat _). IsPair (record { short = x; long = l })) (sym e) (subst (λ (y : BoardSeat _). IsPair (record { short = t; long = y })) (sym f) p)
