-- The first bracket that is too deep is the one that counting brackets in consecutive tokens finds.
use Rattle.std.proofs.Common.{◌≡◌, ◌↔◌, refl, sym, ap, ◌∙◌, subst, ℕ, zero, suc, ◌+◌, ◌-◌, ◌≤◌, arith, Bool, true, false, ◌&&◌, cond, nat_le, nat_lt}
use Rattle.std.proofs.Common.{List, [], ◌∷◌, ◌++◌, length, count_by, drop, get_or, Option, None, Some, Result, Ok, Err, append_assoc, append-nil, ◌⊎◌, inl, inr}
use Rattle.std.proofs.lemmas.List.Sums.{sum_by-append}
use Rattle.sql_token.specs.declared.sign.Sign.TheVariants as sign
use Rattle.sql_token.specs.declared.token.Token.{Token}
use Rattle.sql_token.specs.declared.token.TokenKind.{TokenKind}
use Rattle.sql_token.specs.declared.token.TokenKind.TheVariants as kind
use Rattle.sql_token.specs.Deep.{openings, closings, IsShallow, IsDeepBracket, IsTooDeep, AreWithin}
use Rattle.sql_token.specs.Faults.{TokenFault, TooMany, Depth}
use Rattle.sql_token.specs.Tokens.{and_then, closes, if_flat, open_behind, opens, tokens_from, tokens_of, too_deep, within_limits}
use Rattle.sql_token.proofs.Faulty.{Meets, meets}
use Rattle.sql_token.proofs.Only.{only_tokens}
use Rattle.sql_token.proofs.Stand.{stand_from}
use Rattle.sql_token.proofs.Unread.{Told, told}

-- ---- lists

-- The second part ends with the last token.
record EndsWith (front : List Token) (t : Token) (a b : List Token) : Type 0 where
  less : List Token
  is : b ≡ less ++ t ∷ []
  rest : front ≡ a ++ less

nothing_after : (a b : List Token) → ◌≡◌ {A = List Token} [] (a ++ b) → b ≡ []
nothing_after [] b e = sym e
nothing_after (x ∷ a) b e = absurd (cc e)

behind_head : (x y : Token) (xs ys : List Token) → ◌≡◌ {A = List Token} (x ∷ xs) (y ∷ ys) → xs ≡ ys
behind_head x y xs ys e = cc e

head_is : (x y : Token) (xs ys : List Token) → ◌≡◌ {A = List Token} (x ∷ xs) (y ∷ ys) → x ≡ y
head_is x y xs ys e = cc e

one_more : (x y : Token) (front : List Token) (t : Token) (a b : List Token) → x ≡ y → (b ≡ []) ⊎ EndsWith front t a b → (b ≡ []) ⊎ EndsWith (x ∷ front) t (y ∷ a) b
one_more x y front t a b same (inl none) = inl none
one_more x y front t a b same (inr ends) = inr (record { less = ends.less; is = ends.is; rest = ap (λ u. u ∷ front) same ∙ ap (λ l. y ∷ l) ends.rest })

-- of two parts of a list the second is empty, or ends with the last token
last_part : (front : List Token) (t : Token) (a b : List Token) → front ++ t ∷ [] ≡ a ++ b → (b ≡ []) ⊎ EndsWith front t a b
last_part front t [] b e = inr (record { less = front; is = sym e; rest = refl })
last_part [] t (x ∷ a) b e = inl (nothing_after a b (behind_head t x [] (a ++ b) e))
last_part (f ∷ front) t (x ∷ a) b e = one_more f x front t a b (head_is f x (front ++ t ∷ []) (a ++ b) e) (last_part front t a b (behind_head f x (front ++ t ∷ []) (a ++ b) e))

-- ---- counts

count_last : (p : Token → Bool) (run : List Token) (t : Token) (b : Bool) → p t ≡ b → count_by p (run ++ t ∷ []) ≡ count_by p run + cond b 1 0
count_last p run t b is =
    let parts = sum_by-append (λ u. cond (p u) 1 0) run (t ∷ []) in
    let one : cond {A = ℕ} (p t) 1 0 ≡ cond b 1 0 = ap (λ c. cond {A = ℕ} c 1 0) is in
    omega (arith, parts, one)

-- no token is both
one_kind : (k : TokenKind) → opens k ≡ true → closes k ≡ false
one_kind (kind.Keyword k) e = refl
one_kind kind.Name e = refl
one_kind (kind.Int z) e = refl
one_kind (kind.Sign sign.AtMost) e = refl
one_kind (kind.Sign sign.AtLeast) e = refl
one_kind (kind.Sign sign.Differs) e = refl
one_kind (kind.Sign sign.Less) e = refl
one_kind (kind.Sign sign.More) e = refl
one_kind (kind.Sign sign.Equal) e = refl
one_kind (kind.Sign sign.Comma) e = refl
one_kind (kind.Sign sign.Open) e = refl
one_kind (kind.Sign sign.Close) e = absurd (cc e)
one_kind (kind.Sign sign.Star) e = refl
one_kind (kind.Sign sign.Plus) e = refl
one_kind (kind.Sign sign.Minus) e = refl
one_kind (kind.Sign sign.Dot) e = refl
one_kind (kind.Sign sign.Semicolon) e = refl

-- ---- what is open after some tokens

-- The number of open brackets is the most by which opening ones outnumber closing ones in tokens that end there.
record Open (front : List Token) (depth : ℕ) : Type 0 where
  skipped : List Token
  run : List Token
  parts : front ≡ skipped ++ run
  reached : openings run ≡ closings run + depth
  most : (a b : List Token) → front ≡ a ++ b → openings b ≤ closings b + depth

none_open : Open [] 0
none_open = record {
  skipped = [];
  run = [];
  parts = refl;
  reached = refl;
  most = λ a b e. subst (λ l. openings l ≤ closings l + 0) (sym (nothing_after a b e)) (omega arith);
}

-- of the runs that end with one more token, whatever it is
more_most : (front : List Token) (t : Token) (depth more : ℕ) (o c : Bool) → opens t.kind ≡ o → closes t.kind ≡ c → Open front depth
    → cond o 1 0 + depth ≤ cond c 1 0 + more → (a b : List Token) → front ++ t ∷ [] ≡ a ++ b → openings b ≤ closings b + more
more_most front t depth more o c opening closing left le a b e = by_part (last_part front t a b e) where
  by_part : (b ≡ []) ⊎ EndsWith front t a b → openings b ≤ closings b + more
  by_part (inl none) = subst (λ l. openings l ≤ closings l + more) (sym none) (omega arith)
  by_part (inr ends) =
      let up = count_last (λ u. opens u.kind) ends.less t o opening in
      let down = count_last (λ u. closes u.kind) ends.less t c closing in
      let before = left.most a ends.less ends.rest in
      subst (λ l. openings l ≤ closings l + more) (sym ends.is) (omega (arith, up, down, before, le))

-- one token more belongs to the run
longer : (front : List Token) (t : Token) (depth more : ℕ) (o c : Bool) → opens t.kind ≡ o → closes t.kind ≡ c → Open front depth
    → cond o 1 0 + depth ≡ cond c 1 0 + more → Open (front ++ t ∷ []) more
longer front t depth more o c opening closing left same =
    let up = count_last (λ u. opens u.kind) left.run t o opening in
    let down = count_last (λ u. closes u.kind) left.run t c closing in
    let reached = left.reached in
    record {
      skipped = left.skipped;
      run = left.run ++ t ∷ [];
      parts = ap (λ l. l ++ t ∷ []) left.parts ∙ append_assoc left.skipped left.run (t ∷ []);
      reached = omega (arith, up, down, reached, same);
      most = more_most front t depth more o c opening closing left (omega (arith, same));
    }

-- a closing bracket if none is open
stays : (front : List Token) (t : Token) → opens t.kind ≡ false → closes t.kind ≡ true → Open front 0 → Open (front ++ t ∷ []) 0
stays front t opening closing left = record {
  skipped = front ++ t ∷ [];
  run = [];
  parts = sym (append-nil (front ++ t ∷ []));
  reached = refl;
  most = more_most front t 0 0 false true opening closing left (omega arith);
}

closed : (front : List Token) (t : Token) (depth : ℕ) → opens t.kind ≡ false → closes t.kind ≡ true → Open front depth → Open (front ++ t ∷ []) (depth - 1)
closed front t zero opening closing left =
    let none : 0 ≡ zero - 1 = omega arith in
    subst (Open (front ++ t ∷ [])) none (stays front t opening closing left)
closed front t (suc depth) opening closing left =
    let one : depth ≡ suc depth - 1 = omega arith in
    subst (Open (front ++ t ∷ [])) one (longer front t (suc depth) depth false true opening closing left (omega arith))

next_by : (front : List Token) (t : Token) (depth : ℕ) (o c : Bool) → opens t.kind ≡ o → closes t.kind ≡ c → Open front depth
    → Open (front ++ t ∷ []) (cond o (depth + 1) (cond c (depth - 1) depth))
next_by front t depth true c opening closing left = longer front t depth (depth + 1) true false opening (one_kind t.kind opening) left (omega arith)
next_by front t depth false true opening closing left = closed front t depth opening closing left
next_by front t depth false false opening closing left = longer front t depth depth false false opening closing left (omega arith)

next : (front : List Token) (t : Token) (depth : ℕ) → Open front depth → Open (front ++ t ∷ []) (open_behind depth t)
next front t depth left = next_by front t depth (opens t.kind) (closes t.kind) refl refl left

-- ---- shallow tokens

more_shallow : (front : List Token) (t : Token) (depth : ℕ) → IsShallow front → Open (front ++ t ∷ []) depth → depth ≤ 32 → IsShallow (front ++ t ∷ [])
more_shallow front t depth shallow left le a run rest e = by_part (last_part front t (a ++ run) rest (e ∙ sym (append_assoc a run rest))) where
  by_part : (rest ≡ []) ⊎ EndsWith front t (a ++ run) rest → openings run ≤ closings run + 32
  by_part (inl none) =
      let whole : front ++ t ∷ [] ≡ a ++ run = e ∙ ap (λ l. a ++ (run ++ l)) none ∙ ap (λ l. a ++ l) (append-nil run) in
      let most = left.most a run whole in
      omega (arith, most, le)
  by_part (inr ends) = shallow a run ends.less (ends.rest ∙ append_assoc a run ends.less)

-- tokens with a bracket that is too deep are not shallow
not_shallow : (before : List Token) (bracket : Token) (after skipped run : List Token) → opens bracket.kind ≡ true → before ≡ skipped ++ run
    → closings run + 32 ≤ openings run → IsShallow (before ++ bracket ∷ after) → ⊥
not_shallow before bracket after skipped run opening parts deep shallow =
    let up = count_last (λ u. opens u.kind) run bracket true opening in
    let down = count_last (λ u. closes u.kind) run bracket false (one_kind bracket.kind opening) in
    let whole : before ++ bracket ∷ after ≡ skipped ++ (run ++ (bracket ∷ after)) = ap (λ l. l ++ bracket ∷ after) parts ∙ append_assoc skipped run (bracket ∷ after) in
    let cut : run ++ (bracket ∷ after) ≡ (run ++ bracket ∷ []) ++ after = sym (append_assoc run (bracket ∷ []) after) in
    let most = shallow skipped (run ++ bracket ∷ []) after (whole ∙ ap (λ l. skipped ++ l) cut) in
    absurd (omega (arith, up, down, most, deep))

-- ---- the count is right

-- what the count says of the tokens
abbrev Judged : List Token → Option ℕ → Type 0
Judged ts None = IsShallow ts
Judged ts (Some place) = IsDeepBracket ts place

found : (front : List Token) (t : Token) (ts : List Token) (depth : ℕ) → opens t.kind ≡ true → 32 ≤ depth → Open front depth → IsShallow front
    → IsDeepBracket (front ++ t ∷ ts) t.span.from
found front t ts depth opening le left shallow =
    let reached = left.reached in
    record {
      before = front;
      bracket = t;
      after = ts;
      tokens = refl;
      here = refl;
      opening = opening;
      skipped = left.skipped;
      run = left.run;
      parts = left.parts;
      deep = omega (arith, reached, le);
      first = shallow;
    }

below : (n m : ℕ) → nat_le n m ≡ false → m + 1 ≤ n
below n m e = grind (arith, e)

low_by : (depth : ℕ) (o c deep : Bool) → nat_le 32 depth ≡ deep → (o && deep) ≡ false → depth ≤ 32 → cond o (depth + 1) (cond c (depth - 1) depth) ≤ 32
low_by depth true c true is none le = absurd (cc none)
low_by depth true c false is none le = below 32 depth is
low_by depth false true deep is none le = omega (arith, le)
low_by depth false false deep is none le = le

low : (depth : ℕ) (t : Token) → (opens t.kind && nat_le 32 depth) ≡ false → depth ≤ 32 → open_behind depth t ≤ 32
low depth t none le = low_by depth (opens t.kind) (closes t.kind) (nat_le 32 depth) refl none le

both_true : (a b : Bool) → (a && b) ≡ true → (a ≡ true) × (b ≡ true)
both_true true b e = (refl, e)
both_true false b e = absurd (cc e)

at_least : (n m : ℕ) → nat_le n m ≡ true → n ≤ m
at_least n m e = grind (arith, e)

-- by whether the bracket is too deep
judged_by : (front : List Token) (t : Token) (ts : List Token) (depth : ℕ) (deep : Bool) → (opens t.kind && nat_le 32 depth) ≡ deep → Open front depth → IsShallow front
    → (deep ≡ false → Judged (front ++ t ∷ ts) (too_deep (open_behind depth t) ts))
    → Judged (front ++ t ∷ ts) (cond deep (Some t.span.from) (too_deep (open_behind depth t) ts))
judged_by front t ts depth true is left shallow more =
    let two = both_true (opens t.kind) (nat_le 32 depth) is in
    found front t ts depth two.0 (at_least 32 depth two.1) left shallow
judged_by front t ts depth false is left shallow more = more refl

judged : (front ts : List Token) (depth : ℕ) → Open front depth → IsShallow front → depth ≤ 32 → Judged (front ++ ts) (too_deep depth ts)
unfolding too_deep
judged front [] depth left shallow le = subst IsShallow (sym (append-nil front)) shallow
judged front (t ∷ ts) depth left shallow le =
    judged_by front t ts depth (opens t.kind && nat_le 32 depth) refl left shallow
    (λ none.
    let left' = next front t depth left in
    let le' = low depth t none le in
    subst (λ l. Judged l (too_deep (open_behind depth t) ts)) (append_assoc front (t ∷ []) ts)
    (judged (front ++ t ∷ []) ts (open_behind depth t) left' (more_shallow front t (open_behind depth t) shallow left' le') le'))

front_nothing : (xs ys : List Token) → ◌≡◌ {A = List Token} (xs ++ ys) [] → xs ≡ []
front_nothing [] ys e = refl
front_nothing (x ∷ xs) ys e = absurd (cc e)

none_shallow : IsShallow []
none_shallow a run rest e =
    let none : run ++ rest ≡ [] = nothing_after a (run ++ rest) e in
    subst (λ l. openings l ≤ closings l + 32) (sym (front_nothing run rest none)) (omega arith)

counted : (ts : List Token) → Judged ts (too_deep 0 ts)
counted ts = judged [] ts 0 none_open none_shallow (omega arith)

-- ---- and no other is

-- How two places in one list are to each other.
data Beside (a : List Token) (x : Token) (b : List Token) (y : Token) : Type 0 where
  Same : x ≡ y → Beside a x b y
  Before : (more : List Token) → b ≡ a ++ x ∷ more → Beside a x b y
  After : (more : List Token) → a ≡ b ++ y ∷ more → Beside a x b y

beside_more : (u v : Token) (a : List Token) (x : Token) (b : List Token) (y : Token) → u ≡ v → Beside a x b y → Beside (u ∷ a) x (v ∷ b) y
beside_more u v a x b y same (Same is) = Same is
beside_more u v a x b y same (Before more is) = Before more (ap (λ t. t ∷ b) (sym same) ∙ ap (λ l. u ∷ l) is)
beside_more u v a x b y same (After more is) = After more (ap (λ t. t ∷ a) same ∙ ap (λ l. v ∷ l) is)

beside : (a : List Token) (x : Token) (xs : List Token) (b : List Token) (y : Token) (ys : List Token) → a ++ x ∷ xs ≡ b ++ y ∷ ys → Beside a x b y
beside [] x xs [] y ys e = Same (head_is x y xs ys e)
beside [] x xs (v ∷ b) y ys e = Before b (ap (λ t. t ∷ b) (sym (head_is x v xs (b ++ y ∷ ys) e)))
beside (u ∷ a) x xs [] y ys e = After a (ap (λ t. t ∷ a) (head_is u y (a ++ x ∷ xs) ys e))
beside (u ∷ a) x xs (v ∷ b) y ys e =
    beside_more u v a x b y (head_is u v (a ++ x ∷ xs) (b ++ y ∷ ys) e)
    (beside a x xs b y ys (behind_head u v (a ++ x ∷ xs) (b ++ y ∷ ys) e))

one_place : (ts : List Token) (p q : ℕ) → IsDeepBracket ts p → IsDeepBracket ts q → p ≡ q
one_place ts p q d e = by_place (beside d.before d.bracket d.after e.before e.bracket e.after (sym d.tokens ∙ e.tokens)) where
  by_place : Beside d.before d.bracket e.before e.bracket → p ≡ q
  by_place (Same is) = sym d.here ∙ ap (λ t. t.span.from) is ∙ e.here
  by_place (Before more is) = absurd (not_shallow d.before d.bracket more d.skipped d.run d.opening d.parts d.deep (subst IsShallow is e.first))
  by_place (After more is) = absurd (not_shallow e.before e.bracket more e.skipped e.run e.opening e.parts e.deep (subst IsShallow is d.first))

no_deep : (ts : List Token) (place : ℕ) → IsDeepBracket ts place → IsShallow ts → ⊥
no_deep ts place d shallow = not_shallow d.before d.bracket d.after d.skipped d.run d.opening d.parts d.deep (subst IsShallow d.tokens shallow)

shallow_by : (ts : List Token) (deep : Option ℕ) → Judged ts deep → IsShallow ts → deep ≡ None
shallow_by ts None judged shallow = refl
shallow_by ts (Some place) judged shallow = absurd (no_deep ts place judged shallow)

deep_by : (ts : List Token) (place : ℕ) (deep : Option ℕ) → Judged ts deep → IsDeepBracket ts place → deep ≡ Some place
deep_by ts place None judged d = absurd (no_deep ts place d judged)
deep_by ts place (Some p) judged d = ap {B = Option ℕ} (λ n. Some n) (one_place ts p place judged d)

-- ---- the limits of a text

not_many : (n : ℕ) → n ≤ 2048 → nat_lt 2048 n ≡ false
not_many n le = grind (arith, le)

few : (n : ℕ) → nat_lt 2048 n ≡ false → n ≤ 2048
few n e = grind (arith, e)

-- what the limits answer, if there are no more than 2,048 tokens
limits : (ts : List Token) → length ts ≤ 2048 → within_limits ts ≡ if_flat ts (too_deep 0 ts)
limits ts le = ap (λ b. cond b (Err TooMany) (if_flat ts (too_deep 0 ts))) (not_many (length ts) le)

flat_deep : (ts : List Token) (place : ℕ) (deep : Option ℕ) → Judged ts deep → if_flat ts deep ≡ Err (Depth place) → IsDeepBracket ts place
flat_deep ts place None judged e = absurd (cc e)
flat_deep ts place (Some p) judged e = let same : p ≡ place = cc e in subst (IsDeepBracket ts) same judged

flat_ok : (us ts : List Token) (deep : Option ℕ) → Judged us deep → if_flat us deep ≡ Ok ts → IsShallow ts
flat_ok us ts None judged e = let same : us ≡ ts = cc e in subst IsShallow same judged
flat_ok us ts (Some p) judged e = absurd (cc e)

flat_same : (us ts : List Token) (deep : Option ℕ) → if_flat us deep ≡ Ok ts → us ≡ ts
flat_same us ts None e = cc e
flat_same us ts (Some p) e = absurd (cc e)

deep_limits : (text : List ℕ) (place : ℕ) (ts : List Token) (many : Bool) → tokens_from 0 0 text ≡ Ok ts → nat_lt 2048 (length ts) ≡ many
    → cond many (Err TooMany) (if_flat ts (too_deep 0 ts)) ≡ Err (Depth place) → IsTooDeep text place
deep_limits text place ts true is many e = absurd (cc e)
deep_limits text place ts false is many e = record {
  tokens = ts;
  stand = stand_from text 0 0 text ts refl is;
  few = few (length ts) many;
  bracket = flat_deep ts place (too_deep 0 ts) (counted ts) e;
}

no_met : (text : List ℕ) (place : ℕ) → Meets text 0 (Depth place) → ⊥
no_met text place m = subst (Told m.at (get_or text m.at 0 ∷ drop (m.at + 1) text)) m.read (told m.at (get_or text m.at 0) (drop (m.at + 1) text))

deep_of : (text : List ℕ) (place : ℕ) (r : Result (List Token) TokenFault) → tokens_from 0 0 text ≡ r → and_then r within_limits ≡ Err (Depth place) → IsTooDeep text place
deep_of text place (Ok ts) is e = deep_limits text place ts (nat_lt 2048 (length ts)) is refl e
deep_of text place (Err fault) is e = absurd (no_met text place (meets text (Depth place) (is ∙ e)))

deep_is : (text : List ℕ) (place : ℕ) → IsTooDeep text place → tokens_of text ≡ Err (Depth place)
deep_is text place d =
    ap (λ all. and_then all within_limits) (only_tokens text d.tokens d.stand)
    ∙ (limits d.tokens d.few ∙ ap (if_flat d.tokens) (deep_by d.tokens place (too_deep 0 d.tokens) (counted d.tokens) d.bracket))

within_by : (text : List ℕ) (us ts : List Token) (many : Bool) → tokens_from 0 0 text ≡ Ok us → nat_lt 2048 (length us) ≡ many
    → cond many (Err TooMany) (if_flat us (too_deep 0 us)) ≡ Ok ts → AreWithin text ts
within_by text us ts true is many e = absurd (cc e)
within_by text us ts false is many e =
    let same = flat_same us ts (too_deep 0 us) e in
    record {
      stand = stand_from text 0 0 text ts refl (is ∙ ap {B = Result (List Token) TokenFault} (λ l. Ok l) same);
      few = subst (λ l. length l ≤ 2048) same (few (length us) many);
      shallow = flat_ok us ts (too_deep 0 us) (counted us) e;
    }

within_of : (text : List ℕ) (ts : List Token) (r : Result (List Token) TokenFault) → tokens_from 0 0 text ≡ r → and_then r within_limits ≡ Ok ts → AreWithin text ts
within_of text ts (Ok us) is e = within_by text us ts (nat_lt 2048 (length us)) is refl e
within_of text ts (Err fault) is e = absurd (cc e)

within_is : (text : List ℕ) (ts : List Token) → AreWithin text ts → tokens_of text ≡ Ok ts
within_is text ts w =
    ap (λ all. and_then all within_limits) (only_tokens text ts w.stand)
    ∙ (limits ts w.few ∙ ap (if_flat ts) (shallow_by ts (too_deep 0 ts) (counted ts) w.shallow))

-- ---- the two laws

pub deep_bracket : (text : List ℕ) (place : ℕ) → (tokens_of text ≡ Err (Depth place)) ↔ IsTooDeep text place
deep_bracket text place = (λ e. deep_of text place (tokens_from 0 0 text) refl e, deep_is text place)

pub are_within : (text : List ℕ) (ts : List Token) → (tokens_of text ≡ Ok ts) ↔ AreWithin text ts
are_within text ts = (λ e. within_of text ts (tokens_from 0 0 text) refl e, within_is text ts)
