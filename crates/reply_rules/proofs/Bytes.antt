-- Bytes without a line feed, texts that do not begin with `+`, and the digits of numbers.
use Rattle.std.proofs.Common.{◌≡◌, refl, ℕ, zero, suc, ◌+◌, ◌-◌, ◌/◌, ◌%◌, ◌==◌, arith, Bool, true, false, not, cond, nat_le, nat_lt}
use Rattle.std.proofs.Common.{List, [], ◌∷◌, ◌++◌, take, drop, ℤ, pos, negsuc, decimal}
use Rattle.std.specs.Fmt.{digit_glyph, digits, digits_onto, signed_decimal}
use Rattle.std.specs.List.{flat_map, list_all, slice_range}
use Rattle.text_rules.specs.Numbers.{four_decimals, four_digits, ten_thousandths}
use Rattle.transcript_rules.proofs.Blocks.{split_and}
use Rattle.print_rules.proofs.Fronts.{unmet}
use Rattle.print_rules.proofs.Walks.{Each}
use Rattle.reply_rules.specs.Lines.{begins_with_plus}

-- the byte is no line feed
abbrev pub stays : ℕ → Bool
stays b = not (b == 10)

-- the bytes have no line feed
abbrev pub flat : List ℕ → Bool
flat text = list_all stays text

-- the byte is above those of a line feed and of `+`
abbrev pub is_high : ℕ → Bool
is_high b = nat_le 44 b

-- each of the bytes is
abbrev pub high : List ℕ → Bool
high text = list_all is_high text

-- The text has no line feed, and does not begin with `+`.
pub record Plain (text : List ℕ) : Type 0 where
  pub flat' : flat text ≡ true
  pub begins : begins_with_plus text ≡ false

-- the text has a first byte, and it is not `+`
abbrev pub leads : List ℕ → Bool
leads [] = false
leads (b ∷ bs) = not (b == 43)

-- The text has no line feed, and a first byte other than `+`.
pub record Solid (text : List ℕ) : Type 0 where
  pub flat' : flat text ≡ true
  pub first : leads text ≡ true

-- ---- one after another

pub all_cons : (p : ℕ → Bool) (b : ℕ) (bs : List ℕ) → p b ≡ true → list_all p bs ≡ true → list_all p (b ∷ bs) ≡ true
all_cons p b bs x y = rw (x, y) refl

pub all_both : (p : ℕ → Bool) (a b : List ℕ) → list_all p a ≡ true → list_all p b ≡ true → list_all p (a ++ b) ≡ true
all_both p [] b x y = y
all_both p (c ∷ cs) b x y =
    let e = split_and (p c) (list_all p cs) x in
    all_cons p c (cs ++ b) e.0 (all_both p cs b e.1 y)

pub flat_both : (a b : List ℕ) → flat a ≡ true → flat b ≡ true → flat (a ++ b) ≡ true
flat_both = all_both stays

pub high_both : (a b : List ℕ) → high a ≡ true → high b ≡ true → high (a ++ b) ≡ true
high_both = all_both is_high

pub begins_both : (a b : List ℕ) → begins_with_plus a ≡ false → begins_with_plus b ≡ false → begins_with_plus (a ++ b) ≡ false
begins_both [] b x y = y
begins_both (c ∷ cs) b x y = x

pub plain_both : (a b : List ℕ) → Plain a → Plain b → Plain (a ++ b)
plain_both a b x y = record { flat' = flat_both a b x.flat' y.flat'; begins = begins_both a b x.begins y.begins }

first_both : (a b : List ℕ) → leads a ≡ true → leads (a ++ b) ≡ true
first_both [] b x = absurd (cc x)
first_both (c ∷ cs) b x = x

-- whatever comes after the first byte
pub solid_then : (a b : List ℕ) → Solid a → flat b ≡ true → Solid (a ++ b)
solid_then a b x y = record { flat' = flat_both a b x.flat' y; first = first_both a b x.first }

not_plus : (t : List ℕ) → leads t ≡ true → begins_with_plus t ≡ false
not_plus [] x = absurd (cc x)
not_plus (b ∷ bs) x = unmet (b == 43) x

pub solid_plain : (t : List ℕ) → Solid t → Plain t
solid_plain t x = record { flat' = x.flat'; begins = not_plus t x.first }

-- each part after a text
pub flat_each : {A : Type 0} (text : A → List ℕ) (xs : List A) → Each (λ x. flat (text x) ≡ true) xs → flat (flat_map text xs) ≡ true
flat_each text [] each = refl
flat_each text (x ∷ xs) each = flat_both (text x) (flat_map text xs) each.0 (flat_each text xs each.1)

-- ---- parts of a text

take_flat : (n : ℕ) (t : List ℕ) → flat t ≡ true → flat (take n t) ≡ true
take_flat zero t x = refl
take_flat (suc n) [] x = refl
take_flat (suc n) (b ∷ bs) x =
    let e = split_and (stays b) (flat bs) x in
    all_cons stays b (take n bs) e.0 (take_flat n bs e.1)

pub front_flat : (n : ℕ) (t : List ℕ) → flat t ≡ true → flat (take n t) ≡ true
front_flat = take_flat

drop_flat : (n : ℕ) (t : List ℕ) → flat t ≡ true → flat (drop n t) ≡ true
drop_flat zero t x = x
drop_flat (suc n) [] x = refl
drop_flat (suc n) (b ∷ bs) x = drop_flat n bs (split_and (stays b) (flat bs) x).1

pub slice_flat : (t : List ℕ) (a b : ℕ) → flat t ≡ true → flat (slice_range t a b) ≡ true
slice_flat t a b x = take_flat (b - a) (drop a t) (drop_flat a t x)

-- ---- high bytes

high_stays : (b : ℕ) → nat_le 44 b ≡ true → stays b ≡ true
high_stays b h = grind (arith, h)

high_begins : (b : ℕ) → nat_le 44 b ≡ true → (b == 43) ≡ false
high_begins b h = grind (arith, h)

pub high_flat : (t : List ℕ) → high t ≡ true → flat t ≡ true
high_flat [] x = refl
high_flat (b ∷ bs) x =
    let e = split_and (nat_le 44 b) (high bs) x in
    all_cons stays b bs (high_stays b e.0) (high_flat bs e.1)

high_first : (t : List ℕ) → high t ≡ true → begins_with_plus t ≡ false
high_first [] x = refl
high_first (b ∷ bs) x = high_begins b (split_and (nat_le 44 b) (high bs) x).0

-- a high byte, and more
high_leads : (b : ℕ) → nat_le 44 b ≡ true → not (b == 43) ≡ true
high_leads b h = grind (arith, h)

pub high_solid : (b : ℕ) (bs : List ℕ) → high (b ∷ bs) ≡ true → Solid (b ∷ bs)
high_solid b bs x = record { flat' = high_flat (b ∷ bs) x; first = high_leads b (split_and (nat_le 44 b) (high bs) x).0 }

pub high_plain : (t : List ℕ) → high t ≡ true → Plain t
high_plain t x = record { flat' = high_flat t x; begins = high_first t x }

-- ---- numbers

glyph_by : (d : ℕ) (low : Bool) → nat_le 44 (cond low (48 + d) (87 + d)) ≡ true
glyph_by d true = grind arith
glyph_by d false = grind arith

-- a digit
glyph_high : (d : ℕ) → nat_le 44 (digit_glyph false d) ≡ true
glyph_high d = glyph_by d (nat_lt d 10)

high_cond : (t : Bool) (x y : List ℕ) → high x ≡ true → high y ≡ true → high (cond t x y) ≡ true
high_cond true x y a b = a
high_cond false x y a b = b

onto_high : (k n : ℕ) (acc : List ℕ) → high acc ≡ true → high (digits_onto k 10 false n acc) ≡ true
onto_high zero n acc h = h
onto_high (suc k) n acc h =
    let more : high (digit_glyph false (n % 10) ∷ acc) ≡ true = all_cons is_high (digit_glyph false (n % 10)) acc (glyph_high (n % 10)) h in
    high_cond (n / 10 == 0) (digit_glyph false (n % 10) ∷ acc) (digits_onto k 10 false (n / 10) (digit_glyph false (n % 10) ∷ acc)) more
    (onto_high k (n / 10) (digit_glyph false (n % 10) ∷ acc) more)

pub decimal_high : (n : ℕ) → high (decimal n) ≡ true
unfolding digits
decimal_high n = onto_high 64 n [] refl

pub signed_high : (z : ℤ) → high (signed_decimal z) ≡ true
signed_high (pos n) = decimal_high n
signed_high (negsuc n) = decimal_high (suc n)

leads_cond : (t : Bool) (x y : List ℕ) → leads x ≡ true → leads y ≡ true → leads (cond t x y) ≡ true
leads_cond true x y a b = a
leads_cond false x y a b = b

onto_leads : (k n : ℕ) (acc : List ℕ) → leads acc ≡ true → leads (digits_onto k 10 false n acc) ≡ true
onto_leads zero n acc h = h
onto_leads (suc k) n acc h =
    let first : leads (digit_glyph false (n % 10) ∷ acc) ≡ true = high_leads (digit_glyph false (n % 10)) (glyph_high (n % 10)) in
    leads_cond (n / 10 == 0) (digit_glyph false (n % 10) ∷ acc) (digits_onto k 10 false (n / 10) (digit_glyph false (n % 10) ∷ acc)) first
    (onto_leads k (n / 10) (digit_glyph false (n % 10) ∷ acc) first)

-- a number has a digit
decimal_leads : (n : ℕ) → leads (decimal n) ≡ true
unfolding digits
decimal_leads n =
    let first : leads (digit_glyph false (n % 10) ∷ []) ≡ true = high_leads (digit_glyph false (n % 10)) (glyph_high (n % 10)) in
    leads_cond (n / 10 == 0) (digit_glyph false (n % 10) ∷ []) (digits_onto 63 10 false (n / 10) (digit_glyph false (n % 10) ∷ [])) first
    (onto_leads 63 (n / 10) (digit_glyph false (n % 10) ∷ []) first)

signed_leads : (z : ℤ) → leads (signed_decimal z) ≡ true
signed_leads (pos n) = decimal_leads n
signed_leads (negsuc n) = refl

pub signed_solid : (z : ℤ) → Solid (signed_decimal z)
signed_solid z = record { flat' = high_flat (signed_decimal z) (signed_high z); first = signed_leads z }

digit_high : (d : ℕ) → nat_le 44 (48 + d) ≡ true
digit_high d = grind arith

four_high : (n : ℕ) → high (four_digits n) ≡ true
four_high n =
    all_cons is_high (48 + n / 1000) ((48 + n / 100 % 10) ∷ (48 + n / 10 % 10) ∷ (48 + n % 10) ∷ []) (digit_high (n / 1000))
    (all_cons is_high (48 + n / 100 % 10) ((48 + n / 10 % 10) ∷ (48 + n % 10) ∷ []) (digit_high (n / 100 % 10))
    (all_cons is_high (48 + n / 10 % 10) ((48 + n % 10) ∷ []) (digit_high (n / 10 % 10)) (all_cons is_high (48 + n % 10) [] (digit_high (n % 10)) refl)))

ten_high : (n : ℕ) → high (ten_thousandths n) ≡ true
ten_high n = high_both (decimal (n / 10000)) (46 ∷ four_digits (n % 10000)) (decimal_high (n / 10000)) (four_high (n % 10000))

pub fixed_high : (z : ℤ) → high (four_decimals z) ≡ true
fixed_high (pos n) = ten_high n
fixed_high (negsuc n) = ten_high (suc n)
