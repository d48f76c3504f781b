-- Lines read one after the other say what they say as a whole.
use Rattle.std.proofs.Common.{◌≡◌, ℕ, zero, suc, ◌+◌, arith, refl, sym, ap, ◌∙◌, Bool, true, false, not, cond, List, [], ◌∷◌, ◌++◌, length, get_or, take, Option, None, Some, option_map, Result, Ok, Err}
use Rattle.std.specs.List.{flat_map, range_with_len}
use Rattle.std.specs.Option.{option_to_list}
use Rattle.text_rules.specs.Lines.{Line}
use Rattle.sky_rules.specs.declared.fault.SkyFault.{SkyFault}
use Rattle.sky_rules.specs.declared.fault.SkyFault.TheVariants.{Syntax, Overlap, Order, Count, TooMany}
use Rattle.sky_rules.specs.Partition.{Stripe, Partition}
use Rattle.sky_rules.specs.SkyWords.{Version, Said, said_on}
use Rattle.text_rules.specs.Readings.{judged}
use Rattle.sky_rules.specs.SkyText.{is_overlap, is_in_order, is_cut, is_room, stripe_said, judged_stripe, fault_of, stripe_on, stripes_on, no_line, stripe_faults, no_stripe_fault, sky_under, unless_fault}
use Rattle.sky_rules.specs.SkySteps.{stripes_with, whole_sky, ReadLineByLine}

-- places counted one further
shift : {X : Type 0} (f : ℕ → List X) (a n : ℕ) → flat_map f (range_with_len (suc a) n) ≡ flat_map (λ i. f (suc i)) (range_with_len a n)
shift f a zero = refl
shift f a (suc n) =
    let next : suc a + 1 ≡ suc (a + 1) = omega arith in
    ap (λ k. f (suc a) ++ flat_map f (range_with_len k n)) next ∙ ap (λ later. f (suc a) ++ later) (shift f (a + 1) n)

-- the same lists for each
each_same : {X Y : Type 0} (f g : X → List Y) (xs : List X) → ((x : X) → f x ≡ g x) → flat_map f xs ≡ flat_map g xs
each_same f g [] same = refl
each_same f g (x ∷ xs) same = ap (λ here. here ++ flat_map f xs) (same x) ∙ ap (λ later. g x ++ later) (each_same f g xs same)

-- one more in the middle
middle : {X : Type 0} (xs : List X) (y : X) (ys : List X) → xs ++ (y ∷ ys) ≡ (xs ++ (y ∷ [])) ++ ys
middle [] y ys = refl
middle (x ∷ xs) y ys = ap (λ rest. x ∷ rest) (middle xs y ys)

-- none behind
none_behind : {X : Type 0} (xs : List X) → xs ++ [] ≡ xs
none_behind [] = refl
none_behind (x ∷ xs) = ap (λ rest. x ∷ rest) (none_behind xs)

-- the faults of these lines behind those stripes
abbrev faults_behind : Version → List Stripe → List Line → List SkyFault
faults_behind version before lines =
    flat_map (λ i. fault_of (judged_stripe (get_or lines i no_line).number (before ++ stripes_on version (take i lines)) (said_on version (get_or lines i no_line).text)))
    (range_with_len 0 (length lines))

-- an accepted line says its stripe, by the four tests
said_by : (line : ℕ) (said : Said) (s : Stripe) (a b c d : Bool)
    → cond (not a) (Err (Overlap line)) (cond (not b) (Err (Order line)) (cond (not c) (Err (Count line)) (cond (not d) (Err (TooMany line)) (Ok (stripe_said said))))) ≡ Ok s
    → stripe_said said ≡ s
said_by line said s false b c d h = absurd (cc)
said_by line said s true false c d h = absurd (cc)
said_by line said s true true false d h = absurd (cc)
said_by line said s true true true false h = absurd (cc)
said_by line said s true true true true h = cc

-- an accepted line says its stripe
says_stripe : (line : ℕ) (before : List Stripe) (said : Option Said) (s : Stripe) → judged_stripe line before said ≡ Ok s
    → option_to_list (option_map stripe_said said) ≡ s ∷ []
says_stripe line before None s h = absurd (cc)
says_stripe line before (Some said) s h = ap (λ t. t ∷ []) (said_by line said s (is_overlap said.overlap) (is_in_order before said.z_low) (is_cut said) (is_room before said.chunks) h)

-- the faults behind a line that is accepted
faults_later : (version : Version) (before : List Stripe) (line : Line) (rest : List Line) (s : Stripe) → stripe_on version line ≡ s ∷ []
    → flat_map (λ i. fault_of (judged_stripe (get_or rest i no_line).number (before ++ stripes_on version (line ∷ take i rest)) (said_on version (get_or rest i no_line).text))) (range_with_len 0 (length rest))
    ≡ faults_behind version (before ++ (s ∷ [])) rest
faults_later version before line rest s says =
    each_same
    (λ i. fault_of (judged_stripe (get_or rest i no_line).number (before ++ stripes_on version (line ∷ take i rest)) (said_on version (get_or rest i no_line).text)))
    (λ i. fault_of (judged_stripe (get_or rest i no_line).number ((before ++ (s ∷ [])) ++ stripes_on version (take i rest)) (said_on version (get_or rest i no_line).text)))
    (range_with_len 0 (length rest))
    (λ i. ap (λ all. fault_of (judged_stripe (get_or rest i no_line).number all (said_on version (get_or rest i no_line).text)))
    (ap (λ here. before ++ (here ++ stripes_on version (take i rest))) says ∙ middle before s (stripes_on version (take i rest))))

-- by the judgement of the first line
step_is : (version : Version) (before : List Stripe) (line : Line) (rest : List Line) (r : Result Stripe SkyFault)
    → judged_stripe line.number before (said_on version line.text) ≡ r
    → ((s : Stripe) → stripes_with version (before ++ (s ∷ [])) rest ≡ judged (faults_behind version (before ++ (s ∷ [])) rest) ((before ++ (s ∷ [])) ++ stripes_on version rest))
    → unless_fault r (λ s. stripes_with version (before ++ (s ∷ [])) rest)
    ≡ judged (fault_of r ++ flat_map (λ i. fault_of (judged_stripe (get_or rest i no_line).number (before ++ stripes_on version (line ∷ take i rest)) (said_on version (get_or rest i no_line).text))) (range_with_len 0 (length rest)))
    (before ++ stripes_on version (line ∷ rest))
step_is version before line rest (Err fault) is later = refl
step_is version before line rest (Ok s) is later =
    let says = says_stripe line.number before (said_on version line.text) s is in
    let whole : before ++ stripes_on version (line ∷ rest) ≡ (before ++ (s ∷ [])) ++ stripes_on version rest =
    ap (λ here. before ++ (here ++ stripes_on version rest)) says ∙ middle before s (stripes_on version rest) in
    later s ∙ (ap (λ faults. judged faults ((before ++ (s ∷ [])) ++ stripes_on version rest)) (sym (faults_later version before line rest s says))
    ∙ ap (judged (flat_map (λ i. fault_of (judged_stripe (get_or rest i no_line).number (before ++ stripes_on version (line ∷ take i rest)) (said_on version (get_or rest i no_line).text))) (range_with_len 0 (length rest)))) (sym whole))

-- the first line's place, and those of the others
faults_step : (version : Version) (before : List Stripe) (line : Line) (rest : List Line)
    → faults_behind version before (line ∷ rest)
    ≡ fault_of (judged_stripe line.number before (said_on version line.text))
    ++ flat_map (λ i. fault_of (judged_stripe (get_or rest i no_line).number (before ++ stripes_on version (line ∷ take i rest)) (said_on version (get_or rest i no_line).text))) (range_with_len 0 (length rest))
faults_step version before line rest =
    let f : ℕ → List SkyFault = λ i. fault_of (judged_stripe (get_or (line ∷ rest) i no_line).number (before ++ stripes_on version (take i (line ∷ rest))) (said_on version (get_or (line ∷ rest) i no_line).text)) in
    ap (λ later. f 0 ++ later) (shift f 0 (length rest))
    ∙ ap (λ stripes. fault_of (judged_stripe line.number stripes (said_on version line.text)) ++ flat_map (λ i. f (suc i)) (range_with_len 0 (length rest))) (none_behind before)

-- stripes and the lines behind them
steps_are : (version : Version) (before : List Stripe) (lines : List Line)
    → stripes_with version before lines ≡ judged (faults_behind version before lines) (before ++ stripes_on version lines)
steps_are version before [] = ap Ok (sym (none_behind before))
steps_are version before (line ∷ rest) =
    step_is version before line rest (judged_stripe line.number before (said_on version line.text)) refl (λ s. steps_are version (before ++ (s ∷ [])) rest)
    ∙ ap (λ faults. judged faults (before ++ stripes_on version (line ∷ rest))) (sym (faults_step version before line rest))

-- faults and stripes as a whole
whole_is : (behind : ℕ) (faults : List SkyFault) (stripes : List Stripe)
    → judged (faults ++ no_stripe_fault behind stripes) (record { stripes = stripes }) ≡ unless_fault (judged faults stripes) (whole_sky behind)
whole_is behind (fault ∷ later) stripes = refl
whole_is behind [] [] = refl
whole_is behind [] (s ∷ rest) = refl

-- lines read one after the other say what they say as a whole
pub read_line_by_line : ReadLineByLine
read_line_by_line behind version lines =
    whole_is behind (stripe_faults version lines) (stripes_on version lines)
    ∙ ap (λ read. unless_fault read (whole_sky behind)) (sym (steps_are version [] lines))
