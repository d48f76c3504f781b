-- The order in which a gate lets workers pass.
use Rattle.std.specs.Prelude.{ℕ, ◌+◌, ◌==◌, nat_lt, nat_le, List, length, Bool, false, ◌||◌, unwrap_or, slice_get, if◌then◌else◌}

-- The state of an order: the workers in the order in which they pass, for how many turns a pass is held at most, how
-- many passes of the order were made, and whether a pass was held for as many turns.
pub record PassState : Type 0 where
  pub order : List ℕ
  pub turns : ℕ
  pub made : ℕ
  pub given_up : Bool

-- an order of which no pass was made
abbrev pub new_order : List ℕ → ℕ → PassState
new_order order turns = record { order = order; turns = turns; made = 0; given_up = false }

-- the order names the worker next, or has come to its end
abbrev pub is_next : PassState → ℕ → Bool
is_next s worker = unwrap_or (slice_get s.order s.made) worker == worker

-- a worker that was held for some turns may pass: by the order, or since it is given up before or now
abbrev pub may_pass : PassState → ℕ → ℕ → Bool
may_pass s worker held = s.given_up || (is_next s worker || nat_le s.turns held)

-- a pass of the order was made, if it has not come to its end
abbrev pub counted_pass : PassState → PassState
counted_pass s = record s { made = if nat_lt s.made (length s.order) then s.made + 1 else s.made }

-- the order after a worker was let pass by it, or not
abbrev pub after_turn : PassState → ℕ → PassState
after_turn s worker = if is_next s worker then counted_pass s else s

-- the order after a worker that was held for some turns was let pass, or held for another
abbrev pub after_ask : PassState → ℕ → ℕ → PassState
after_ask s worker held =
    if s.given_up then s
    else if is_next s worker then counted_pass s
    else record s { given_up = nat_le s.turns held }
