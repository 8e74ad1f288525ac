-- Document 01, "Numbers that come back": refusals 1 to 3, which speak of a property and of an action.
use Rattle.std.specs.Prelude.{ℕ, zero, suc, Bool, true, false, ◌||◌, List, [], ◌∷◌, length, ltb}
use Rattle.meaning.specs.Limits.{most_actions, last_action, last_bound}
use Rattle.meaning.specs.Words.{Action, Property}

-- The number n where it is given, else 0, which is "taken".
abbrev pub given : ℕ → Bool → ℕ
given n true = n
given n false = 0

-- "Order where several hold": the first of two that is not 0.
abbrev pub first_of : ℕ → ℕ → ℕ
first_of zero later = later
first_of (suc n) later = suc n

-- "1: sequence length 0 or above 32"
abbrev pub length_outside : ℕ → Bool
length_outside n = ltb n 1 || ltb most_actions n

-- "2: bounds outside 1 ≤ LB ≤ UB ≤ 60,000,000"
abbrev pub bounds_outside : ℕ → ℕ → Bool
bounds_outside LB UB = ltb LB 1 || ltb UB LB || ltb last_bound UB

-- "3: an action number above 63"
abbrev pub action_above : Action → Bool
action_above (Action.input k) = ltb last_action k
action_above (Action.output k) = ltb last_action k

abbrev pub any_action_above : List Action → Bool
any_action_above [] = false
any_action_above (a ∷ rest) = action_above a || any_action_above rest

-- Refusals 1, 2 and 3 of a property, in this order; 0 where none holds.
abbrev pub property_refusal : Property → ℕ
property_refusal p =
    first_of (given 1 (length_outside (length p.sequence)))
    (first_of (given 2 (bounds_outside p.LB p.UB)) (given 3 (any_action_above p.sequence)))
