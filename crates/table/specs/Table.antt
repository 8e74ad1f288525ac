-- The table of the matcher's steps, made once for a property and lent to the rest.
use Rattle.std.specs.Prelude.{ℕ, ◌+◌, ◌*◌, ◌-◌, ◌≤◌, ◌<◌, ◌≡◌, Bool, true, false, cond, List, length, get_or, leb}
use Rattle.laws.specs.Filled.{Filled}
use Rattle.meaning.specs.Words.{Action}
use Rattle.meaning.specs.Limits.{last_action}
use Rattle.meaning.specs.Matcher.{ends, fall_back, matched_next}
use Rattle.property.specs.Meant.{action_of, meant}
use Rattle.property.specs.declared.Property.{Property}
use Rattle.table.specs.declared.Action as declared

-- What an action of a sequence means, and the action at a place of the sequence; behind its end an action that stands for none.
abbrev pub said : declared.Action → Action
said a = action_of a.output a.number

abbrev pub no_action : declared.Action
no_action = record { output = false; number = 0 }

abbrev pub at_place : List declared.Action → ℕ → Action
at_place s i = said (get_or s i no_action)

-- The action at a place of a property's arrays.
abbrev pub action_of_place : Property → ℕ → declared.Action
action_of_place p i = record { output = get_or p.output i false; number = get_or p.number i 0 }

-- No number is above 63.
abbrev pub Numbered : List declared.Action → Type 0
Numbered s = (i : ℕ) → i < length s → (get_or s i no_action).number ≤ last_action

-- "the longest shorter beginning of the sequence that ends there": f is its length, for the first k.
pub record Shorter (s : ℕ → Action) (k f : ℕ) : Type 0 where
  pub less : f < k
  pub ends_there : ends s f k ≡ true
  pub longest : (j : ℕ) → f < j → j < k → ends s j k ≡ false

-- A row has the steps from lengths 0 to 32. The rows of inputs come first, then those of outputs; the last row, which stays 0,
-- serves every number that no property names.
abbrev pub row_of : Bool → ℕ → ℕ
row_of output action = cond (leb action last_action) (cond output (2112 + action * 33) (action * 33)) 4224

-- What stands at place i of the table, in the row of an action: the matched length that it leads to from length i less the row's start.
abbrev pub row_entry : (ℕ → Action) → ℕ → Bool → ℕ → ℕ → ℕ
row_entry s n output action i = fall_back s n (i - row_of output action) (action_of output action) (i - row_of output action)

-- The row of one action is made, and nothing else of the table is changed.
abbrev pub RowFilled : (ℕ → Action) → ℕ → Bool → ℕ → List ℕ → List ℕ → Type 0
RowFilled s n output action before after = Filled 0 (row_of output action) (row_of output action + n + 1) (row_entry s n output action) before after

-- One row is right: the entry at k is the matched length that the action leads to from k.
abbrev pub RowRight : (ℕ → Action) → ℕ → Bool → ℕ → List ℕ → Type 0
RowRight s n output action t = (k : ℕ) → k ≤ n → get_or t (row_of output action + k) 0 ≡ fall_back s n k (action_of output action) k

-- Every row is right.
pub record Made (s : ℕ → Action) (n : ℕ) (t : List ℕ) : Type 0 where
  pub right : (output : Bool) (action : ℕ) → RowRight s n output action t

-- The table of a property: every entry up to the sequence's length is the meaning's next matched length.
pub record IsTable (p : Property) (t : List ℕ) : Type 0 where
  pub looked_up : (output : Bool) (action k : ℕ) → k ≤ p.n → get_or t (row_of output action + k) 0 ≡ matched_next (meant p).sequence k (action_of output action)
