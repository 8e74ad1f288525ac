-- Document 01, "Words".
use Rattle.std.specs.Prelude.{ℕ, ◌≤◌, Bool, true, false, List, [], ◌∷◌}

-- "An action is an input (a message to the node, written ?k) or an output (an answer from it, !k)"
pub data Action : Type 0 where
  input : ℕ → Action
  output : ℕ → Action

-- The k of ?k or !k.
abbrev pub action_number : Action → ℕ
action_number (Action.input k) = k
action_number (Action.output k) = k

-- The action that a direction, an output (true) or an input, and a number name.
abbrev pub action_of : Bool → ℕ → Action
action_of true k = Action.output k
action_of false k = Action.input k

-- "A property is a sequence of 1 to 32 actions, a set of allowed outputs .., and bounds LB and UB in microseconds"
pub record Property : Type 0 where
  pub sequence : List Action
  pub allowed : ℕ → Bool
  pub LB : ℕ
  pub UB : ℕ

-- "A line is an action with a stamp"
pub record Line : Type 0 where
  pub action : Action
  pub stamp : ℕ

-- "A run is the list of lines judged together"
abbrev pub Run : Type 0
Run = List Line

-- "Stamps never fall; equal stamps are taken." The first is not below t.
abbrev pub StampsFrom : ℕ → List Line → Type 0
StampsFrom t [] = Unit {0}
StampsFrom t (l ∷ rest) = (t ≤ l.stamp) × StampsFrom l.stamp rest
