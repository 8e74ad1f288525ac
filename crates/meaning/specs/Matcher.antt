-- Document 01, "lengths of matched beginnings": the matcher, and sets of what it may remember.
use Rattle.std.specs.Prelude.{ℕ, zero, suc, Bool, true, false, cond, not, ◌&&◌, ◌||◌, List, length, get_or, eqb, ltb}
use Rattle.meaning.specs.Words.{Action, Property, Line}

-- "?3 and !3 have nothing in common."
abbrev pub same : Action → Action → Bool
same (Action.input j) (Action.input k) = eqb j k
same (Action.input j) (Action.output k) = false
same (Action.output j) (Action.input k) = false
same (Action.output j) (Action.output k) = eqb j k

-- The action behind the first j of a sequence.
abbrev pub place : List Action → ℕ → Action
place s j = get_or s j (Action.input 0)

-- The first j actions of the sequence end its first k.
unfoldable pub ends : (ℕ → Action) → ℕ → ℕ → Bool
ends s zero k = true
ends s (suc j) zero = false
ends s (suc j) (suc k) = same (s j) (s k) && ends s j k

-- After k matched actions the action a comes. Do the first j actions end those k, and is the next one a?
abbrev pub goes_on : (ℕ → Action) → ℕ → ℕ → ℕ → Action → Bool
goes_on s n k j a = ltb j n && same (s j) a && ends s j k

-- "After a mismatch the matcher must fall back to the longest shorter beginning of the sequence that ends there, found by
-- the same question on a smaller length." The matched length after a, looked for from j downwards.
unfoldable pub fall_back : (ℕ → Action) → ℕ → ℕ → Action → ℕ → ℕ
fall_back s n k a zero = cond (goes_on s n k zero a) 1 0
fall_back s n k a (suc j) = cond (goes_on s n k (suc j) a) (suc (suc j)) (fall_back s n k a j)

abbrev pub matched_next : List Action → ℕ → Action → ℕ
matched_next s k a = fall_back (place s) (length s) k a k

-- An input; "an output outside the allowed set".
abbrev pub is_input : Action → Bool
is_input (Action.input k) = true
is_input (Action.output k) = false

abbrev pub outside : Property → Action → Bool
outside p (Action.input k) = false
outside p (Action.output k) = not (p.allowed k)

-- What the matcher remembers of an order: that it has broken, or else is it armed (the sequence has occurred, and behind it only
-- inputs), and the length of the longest beginning of the sequence that ends it.
pub data State : Type 0 where
  matched : Bool → ℕ → State
  broken : State

-- Armed behind the action a, which leads to the matched length k: set by a whole match, kept by inputs, cleared by any other output.
abbrev pub armed_next : Property → Bool → Action → ℕ → Bool
armed_next p armed a k = eqb k (length p.sequence) || (armed && is_input a)

-- The matcher goes on behind an action, armed or not.
abbrev pub matched_on : Property → Bool → Action → ℕ → State
matched_on p armed a k = State.matched (armed_next p armed a k) k

-- Armed, and then an output outside the set: broken, and that is kept.
abbrev pub state_next : Property → State → Line → State
state_next p (State.matched armed k) l =
    cond (armed && outside p l.action) State.broken (matched_on p armed l.action (matched_next p.sequence k l.action))
state_next p State.broken l = State.broken

-- A set of states: is length k among them, armed or not, and is broken.
pub record Lengths : Type 0 where
  pub at : Bool → ℕ → Bool
  pub with_broken : Bool

-- Is a state the length j, armed or not as given; is it broken.
abbrev pub is_matched : Bool → ℕ → State → Bool
is_matched armed j (State.matched b k) = cond armed b (not b) && eqb k j
is_matched armed j State.broken = false

abbrev pub is_broken : State → Bool
is_broken (State.matched b k) = false
is_broken State.broken = true

-- Does f hold of some length up to n?
unfoldable pub some_to : ℕ → (ℕ → Bool) → Bool
some_to zero f = f zero
some_to (suc n) f = f (suc n) || some_to n f

-- Is there a length of the property in the set, armed or not, of whose state f holds?
abbrev pub some_matched : Property → Lengths → (State → Bool) → Bool
some_matched p s f =
    let n : ℕ = length p.sequence in
    some_to n (λ k. s.at false k && f (State.matched false k)) || some_to n (λ k. s.at true k && f (State.matched true k))

abbrev pub none_of : Lengths
none_of = record { at = λ armed k. false; with_broken = false }

-- Nothing matched yet, and not armed.
abbrev pub at_start : Lengths
at_start = record { at = λ armed k. not armed && eqb k 0; with_broken = false }

abbrev pub either : Lengths → Lengths → Lengths
either s t = record { at = λ armed k. s.at armed k || t.at armed k; with_broken = s.with_broken || t.with_broken }

-- The states that those of the set move to at a line.
abbrev pub moved : Property → Lengths → Line → Lengths
moved p s l =
    record {
      at = λ armed j. some_matched p s (λ q. is_matched armed j (state_next p q l));
      with_broken = s.with_broken || some_matched p s (λ q. is_broken (state_next p q l));
    }

-- Is there one that has not broken?
abbrev pub some_length : Property → Lengths → Bool
some_length p s = some_matched p s (λ q. true)
