-- What is handed to a call, and what it hands back, in the words of the meaning.
use Rattle.std.specs.Prelude.{ℕ, Bool, true, false, cond, List, [], ◌∷◌, map, replicate}
use Rattle.laws.specs.Places.{padded}
use Rattle.meaning.specs.Words.{Action, action_number, Property, Line}
use Rattle.meaning.specs.Node.{ins}
use Rattle.meaning.specs.Calls.{is_open, Watch}
use Rattle.property.specs.declared.Property as Data
use Rattle.session_record.specs.declared.Session.{Session}

-- "an input (a message to the node) or an output (an answer from it)": a direction is true for an output.
abbrev pub action_if : (output : Bool) (number : ℕ) → Action
action_if true number = Action.output number
action_if false number = Action.input number

-- The open inputs of a run at a stamp, in their order: "An input of the run is open at stamp T if its stamp + 2·UB ≥ T."
unfoldable pub open_inputs : Property → ℕ → List Line → List Line
open_inputs p T [] = []
open_inputs p T (x ∷ rest) = cond (is_open p T x) (x ∷ open_inputs p T rest) (open_inputs p T rest)

-- Those that a session holds; "Open is 0 while blind."
abbrev pub held_inputs : Property → Watch → List Line
held_inputs p w = cond w.clock.is_blind [] (open_inputs p w.clock.latest (ins w.run))

-- The two lists of the session record that say them, with 0 in places not in use: their stamps, and their actions' numbers.
abbrev pub held_stamps : List Line → List ℕ
held_stamps lines = padded 65 0 (map (λ (l : Line). l.stamp) lines)

abbrev pub held_actions : List Line → List ℕ
held_actions lines = padded 65 0 (map (λ (l : Line). action_number l.action) lines)

-- "A refusal carries 0 in all other numbers": a property and a session of zeros.
abbrev pub zero_words : List ℕ
zero_words = replicate 65 0

abbrev pub zero_property : Data.Property
zero_property = record { n = 0; output = replicate 32 false; number = replicate 32 0; allowed = 0; lb = 0; ub = 0 }

abbrev pub zero_session : Session
zero_session =
    record {
      property = zero_property;
      shared = record { held = zero_words; acts = zero_words; status = record { span = record { start = 0; count = 0 }; clock = record { latest = 0; blind = false } } };
      row = record { masks = zero_words; armed = zero_words };
    }
