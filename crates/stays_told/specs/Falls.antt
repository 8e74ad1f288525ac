-- A run whose verdict falls where a rule is dropped: a lower bound of at least 1, or that stamps never fall.
use Rattle.std.specs.Prelude.{ℕ, false, [], ◌∷◌, ◌++◌}
use Rattle.meaning.specs.Words.{Action, Property, Line, Run}
use Rattle.meaning.specs.Node.{Verdict, IsVerdict}

-- ?k@t and !k@t
abbrev pub input_at : ℕ → ℕ → Line
input_at k t = record { action = Action.input k; stamp = t }

abbrev pub output_at : ℕ → ℕ → Line
output_at k t = record { action = Action.output k; stamp = t }

-- "Sequence ?0 !1", no output allowed, upper bound 10, and a lower bound.
abbrev pub property_with : ℕ → Property
property_with least = record { sequence = Action.input 0 ∷ Action.output 1 ∷ []; allowed = λ k. false; LB = least; UB = 10 }

-- ?0@0 !1@100 !2@100
abbrev pub certain_run : Run
certain_run = input_at 0 0 ∷ output_at 1 100 ∷ output_at 2 100 ∷ []

-- The run's verdict is certain, and with one line more it is v.
pub record FallsTo (v : Verdict) (p : Property) (l : Line) : Type 0 where
  pub certain_before : IsVerdict p certain_run Verdict.certain
  pub lower_after : IsVerdict p (certain_run ++ l ∷ []) v
