-- The open inputs in their rows.
use Rattle.std.specs.Prelude.{ℕ, suc, ◌+◌, ◌*◌, ◌≤◌, ◌<◌, Bool, cond, List, ltb}
use Rattle.meaning.specs.Words.{Action, Line}
use Rattle.laws.specs.Places.{some_below}
use Rattle.rows.specs.declared.Span.{Span}
use Rattle.rows.specs.Rows.{word, with}

-- Open input i: its stamp and its action's number.
abbrev pub line_at : List (List ℕ) → Span → ℕ → Line
line_at rows s i = record { action = Action.input (word rows s 1 i); stamp = word rows s 0 i }

-- One more behind the last.
abbrev pub with_input : List (List ℕ) → Span → ℕ → ℕ → List (List ℕ)
with_input rows s action stamp = with (with rows s 0 s.count stamp) s 1 s.count action

-- At T the first d of the open inputs have closed, and the next one has not: "open at stamp T if its stamp + 2·UB ≥ T".
pub record Closes (ub : ℕ) (rows : List (List ℕ)) (s : Span) (T d : ℕ) : Type 0 where
  pub within : d ≤ s.count
  pub closed : (i : ℕ) → i < d → word rows s 0 i + 2 * ub < T
  pub next : d < s.count → T ≤ word rows s 0 d + 2 * ub

-- "held stamps out of order or past the latest": one above the next, or the last above the latest
abbrev pub stamps_fall : List (List ℕ) → Span → ℕ → Bool
stamps_fall rows s latest =
    some_below s.count (λ i. ltb (cond (ltb (suc i) s.count) (word rows s 0 (suc i)) latest) (word rows s 0 i))
