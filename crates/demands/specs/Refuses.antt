-- "each call ends with its answer or a numbered refusal, given exactly when the rules say so"
use Rattle.std.specs.Prelude.{ℕ, suc, ◌≡◌}

-- The number is the first of the table's order that holds, 0 for none; where it is not 0 the whole answer, and all that was lent, is as
-- `Alone` says.
pub record Refuses (number order : ℕ) (Alone : ℕ → Type 0) : Type 0 where
  pub first : number ≡ order
  pub alone : (n : ℕ) → number ≡ suc n → Alone (suc n)
