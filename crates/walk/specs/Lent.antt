-- Records on lent rows: what a walk leads to.
use Rattle.std.specs.Prelude.{ℕ, ◌≤◌, ◌≡◌, List, length}
use Rattle.session_record.specs.Lent.{Memory, record_in, Ready}
use Rattle.walk.specs.Walk.{Stopping, walk_on, last_lost}

-- A walk leads from what the memory means to what it means then, and a next one can start from that.
pub record HasGone (budget : ℕ) (m : Memory) (bytes : List ℕ) (taken : ℕ) (stop : Stopping) (read lost : ℕ) (after : Memory) : Type 0 where
  pub walked : walk_on budget (record_in m) bytes ≡ record { taken = taken; stop = stop; read = read; session = record_in after }
  pub within : read ≤ length bytes
  pub number : lost ≡ last_lost 0 taken bytes
  pub ready : Ready after
