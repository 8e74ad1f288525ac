-- `table::shorter` meets its contract. The loop: the lengths up to k have their longest shorter one.
use Prim.Native.Nat.{ℕ, ◌≤◌, ◌<◌}
use mathlib.Core.Path.{◌≡◌}
use lib.ListN.{length, get_or}
use Rattle.table.specs.Table.{at_place, Shorter}
use Rattle.table.proofs.shorter.Given as goal

abbrev pub invariant-loop-k : goal.invariant-loop-k
invariant-loop-k l = (length l.falls ≡ 33) × ((j : ℕ) → 0 < j → j ≤ l.k → Shorter (at_place l.sequence) j (get_or l.falls j 0))
