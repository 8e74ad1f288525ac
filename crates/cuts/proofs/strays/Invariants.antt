-- `cuts::strays` meets its contract. The loop: no cut passed is stray.
use Prim.Native.Nat.{ℕ, ◌<◌}
use mathlib.Core.Path.{◌≡◌}
use mathlib.Core.Bool.{false}
use Rattle.matcher.specs.Sets.{stray}
use Rattle.cuts.specs.Fronts.{cut_at}
use Rattle.cuts.proofs.strays.Given as goal

abbrev pub invariant-loop-i : goal.invariant-loop-i
invariant-loop-i l = (k : ℕ) → k < l.i → stray l.n (cut_at l.rows l.span l.j k) ≡ false
