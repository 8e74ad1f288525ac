-- `matcher::step` meets its contract. The loop: what is left of the set, stepped, and what was gathered are together the step of the whole set.
use Prim.Native.Nat.{ℕ, suc, ◌+◌, ◌^◌, ◌≤◌, ◌<◌}
use mathlib.Core.Path.{◌≡◌}
use mathlib.Core.Bool.{◌||◌}
use lib.ListN.{get_or}
use Rattle.laws.specs.Bits.{bit}
use Rattle.matcher.specs.Sets.{stepped}
use Rattle.matcher.proofs.step.Given as goal

abbrev pub invariant-loop-rest : goal.invariant-loop-rest
invariant-loop-rest l =
    let f : ℕ → ℕ = λ k. get_or l.table (l.at + k) 0 in
    (l.rest ≤ l.mask) × (l.r < 2 ^ suc l.n) × ((j : ℕ) → stepped l.n f (bit l.mask) j ≡ bit l.r j || stepped l.n f (bit l.rest) j)

abbrev pub decreases-loop-rest : goal.decreases-loop-rest
decreases-loop-rest l = l.rest
