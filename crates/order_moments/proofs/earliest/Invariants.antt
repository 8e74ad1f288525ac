-- `order_moments::earliest` meets its contract. The loop: the highest lower end so far, and the moments of the first j lines.
use Prim.Native.Nat.{ℕ, ◌-◌}
use mathlib.Core.List.{[]}
use lib.ListN.{get_or}
use Rattle.judged_rest.specs.Lent.{lent}
use Rattle.order_moments.proofs.Timing.{Timing}
use Rattle.order_moments.proofs.earliest.Given as goal

abbrev pub invariant-loop-j : goal.invariant-loop-j
invariant-loop-j l = Timing l.p (lent l.output [] l.stamp) (λ (j : ℕ). get_or l.numbers j 0 - 1) l.j l.initial.moments l.moments l.m
