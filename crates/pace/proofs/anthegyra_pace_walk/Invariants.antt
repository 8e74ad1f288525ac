-- The loop of `pace::anthegyra_pace_walk`: the number that the last walk took.
use Rattle.std.proofs.Common.{◌≡◌}
use Rattle.pace.specs.Pace.{last_taken}
use Rattle.pace.proofs.anthegyra_pace_walk.Given as goal

abbrev pub invariant-loop : goal.invariant-loop
invariant-loop l = l.taken ≡ last_taken l.s l.trace l.budget l.counter
