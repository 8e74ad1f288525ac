-- `calls::read` is safe and ends, and what it gives is within the room. Each turn leaves less of it to fill.
use Rattle.std.proofs.Common.{◌≡◌, ◌-◌, ◌≤◌, length}
use Rattle.calls.proofs.read.Given as goal

abbrev pub invariant-loop-done : goal.invariant-loop-done
invariant-loop-done g l = (l.done ≤ length l.script) × (length l.script ≡ length l.initial.script)

abbrev pub decreases-loop-done : goal.decreases-loop-done
decreases-loop-done g l = length l.script - l.done
