-- `names::lookup` meets its contract. The loop's invariant: the name stands in what is left, if anywhere.
use Prim.Native.Nat.{◌-◌, ◌≤◌}
use lib.ListN.{length}
use Rattle.names.proofs.Spans.{Left}
use Rattle.names.proofs.lookup.Given as goal

abbrev pub invariant-loop-entry : goal.invariant-loop-entry
invariant-loop-entry l = (l.at ≤ length l.list) × Left l.list l.first l.at

abbrev pub decreases-loop-entry : goal.decreases-loop-entry
decreases-loop-entry l = length l.list - l.at
