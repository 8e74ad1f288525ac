-- `property_form::write::put_allowed` meets its contract. The loop's invariant: the first k bits are put.
use Prim.Native.Nat.{◌≤◌}
use mathlib.Core.Path.{◌≡◌}
use lib.ListN.{length}
use lib.Seq.{paste}
use Rattle.fields.specs.Fields.{digit, run}
use Rattle.property_form.proofs.write.put_allowed.Given as goal

abbrev pub invariant-loop-k : goal.invariant-loop-k
invariant-loop-k l = (l.k ≤ 64) × (l.list ≡ paste l.initial.list l.start (run (digit l.m) 0 64) l.k) × (length l.list ≡ length l.initial.list)
