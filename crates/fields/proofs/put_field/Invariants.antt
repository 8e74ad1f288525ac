-- `fields::put_field` meets its contract. The loop's invariant: the first j bits of the field stand in the list.
use Prim.Native.Nat.{◌≤◌}
use mathlib.Core.Path.{◌≡◌}
use lib.ListN.{length}
use lib.Seq.{paste}
use Rattle.fields.specs.Fields.{bits}
use Rattle.fields.proofs.put_field.Given as goal

abbrev pub invariant-loop-j : goal.invariant-loop-j
invariant-loop-j l = (l.j ≤ l.width) × (l.list ≡ paste l.initial.list l.start (bits l.width l.v) l.j) × (length l.list ≡ length l.initial.list)
