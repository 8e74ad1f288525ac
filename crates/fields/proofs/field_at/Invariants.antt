-- `fields::field_at` meets its contract. The loop's invariant: v is the field of the bits before bit i.
use Prim.Native.Nat.{◌-◌}
use mathlib.Core.Path.{◌≡◌}
use Rattle.fields.specs.Fields.{field}
use Rattle.fields.proofs.field_at.Given as goal

abbrev pub invariant-loop-i : goal.invariant-loop-i
invariant-loop-i l = l.v ≡ field l.s l.start (l.i - l.start)
