-- `fields::byte_of` meets its contract. The loop's invariant: v is the number of the first bits.
use Prim.Native.Nat.{◌*◌}
use mathlib.Core.Path.{◌≡◌}
use Rattle.fields.specs.Fields.{number, at}
use Rattle.fields.proofs.byte_of.Given as goal

abbrev pub invariant-loop-bit : goal.invariant-loop-bit
invariant-loop-bit l = l.v ≡ number (at l.list) (8 * l.j) l.bit-index
