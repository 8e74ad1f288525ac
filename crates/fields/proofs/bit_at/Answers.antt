-- `fields::bit_at` meets its contract: the byte, shifted, is the digit that `bit` names.
use Prim.Native.Nat.{ℕ, ◌-◌, ◌/◌, ◌%◌, ◌^◌}
use mathlib.Core.Path.{ap}
use Rattle.fields.specs.Fields.{digit, bit}
use Rattle.fields.proofs.bit_at.Goals as goal

pub returns : goal.returns
unfolding bit digit
returns c = ap (λ (x : ℕ). x / 2 ^ (7 - c.args.i % 8) % 2) c.from.ensures
