-- `fields::pack` meets its contract.
use Prim.Native.Nat.{ℕ}
use mathlib.Core.Path.{refl, ap₂, ◌∙◌}
use mathlib.Core.List.{List}
use native.Mathlib.Omega.{arith}
use lib.ListN.{set, take}
use Rattle.fields.specs.Fields.{at, packed}
use Rattle.fields.proofs.Packed.{packed_store}
use Rattle.fields.proofs.pack.Goals as goal

pub loop-j-init : goal.loop-j-init
unfolding packed
loop-j-init c = refl

pub loop-j-preserved : goal.loop-j-preserved
loop-j-preserved c =
    let a = c.args in
    let l = c.loop-j in
    ap₂ (λ (x : List ℕ) (y : ℕ). set x l.j y) l.invariant c.byte_of.ensures
    ∙ packed_store (at a.list.now) (take a.n a.buf.now) l.j (omega arith)
