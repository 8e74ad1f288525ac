-- `property_form::read::outputs` meets its contract. The loop's invariant: the first i places are read, the others stand.
use Prim.Native.Nat.{ℕ}
use mathlib.Core.Path.{refl, ap₂, ◌∙◌}
use mathlib.Core.Bool.{Bool, false}
use mathlib.Core.List.{List}
use native.Mathlib.Omega.{arith}
use lib.Dec.{eqb}
use lib.ListN.{set}
use Rattle.laws.specs.Places.{first}
use Rattle.property_form.specs.Read.{output_read}
use Rattle.property_form.proofs.Laws.{places_store}
use Rattle.property_form.proofs.read.outputs.Goals as goal

pub loop-i-init : goal.loop-i-init
unfolding first
loop-i-init c = refl

pub loop-i-preserved : goal.loop-i-preserved
loop-i-preserved c =
    let s = c.args.s.now in
    let i = c.loop-i.i in
    ap₂ (λ (x : List Bool) (y : ℕ). set x i (eqb y 1)) c.loop-i.invariant c.field_at.ensures ∙ places_store (output_read s) false i (omega arith)
