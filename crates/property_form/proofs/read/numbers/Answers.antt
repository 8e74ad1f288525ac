-- `property_form::read::numbers` meets its contract. The loop's invariant: the first i places are read, the others stand.
use Prim.Native.Nat.{ℕ, ◌+◌, ◌*◌}
use mathlib.Core.Path.{refl, ap₂, ◌∙◌}
use mathlib.Core.List.{List}
use native.Mathlib.Omega.{arith}
use lib.ListN.{set}
use Rattle.laws.specs.Places.{first}
use Rattle.fields.specs.Fields.{bit}
use Rattle.fields.proofs.Laws.{bit-lt, number_lt}
use Rattle.property_form.specs.Read.{number_read}
use Rattle.property_form.proofs.Laws.{places_store}
use Rattle.property_form.proofs.read.numbers.Goals as goal

pub loop-i-init : goal.loop-i-init
unfolding first
loop-i-init c = refl

pub overflow_cast-number : goal.overflow_cast-number
overflow_cast-number c =
    let s = c.args.s.now in
    let i = c.loop-i.i in
    omega (arith, number_lt (bit s) (bit-lt s) (59 + 7 * i) 6, c.field_at.ensures)

pub loop-i-preserved : goal.loop-i-preserved
loop-i-preserved c =
    let s = c.args.s.now in
    let i = c.loop-i.i in
    ap₂ (λ (x : List ℕ) (y : ℕ). set x i y) c.loop-i.invariant c.field_at.ensures ∙ places_store (number_read s) 0 i (omega arith)
