-- `property_form::read::outputs` meets its contract. The loop's invariant: the first i places are read, the others stand.
use mathlib.Core.Path.{◌≡◌}
use mathlib.Core.Bool.{false}
use Rattle.property_form.specs.Read.{places, output_read}
use Rattle.property_form.proofs.read.outputs.Given as goal

abbrev pub invariant-loop-i : goal.invariant-loop-i
invariant-loop-i l = l.output ≡ places (output_read l.s) l.i false
