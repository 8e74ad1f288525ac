-- `property_form::read::numbers` meets its contract. The loop's invariant: the first i places are read, the others stand.
use mathlib.Core.Path.{◌≡◌}
use Rattle.property_form.specs.Read.{places, number_read}
use Rattle.property_form.proofs.read.numbers.Given as goal

abbrev pub invariant-loop-i : goal.invariant-loop-i
invariant-loop-i l = l.number ≡ places (number_read l.s) l.i 0
