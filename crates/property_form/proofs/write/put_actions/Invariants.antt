-- `property_form::write::put_actions` meets its contract. The loop's invariant: the bits of the first i actions are put.
use Prim.Native.Nat.{ℕ, ◌*◌}
use mathlib.Core.Path.{◌≡◌}
use mathlib.Core.Bool.{Bool, false}
use mathlib.Core.List.{List}
use lib.ListN.{get_or}
use lib.Seq.{paste}
use Rattle.laws.specs.Places.{first}
use Rattle.property.specs.Meant.{action_of}
use Rattle.property_form.specs.Form.{sequence_bits}
use Rattle.property_form.proofs.write.put_actions.Given as goal

-- The list with the bits of the first i actions put.
abbrev pub put_first : List ℕ → List Bool → List ℕ → ℕ → List ℕ
put_first list output number i =
    paste list 58 (sequence_bits (first (λ j. action_of (get_or output j false) (get_or number j 0)) i)) (7 * i)

abbrev pub invariant-loop-i : goal.invariant-loop-i
invariant-loop-i l = l.list ≡ put_first l.initial.list l.output l.number l.i
