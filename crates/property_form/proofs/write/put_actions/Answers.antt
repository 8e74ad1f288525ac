-- `property_form::write::put_actions` meets its contract. The loop's invariant: the bits of the first i actions are put.
use mathlib.Core.Path.{◌≡◌, refl, ◌∙◌}
use mathlib.Core.Bool.{Bool, true, false}
use mathlib.Core.List.{[]}
use native.Mathlib.Omega.{arith}
use Rattle.std.specs.Int.{from_bool}
use lib.ListN.{get_or}
use lib.Seq.{paste-zero}
use Rattle.laws.specs.Places.{first}
use Rattle.property_form.specs.Form.{flag, sequence_bits}
use Rattle.property_form.proofs.Laws.{action_put}
use Rattle.property_form.proofs.write.put_actions.Goals as goal

-- a yes or no as a number
as_flag : (b : Bool) → from_bool b ≡ flag b
as_flag true = refl
as_flag false = refl

pub loop-i-init : goal.loop-i-init
unfolding first sequence_bits
loop-i-init c = paste-zero c.args.list.now 58 []

pub loop-i-preserved : goal.loop-i-preserved
loop-i-preserved c =
    let l = c.loop-i in
    let a = c.args in
    action_put a.list.now c.put_field.new.list c.put_field-in-loop-i.new.list l.list (λ j. get_or a.output j false) (λ j. get_or a.number j 0)
    l.i c.from.result c.from-in-loop-i.result (omega arith) l.invariant
    (c.from.ensures ∙ as_flag _) c.from-in-loop-i.ensures c.put_field.ensures c.put_field-in-loop-i.ensures
