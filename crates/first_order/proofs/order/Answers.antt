-- `first_order::order` meets its contract. The loop: what the first lines of the order have reached, and their numbers.
use native.Mathlib.Omega.{arith}
use lib.ListN.{length, length-take}
use Rattle.first_order.proofs.Orders.{going_start, going_next}
use Rattle.first_order.proofs.order.Goals as goal

pub loop-number-init : goal.loop-number-init
loop-number-init c = going_start c.args.steps.now.property c.args.steps.now.formed _ c.args.breaking c.requires.found _ _ c.start.ensures

pub loop-number-preserved : goal.loop-number-preserved
loop-number-preserved c =
    going_next c.args.steps.now.property c.args.steps.now.formed _ c.args.breaking c.requires.found c.loop-number.invariant
    (omega (arith, c.requires.room, length-take (length c.args.stamp.now) c.args.numbers.now)) _ c.choice-k.ensures
    _ c.with_line-here.ensures.0 c.with_line-here.ensures.1
    (omega (arith, c.requires.room, length-take (length c.args.stamp.now) c.args.numbers.now))
