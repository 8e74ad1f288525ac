-- `first_order::order` meets its contract. The loop: what the first lines of the order have reached, and their numbers.
use Rattle.judged_rest.specs.Lent.{lent}
use Rattle.first_order.proofs.Orders.{Going}
use Rattle.first_order.proofs.order.Given as goal

abbrev pub invariant-loop-number : goal.invariant-loop-number
invariant-loop-number l =
    Going l.steps.property (lent l.output l.action l.stamp) l.breaking l.number-index l.initial.number-items l.number-items l.here
