-- `name_list::broken` meets its contract. The loop's invariant: what is left decides.
use lib.ListN.{length}
use Rattle.name_list.proofs.Lists.{Judged}
use Rattle.name_list.proofs.broken.Given as goal

abbrev pub invariant-loop-entry : goal.invariant-loop-entry
invariant-loop-entry l = Judged l.list l.least l.rest

abbrev pub decreases-loop-entry : goal.decreases-loop-entry
decreases-loop-entry l = length l.rest
