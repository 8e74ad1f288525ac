-- `walk::records` meets its contract. The loop: what has been taken, and what is left of the walk.
use Rattle.std.specs.Prelude.{◌≡◌}
use Rattle.session_record.specs.Loan.{memory_in}
use Rattle.walk.proofs.Going.{Going}
use Rattle.walk.proofs.records.Given as goal

abbrev pub invariant-loop-taken : goal.invariant-loop-taken
invariant-loop-taken l =
    Going l.budget l.taken l.at (memory_in l.initial.lent) (memory_in l.lent) l.lost l.trace
    × (l.lent.rows.ghost_name ≡ l.initial.lent.rows.ghost_name)
    × (l.lent.steps ≡ l.initial.lent.steps)
