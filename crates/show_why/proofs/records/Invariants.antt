-- What is kept is the run that is open, and each turn is one record more.
use Rattle.session_record.specs.Loan.{memory_in}
use Rattle.show_why.proofs.Going.{Going}
use Rattle.show_why.proofs.records.Given as goal

abbrev pub invariant-loop-turns : goal.invariant-loop-turns
invariant-loop-turns g l = Going (memory_in l.lent) l.kept l.turns
