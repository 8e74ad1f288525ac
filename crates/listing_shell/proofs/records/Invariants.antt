-- What was added so far is the listing of the records so far, and each turn is one record more.
use Rattle.session_record.specs.Lent.{record_in}
use Rattle.session_record.specs.Loan.{memory_in}
use Rattle.listing_shell.proofs.Listed.{ListedSoFar}
use Rattle.listing_shell.proofs.records.Given as goal

abbrev pub invariant-loop-turns : goal.invariant-loop-turns
invariant-loop-turns g l = ListedSoFar l.form l.s.property l.turns (record_in (memory_in l.lent)) l.count

-- A `for` has its own measure, which a loop that counts by hand would have to be given:
-- what is left of its turns.
