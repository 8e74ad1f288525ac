-- `table::table_of` meets its contract. The loop: the rows of the first i places are right, and every row is right or still empty.
use lib.ListN.{length}
use Rattle.table.proofs.TableRows.{Making}
use Rattle.table.proofs.table_of.Given as goal

abbrev pub invariant-loop-i : goal.invariant-loop-i
invariant-loop-i l = Making l.sequence (length l.sequence) l.i l.table
