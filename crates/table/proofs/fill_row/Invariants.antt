-- `table::fill_row` meets its contract. The loop: the row is right up to k, and nothing else has changed.
use Prim.Native.Nat.{◌+◌}
use lib.ListN.{length}
use Rattle.laws.specs.Filled.{Filled}
use Rattle.table.specs.Table.{at_place, row_entry}
use Rattle.table.proofs.fill_row.Given as goal

abbrev pub invariant-loop-k : goal.invariant-loop-k
invariant-loop-k l = Filled 0 l.at (l.at + l.k) (row_entry (at_place l.sequence) (length l.sequence) l.action.output l.action.number) l.initial.table l.table
