-- `session_record::packed` meets its contract. The loop: the first i places of both are filled.
use Prim.Native.Nat.{◌+◌}
use lib.ListN.{replicate}
use Rattle.laws.specs.Filled.{Filled}
use Rattle.rows.specs.Rows.{word}
use Rattle.session_record.proofs.packed.Given as goal

abbrev pub invariant-loop-i : goal.invariant-loop-i
invariant-loop-i l = Filled 0 0 l.i (word l.rows l.span l.k) (replicate 65 0) l.first × Filled 0 0 l.i (word l.rows l.span (l.k + 1)) (replicate 65 0) l.second
