-- `fields::pack` meets its contract. The loop's invariant: the first j bytes are packed, and those behind stand.
use mathlib.Core.Path.{◌≡◌}
use mathlib.Core.List.{◌++◌}
use lib.ListN.{drop}
use Rattle.fields.specs.Fields.{at, packed}
use Rattle.fields.proofs.pack.Given as goal

abbrev pub invariant-loop-j : goal.invariant-loop-j
invariant-loop-j l = l.byte-items ≡ packed (at l.list) l.j ++ drop l.j l.initial.byte-items
