-- `table::goes_on` meets its contract: each way out is one of the three tests of `goes_on`.
use mathlib.Core.Path.{sym, ◌∙◌}
use borrow.Author.Tests.{le-ltb}
use lib.ListN.{length, get_or}
use Rattle.table.specs.Table.{said, no_action, at_place}
use Rattle.table.proofs.Endings.{ends_tested, said_same}
use Rattle.table.proofs.Recursion.{goes_on-there, goes_on_other, goes_on_past}
use Rattle.table.proofs.goes_on.Goals as goal
use Rattle.table.proofs.goes_on.Goals.{then-j-sequence, else-j-sequence}

pub returns-then-eq : goal.returns-then-eq
returns-then-eq c =
    let a = c.args in
    let s = a.sequence.now in
    elim c.if-j-sequence.branch [
      | then-j-sequence w ↦
          goes_on-there (at_place s) (length s) a.k a.j (said a.action) w.if-j-sequence.true w.eq.result c.ends_with.result
          (w.eq.ensures ∙ said_same (get_or s a.j no_action) a.action) (sym w.value-is ∙ c.if-eq.true)
          (c.ends_with.ensures.value ∙ ends_tested _ said_same s a.j a.k c.requires.0 c.requires.1)
      | else-j-sequence w ↦ let h = le-ltb a.j (length s) w.if-j-sequence.false in cc
    ]

pub returns-else-eq : goal.returns-else-eq
returns-else-eq c =
    let a = c.args in
    let s = a.sequence.now in
    c.if-eq.false
    ∙ (elim c.if-j-sequence.branch [
      | then-j-sequence w ↦
          goes_on_other (at_place s) (length s) a.k a.j (said a.action) w.if-j-sequence.true w.eq.result
          (w.eq.ensures ∙ said_same (get_or s a.j no_action) a.action) (sym w.value-is ∙ c.if-eq.false)
      | else-j-sequence w ↦ goes_on_past (at_place s) (length s) a.k a.j (said a.action) w.if-j-sequence.false
    ])
