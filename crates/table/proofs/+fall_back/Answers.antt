-- `table::fall_back` meets its contract. The measure is the length j that is looked at.
use mathlib.Core.Path.{sym, ◌∙◌}
use lib.ListN.{length}
use Rattle.table.specs.Table.{said, at_place}
use Rattle.table.proofs.Recursion.{fall_back_here, fall_back-none, fall_back_down}
use Rattle.table.proofs.+fall_back.Goals as goal

pub returns-then-goes_on : goal.returns-then-goes_on
returns-then-goes_on t c =
    let a = c.args in
    fall_back_here (at_place a.sequence.now) (length a.sequence.now) a.k a.j (said a.action)
    (sym c.goes_on.ensures ∙ c.if-goes_on.true)

pub returns-then-j-eq0 : goal.returns-then-j-eq0
returns-then-j-eq0 t c =
    let a = c.args in
    fall_back-none (at_place a.sequence.now) (length a.sequence.now) a.k a.j (said a.action)
    (sym c.goes_on.ensures ∙ c.if-goes_on.false) c.if-j-eq0.true

pub returns : goal.returns
returns t c =
    let a = c.args in
    c.fall_back.ensures
    ∙ fall_back_down (at_place a.sequence.now) (length a.sequence.now) a.k a.j (said a.action)
    (sym c.goes_on.ensures ∙ c.if-goes_on.false) c.if-j-eq0.false
