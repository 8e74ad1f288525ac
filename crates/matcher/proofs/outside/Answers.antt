-- `matcher::outside` meets its contract: by cases on the direction.
use mathlib.Core.Path.{◌∙◌}
use native.Mathlib.Omega.{arith}
use borrow.Author.Tests.{lt-ltb}
use Rattle.matcher.proofs.Moves.{output-outside, unnamed_outside, input-inside}
use Rattle.matcher.proofs.outside.Goals as goal

pub returns-then-from-action : goal.returns-then-from-action
returns-then-from-action c =
    let a = c.args in
    λ p q. lt-ltb _ _ c.if-from-action.true ∙ unnamed_outside p a.allowed a.action a.output q c.if-output.true c.ranges.allowed.fits (omega (arith, c.from.ensures))

pub returns-else-from-action : goal.returns-else-from-action
returns-else-from-action c =
    let a = c.args in
    λ p q. output-outside p a.allowed a.action a.output q c.if-output.true

pub returns-else-output : goal.returns-else-output
returns-else-output c =
    let a = c.args in
    λ p q. c.if-output.false ∙ input-inside p a.allowed a.action a.output q c.if-output.false
