-- `first_order::with_line` meets its contract: the one state moves on.
use Rattle.first_order.proofs.WithLine.{line-behind}
use Rattle.first_order.proofs.with_line.Goals as goal

pub returns-then-output : goal.returns-then-output
returns-then-output c =
    let moved = rw c.from.ensures at c.moved-cut.ensures in
    (line-behind c.args.steps.now.property c.args.steps.now.formed c.args.from _ c.args.action c.args.k _ moved c.if-output.true, moved.fits)

pub returns-else-output : goal.returns-else-output
returns-else-output c =
    let moved = rw c.from.ensures at c.moved-cut.ensures in
    (line-behind c.args.steps.now.property c.args.steps.now.formed c.args.from _ c.args.action c.args.k _ moved c.if-output.false, moved.fits)
