-- `tap_form::time_since` meets its contract.
use Rattle.std.proofs.Common.{arith}
use Rattle.tap_form.specs.Tap.{since}
use Rattle.tap_form.proofs.time_since.Goals as goal

pub returns : goal.returns
unfolding since
returns c = omega (arith, c.from.ensures, c.less.ensures)
