-- `order_moments::earliest` meets its contract. The loop: the highest lower end so far, and the moments of the first j lines.
use Prim.Native.Nat.{max}
use mathlib.Core.Path.{◌≡◌}
use native.Mathlib.Omega.{arith}
use Rattle.std.proofs.lemmas.Grind.{common_steps}
use borrow.Author.Rules.{rules}
use Rattle.order_moments.proofs.Timing.{timing_start, timing_next}
use Rattle.order_moments.proofs.earliest.Goals as goal

pub loop-j-init : goal.loop-j-init
loop-j-init c = timing_start _ _ _ _

pub loop-j-preserved : goal.loop-j-preserved
loop-j-preserved c =
    let later : c.max-m.result ≡ max c.loop-j.m c.low.result = grind (arith, common_steps) in
    timing_next c.args.p _ _ c.loop-j.invariant c.loop-j-test.true c.low.result c.low.ensures.0 c.low.ensures.1 c.max-m.result later _
    (search rules)
    c.requires.stamp_in_bounds.1
