-- `record_form::stamp_behind` meets its contract: the one test or the other.
use Prim.Native.Nat.{◌+◌}
use mathlib.Core.Path.{refl}
use native.Mathlib.Omega.{arith}
use Rattle.record_form.proofs.Rules.{stamp_past, before_past}
use Rattle.record_form.proofs.stamp_behind.Goals as goal
use Rattle.record_form.proofs.stamp_behind.Goals.{then-before-gt-LAST_STAMP-via-then-before-gt-LAST_STAMP, then-before-gt-LAST_STAMP-via-else-before-gt-LAST_STAMP+then-before-less}

pub returns-then-before-gt-LAST_STAMP : goal.returns-then-before-gt-LAST_STAMP
returns-then-before-gt-LAST_STAMP c =
    elim c.then-before-gt-LAST_STAMP.branch [
      | then-before-gt-LAST_STAMP-via-then-before-gt-LAST_STAMP w ↦ (refl, before_past _ _ w.if-before-gt-LAST_STAMP.true)
      | then-before-gt-LAST_STAMP-via-else-before-gt-LAST_STAMP+then-before-less w ↦
          (refl, stamp_past (c.args.before + c.args.less) _ (omega (arith, w.if-before-less.true)))
    ]
