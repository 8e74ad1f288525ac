-- `cuts::sweep` meets its contract. The loop: the cuts up to i have their new sets, `cut` is that of i, and `held` and `input` are open input i.
use Prim.Native.Nat.{◌+◌}
use mathlib.Core.Path.{◌≡◌}
use Rattle.rows.specs.Rows.{word}
use Rattle.matcher.specs.Sets.{set_of, Fits}
use Rattle.cuts.proofs.Sweeps.{Sweeping, new_set}
use Rattle.cuts.proofs.sweep.Given as goal

abbrev pub invariant-loop-i : goal.invariant-loop-i
invariant-loop-i l = Sweeping l.steps.property l.initial.rows l.span l.j l.action l.stamp (set_of l.initial.cut) (l.i + 1) l.rows
    × (set_of l.cut ≡ new_set l.steps.property l.initial.rows l.span l.j l.action l.stamp (set_of l.initial.cut) l.i)
    × Fits l.steps.property l.cut
    × (l.held ≡ word l.initial.rows l.span 0 l.i)
    × (l.input ≡ word l.initial.rows l.span 1 l.i)
