-- `matcher::stray` meets its contract: the two tests, one after the other.
use Prim.Native.Nat.{suc, ◌+◌, ◌^◌, ◌/◌}
use mathlib.Core.Path.{sym, ap, ◌∙◌}
use mathlib.Core.Bool.{Bool, ◌||◌}
use native.Mathlib.Omega.{arith}
use lib.Dec.{leb}
use borrow.Author.Tests.{lt-ltb, le-ltb}
use Rattle.matcher.specs.Sets.{stray}
use Rattle.matcher.proofs.Words.{shifted}
use Rattle.matcher.proofs.stray.Goals as goal

pub returns-then-cut-n-gt0 : goal.returns-then-cut-n-gt0
unfolding stray
returns-then-cut-n-gt0 c =
    let a = c.args in
    lt-ltb 0 (a.cut.mask / 2 ^ (a.n + 1)) c.if-cut-n-gt0.true
    ∙ sym (ap (λ (b : Bool). b || leb (2 ^ suc (suc a.n)) a.cut.armed)
    (sym (shifted (a.n + 1) (suc a.n) a.cut.mask (omega arith)) ∙ lt-ltb 0 (a.cut.mask / 2 ^ (a.n + 1)) c.if-cut-n-gt0.true))

pub returns-else-cut-n-gt0 : goal.returns-else-cut-n-gt0
unfolding stray
returns-else-cut-n-gt0 c =
    let a = c.args in
    shifted (a.n + 2) (suc (suc a.n)) a.cut.armed (omega arith)
    ∙ sym (ap (λ (b : Bool). b || leb (2 ^ suc (suc a.n)) a.cut.armed)
    (sym (shifted (a.n + 1) (suc a.n) a.cut.mask (omega arith)) ∙ le-ltb 0 (a.cut.mask / 2 ^ (a.n + 1)) c.if-cut-n-gt0.false))
