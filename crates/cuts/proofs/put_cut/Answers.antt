-- `cuts::put_cut` meets its contract: one word stored, and then the other.
use Prim.Native.Nat.{ℕ, ◌+◌, ◌*◌, ◌<◌}
use mathlib.Core.Path.{sym, ap, subst, ◌∙◌}
use mathlib.Core.List.{List}
use native.Mathlib.Omega.{arith}
use lib.ListN.{length}
use Rattle.rows.specs.Rows.{with, Room}
use Rattle.rows.proofs.Rows.{room-with, tall-with}
use Rattle.cuts.proofs.put_cut.Goals as goal

pub put-requires-2 : goal.put-requires-2
put-requires-2 c =
    let a = c.args in
    let first = c.put in
    let tall = ap length first.ensures ∙ tall-with a.rows.now a.span (2 + 2 * a.j) a.i a.cut.mask in (
      subst (λ (r : List (List ℕ)). Room r a.span) (sym first.ensures)
          (room-with a.rows.now a.span (2 + 2 * a.j) a.i a.cut.mask c.requires.0 (omega (arith, c.requires.1)) c.requires.2),
      subst (λ (n : ℕ). 3 + 2 * a.j < n) (sym tall) c.requires.1,
      c.requires.2,
    )

pub returns : goal.returns
returns c =
    let a = c.args in
    c.put-2.ensures ∙ ap (λ (r : List (List ℕ)). with r a.span (3 + 2 * a.j) a.i a.cut.armed) c.put.ensures
