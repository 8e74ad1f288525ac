-- `held::append` meets its contract: two stores behind the last.
use Prim.Native.Nat.{ℕ}
use mathlib.Core.Path.{sym, ap, subst, ◌∙◌}
use mathlib.Core.List.{List}
use native.Mathlib.Omega.{arith}
use Rattle.rows.specs.Rows.{with, Room}
use Rattle.rows.proofs.Rows.{room-with}
use Rattle.held.proofs.append.Goals as goal

pub put-requires-2 : goal.put-requires-2
put-requires-2 c =
    let s = c.args.span in
    let first = c.put in
    let one : Room first.new.rows s =
    subst (λ (r : List (List ℕ)). Room r s) (sym first.ensures)
    (room-with c.args.rows.now s 0 s.count c.args.stamp c.requires (omega (arith, c.requires.shared)) c.requires.within.few) in
    (one, one.shared, c.requires.within.few)

pub returns : goal.returns
returns c =
    let s = c.args.span in
    c.put-2.ensures ∙ ap (λ (r : List (List ℕ)). with r s 1 s.count c.args.action) c.put.ensures
