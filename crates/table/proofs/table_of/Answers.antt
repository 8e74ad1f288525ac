-- `table::table_of` meets its contract. The loop: the rows of the first i places are right, and every row is right or still empty.
use Prim.Native.Nat.{ℕ, ◌+◌}
use mathlib.Core.Path.{◌≡◌, sym, subst}
use mathlib.Core.List.{List}
use native.Mathlib.Omega.{arith}
use lib.ListN.{length, get_or}
use Rattle.table.specs.Table.{no_action}
use Rattle.table.proofs.TableRows.{row_le, Making, making_none, making_filled, making_left, made}
use Rattle.table.proofs.table_of.Goals as goal
use Rattle.table.proofs.table_of.Goals.{then-table-at-eq0, else-table-at-eq0}

pub loop-i-init : goal.loop-i-init
loop-i-init c =
    let a = c.args in
    let pre = c.requires.n_bound in
    making_none a.sequence.now (length a.sequence.now) pre.0 a.table.now pre.1 pre.2

pub bounds-table-at : goal.bounds-table-at
bounds-table-at c =
    let a = c.args in
    omega (arith, c.row-at.ensures, row_le (get_or a.sequence.now c.loop-i.i no_action).output (get_or a.sequence.now c.loop-i.i no_action).number)

pub fill_row-requires : goal.fill_row-requires
fill_row-requires c = record { n_bound = (omega arith, c.loop-i.invariant.long); by_index = c.shorter-falls.ensures }

pub loop-i-preserved : goal.loop-i-preserved
loop-i-preserved c =
    let a = c.args in
    let w = c.loop-i in
    elim c.if-table-at-eq0.branch [
      | then-table-at-eq0 d ↦
          subst (λ (t : List ℕ). Making a.sequence.now (length a.sequence.now) (w.i + 1) t) (sym d.table-is)
          (making_filled a.sequence.now (length a.sequence.now) (omega arith) w.i w.table d.fill_row.new.table w.invariant
          (c.requires.by_index w.i (omega arith)) d.fill_row.ensures)
      | else-table-at-eq0 d ↦
          subst (λ (t : List ℕ). Making a.sequence.now (length a.sequence.now) (w.i + 1) t) (sym d.table-is)
          (making_left a.sequence.now (length a.sequence.now) (omega arith) w.i w.table w.invariant (omega arith)
          (subst (λ (x : ℕ). get_or w.table (x + w.i) 0 ≡ 0 → ⊥) c.row-at.ensures d.if-table-at-eq0.false))
    ]

pub returns : goal.returns
returns c =
    let a = c.args in
    let w = c.loop-i in
    made a.sequence.now (length a.sequence.now) w.i w.table c.loop-i-test.false w.invariant
