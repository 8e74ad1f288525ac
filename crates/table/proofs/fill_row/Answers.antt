-- `table::fill_row` meets its contract. The loop: the row is right up to k, and nothing else has changed.
use Prim.Native.Nat.{ℕ, ◌+◌, ◌≤◌}
use mathlib.Core.Path.{◌≡◌, sym, ap, subst, ◌∙◌}
use native.Mathlib.Nat.{add-zero, add_assoc}
use native.Mathlib.Omega.{arith}
use lib.ListN.{length, set}
use Rattle.laws.specs.Filled.{Filled}
use Rattle.table.specs.Table.{at_place, row_entry}
use Rattle.laws.proofs.Filled.{filled_none, filled_more}
use Rattle.table.proofs.TableRows.{row_le, row_entry-at}
use Rattle.table.proofs.fill_row.Goals as goal

pub loop-k-init : goal.loop-k-init
loop-k-init c =
    let a = c.args in
    let g = row_entry (at_place a.sequence.now) (length a.sequence.now) a.action.output a.action.number in
    let t = a.table.now in
    let at = c.row-at.result in
    subst (λ (e : ℕ). Filled 0 at e g t t) (sym (add-zero at)) (filled_none 0 at g t)

pub entry-requires : goal.entry-requires
entry-requires c =
    let a = c.args in
    let at = c.row-at.result in
    let at-le : at ≤ 4224 = omega (arith, c.row-at.ensures, row_le a.action.output a.action.number) in
    let entry_at = λ (k : ℕ). row_entry-at (at_place a.sequence.now) (length a.sequence.now) a.action.output a.action.number at k c.row-at.ensures in
    record {
      n_bound = (omega arith, omega arith, at-le);
      by_index = c.requires.by_index;
      by_index_2 = λ j h. c.loop-k.invariant.inside (at + j) (omega arith) (omega arith) ∙ entry_at j;
    }

pub overflow_add-table : goal.overflow_add-table
overflow_add-table c = record { fits = omega (arith, c.row-at.ensures, row_le c.args.action.output c.args.action.number) }

pub bounds-table-at : goal.bounds-table-at
bounds-table-at c = omega (arith, c.row-at.ensures, row_le c.args.action.output c.args.action.number)

pub loop-k-preserved : goal.loop-k-preserved
loop-k-preserved c =
    let a = c.args in
    let s = at_place a.sequence.now in
    let g = row_entry s (length a.sequence.now) a.action.output a.action.number in
    let w = c.loop-k in
    let at = c.row-at.result in
    let at-le : at ≤ 4224 = omega (arith, c.row-at.ensures, row_le a.action.output a.action.number) in
    subst (λ (e : ℕ). Filled 0 at e g a.table.now (set w.table (at + w.k) c.entry.result))
    (add_assoc at w.k 1)
    (filled_more 0 at g a.table.now (at + w.k) w.table c.entry.result
    (omega arith)
    (omega (arith, at-le))
    w.invariant
    (c.entry.ensures ∙ sym (row_entry-at s (length a.sequence.now) a.action.output a.action.number at w.k c.row-at.ensures)))

pub returns : goal.returns
returns c =
    let a = c.args in
    let g = row_entry (at_place a.sequence.now) (length a.sequence.now) a.action.output a.action.number in
    let t = a.table.now in
    let at = c.row-at.result in
    let to : c.loop-k.k ≡ (length a.sequence.now) + 1 = omega arith in
    subst (λ (r : ℕ). Filled 0 r (r + (length a.sequence.now) + 1) g t c.loop-k.table) c.row-at.ensures
    (subst (λ (e : ℕ). Filled 0 at e g t c.loop-k.table) (ap (λ (x : ℕ). at + x) to ∙ sym (add_assoc at (length a.sequence.now) 1)) c.loop-k.invariant)
