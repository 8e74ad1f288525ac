-- `table::fill` meets its contract: the table of a property that is taken.
use Prim.Native.Nat.{ℕ}
use mathlib.Core.Path.{sym, ap, ◌∙◌}
use mathlib.Core.List.{List}
use Rattle.std.specs.Prelude.{get_or, length}
use lib.ListN.{take}
use native.Mathlib.Omega.{arith}
use Rattle.std.proofs.lemmas.List.{length-take-le}
use Rattle.property.proofs.Refusal.{taken_bounds, taken-number}
use Rattle.laws.proofs.Filled.{getD_repeat}
use Rattle.table.proofs.Sequences.{held, numbered, is_table}
use Rattle.table.proofs.fill.Goals as goal

pub slice_bounds-actions-end : goal.slice_bounds-actions-end
slice_bounds-actions-end c = omega (arith, c.actions_of-actions.ensures.long, (taken_bounds c.args.p c.requires.0).most)

pub slice_bounds-table_of-end : goal.slice_bounds-table_of-end
slice_bounds-table_of-end c =
    let p = c.args.p in
    sym (length-take-le p.n c.actions_of-actions.result (omega (arith, c.actions_of-actions.ensures.long, (taken_bounds p c.requires.0).most)))

pub table_of-requires : goal.table_of-requires
table_of-requires c =
    let p = c.args.p in
    let few = (taken_bounds p c.requires.0).most in
    let h = held p c.actions_of-actions.result c.actions_of-actions.ensures.long c.actions_of-actions.ensures.each few in
    record { n_bound = (omega (arith, few, h.long), ap length c.requires.1, (λ i. ap (λ (l : List ℕ). get_or l i 0) c.requires.1 ∙ getD_repeat 0 4257 i)); by_index = numbered p _ h (taken-number p c.requires.0) }

pub returns : goal.returns
returns c =
    let p = c.args.p in
    is_table p (take p.n c.actions_of-actions.result) (held p c.actions_of-actions.result c.actions_of-actions.ensures.long c.actions_of-actions.ensures.each (taken_bounds p c.requires.0).most)
    c.table_of.new.table c.table_of.ensures
