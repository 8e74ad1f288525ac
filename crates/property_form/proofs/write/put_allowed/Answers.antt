-- `property_form::write::put_allowed` meets its contract. The loop's invariant: the first k bits are put.
use Prim.Native.Nat.{ℕ, ◌+◌}
use mathlib.Core.Path.{refl, sym, ap, ap₂, ◌∙◌}
use mathlib.Core.List.{List}
use native.Mathlib.Nat.{le_antisymm, zero-add}
use native.Mathlib.Numerals.{add-one}
use native.Mathlib.Omega.{arith}
use lib.ListN.{length-set, set}
use lib.Seq.{paste, paste-zero, paste-suc}
use Rattle.fields.specs.Fields.{digit, run}
use Rattle.fields.proofs.Laws.{length_run, getD_run}
use Rattle.property_form.proofs.write.put_allowed.Goals as goal

pub loop-k-init : goal.loop-k-init
loop-k-init c =
    let a = c.args in
    (omega arith, paste-zero a.list.now a.start (run (digit a.m) 0 64), refl)

pub loop-k-preserved : goal.loop-k-preserved
loop-k-preserved c =
    let a = c.args in
    let l = c.loop-k in
    let b = run (digit a.m) 0 64 in (
      omega arith,
      ap₂ (λ (x : List ℕ) (y : ℕ). set x (a.start + l.k) y) l.invariant.1
          (c.digit_of.ensures
          ∙ ap (digit a.m) (sym (zero-add l.k))
          ∙ sym (getD_run (digit a.m) 0 64 l.k (omega arith)))
          ∙ paste-suc a.list.now a.start b l.k 0 (omega arith) (omega (arith, length_run (digit a.m) 0 64))
          ∙ ap (paste a.list.now a.start b) (sym (add-one l.k)),
      length-set l.list (a.start + l.k) c.digit_of.result ∙ l.invariant.2,
    )

pub shape_of-list : goal.shape_of-list
shape_of-list c = c.loop-k.invariant.2

pub returns : goal.returns
returns c =
    let a = c.args in
    c.loop-k.invariant.1
    ∙ ap (paste a.list.now a.start (run (digit a.m) 0 64)) (le_antisymm c.loop-k.invariant.0 c.loop-k-test.false)
