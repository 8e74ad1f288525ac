-- `fields::put_field` meets its contract: a digit more is a bit of the field more.
use Prim.Native.Nat.{ℕ, ◌+◌}
use mathlib.Core.Path.{refl, sym, ap, ap₂, ◌∙◌}
use mathlib.Core.List.{List}
use native.Mathlib.Numerals.{add-one}
use native.Mathlib.Nat.{le_antisymm}
use native.Mathlib.Omega.{arith}
use lib.ListN.{length-set, set}
use lib.Seq.{paste, paste-zero, paste-suc}
use Rattle.fields.specs.Fields.{bits}
use Rattle.fields.proofs.Laws.{length-bits, get_d_bits}
use Rattle.fields.proofs.put_field.Goals as goal

pub loop-j-init : goal.loop-j-init
loop-j-init c = let a = c.args in (omega arith, paste-zero a.list.now a.start (bits a.width a.v), refl)

pub loop-j-preserved : goal.loop-j-preserved
loop-j-preserved c =
    let a = c.args in
    let l = c.loop-j in
    let b = bits a.width a.v in (
      omega arith,
      ap₂ (λ (x : List ℕ) (y : ℕ). set x (a.start + l.j) y) l.invariant.1
          (c.digit_of.ensures ∙ sym (get_d_bits a.width a.v l.j (omega arith)))
          ∙ paste-suc a.list.now a.start b l.j 0 (omega arith) (omega (arith, length-bits a.width a.v))
          ∙ ap (paste a.list.now a.start b) (sym (add-one l.j)),
      length-set l.list (a.start + l.j) c.digit_of.result ∙ l.invariant.2,
    )

pub shape_of-list : goal.shape_of-list
shape_of-list c = c.loop-j.invariant.2

pub returns : goal.returns
returns c =
    let a = c.args in
    c.loop-j.invariant.1 ∙ ap (paste a.list.now a.start (bits a.width a.v)) (le_antisymm c.loop-j.invariant.0 c.loop-j-test.false)
