-- `fields::byte_of` meets its contract: one bit more still fits, and is the number of one bit more.
use Prim.Native.Nat.{ℕ, ◌+◌, ◌-◌, ◌*◌, ◌<◌}
use mathlib.Core.Path.{◌≡◌, refl, ap₂, ◌∙◌}
use mathlib.Core.List.{List}
use native.Mathlib.Omega.{arith}
use lib.ListN.{get_or, take, drop}
use lib.Seq.{get_or-take, get_or-drop}
use Rattle.fields.specs.Fields.{number, at}
use Rattle.fields.proofs.Laws.{number_fits, number-one_more}
use Rattle.fields.proofs.byte_of.Goals as goal

bit_of_part : (l : List ℕ) (start n k : ℕ) → k < n → get_or (take n (drop start l)) k 0 ≡ at l (start + k)
bit_of_part l start n k h = get_or-take n (drop start l) k 0 h ∙ get_or-drop start l k 0

pub loop-bit-init : goal.loop-bit-init
unfolding number
loop-bit-init c = refl

pub overflow_mul-v : goal.overflow_mul-v
overflow_mul-v c =
    let a = c.args in
    omega (arith, number_fits (at a.list.now) c.requires.1 (8 * a.j) c.loop-bit.bit-index 8 (omega arith))

pub overflow_add-v : goal.overflow_add-v
overflow_add-v c =
    let a = c.args in
    let b = c.requires.1 in
    let k = c.loop-bit.bit-index in
    rw (bit_of_part a.list.now (8 * a.j) (8 * a.j + 8 - 8 * a.j) k (omega arith))
    (omega (arith, number_fits (at a.list.now) b (8 * a.j) k 8 (omega arith), b (8 * a.j + k)))

pub loop-bit-preserved : goal.loop-bit-preserved
loop-bit-preserved c =
    let a = c.args in
    let l = c.loop-bit in
    ap₂ (λ (x y : ℕ). 2 * x + y) l.invariant (bit_of_part a.list.now (8 * a.j) _ l.bit-index (omega arith))
    ∙ number-one_more (at a.list.now) (8 * a.j) l.bit-index
