-- `fields::field_at` meets its contract: one bit more still fits, and is the field of one bit more.
use Prim.Native.Nat.{ℕ, ◌+◌, ◌-◌, ◌*◌}
use mathlib.Core.Path.{◌≡◌, ap, ap₂, ◌∙◌}
use native.Mathlib.Omega.{arith}
use Rattle.fields.specs.Fields.{bit, number, field}
use Rattle.fields.proofs.Laws.{bit-lt, number_fits, number-one_more}
use Rattle.fields.proofs.field_at.Goals as goal

pub loop-i-init : goal.loop-i-init
unfolding number
loop-i-init c = ap (field c.args.s.now c.args.start) {x = 0} (omega arith)

pub overflow_mul-v : goal.overflow_mul-v
overflow_mul-v c =
    let a = c.args in
    omega (arith, number_fits (bit a.s.now) (bit-lt a.s.now) a.start (c.loop-i.i - a.start) 64 (omega arith))

pub overflow_add-v : goal.overflow_add-v
overflow_add-v c =
    let a = c.args in
    let i = c.loop-i.i in
    omega (arith, number_fits (bit a.s.now) (bit-lt a.s.now) a.start (i - a.start) 64 (omega arith), bit-lt a.s.now i)

pub loop-i-preserved : goal.loop-i-preserved
loop-i-preserved c =
    let a = c.args in
    let l = c.loop-i in
    let place : l.i ≡ a.start + (l.i - a.start) = omega arith in
    let next : l.i - a.start + 1 ≡ l.i + 1 - a.start = omega arith in
    ap₂ (λ (x y : ℕ). 2 * x + y) l.invariant (c.bit_at.ensures ∙ ap (bit a.s.now) place)
    ∙ number-one_more (bit a.s.now) a.start (l.i - a.start)
    ∙ ap (field a.s.now a.start) next
