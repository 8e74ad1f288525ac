-- `table::shorter` meets its contract. The loop: the lengths up to k have their longest shorter one.
use Prim.Native.Nat.{ℕ, ◌+◌, ◌-◌}
use mathlib.Core.Path.{◌≡◌, refl, sym, subst, ◌∙◌}
use native.Mathlib.Omega.{arith}
use lib.ListN.{length, get_or, replicate, length-set}
use Rattle.table.specs.Table.{at_place, Shorter}
use Rattle.table.proofs.Falling.{shorter_found, shorter-one, shorter_more}
use Rattle.meaning.proofs.Lengths.{fall_back-le}
use Rattle.table.proofs.shorter.Goals as goal

pub loop-k-init : goal.loop-k-init
loop-k-init c = (
  refl,
  λ j p q.
      let a = c.args in
      let s = at_place a.sequence.now in
      subst (λ (x : ℕ). Shorter s x (get_or (replicate {A = ℕ} 33 0) x 0)) (let e : 1 ≡ j = omega arith in e) (shorter-one s (length a.sequence.now)),
)

pub overflow_cast-falls : goal.overflow_cast-falls
overflow_cast-falls c =
    let a = c.args in
    let k = c.loop-k.k in
    let s = at_place a.sequence.now in
    record { fits = omega (arith, c.fall_back.ensures, fall_back-le s (length a.sequence.now) k (s k) (k - 1)) }

pub loop-k-preserved : goal.loop-k-preserved
loop-k-preserved c =
    let a = c.args in
    let s = at_place a.sequence.now in
    let w = c.loop-k in (
      length-set w.falls (w.k + 1) c.fall_back.result ∙ w.invariant.0,
      shorter_more s w.falls w.k c.fall_back.result (omega (arith, w.invariant.0)) w.invariant.1
          (subst (λ (x : ℕ). Shorter s (w.k + 1) x) (sym c.fall_back.ensures)
          (shorter_found s (length a.sequence.now) w.k (omega arith) (omega arith))),
    )

pub returns : goal.returns
returns c = λ k p q. c.loop-k.invariant.1 k p (omega arith)
