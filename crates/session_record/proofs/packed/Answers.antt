-- `session_record::packed` meets its contract. The loop: the first i places of both are filled.
use Prim.Native.Nat.{ℕ, ◌+◌}
use mathlib.Core.Path.{◌≡◌, ap₂, subst}
use mathlib.Core.List.{List}
use native.Mathlib.Omega.{arith}
use lib.ListN.{replicate}
use Rattle.laws.specs.Filled.{Filled}
use Rattle.laws.proofs.Filled.{filled_none, filled_more}
use Rattle.rows.specs.Rows.{word}
use Rattle.session_record.proofs.Making.{filled_padded}
use Rattle.session_record.proofs.packed.Goals as goal

pub loop-i-init : goal.loop-i-init
loop-i-init c =
    let words : ℕ → ℕ → ℕ = λ k. word c.args.rows.now c.args.span k in
    (filled_none 0 0 (words c.args.k) (replicate 65 0), filled_none 0 0 (words (c.args.k + 1)) (replicate 65 0))

pub loop-i-preserved : goal.loop-i-preserved
loop-i-preserved c =
    let words : ℕ → ℕ → ℕ = λ k. word c.args.rows.now c.args.span k in
    let w = c.loop-i in (
      filled_more 0 0 (words c.args.k) (replicate 65 0) w.i w.first c.word.result (omega arith) (omega arith) w.invariant.0 c.word.ensures,
      filled_more 0 0 (words (c.args.k + 1)) (replicate 65 0) w.i w.second c.word-in-loop-i.result (omega arith) (omega arith) w.invariant.1 c.word-in-loop-i.ensures,
    )

pub returns : goal.returns
returns c =
    let words : ℕ → ℕ → ℕ = λ k. word c.args.rows.now c.args.span k in
    let w = c.loop-i in
    let n = c.args.n in
    let end : w.i ≡ n = omega arith in
    ap₂ (λ (x y : List ℕ). record { first = x; second = y })
    (filled_padded 65 (words c.args.k) n w.first (subst (λ (i : ℕ). Filled 0 0 i (words c.args.k) (replicate 65 0) w.first) end w.invariant.0))
    (filled_padded 65 (words (c.args.k + 1)) n w.second (subst (λ (i : ℕ). Filled 0 0 i (words (c.args.k + 1)) (replicate 65 0) w.second) end w.invariant.1))
