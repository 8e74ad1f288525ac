-- `cuts::strays` meets its contract. The loop: no cut passed is stray.
use Prim.Native.Nat.{ℕ, ◌+◌, ◌<◌}
use mathlib.Core.Path.{◌≡◌, sym, ap, ◌∙◌}
use mathlib.Core.Bool.{false}
use native.Mathlib.Nat.{not-suc-le-zero}
use native.Mathlib.Omega.{arith}
use borrow.Author.Count.{below_more}
use Rattle.meaning.proofs.Tests.{some_to_here, some_to-none}
use Rattle.matcher.specs.Sets.{stray}
use Rattle.cuts.specs.Fronts.{cut_at}
use Rattle.cuts.proofs.strays.Goals as goal
use Rattle.cuts.proofs.strays.Goals.{After-stray}

-- What the test of cut i has told, and that no cut up to i is stray where it has failed.
looked : (c : After-stray) → stray c.args.n (cut_at c.args.rows.now c.args.span c.args.j c.loop-i.i) ≡ c.stray.result
looked c = ap (stray c.args.n) (sym c.cut_at.ensures) ∙ sym c.stray.ensures

passed : (c : After-stray) → c.stray.result ≡ false → (k : ℕ) → k < c.loop-i.i + 1
    → stray c.args.n (cut_at c.args.rows.now c.args.span c.args.j k) ≡ false
passed c e =
    let a = c.args in
    below_more (λ k. stray a.n (cut_at a.rows.now a.span a.j k) ≡ false) c.loop-i.i c.loop-i.invariant (looked c ∙ e)

pub loop-i-init : goal.loop-i-init
loop-i-init c = λ k h. absurd (not-suc-le-zero h)

pub returns-then-stray : goal.returns-then-stray
returns-then-stray c =
    let a = c.args in
    sym
    (some_to_here a.span.count (λ i. stray a.n (cut_at a.rows.now a.span a.j i)) c.loop-i.i (omega arith)
    (looked (goal.at.returns-then-stray c).After-stray ∙ c.if-stray.true))

pub loop-i-preserved : goal.loop-i-preserved
loop-i-preserved c = passed (goal.at.loop-i-preserved c).After-stray c.if-stray.false

pub returns-else-stray : goal.returns-else-stray
returns-else-stray c =
    let a = c.args in
    sym
    (some_to-none a.span.count (λ i. stray a.n (cut_at a.rows.now a.span a.j i))
    (λ k h. passed (goal.at.returns-else-stray c).After-stray c.if-stray.false k (omega arith)))

pub returns : goal.returns
returns c =
    let a = c.args in
    sym (some_to-none a.span.count (λ i. stray a.n (cut_at a.rows.now a.span a.j i)) (λ i h. c.loop-i.invariant i (omega arith)))
