-- `matcher::verdict` meets its contract: by whether broken and some length, armed or not, are in the set.
use Prim.Native.Nat.{ℕ, ◌/◌, ◌%◌, ◌≤◌, ◌<◌}
use mathlib.Core.Path.{◌≡◌, refl, sym, ap, ◌∙◌}
use mathlib.Core.Bool.{Bool, true, false, not, ◌||◌}
use native.Mathlib.Omega.{arith}
use lib.Dec.{eqb}
use borrow.Author.Tests.{lt-ltb, le-ltb}
use Rattle.laws.specs.Bits.{bit}
use Rattle.laws.proofs.Bits.{bit-zero}
use Rattle.matcher.proofs.Words.{verdict-read}
use Rattle.matcher.proofs.Moving.{some_test}
use Rattle.matcher.proofs.verdict.Goals as goal
use Rattle.matcher.proofs.verdict.Goals.{then-cut-gt0-via-then-cut-gt0, then-cut-gt0-via-else-cut-gt0+then-cut-gt0-2}

-- the last digit of the armed word is that of broken
even : (m : ℕ) → m % 2 ≡ 0 → false ≡ bit m 0
even m e = sym (bit-zero m ∙ ap (λ (x : ℕ). eqb x 1) e)

odd : (m : ℕ) → (m % 2 ≡ 0 → ⊥) → true ≡ bit m 0
odd m e = sym (bit-zero m ∙ ap (λ (x : ℕ). eqb x 1) (let q : m % 2 ≡ 1 = omega arith in q))

there : (m : ℕ) → 0 < m → true ≡ not (eqb m 0)
there m h = sym (lt-ltb 0 m h) ∙ some_test m

not_there : (m : ℕ) → m ≤ 0 → false ≡ not (eqb m 0)
not_there m h = sym (le-ltb 0 m h) ∙ some_test m

pub returns-then-cut-eq0 : goal.returns-then-cut-eq0
returns-then-cut-eq0 c =
    let cut = c.args.cut in
    λ p h. verdict-read p cut h false (not (eqb cut.mask 0) || not (eqb (cut.armed / 2) 0)) (even cut.armed c.if-cut-eq0.true) refl

some : (m a : ℕ) → 0 < m → true ≡ not (eqb m 0) || not (eqb (a / 2) 0)
some m a h = ap (λ (b : Bool). b || not (eqb (a / 2) 0)) (there m h)

pub returns-then-cut-gt0 : goal.returns-then-cut-gt0
returns-then-cut-gt0 c =
    let cut = c.args.cut in
    λ p h.
    verdict-read p cut h true true (odd cut.armed c.if-cut-eq0.false)
    (elim c.then-cut-gt0.branch [
      | then-cut-gt0-via-then-cut-gt0 w ↦ some cut.mask cut.armed w.if-cut-gt0.true
      | then-cut-gt0-via-else-cut-gt0+then-cut-gt0-2 w ↦
          there (cut.armed / 2) w.if-cut-gt0-2.true ∙ ap (λ (b : Bool). b || not (eqb (cut.armed / 2) 0)) (not_there cut.mask w.if-cut-gt0.false)
    ])

pub returns : goal.returns
returns c =
    let cut = c.args.cut in
    λ p h.
    verdict-read p cut h true false (odd cut.armed c.if-cut-eq0.false)
    (not_there (cut.armed / 2) c.if-cut-gt0-2.false ∙ ap (λ (b : Bool). b || not (eqb (cut.armed / 2) 0)) (not_there cut.mask c.if-cut-gt0.false))
