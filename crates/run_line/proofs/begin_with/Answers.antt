-- `run_line::begin_with` meets its contract: the rows hold a run with no line, and then the line.
use Prim.Native.Nat.{ℕ, ◌+◌, ◌-◌, ◌≤◌}
use mathlib.Core.Path.{◌≡◌, sym, ap, subst}
use mathlib.Core.Bool.{Bool, true, false, cond}
use native.Mathlib.Omega.{arith}
use Rattle.meaning.specs.Matcher.{Lengths}
use Rattle.meaning.specs.Limits.{most_open}
use Rattle.meaning.specs.Step.{Front}
use Rattle.rows.specs.declared.Span.{Span}
use Rattle.cuts.specs.Steps.{line_of, front_after, front_fresh}
use Rattle.cuts.specs.Fronts.{Holds}
use Rattle.answers.specs.Taken.{LineTaken}
use Rattle.answers.proofs.Advances.{begun-holds}
use Rattle.run_line.proofs.begin_with.Goals as goal
use Rattle.run_line.proofs.begin_with.Goals.{After-begin-none}

begun : (c : After-begin-none) → Holds c.args.steps.now.property (front_fresh c.args.steps.now.property) c.begin-none.new.rows c.begin-none.result 0
begun c =
    let p = c.args.steps.now.property in
    subst (λ (s : Span). Holds p (front_fresh p) c.begin-none.new.rows s 0) (sym c.begin-none.ensures.0)
    (begun-holds p c.args.steps.now.formed c.args.rows.now c.begin-none.new.rows c.requires.0 c.requires.1 c.begin-none.ensures.1)

one_at_most : (output : Bool) → 0 + cond output 0 1 ≤ 64
one_at_most true = omega arith
one_at_most false = omega arith

pub run_on-requires-clause-usable : goal.run_on-requires-clause-usable
run_on-requires-clause-usable c = (begun (goal.at.run_on-requires-clause-usable c).After-begin-none).usable

pub run_on-requires-clause-closes : goal.run_on-requires-clause-closes
run_on-requires-clause-closes c =
    let none_open : c.begin-none.result.count ≡ 0 = ap (λ (s : Span). s.count) c.begin-none.ensures.0 in (
      record { within = omega arith; closed = λ i h. let z : ⊥ = omega arith in absurd z; next = λ h. let z : ⊥ = omega arith in absurd z },
      c.requires.2,
      subst (λ (n : ℕ). n + cond c.args.line.output 0 1 ≤ most_open) (let q : 0 ≡ c.begin-none.result.count - 0 = omega arith in q) (one_at_most c.args.line.output),
    )

pub returns : goal.returns
returns c =
    let p = c.args.steps.now.property in
    let l = line_of c.args.line.output c.args.line.action c.args.line.stamp in
    subst (λ (f : Front Lengths). LineTaken p (front_after p f l) c.args.clock c.run_on.new.rows c.run_on.result)
    (begun (goal.at.returns c).After-begin-none).front c.run_on.ensures
