-- `run_line::run_on` meets its contract: the answer is read off the front that the rows hold after the line.
use Prim.Native.Nat.{ℕ, ◌+◌, ◌-◌, ◌≤◌, ◌<◌}
use mathlib.Core.Path.{◌≡◌, refl, ap, subst, ◌∙◌}
use mathlib.Core.Bool.{Bool, false, cond}
use native.Mathlib.Omega.{arith}
use Rattle.meaning.specs.Node.{verdict_number}
use Rattle.cuts.specs.Steps.{line_of, front_after, front_says}
use Rattle.cuts.specs.Fronts.{front_of, Holds}
use Rattle.cuts.proofs.Lines.{holds-count}
use Rattle.run_line.proofs.run_on.Goals as goal

-- room for an input
room : (n : ℕ) (output : Bool) → output ≡ false → n + cond output 0 1 ≤ 64 → n < 64
room n output e h = let w : n + 1 ≤ 64 = subst (λ (b : Bool). n + cond b 0 1 ≤ 64) e h in omega arith

pub take_line-left-requires : goal.take_line-left-requires
take_line-left-requires c =
    let h = c.requires.closes in
    record {
      usable = c.requires.usable;
      closes = (h.0, h.1, λ e. room (c.args.span.count - c.args.closed) c.args.line.output e h.2);
    }

pub returns : goal.returns
returns c =
    let a = c.args in
    let p = a.steps.now.property in
    let r = c.take_line-left in
    let f = front_after p (front_of a.rows.now a.span 0) (line_of a.line.output a.line.action a.line.stamp) in
    let held : Holds p f r.new.rows r.result 0 =
    subst (λ (n : ℕ). Holds p (front_after p (front_of a.rows.now a.span 0) (line_of a.line.output n a.line.stamp)) r.new.rows r.result 0) c.from.ensures r.ensures in
    let told = c.verdict.ensures p (held.usable.fits r.result.count (omega arith)) ∙ ap (front_says p) held.front in
    let count = holds-count p f r.new.rows r.result 0 held in
    record {
      holds = held;
      answered = λ i. record { refusal = 0; verdict = verdict_number (told i); open_count = count i };
      clocked = refl;
    }
