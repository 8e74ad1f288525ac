-- `stretch::anthegyra_stretch_judge` meets its contract: the judgement in one number.
use Prim.Native.Nat.{ℕ, ◌+◌, ◌*◌}
use mathlib.Core.Path.{◌≡◌, ap, ◌∙◌}
use native.Mathlib.Omega.{arith}
use Rattle.std.specs.Prelude.{Ok, Err}
use Rattle.outcomes.specs.Numbers.{refusal_number, number_told}
use Rattle.stretch.specs.Judge.{judged_in, one_number}
use Rattle.stretch.proofs.Judging.{one-long, one_short}
use Rattle.stretch.proofs.anthegyra_stretch_judge.Goals as goal

pub returns-then-judged-gt-MOST_COUNTED : goal.returns-then-judged-gt-MOST_COUNTED
returns-then-judged-gt-MOST_COUNTED c =
    ap (λ (n : ℕ). n * 65_536) c.from.ensures ∙ one-long (judged_in (Ok c.in-Ok.judged)) c.if-judged-gt-MOST_COUNTED.true ∙ ap one_number c.in-Ok.ensures

pub returns-else-judged-gt-MOST_COUNTED : goal.returns-else-judged-gt-MOST_COUNTED
returns-else-judged-gt-MOST_COUNTED c =
    let plain : c.from-in-Ok.result * 16_384 + c.in-Ok.judged.count ≡ 0 * 65_536 + number_told c.in-Ok.judged.verdict * 16_384 + c.in-Ok.judged.count =
    omega (arith, c.from-in-Ok.ensures) in
    plain ∙ one_short (judged_in (Ok c.in-Ok.judged)) c.if-judged-gt-MOST_COUNTED.false ∙ ap one_number c.in-Ok.ensures

pub returns-in-Err : goal.returns-in-Err
returns-in-Err c =
    let plain : c.from-in-Err.result * 65_536 ≡ refusal_number c.in-Err.refusal * 65_536 + 0 * 16_384 + 0 = omega (arith, c.from-in-Err.ensures) in
    plain ∙ one_short (judged_in (Err c.in-Err.refusal)) (omega arith) ∙ ap one_number c.in-Err.ensures
