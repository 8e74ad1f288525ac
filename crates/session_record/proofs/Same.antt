-- What a call answers and gives back is told whole by its numbers.
use Rattle.std.specs.Prelude.{Result, Ok, Err}
use mathlib.Core.Path.{◌≡◌, sym, ap}
use Rattle.outcomes.specs.declared.Refusal.{Refusal}
use Rattle.outcomes.proofs.Same.{same_refusal, refusal_not_0, same_verdict}
use Rattle.session_record.specs.declared.Told.{Told}
use Rattle.session_record.specs.declared.Stepped.{Stepped}
use Rattle.session_record.specs.Step.{Answer, Stepping, answer_in, stepping_in}

pub same_answer : (a b : Result Told Refusal) → answer_in a ≡ answer_in b → a ≡ b
same_answer (Ok s) (Ok t) e =
    ap Ok
    (λ i.
    record {
      verdict = same_verdict s.verdict t.verdict (ap (λ (x : Answer). x.verdict) e) i;
      open_count = ap (λ (x : Answer). x.open_count) e i;
    })
same_answer (Ok s) (Err r) e = absurd (refusal_not_0 r (sym (ap (λ (x : Answer). x.refusal) e)))
same_answer (Err r) (Ok t) e = absurd (refusal_not_0 r (ap (λ (x : Answer). x.refusal) e))
same_answer (Err r) (Err t) e = ap Err (same_refusal r t (ap (λ (x : Answer). x.refusal) e))

pub same_stepped : (a b : Stepped) → stepping_in a ≡ stepping_in b → a ≡ b
same_stepped a b e = λ i.
    record {
      answer = same_answer a.answer b.answer (ap (λ (x : Stepping). x.answer) e) i;
      session = ap (λ (x : Stepping). x.session) e i;
    }
