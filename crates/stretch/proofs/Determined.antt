-- Each promise determines the whole answer: two results allowed by it are equal.
use Prim.Native.Nat.{ℕ}
use Rattle.std.specs.Prelude.{Result, Ok, Err}
use mathlib.Core.Path.{◌≡◌, sym, ◌∙◌, ap}
use mathlib.Core.List.{List}
use Rattle.outcomes.specs.declared.Refusal.{Refusal}
use Rattle.outcomes.proofs.Same.{same_refusal, refusal_not_0, same_verdict}
use Rattle.stretch.specs.declared.Judged.{Judged}
use Rattle.stretch.specs.Judge.{Judging, judged_in, judge_of, one_number}
use Rattle.stretch.specs.Version.{interface_version}

-- a result is told by its numbers
same_judged : (a b : Result Judged Refusal) → judged_in a ≡ judged_in b → a ≡ b
same_judged (Ok x) (Ok y) e =
    ap Ok (λ i. record { verdict = same_verdict x.verdict y.verdict (ap (λ (j : Judging). j.verdict) e) i; count = ap (λ (j : Judging). j.count) e i })
same_judged (Ok x) (Err s) e = absurd (refusal_not_0 s (sym (ap (λ (j : Judging). j.refusal) e)))
same_judged (Err r) (Ok y) e = absurd (refusal_not_0 r (ap (λ (j : Judging). j.refusal) e))
same_judged (Err r) (Err s) e = ap Err (same_refusal r s (ap (λ (j : Judging). j.refusal) e))

pub judge_determined : (property trace : List ℕ) (r t : Result Judged Refusal) → judged_in r ≡ judge_of property trace → judged_in t ≡ judge_of property trace → r ≡ t
judge_determined property trace r t e f = same_judged r t (e ∙ sym f)

pub stretch_judge_determined : (property trace : List ℕ) (r t : ℕ) → r ≡ one_number (judge_of property trace) → t ≡ one_number (judge_of property trace) → r ≡ t
stretch_judge_determined property trace r t e f = e ∙ sym f

pub version_determined : (r t : ℕ) → r ≡ interface_version → t ≡ interface_version → r ≡ t
version_determined r t e f = e ∙ sym f
