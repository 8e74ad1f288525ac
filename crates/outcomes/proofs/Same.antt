-- A number is that of one refusal, and of one verdict: numbers tell a result whole.
use Rattle.std.specs.Prelude.{ℕ, ◌≡◌, refl, true, false, cond, eqb, Result, Ok, Err, is_err}
use Rattle.std.proofs.Common.{arith}
use mathlib.Core.Bool.{true≢false}
use mathlib.Core.Path.{sym, ◌∙◌, ap}
use Rattle.outcomes.specs.Numbers.{refusal_number, refusal_in, number_told}
use Rattle.outcomes.specs.declared.Refusal.{Refusal}
use Rattle.outcomes.specs.declared.Refusal.TheVariants.{Length, Bounds, Number, StampTooLate, StampTooEarly, TooManyOpen, TooShort, Broken, NoRoom, OutOfRange}
use Rattle.outcomes.specs.declared.Refusal.TheVariants.{SiteList, ReleaseList, TooManyLines}
use Rattle.outcomes.specs.declared.Verdict.{Verdict}
use Rattle.outcomes.specs.declared.Verdict.TheVariants.{Clear, Suspect, Certain, Blind}

-- The refusal with a number; of a number that none has, some.
refusal_at : ℕ → Refusal
refusal_at n =
    cond (eqb n 1) Length (cond (eqb n 2) Bounds (cond (eqb n 3) Number (cond (eqb n 4) StampTooLate (cond (eqb n 5) StampTooEarly
    (cond (eqb n 6) TooManyOpen (cond (eqb n 7) TooShort (cond (eqb n 8) Broken (cond (eqb n 9) NoRoom (cond (eqb n 10) OutOfRange
    (cond (eqb n 11) SiteList (cond (eqb n 12) ReleaseList TooManyLines)))))))))))

back : (r : Refusal) → refusal_at (refusal_number r) ≡ r
unfolding refusal_at
back Length = refl
back Bounds = refl
back Number = refl
back StampTooLate = refl
back StampTooEarly = refl
back TooManyOpen = refl
back TooShort = refl
back Broken = refl
back NoRoom = refl
back OutOfRange = refl
back SiteList = refl
back ReleaseList = refl
back TooManyLines = refl

pub same_refusal : (a b : Refusal) → refusal_number a ≡ refusal_number b → a ≡ b
same_refusal a b e = sym (back a) ∙ ap refusal_at e ∙ back b

-- "0: taken": no refusal has it.
pub refusal_not_0 : (r : Refusal) → refusal_number r ≡ 0 → ⊥
refusal_not_0 Length = omega arith
refusal_not_0 Bounds = omega arith
refusal_not_0 Number = omega arith
refusal_not_0 StampTooLate = omega arith
refusal_not_0 StampTooEarly = omega arith
refusal_not_0 TooManyOpen = omega arith
refusal_not_0 TooShort = omega arith
refusal_not_0 Broken = omega arith
refusal_not_0 NoRoom = omega arith
refusal_not_0 OutOfRange = omega arith
refusal_not_0 SiteList = omega arith
refusal_not_0 ReleaseList = omega arith
refusal_not_0 TooManyLines = omega arith

verdict_at : ℕ → Verdict
verdict_at n = cond (eqb n 0) Clear (cond (eqb n 1) Suspect (cond (eqb n 2) Certain Blind))

told_back : (v : Verdict) → verdict_at (number_told v) ≡ v
unfolding verdict_at
told_back Clear = refl
told_back Suspect = refl
told_back Certain = refl
told_back Blind = refl

pub same_verdict : (a b : Verdict) → number_told a ≡ number_told b → a ≡ b
same_verdict a b e = sym (told_back a) ∙ ap verdict_at e ∙ told_back b

-- Two results of a check that have the same number.
pub same_check : {A : Type 0} (one : (x y : A) → x ≡ y) (a b : Result A Refusal) → refusal_in a ≡ refusal_in b → a ≡ b
same_check one (Ok x) (Ok y) e = ap Ok (one x y)
same_check one (Ok x) (Err r) e = absurd (refusal_not_0 r (sym e))
same_check one (Err r) (Ok x) e = absurd (refusal_not_0 r e)
same_check one (Err r) (Err t) e = ap Err (same_refusal r t e)

-- A result that is no error has no refusal, and an error has one.
pub no_refusal : {A : Type 0} (r : Result A Refusal) → is_err r ≡ false → refusal_in r ≡ 0
no_refusal (Ok x) e = refl
no_refusal (Err refusal) e = absurd (true≢false e)

pub some_refusal : {A : Type 0} (r : Result A Refusal) → is_err r ≡ true → refusal_in r ≡ 0 → ⊥
some_refusal (Ok x) e z = true≢false (sym e)
some_refusal (Err refusal) e z = refusal_not_0 refusal z
