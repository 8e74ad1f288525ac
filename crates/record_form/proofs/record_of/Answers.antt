-- `record_form::record_of` meets its contract: by its kind, each with its own rules.
use Prim.Native.Nat.{ℕ, ◌+◌, ◌-◌, ◌≤◌, ◌<◌}
use Rattle.std.specs.Prelude.{Result, Ok, Err}
use mathlib.Core.Path.{◌≡◌, refl, sym, ◌∙◌, ap, ap₂}
use mathlib.Core.Bool.{true, false, not, ◌||◌}
use mathlib.Core.Logic.{⊎_elim}
use native.Mathlib.Omega.{arith}
use lib.Dec.{eqb}
use Rattle.std.proofs.lemmas.Result.{err_from_is_err_and}
use Rattle.meaning.specs.Limits.{last_stamp}
use Rattle.outcomes.specs.declared.Refusal.{Refusal}
use Rattle.outcomes.specs.declared.Refusal.TheVariants.{StampTooLate}
use Rattle.record_form.specs.declared.Record.{Record}
use Rattle.record_form.specs.Record.{broken, stamp_above, numbers, read_case, taken}
use Rattle.record_form.proofs.Rules.{broken-none, broken-end, is_0, not_0, fields_numbers, answer-broken, answer-above, answer-taken}
use Rattle.record_form.proofs.record_of.Goals as goal

-- A record whose form is not broken: its stamp is past the limit, or it is taken.
module _ (kind action less before : ℕ) (sound : broken kind action (not (eqb less 0)) ≡ false) where
  late : {r : Result Record Refusal} (x y : Refusal) → r ≡ Err x → x ≡ y → (y ≡ StampTooLate) × (stamp_above (before + less) before ≡ true)
      → numbers (read_case r) ≡ fields_numbers kind action less before
  late x y e f h = ap (λ (z : Result Record Refusal). numbers (read_case z)) (e ∙ ap Err (f ∙ h.0)) ∙ answer-above kind action less before sound h.1

  in_time : (k a stamp : ℕ) → k ≡ kind → a ≡ action → (stamp ≡ before + less) × (before ≤ last_stamp) × (less ≤ last_stamp - before)
      → taken k a stamp ≡ fields_numbers kind action less before
  in_time k a stamp e f h = (λ i. taken (e i) (f i) (h.0 i)) ∙ answer-taken kind action less before sound h.1 h.2

no_end : (kind action less : ℕ) → kind < 3 → broken kind action (not (eqb less 0)) ≡ false
no_end kind action less h = broken-none kind action _ h

whole_end : (kind action less : ℕ) → kind ≡ 3 → action ≡ 0 → less ≡ 0 → broken kind action (not (eqb less 0)) ≡ false
whole_end kind action less e f g = broken-end kind action _ e ∙ ap₂ ◌||◌ (is_0 action f) (is_0 less g)

pub returns-in_err-stamp_behind-in-0 : goal.returns-in_err-stamp_behind-in-0
returns-in_err-stamp_behind-in-0 c =
    let p = err_from_is_err_and c.from_residual.result c.from_residual.ensures.1 in
    late _ _ _ _ (no_end _ _ _ (omega (arith, c.in-0.is))) _ _ p.1 p.2 c.in_err-stamp_behind-in-0.ensures

pub returns-in_ok-stamp_behind-in-0 : goal.returns-in_ok-stamp_behind-in-0
returns-in_ok-stamp_behind-in-0 c =
    in_time _ _ _ _ (no_end _ _ _ (omega (arith, c.in-0.is))) _ _ _ (sym c.in-0.is) refl c.in_ok-stamp_behind-in-0.ensures

pub returns-in_err-stamp_behind-in-1 : goal.returns-in_err-stamp_behind-in-1
returns-in_err-stamp_behind-in-1 c =
    let p = err_from_is_err_and c.from_residual-in_err-stamp_behind-in-1.result c.from_residual-in_err-stamp_behind-in-1.ensures.1 in
    late _ _ _ _ (no_end _ _ _ (omega (arith, c.in-1.is))) _ _ p.1 p.2 c.in_err-stamp_behind-in-1.ensures

pub returns-in_ok-stamp_behind-in-1 : goal.returns-in_ok-stamp_behind-in-1
returns-in_ok-stamp_behind-in-1 c =
    in_time _ _ _ _ (no_end _ _ _ (omega (arith, c.in-1.is))) _ _ _ (sym c.in-1.is) refl c.in_ok-stamp_behind-in-1.ensures

pub returns-in_err-stamp_behind-in-2 : goal.returns-in_err-stamp_behind-in-2
returns-in_err-stamp_behind-in-2 c =
    let p = err_from_is_err_and c.from_residual-in_err-stamp_behind-in-2.result c.from_residual-in_err-stamp_behind-in-2.ensures.1 in
    late _ _ _ _ (no_end _ _ _ (omega (arith, c.in-2.is))) _ _ p.1 p.2 c.in_err-stamp_behind-in-2.ensures

pub returns-in_ok-stamp_behind-in-2 : goal.returns-in_ok-stamp_behind-in-2
returns-in_ok-stamp_behind-in-2 c =
    in_time _ _ _ _ (no_end _ _ _ (omega (arith, c.in-2.is))) _ _ _ (sym c.in-2.is) refl c.in_ok-stamp_behind-in-2.ensures

pub returns-in_default : goal.returns-in_default
returns-in_default c =
    answer-broken _ _ _ _
    (broken-end _ _ _ (omega arith)
    ∙ ⊎_elim (λ a. ap₂ ◌||◌ (not_0 _ a) refl) (λ p. ap₂ ◌||◌ (is_0 _ p.0) (not_0 _ p.1)) c.if-less-ne0.either)

pub returns-in_err-stamp_behind-in_default-2 : goal.returns-in_err-stamp_behind-in_default-2
returns-in_err-stamp_behind-in_default-2 c =
    let r = c.from_residual-in_err-stamp_behind-in_default-2 in
    let p = err_from_is_err_and r.result r.ensures.1 in
    late _ _ _ _ (whole_end _ _ _ (omega arith) c.if-less-ne0.false.0 c.if-less-ne0.false.1) _ _ p.1 p.2 c.in_err-stamp_behind-in_default-2.ensures

pub returns-in_ok-stamp_behind-in_default-2 : goal.returns-in_ok-stamp_behind-in_default-2
returns-in_ok-stamp_behind-in_default-2 c =
    in_time _ _ _ _ (whole_end _ _ _ (omega arith) c.if-less-ne0.false.0 c.if-less-ne0.false.1) _ _ _ (omega arith) (sym c.if-less-ne0.false.0)
    c.in_ok-stamp_behind-in_default-2.ensures
