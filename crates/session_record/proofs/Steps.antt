-- The laws of a call and of a fresh one: refused, taken, and where refusal 10 does not name the record.
use Prim.Native.Nat.{ℕ, zero, suc}
use mathlib.Core.Path.{◌≡◌, refl, sym, ◌∙◌, ap, subst}
use mathlib.Core.Bool.{Bool, true, false}
use native.Mathlib.Omega.{arith}
use Rattle.meaning.specs.Numbers.{given, first_of, property_refusal}
use Rattle.meaning.specs.Node.{Verdict}
use Rattle.meaning.specs.Calls.{Call, unless_refused}
use Rattle.meaning.specs.Calls
use Rattle.meaning.proofs.Refusals.{first_of-none, unless_taken, unless_kept}
use Rattle.property.specs.Meant.{meant}
use Rattle.property.specs.declared.Property.{Property}
use Rattle.cuts.specs.Steps.{fresh_by, refusal_by, taken_by, told_by, says}
use Rattle.session_record.specs.declared.Session.{Session}
use Rattle.session_record.specs.Step.{Stepping}
use Rattle.session_record.specs.Record.{cuts_of, record_of, out_of_range}
use Rattle.session_record.specs.Step.{answer_of, refusal_of, stepped_of, no_session, fresh_of}
use Rattle.session_record.specs.Lent.{memory_of}
use Rattle.session_record.proofs.Range.{ranged}
use Rattle.session_record.proofs.Fit.{Fit, ranged_fit, taken_fit, in_range}

-- ---- a call

pub step_refused : (s : Session) (k : Call) (n : ℕ) → refusal_of s k ≡ n → (n ≡ 0 → ⊥)
    → stepped_of s k ≡ record { answer = answer_of (Calls.refused n); session = s }
unfolding stepped_of
step_refused s k n e h =
    unless_kept (refusal_of s k) _ _ (λ z. h (sym e ∙ z)) ∙ ap (λ (m : ℕ). record { answer = answer_of (Calls.refused m); session = s }) e

pub step_taken : (s : Session) (k : Call) → refusal_of s k ≡ 0
    → ◌≡◌ {A = Stepping} (stepped_of s k)
    (record { answer = answer_of (told_by s.property (cuts_of s) k); session = record_of s.property (taken_by s.property (cuts_of s) k) })
unfolding stepped_of
step_taken s k e = unless_taken (refusal_of s k) _ _ e

-- the number that comes back is the refusal's
pub answer-refusal : (s : Session) (k : Call) → (stepped_of s k).answer.refusal ≡ refusal_of s k
unfolding stepped_of
answer-refusal s k = go (refusal_of s k) k
  where
    go : (n : ℕ) (c : Call)
        → (unless_refused {A = Stepping} n
        (record { answer = answer_of (told_by s.property (cuts_of s) c); session = record_of s.property (taken_by s.property (cuts_of s) c) })
        (record { answer = answer_of (Calls.refused n); session = s })).answer.refusal ≡ n
    go zero (Call.line l) = refl
    go zero (Call.mark g) = refl
    go (suc n) c = refl

-- "Order where several hold": 10 first
pub refusal_named : (s : Session) (k : Call) → out_of_range s ≡ true → refusal_of s k ≡ 10
unfolding refusal_of
refusal_named s k e = ap (λ (t : Bool). first_of (given 10 t) (refusal_by s.property (cuts_of s) k)) e

pub refusal-fits : (s : Session) (k : Call) → out_of_range s ≡ false → refusal_of s k ≡ refusal_by s.property (cuts_of s) k
unfolding refusal_of
refusal-fits s k e = ap (λ (t : Bool). first_of (given 10 t) (refusal_by s.property (cuts_of s) k)) e

pub named_refused : (s : Session) (k : Call) → out_of_range s ≡ true → stepped_of s k ≡ record { answer = answer_of (Calls.refused 10); session = s }
named_refused s k e = step_refused s k 10 (refusal_named s k e) (λ z. omega arith)

-- A call that is taken was made on a record that refusal 10 does not name, and leads to such a one.
pub taken-fits : (s : Session) (k : Call) → refusal_of s k ≡ 0 → out_of_range s ≡ false
unfolding refusal_of
taken-fits s k e = go (out_of_range s) (first_of-none (given 10 (out_of_range s)) e).0
  where
    go : (t : Bool) → given 10 t ≡ 0 → t ≡ false
    go true z = let w : ⊥ = omega arith in absurd w
    go false z = refl

pub step_fit : (s : Session) (k : Call) → refusal_of s k ≡ 0 → Fit s.property (taken_by s.property (cuts_of s) k)
step_fit s k e =
    let fits = taken-fits s k e in
    let r = ranged s fits in
    taken_fit s.property r.formed (ranged_fit (memory_of s) r) k (sym (refusal-fits s k fits) ∙ e)

-- The record after any call on one that refusal 10 does not name is not named by it either.
pub stays_in_range : (s : Session) → out_of_range s ≡ false → (k : Call) → out_of_range (stepped_of s k).session ≡ false
stays_in_range s e k = go (refusal_of s k) refl
  where
    go : (n : ℕ) → refusal_of s k ≡ n → out_of_range (stepped_of s k).session ≡ false
    go zero z =
        subst (λ (r : Stepping). out_of_range r.session ≡ false) (sym (step_taken s k z)) (in_range s.property (ranged s e).formed (step_fit s k z))
    go (suc n) z = subst (λ (r : Stepping). out_of_range r.session ≡ false) (sym (step_refused s k (suc n) z (λ w. omega arith))) e

-- ---- a fresh call

pub fresh-refused : (p : Property) (n : ℕ) → property_refusal (meant p) ≡ n → (n ≡ 0 → ⊥)
    → fresh_of p ≡ record { answer = answer_of (Calls.refused n); session = no_session }
unfolding fresh_of
fresh-refused p n e h =
    unless_kept (property_refusal (meant p)) _ _ (λ z. h (sym e ∙ z)) ∙ ap (λ (m : ℕ). record { answer = answer_of (Calls.refused m); session = no_session }) e

pub fresh-taken : (p : Property) → property_refusal (meant p) ≡ 0
    → ◌≡◌ {A = Stepping} (fresh_of p) (record { answer = answer_of (says p Verdict.clear 0); session = record_of p (fresh_by p) })
unfolding fresh_of
fresh-taken p e = unless_taken (property_refusal (meant p)) _ _ e
