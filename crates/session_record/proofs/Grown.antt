-- The session record that calls on a fresh one have made is the record of the meaning's session over cuts.
use Prim.Native.Nat.{ℕ, zero, suc}
use mathlib.Core.Path.{◌≡◌, refl, sym, ◌∙◌, ap}
use mathlib.Core.List.{List, [], ◌∷◌}
use native.Mathlib.Omega.{arith}
use Rattle.meaning.specs.Numbers.{property_refusal}
use Rattle.meaning.specs.Calls.{Call}
use Rattle.meaning.specs.Calls
use Rattle.meaning.specs.Matcher.{Lengths}
use Rattle.meaning.specs.Step.{Cuts, cuts_after, grown}
use Rattle.meaning.proofs.Refusals.{unless_taken, unless_kept}
use Rattle.property.specs.Meant.{meant}
use Rattle.property.specs.declared.Property.{Property}
use Rattle.cuts.specs.Steps.{fresh_by, refusal_by, taken_by, next_by, told_by, answer_by, after_by}
use Rattle.session_record.specs.Step.{Stepping}
use Rattle.session_record.specs.Record.{cuts_of, record_of}
use Rattle.session_record.specs.Step.{answer_of, refusal_of, stepped_of, stepped_through}
use Rattle.session_record.proofs.Fit.{Fit, cuts_back, in_range, fresh_fit, next_fit}
use Rattle.session_record.proofs.Steps.{step_refused, step_taken, refusal-fits}

module _ (p : Property) (good : property_refusal (meant p) ≡ 0) where
  -- What the step over cuts gives, in the record's terms.
  abbrev pub step_over : Cuts Lengths → Call → Stepping
  step_over c k = record { answer = answer_of (answer_by p c k); session = record_of p (next_by p c k) }

  -- one step of the record is one step over cuts
  pub step_same : {c : Cuts Lengths} → Fit p c → (k : Call) → stepped_of (record_of p c) k ≡ step_over c k
  step_same {c} f k = go (refusal_by p c k) refl
    where
      back : cuts_of (record_of p c) ≡ c
      back = cuts_back p good f

      number : refusal_of (record_of p c) k ≡ refusal_by p c k
      number = refusal-fits (record_of p c) k (in_range p good f) ∙ ap (λ (x : Cuts Lengths). refusal_by p x k) back

      go : (n : ℕ) → refusal_by p c k ≡ n → stepped_of (record_of p c) k ≡ step_over c k
      go zero e =
          step_taken (record_of p c) k (number ∙ e)
          ∙ ap (λ (x : Cuts Lengths). record { answer = answer_of (told_by p x k); session = record_of p (taken_by p x k) }) back
          ∙ sym
          (λ i.
          record {
            answer = answer_of (unless_taken (refusal_by p c k) (told_by p c k) (Calls.refused (refusal_by p c k)) e i);
            session = record_of p (unless_taken (refusal_by p c k) (taken_by p c k) c e i);
          })
      go (suc n) e =
          step_refused (record_of p c) k (refusal_by p c k) number some
          ∙ sym
          (λ i.
          record {
            answer = answer_of (unless_kept (refusal_by p c k) (told_by p c k) (Calls.refused (refusal_by p c k)) some i);
            session = record_of p (unless_kept (refusal_by p c k) (taken_by p c k) c some i);
          })
        where
          some : refusal_by p c k ≡ 0 → ⊥
          some z = let w : suc n ≡ 0 = sym e ∙ z in omega arith

  through_same : {c : Cuts Lengths} → Fit p c → (ks : List Call) → stepped_through (record_of p c) ks ≡ record_of p (after_by p c ks)
  unfolding stepped_through cuts_after
  through_same f [] = refl
  through_same {c} f (k ∷ ks) = ap (λ (r : Stepping). stepped_through r.session ks) (step_same f k) ∙ through_same {c = next_by p c k} (next_fit p good f k) ks

  through_fit : {c : Cuts Lengths} → Fit p c → (ks : List Call) → Fit p (after_by p c ks)
  unfolding cuts_after
  through_fit {c} f [] = f
  through_fit {c} f (k ∷ ks) = through_fit {c = next_by p c k} (next_fit p good f k) ks

  -- From a fresh session, after any calls: the record is that of the session over cuts,
  pub grown_record : (ks : List Call) → stepped_through (record_of p (fresh_by p)) ks ≡ record_of p (grown (meant p) ks)
  grown_record ks = through_same (fresh_fit p) ks

  -- which it stands for, and the next call's answer is that of the step.
  pub grown-stands : (ks : List Call) → cuts_of (record_of p (grown (meant p) ks)) ≡ grown (meant p) ks
  grown-stands ks = cuts_back p good (through_fit (fresh_fit p) ks)

  pub grown_fit : (ks : List Call) → Fit p (grown (meant p) ks)
  grown_fit ks = through_fit (fresh_fit p) ks

  pub grown_step : (ks : List Call) (k : Call) → stepped_of (record_of p (grown (meant p) ks)) k ≡ step_over (grown (meant p) ks) k
  grown_step ks k = step_same (grown_fit ks) k
