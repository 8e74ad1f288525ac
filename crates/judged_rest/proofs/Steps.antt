-- One step of a judgement on lent memory.
use Rattle.std.specs.Prelude.{Result, Ok, Err}
use Prim.Native.Nat.{ℕ, zero, suc}
use mathlib.Core.Path.{◌≡◌, refl, sym, ap, ◌∙◌}
use mathlib.Core.Bool.{Bool, true, false, cond}
use Rattle.meaning.specs.Words.{Line}
use Rattle.meaning.specs.Numbers.{property_refusal}
use Rattle.meaning.specs.Calls.{Call}
use Rattle.outcomes.specs.declared.Refusal.{Refusal}
use Rattle.outcomes.specs.Numbers.{refusal_number, number_told}
use Rattle.outcomes.proofs.Same.{refusal_not_0}
use Rattle.property.specs.Meant.{meant}
use Rattle.cuts.specs.Steps.{next_by, answer_by}
use Rattle.session_record.specs.declared.Told.{Told}
use Rattle.session_record.specs.Record.{cuts_of}
use Rattle.session_record.specs.Step.{Answer, Stepping, answer_in, answer_of}
use Rattle.session_record.specs.Lent.{Memory, held_in, record_in, Ready, Advanced}
use Rattle.session_record.proofs.Fit.{cuts_back, next_fit}
use Rattle.session_record.proofs.Grown.{step_over, step_same}
use Rattle.session_record.proofs.Ready.{ready_fit, ready-stands}
use Rattle.judged_rest.specs.declared.Reason.{Reason}
use Rattle.judged_rest.specs.declared.Reached.{Reached}
use Rattle.judged_rest.specs.Judged.{Reasoning, Judged, reason_in, waits, told_then, told_by, judged_line, turned, Turned}

-- what a call on lent memory does, over cuts
module _ (m : Memory) (ready : Ready m) (c : Call) (a : Answer) (after : Memory) (adv : Advanced m c a after) where
  good : property_refusal (meant m.property) ≡ 0
  good = ready.ranged.formed

  over : record { answer = a; session = record_in after } ≡ step_over m.property good (held_in m) c
  over = sym adv.stepped ∙ step_same m.property good (ready_fit m ready) c

  pub call-answer : a ≡ answer_of (answer_by m.property (held_in m) c)
  call-answer = ap (λ (r : Stepping). r.answer) over

  pub call-property : after.property ≡ m.property
  call-property = ap (λ (r : Stepping). r.session.property) over

  pub call-cuts : held_in after ≡ next_by m.property (held_in m) c
  call-cuts =
      sym (ready-stands after adv.ready)
      ∙ ap (λ (r : Stepping). cuts_of r.session) over
      ∙ cuts_back m.property good (next_fit m.property good (ready_fit m ready) c)

module _ (from : Reached) (output : Bool) (l : Line) (k : ℕ) (m : Memory) (ready : Ready m) (before : Reason) where
  abbrev here : Judged
  here = record { cuts = held_in m; told = reason_in (Ok before) }

  if_waits : {b : Bool} → waits from k output ≡ b → turned m.property from output l k here ≡ cond b (judged_line m.property l k here) here
  unfolding turned
  if_waits w = ap (λ (b : Bool). cond b (judged_line m.property l k here) here) w

  -- the line does not wait,
  pub turn_passed : waits from k output ≡ false → Turned from output l k m (reason_in (Ok before)) m (reason_in (Ok before))
  turn_passed w = record { goes = if_waits w; own = refl; ready = ready }

  module _ (w : waits from k output ≡ true) (a : Result Told Refusal) (after : Memory) (adv : Advanced m (Call.line l) (answer_in a) after) where
    answered : answer_in a ≡ answer_of (answer_by m.property (held_in m) (Call.line l))
    answered = call-answer m ready (Call.line l) (answer_in a) after adv

    -- or it was refused, or taken.
    line-told : (told : Reasoning) → told_by (answer_in a).refusal (reason_in (Ok before)) (answer_in a).verdict k ≡ told
        → Turned from output l k m (reason_in (Ok before)) after told
    line-told told e =
        record {
          goes =
              if_waits w
              ∙ (λ i. record {
                cuts = sym (call-cuts m ready (Call.line l) (answer_in a) after adv) i;
                told = told_by (sym answered i).refusal (reason_in (Ok before)) (sym answered i).verdict k;
              })
              ∙ (λ i. record { cuts = held_in after; told = e i });
          own = call-property m ready (Call.line l) (answer_in a) after adv;
          ready = adv.ready;
        }

    pub turn_not_taken : (refusal : Refusal) → a ≡ Err refusal → Turned from output l k m (reason_in (Ok before)) after (reason_in (Err refusal))
    turn_not_taken refusal e =
        line-told (reason_in (Err refusal))
        (ap (λ (r : Result Told Refusal). told_by (answer_in r).refusal (reason_in (Ok before)) (answer_in r).verdict k) e
        ∙ number (refusal_number refusal) (refusal_not_0 refusal))
      where
        number : (n : ℕ) → (n ≡ 0 → ⊥) → told_by n (reason_in (Ok before)) 0 k ≡ record { refusal = n; verdict = 0; line = 0 }
        number zero z = absurd (z refl)
        number (suc n) z = refl

    pub turn_taken : (told : Told) → a ≡ Ok told → (reason : Reason) → reason_in (Ok reason) ≡ told_then (reason_in (Ok before)) (number_told told.verdict) k
        → Turned from output l k m (reason_in (Ok before)) after (reason_in (Ok reason))
    turn_taken told e reason q =
        line-told (reason_in (Ok reason))
        (ap (λ (r : Result Told Refusal). told_by (answer_in r).refusal (reason_in (Ok before)) (answer_in r).verdict k) e ∙ sym q)
