-- What a record does, by what its call is answered.
use Prim.Native.Nat.{ℕ, zero, suc}
use Rattle.std.specs.Prelude.{Result, Ok, Err}
use native.Mathlib.Omega.{arith}
use mathlib.Core.Path.{◌≡◌, refl, sym, ◌∙◌, ap, subst}
use Rattle.meaning.specs.Calls.{Call}
use Rattle.outcomes.specs.declared.Refusal.{Refusal}
use Rattle.outcomes.proofs.Same.{refusal_not_0}
use Rattle.trace_form.specs.ReadAs.{ReadAs}
use Rattle.session_record.specs.declared.Told.{Told}
use Rattle.session_record.specs.Step.{Answer, Stepping, answer_in, stepped_of}
use Rattle.session_record.specs.Lent.{Memory, record_in, Advanced}
use Rattle.one_record.specs.declared.Did.{Did}
use Rattle.one_record.specs.Doing.{Doing, doing_in, by_answer}
use Rattle.one_record.specs.Takes.{Takes}

-- ---- a call that was taken, or refused

taken_does : (c : Call) (n : ℕ) (a : Answer) → n ≡ 0 → Doing.took c a ≡ by_answer c n a
unfolding by_answer
taken_does c zero a e = refl
taken_does c (suc n) a e = let z : ⊥ = omega arith in absurd z

refused_does : (c : Call) (n : ℕ) (a : Answer) → (n ≡ 0 → ⊥) → Doing.refused n ≡ by_answer c n a
unfolding by_answer
refused_does c zero a e = absurd (e refl)
refused_does c (suc n) a e = refl

module _ {m after : Memory} {c : Call} {a : Answer} (h : Advanced m c a after) where
  answered : (stepped_of (record_in m) c).answer ≡ a
  answered = ap (λ (x : Stepping). x.answer) h.stepped

  left : record_in after ≡ (stepped_of (record_in m) c).session
  left = sym (ap (λ (x : Stepping). x.session) h.stepped)

  pub call_taken : a.refusal ≡ 0 → Takes m (ReadAs.call c) (Doing.took c a) after
  call_taken e =
      record {
        did =
            taken_does c (stepped_of (record_in m) c).answer.refusal a (ap (λ (x : Answer). x.refusal) answered ∙ e)
            ∙ ap (by_answer c (stepped_of (record_in m) c).answer.refusal) (sym answered);
        session = left;
        ready = h.ready;
      }

  pub call_refused : (a.refusal ≡ 0 → ⊥) → Takes m (ReadAs.call c) (Doing.refused a.refusal) after
  call_refused e =
      record {
        did =
            refused_does c a.refusal (stepped_of (record_in m) c).answer e
            ∙ ap (λ (n : ℕ). by_answer c n (stepped_of (record_in m) c).answer) (ap (λ (x : Answer). x.refusal) (sym answered));
        session = left;
        ready = h.ready;
      }

-- By what the call has come to: an arm of the `match` knows what the record stands for.
module _ {m after : Memory} {c : Call} {x : ReadAs} {r : Result Told Refusal} (is : x ≡ ReadAs.call c) (h : Advanced m c (answer_in r) after) where
  pub taken_known : {told : Told} → r ≡ Ok told → Takes m x (Doing.took c (answer_in (Ok told))) after
  taken_known {told} e =
      subst (λ (y : ReadAs). Takes m y (Doing.took c (answer_in (Ok told))) after) (sym is)
      (call_taken (subst (λ (y : Result Told Refusal). Advanced m c (answer_in y) after) e h) refl)

  pub refused_known : {refusal : Refusal} {d : Result Did Refusal} → r ≡ Err refusal → d ≡ Err refusal → Takes m x (doing_in d) after
  refused_known {refusal} {d} e q =
      subst (λ (y : ReadAs). Takes m y (doing_in d) after) (sym is)
      (subst (λ (y : Result Did Refusal). Takes m (ReadAs.call c) (doing_in y) after) (sym q)
      (call_refused (subst (λ (y : Result Told Refusal). Advanced m c (answer_in y) after) e h) (refusal_not_0 refusal)))
