-- Fresh calls and the packed forms: what is refused, and records that a walk takes.
use Prim.Native.Nat.{ℕ, zero, suc, ◌+◌, ◌*◌}
use mathlib.Core.Path.{◌≡◌, refl, sym, ◌∙◌, ap, ap₂}
use mathlib.Core.List.{List, [], ◌∷◌, ◌++◌}
use native.Mathlib.Omega.{arith}
use lib.ListN.{length, take, drop}
use lib.Seq.{take-add}
use Rattle.meaning.specs.Numbers.{property_refusal}
use Rattle.meaning.specs.Calls.{unless_refused}
use Rattle.meaning.proofs.Refusals.{unless_kept}
use Rattle.property.specs.Meant.{meant}
use Rattle.property.specs.declared.Property.{Property}
use Rattle.session_record.specs.Step.{Stepping}
use Rattle.session_record.specs.Step.{fresh_of}
use Rattle.session_record.proofs.Steps.{fresh-refused, fresh-taken}
use Rattle.record_form.specs.Record.{RecordAnswer, Bytes, record_size, write_refusal, written, answered}
use Rattle.record_form.specs.Record
use Rattle.trace_form.specs.Trace.{Entry, kind_of, action_of, stamp_of}
use Rattle.laws.proofs.Bytes.{Bytes-drop}
use Rattle.record_form.proofs.RoundTrip.{record_one_packing}
use Rattle.demands.specs.Traces.{BeginsWith}

-- the number of a fresh call is the property's refusal
pub fresh-number : (p : Property) → (fresh_of p).answer.refusal ≡ property_refusal (meant p)
fresh-number p = go (property_refusal (meant p)) refl
  where
    go : (n : ℕ) → property_refusal (meant p) ≡ n → (fresh_of p).answer.refusal ≡ n
    go zero e = ap (λ (r : Stepping). r.answer.refusal) (fresh-taken p e)
    go (suc n) e = ap (λ (r : Stepping). r.answer.refusal) (fresh-refused p (suc n) e (λ z. omega arith))

-- a reader's answer that is refused with a number, and the bytes that it takes
pub answer-refused : (number n size : ℕ) (answer : RecordAnswer) → number ≡ suc n → (answered number answer ≡ Record.refused (suc n)) × (unless_refused number size 0 ≡ 0)
unfolding answered
answer-refused number n size answer e = (
  unless_kept number _ _ (λ z. omega (arith, e, z)) ∙ ap Record.refused e,
  unless_kept number size 0 (λ z. omega (arith, e, z)),
)

pub record_not_written : (kind action stamp before : ℕ) (buffer : List ℕ) (n : ℕ) → write_refusal kind action stamp before (length buffer) ≡ suc n
    → written kind action stamp before buffer ≡ buffer
unfolding written
record_not_written kind action stamp before buffer n e = unless_kept (write_refusal kind action stamp before (length buffer)) _ _ (λ z. omega (arith, e, z))

-- Bytes that begin with the same records begin with the same bytes.
pub begins_one_packing : (s t : List ℕ) (before : ℕ) (entries : List Entry) → Bytes s → Bytes t → BeginsWith s before entries → BeginsWith t before entries
    → take (record_size * length entries) s ≡ take (record_size * length entries) t
begins_one_packing s t before [] bs bt hs ht = refl
begins_one_packing s t before (e ∷ entries) bs bt hs ht =
    let more : record_size * suc (length entries) ≡ record_size + record_size * length entries = omega arith in
    ap (λ (n : ℕ). take n s) more
    ∙ take-add record_size (record_size * length entries) s
    ∙ ap₂ ◌++◌ (record_one_packing s t before (kind_of e) (action_of e) (stamp_of e) bs bt hs.0 ht.0)
    (begins_one_packing (drop record_size s) (drop record_size t) (stamp_of e) entries (Bytes-drop record_size s bs) (Bytes-drop record_size t bt) hs.1 ht.1)
    ∙ sym (take-add record_size (record_size * length entries) t)
    ∙ ap (λ (n : ℕ). take n t) (sym more)
