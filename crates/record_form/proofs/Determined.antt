-- Document 01: "a lemma shows that two results allowed by it are equal", for each public call.
use Prim.Native.Nat.{ℕ}
use mathlib.Core.Path.{◌≡◌, refl, sym, ◌∙◌}
use mathlib.Core.List.{List}
use denote.Ref.{Bor}
use Rattle.std.specs.Prelude.{Result}
use Rattle.outcomes.specs.declared.Refusal.{Refusal}
use Rattle.outcomes.specs.Numbers.{refusal_in}
use Rattle.outcomes.proofs.Same.{same_check}
use Rattle.record_form.specs.declared.Record.{Record}
use Rattle.fields.specs.Rest.{Rest}
use Rattle.fields.proofs.Determined.{rest_determined}
use Rattle.record_form.specs.Record.{Reader, ReadBy, read_case, IsWritten}
use Rattle.record_form.proofs.Cases.{same_read}

-- whatever the reader
pub read_record_determined : {reader : Reader} {s : List ℕ} {before : ℕ} {r t : Result Record Refusal}
    → ReadBy reader s before (read_case r) → ReadBy reader s before (read_case t) → r ≡ t
read_record_determined {r = r} {t = t} p q = same_read r t (p.answer ∙ sym q.answer)

-- Two rests are at one place and hold the same bytes.
pub record_rest_determined : {n : ℕ} {s r t : Bor (List ℕ)} → Rest n s r → Rest n s t → (r.ref_ptr ≡ t.ref_ptr) × (r.now ≡ t.now)
record_rest_determined = rest_determined

pub write_record_determined : {kind action stamp before : ℕ} {buffer after₁ after₂ : List ℕ} {r t : Result Unit Refusal}
    → IsWritten kind action stamp before buffer after₁ (refusal_in r) → IsWritten kind action stamp before buffer after₂ (refusal_in t)
    → (r ≡ t) × (after₁ ≡ after₂)
write_record_determined {r = r} {t = t} p q = (same_check (λ x y. refl) r t (p.number ∙ sym q.number), p.bytes ∙ sym q.bytes)
