-- Document 01: "a lemma shows that two results allowed by it are equal", for each public call.
use Rattle.std.proofs.Common.{◌≡◌, ℕ, List, Bor}
use Rattle.fields.specs.Rest.{Rest}
use Rattle.fields.proofs.Determined.{rest_determined}
use Rattle.std.specs.Prelude.{Result}
use Rattle.outcomes.specs.declared.Refusal.{Refusal}
use Rattle.record_form.specs.declared.Record.{Record}
use Rattle.record_form.specs.Record.{read_case}
use Rattle.record_form.proofs.Determined.{read_record_determined}
use Rattle.tap_form.specs.Tap.{IsTapRead, tap_bytes_read}

pub read_tap_determined : {s : List ℕ} {before : ℕ} {r t : Result Record Refusal}
    → IsTapRead s before (read_case r) → IsTapRead s before (read_case t) → r ≡ t
read_tap_determined p q = read_record_determined p q

-- Two rests are at one place and hold the same bytes.
pub tap_rest_determined : (before : ℕ) {s r t : Bor (List ℕ)} → Rest (tap_bytes_read s.now before) s r → Rest (tap_bytes_read s.now before) s t
    → (r.ref_ptr ≡ t.ref_ptr) × (r.now ≡ t.now)
tap_rest_determined before p q = rest_determined p q
