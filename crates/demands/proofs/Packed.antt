-- Demand 1 of the packed forms: "a numbered refusal, given exactly when the rules say so", and nothing else is answered or altered.
use Prim.Native.Nat.{ℕ, suc, ◌+◌, ◌-◌, ◌*◌, ◌%◌, ◌^◌}
use mathlib.Core.Path.{◌≡◌, refl, sym, ◌∙◌, ap, subst}
use mathlib.Core.Bool.{Bool, true, false, not, cond, ◌&&◌, ◌||◌}
use mathlib.Core.List.{List}
use native.Mathlib.Omega.{arith}
use lib.ListN.{length, drop}
use denote.Ref.{Bor}
use lib.Dec.{ltb, eqb}
use Rattle.meaning.specs.Words.{Property as PropertyMeant}
use Rattle.meaning.specs.Numbers.{given, first_of, property_refusal}
use Rattle.laws.proofs.Places.{first-same}
use Rattle.property.specs.Meant.{action_of, meant}
use Rattle.property.specs.declared.Property.{Property}
use Rattle.property_form.specs.Read.{property_read, read_refusal as property-read_refusal, taken as property-taken}
use Rattle.property_form.specs.Read
use Rattle.property_form.specs.Write
use Rattle.property_form.proofs.Answers.{read-refused, taken_none, taken-all, refusal-read, property_of_read, written-refused, left-refused}
use Rattle.property_form.proofs.FormBits.{length-property_form}
use Rattle.property_form.proofs.Laws.{digit_mask}
use Rattle.property_form.proofs.ReadBits.{action_read, sequence-read}
use Rattle.fields.specs.Fields.{digit, bit, field}
use Rattle.fields.specs.Rest.{Rest}
use Rattle.fields.proofs.Laws.{bit-lt}
use Rattle.record_form.specs.Record.{record_answer, read_refusal, fields_refusal, bytes_read, broken, stamp_above, write_refusal}
use Rattle.record_form.specs.Record
use Rattle.record_form.proofs.Reading.{refusal_of, taken-answer, size-taken}
use Rattle.tap_form.specs.Tap.{since, tap_stamp, tap_broken, tap_fields_refusal, tap_refusal, tap_answer, tap_bytes_read}
use Rattle.tap_form.proofs.Reading.{tap_number, tap_taken, tap_size-taken}
use Rattle.demands.specs.Refuses.{Refuses}
use Rattle.demands.specs.Called.{action_if, zero_property}
use Rattle.demands.specs.Packed.{PropertyFields, property_bytes, record_broken, past_limit}
use Rattle.demands.proofs.Forms.{answer-refused, record_not_written}

-- `read_property` with `property_rest`: 7, 8, 1, 2, 3; a property of zeros, and no byte is taken.
pub demand_1_read_property : (s : List ℕ)
    → Refuses (Read.read s).refusal
    (first_of (given 7 (ltb (length s) (property_bytes (field s 0 6))))
    (first_of (given 8 (not (eqb (field s (122 + 7 * field s 0 6) (8 * property_bytes (field s 0 6) - (122 + 7 * field s 0 6))) 0)))
    (property_refusal (meant (property_read s)))))
    (λ n. (Read.read s ≡ record { refusal = n; property = zero_property }) × (property-taken s ≡ 0))
unfolding Read.read property-read_refusal
demand_1_read_property s =
    record {
      first = refl;
      alone = λ n e. (sym (read-refused s (suc n) zero_property (sym e) (λ z. omega arith) refl), sym (taken_none s (λ z. omega (arith, e, z))));
    }

-- Taken, it answers the property whose fields these are, and takes its 122 + 7n bits, "to a full byte".
pub demand_read_property : (s : List ℕ) → (Read.read s).refusal ≡ 0
    → PropertyFields s (meant (Read.read s).property) × (property-taken s ≡ property_bytes (field s 0 6))
unfolding property_read
demand_read_property s e =
    let r : property-read_refusal s ≡ 0 = sym (refusal-read s) ∙ e in
    (subst (λ (p : Property). PropertyFields s (meant p)) (sym (property_of_read s r)) fields, taken-all s r)
  where
    by : (o : Bool) (k : ℕ) → action_of o k ≡ action_if o k
    by true k = refl
    by false k = refl

    fields : PropertyFields s (meant (property_read s))
    fields =
        record {
          lb = refl;
          ub = refl;
          sequence = sequence-read s ∙ first-same (action_read s) _ (field s 0 6) (λ i h. by (eqb (field s (58 + 7 * i) 1) 1) _);
          allowed = λ k h. unfold digit in (ap (λ (d : ℕ). eqb d 1) (digit_mask (bit s) (bit-lt s) (58 + 7 * field s 0 6) 64 k h));
        }

-- `write_property`: 1, 2, 3, 9; no byte is written.
pub demand_1_write_property : (q : PropertyMeant) (buffer : List ℕ)
    → Refuses (Write.written q buffer).refusal (first_of (property_refusal q) (given 9 (ltb (length buffer) (property_bytes (length q.sequence)))))
    (λ n. (Write.written q buffer ≡ record { refusal = n; size = 0 }) × (Write.left q buffer ≡ buffer))
unfolding Write.written Write.write_refusal
demand_1_write_property q buffer =
    record {
      first = ap (λ (n : ℕ). first_of (property_refusal q) (given 9 (ltb (length buffer) n))) (length-property_form q);
      alone = λ n e. (sym (written-refused q buffer (suc n) (sym e) (λ z. omega arith)), sym (left-refused q buffer (λ z. omega (arith, e, z))));
    }

-- `read_record` with `record_rest`: 7, 8, 4; zeros, and no byte is taken.
pub demand_1_read_record : (s : List ℕ) (before : ℕ)
    → Refuses (record_answer s before).refusal
    (first_of (given 7 (ltb (length s) 6))
    (first_of (given 8 (record_broken (field s 0 2) (field s 2 6) (not (eqb (field s 8 40) 0)))) (given 4 (past_limit (before + field s 8 40) before))))
    (λ n. (record_answer s before ≡ Record.refused n) × (bytes_read s before ≡ 0))
unfolding record_answer read_refusal fields_refusal bytes_read broken stamp_above
demand_1_read_record s before =
    record { first = refusal_of s before; alone = λ n e. answer-refused (read_refusal s before) n 6 _ (sym (refusal_of s before) ∙ e) }

-- Taken, it answers its fields, with the stamp before added, and takes six bytes: "40 bits of stamp, less the stamp before it".
pub demand_read_record : (s : List ℕ) (before : ℕ) → (record_answer s before).refusal ≡ 0
    → (record_answer s before ≡ Record.taken (field s 0 2) (field s 2 6) (before + field s 8 40)) × (bytes_read s before ≡ 6)
demand_read_record s before e =
    let none = sym (refusal_of s before) ∙ e in
    (taken-answer s before none, size-taken s before none)

-- `write_record`: 8, 3, 4, 5, 9; no byte is written.
pub demand_1_write_record : (kind action stamp before : ℕ) (buffer : List ℕ)
    → Refuses (write_refusal kind action stamp before (length buffer))
    (first_of (given 8 (record_broken kind action (not (eqb stamp before))))
    (first_of (given 3 (ltb 63 action)) (first_of (given 4 (past_limit stamp before)) (first_of (given 5 (ltb stamp before)) (given 9 (ltb (length buffer) 6))))))
    (λ n. Record.written kind action stamp before buffer ≡ buffer)
unfolding write_refusal broken stamp_above
demand_1_write_record kind action stamp before buffer = record { first = refl; alone = record_not_written kind action stamp before buffer }

-- `read_tap` with `tap_rest` (document 02, CR 4): 7; 8, also for a gap with an action (CR 7); 4, of the stamp before plus the wrapped
-- difference, or for an end of the stamp before; zeros, and no byte is taken.
pub demand_1_read_tap : (s : List ℕ) (before : ℕ)
    → Refuses (tap_answer s before).refusal
    (first_of (given 7 (ltb (length s) 5))
    (first_of (given 8 (eqb (field s 0 2) 2 && not (eqb (field s 2 6) 0) || record_broken (field s 0 2) (field s 2 6) (not (eqb (field s 8 32) 0))))
    (given 4 (past_limit (cond (eqb (field s 0 2) 3) before (before + (field s 8 32 + (2 ^ 32 - before % 2 ^ 32)) % 2 ^ 32)) before))))
    (λ n. (tap_answer s before ≡ Record.refused n) × (tap_bytes_read s before ≡ 0))
unfolding tap_answer tap_refusal tap_fields_refusal tap_broken tap_stamp since tap_bytes_read broken stamp_above
demand_1_read_tap s before =
    record { first = tap_number s before; alone = λ n e. answer-refused (tap_refusal s before) n 5 _ (sym (tap_number s before) ∙ e) }

-- Taken, it answers its fields, a gap's number of lost lines as 63 (CR 7), with that stamp, and takes five bytes.
pub demand_read_tap : (s : List ℕ) (before : ℕ) → (tap_answer s before).refusal ≡ 0
    → (tap_answer s before ≡ Record.taken (field s 0 2) (cond (eqb (field s 0 2) 2) 63 (field s 2 6)) (cond (eqb (field s 0 2) 3) before (before + (field s 8 32 + (2 ^ 32 - before % 2 ^ 32)) % 2 ^ 32)))
    × (tap_bytes_read s before ≡ 5)
unfolding tap_stamp since
demand_read_tap s before e =
    let none = sym (tap_number s before) ∙ e in
    (tap_taken s before none, tap_size-taken s before none)

-- "hands back the unread rest of the caller's own bytes": a rest behind n bytes is the same bytes, n places on.
pub rest_called : (n : ℕ) (s r : Bor (List ℕ)) → Rest n s r → (r.ref_ptr ≡ (s.ref_ptr.0, s.ref_ptr.1 + n)) × (r.now ≡ drop n s.now)
rest_called n s r h = (h.place, h.bytes)
