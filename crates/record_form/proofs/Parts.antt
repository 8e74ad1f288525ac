-- A form of three fields, "two bits of kind ..; 6 bits action" and a third of so many bits: its fields read back, whatever follows it, and
-- bytes are the form of their fields.
use Prim.Native.Nat.{ℕ, ◌+◌, ◌*◌, ◌^◌, ◌<◌, ◌≤◌}
use mathlib.Core.Path.{◌≡◌, refl, sym, ◌∙◌, ap, ap₂}
use mathlib.Core.List.{List, [], ◌++◌, append_assoc, append-nil}
use native.Mathlib.Omega.{arith}
use lib.ListN.{length, take, length-append}
use Rattle.fields.specs.Fields.{field, bit, bits, form, size, at, Bits}
use Rattle.fields.proofs.Laws.{length-bits, run-add, bits-number, bit-lt}
use Rattle.fields.proofs.Packed.{field_of_form, form-run, length-form, Bits-append, Bits-bits}
use Rattle.record_form.specs.Record.{Bytes}

module _ (width kind action third : ℕ) where
  abbrev pub three_bits : List ℕ
  three_bits = bits 2 kind ++ bits 6 action ++ bits width third

  pub length_three : length three_bits ≡ 8 + width
  length_three = simp (length-append, length-bits)

  pub length_form_three : length (form three_bits) ≡ size (8 + width)
  length_form_three = length-form three_bits ∙ ap size length_three

  pub Bits-three : Bits (at three_bits)
  Bits-three =
      Bits-append (bits 2 kind ++ bits 6 action) (bits width third)
      (Bits-append (bits 2 kind) (bits 6 action) (Bits-bits 2 kind) (Bits-bits 6 action)) (Bits-bits width third)

  -- ---- out
  module _ (rest : List ℕ) where
    pub form-kind : kind < 4 → field (form three_bits ++ rest) 0 2 ≡ kind
    form-kind h =
        field_of_form three_bits [] 0 2 kind (bits 6 action ++ bits width third) rest (append_assoc (bits 2 kind) (bits 6 action) (bits width third)) refl Bits-three h

    pub form-action : action < 64 → field (form three_bits ++ rest) 2 6 ≡ action
    form-action h = field_of_form three_bits (bits 2 kind) 2 6 action (bits width third) rest refl (length-bits 2 kind) Bits-three h

    pub form_third : third < 2 ^ width → field (form three_bits ++ rest) 8 width ≡ third
    form_third h =
        field_of_form three_bits (bits 2 kind ++ bits 6 action) 8 width third [] rest (sym (append-nil three_bits)) (simp (length-append, length-bits)) Bits-three h

-- ---- back: "Fields are whole bits"
pub three_form : (width : ℕ) (s : List ℕ) → Bytes s → size (8 + width) ≤ length s → 8 * size (8 + width) ≤ 8 + width
    → form (three_bits width (field s 0 2) (field s 2 6) (field s 8 width)) ≡ take (size (8 + width)) s
three_form width s b h whole =
    ap₂ (λ (x y : List ℕ). form (x ++ y))
    (ap₂ (λ (x y : List ℕ). x ++ y) (bits-number (bit s) (bit-lt s) 0 2) (bits-number (bit s) (bit-lt s) 2 6)
    ∙ sym (run-add (bit s) 0 2 6))
    (bits-number (bit s) (bit-lt s) 8 width)
    ∙ ap form (sym (run-add (bit s) 0 8 width))
    ∙ form-run s (8 + width) h b (λ i p q. let z : ⊥ = omega (arith, whole) in absurd z)
