-- What is read from bytes, written as bits again, is the bits of the bytes.
use Prim.Native.Nat.{ℕ, zero, suc, ◌+◌, ◌*◌}
use mathlib.Core.Path.{◌≡◌, refl, sym, ap, ap₂, ◌∙◌}
use mathlib.Core.Bool.{false}
use mathlib.Core.List.{List, ◌++◌}
use native.Mathlib.Nat.{zero-add}
use native.Mathlib.Numerals.{add-one}
use native.Mathlib.Omega.{arith}
use Rattle.meaning.specs.Words.{Action}
use Rattle.laws.specs.Places.{first}
use Rattle.property.specs.Meant.{action_of, meant, sequence_of}
use Rattle.laws.specs.Bits.{bit as mask-bit}
use Rattle.laws.proofs.Places.{length-first, first-same}
use Rattle.fields.specs.Fields.{digit, bit, field, bits, run}
use Rattle.fields.proofs.Laws.{bit-lt, number_lt, bits-number, run-add, run-same}
use Rattle.property_form.specs.Form.{action_bits, sequence_bits, allowed_bits, property_bits, form_bits}
use Rattle.property_form.specs.Read.{length_read, output_read, number_read, mask, property_read}
use Rattle.property_form.proofs.Laws.{sequence_snoc, action_of-bits, getD_places, digit_mask}
use Rattle.property_form.proofs.FormBits.{flag-eqb, action_at, allowed_of}

-- Action i as it is read.
abbrev pub action_read : List ℕ → ℕ → Action
action_read s i = action_of (output_read s i) (number_read s i)

action-run : (s : List ℕ) (i : ℕ) → action_bits (action_read s i) ≡ run (bit s) (58 + 7 * i) 7
action-run s i =
    action_of-bits (output_read s i) (number_read s i)
    ∙ ap (λ (x : ℕ). bits 1 x ++ bits 6 (number_read s i))
    (flag-eqb (field s (58 + 7 * i) 1) (number_lt (bit s) (bit-lt s) (58 + 7 * i) 1))
    ∙ ap₂ (λ (x y : List ℕ). x ++ y) (bits-number (bit s) (bit-lt s) (58 + 7 * i) 1)
    (bits-number (bit s) (bit-lt s) (59 + 7 * i) 6)
    ∙ ap (λ (x : ℕ). run (bit s) (58 + 7 * i) 1 ++ run (bit s) x 6) at_59
    ∙ sym (run-add (bit s) (58 + 7 * i) 1 6)
  where
    at_59 : 59 + 7 * i ≡ 58 + 7 * i + 1
    at_59 = omega arith

sequence-none : (s : List ℕ) → sequence_bits (first (action_read s) 0) ≡ run (bit s) 58 (7 * 0)
unfolding sequence_bits first run
sequence-none s = refl

sequence-run : (s : List ℕ) (n : ℕ) → sequence_bits (first (action_read s) n) ≡ run (bit s) 58 (7 * n)
sequence-run s zero = sequence-none s
sequence-run s (suc n) =
    ap (λ (k : ℕ). sequence_bits (first (action_read s) k)) (sym (add-one n))
    ∙ sym (sequence_snoc (action_read s) n)
    ∙ ap₂ (λ (x y : List ℕ). x ++ y) (sequence-run s n) (action-run s n)
    ∙ sym (run-add (bit s) 58 (7 * n) 7)
    ∙ ap (run (bit s) 58) more
  where
    more : 7 * n + 7 ≡ 7 * suc n
    more = omega arith

allowed-run : (s : List ℕ) (i : ℕ) → allowed_bits (mask-bit (mask (bit s) i 64)) ≡ run (bit s) i 64
allowed-run s i =
    allowed_of (mask (bit s) i 64)
    ∙ run-same (digit (mask (bit s) i 64)) (bit s) 0 i 64
    (λ m h. ap (digit (mask (bit s) i 64)) (zero-add m) ∙ digit_mask (bit s) (bit-lt s) i 64 m h)

-- the sequence of the property that is read
pub sequence-read : (s : List ℕ) → sequence_of (property_read s) ≡ first (action_read s) (length_read s)
unfolding property_read
sequence-read s =
    first-same (action_at (property_read s)) (action_read s)
    (length_read s)
    (λ i h.
    ap₂ action_of (getD_places (output_read s) (length_read s) i false h) (getD_places (number_read s) (length_read s) i 0 h))

-- the bits of the property that is read
pub bits-read : (s : List ℕ) → property_bits (meant (property_read s)) ≡ run (bit s) 0 (form_bits (length_read s))
unfolding property_bits property_read
bits-read s =
    ap₂ (λ (x : ℕ) (y : List ℕ). bits 6 x ++ bits 26 (field s 6 26) ++ bits 26 (field s 32 26) ++ y ++ A)
    (length-first (action_at (property_read s)) n)
    (ap sequence_bits (sequence-read s) ∙ sequence-run s n)
    ∙ ap₂ (λ (x y : List ℕ). x ++ y ++ bits 26 (field s 32 26) ++ run (bit s) 58 (7 * n) ++ A)
    (bits-number (bit s) (bit-lt s) 0 6) (bits-number (bit s) (bit-lt s) 6 26)
    ∙ ap₂ (λ (x y : List ℕ). run (bit s) 0 6 ++ run (bit s) 6 26 ++ x ++ run (bit s) 58 (7 * n) ++ y)
    (bits-number (bit s) (bit-lt s) 32 26) (allowed-run s (58 + 7 * n))
    ∙ ap (λ (x : List ℕ). x ++ run (bit s) 32 26 ++ run (bit s) 58 (7 * n) ++ run (bit s) (58 + 7 * n) 64) (sym (run-add (bit s) 0 6 26))
    ∙ ap (λ (x : List ℕ). x ++ run (bit s) 58 (7 * n) ++ run (bit s) (58 + 7 * n) 64) (sym (run-add (bit s) 0 32 26))
    ∙ ap₂ (λ (x : List ℕ) (y : ℕ). x ++ run (bit s) y 64) (sym (run-add (bit s) 0 58 (7 * n))) (sym (zero-add (58 + 7 * n)))
    ∙ sym (run-add (bit s) 0 (58 + 7 * n) 64)
    ∙ ap (run (bit s) 0) all
  where
    n : ℕ
    n = length_read s

    A : List ℕ
    A = allowed_bits (mask-bit (mask (bit s) (58 + 7 * n) 64))

    all : 58 + 7 * n + 64 ≡ form_bits n
    all = omega arith
