-- What the writer writes: the fields put into a list of bits, and the bits packed.
use Prim.Native.Nat.{ℕ, ◌-◌, ◌≤◌}
use mathlib.Core.Bool.{false, not}
use mathlib.Core.Path.{◌≡◌, refl, sym, ◌∙◌, ap}
use mathlib.Core.List.{List, [], ◌++◌, append-nil}
use lib.ListN.{length, drop, replicate, length-append}
use lib.Seq.{paste}
use lib.Dec.{eqb}
use borrow.Author.Tests.{ltb-false}
use Rattle.meaning.specs.Limits.{last_action}
use Rattle.meaning.proofs.Refusals.{given-none, none_first, unless_taken, unless_kept}
use Rattle.fields.specs.Fields.{bits, at, packed, size, form, Bits}
use Rattle.fields.proofs.Laws.{length-bits}
use Rattle.fields.proofs.Packed.{paste-behind}
use Rattle.record_form.specs.Record.{broken, stamp_above, write_refusal, record_form, written}
use Rattle.record_form.proofs.Parts.{three_bits, length_three, length_form_three, Bits-three}

-- "two bits of kind ..; 6 bits action; 40 bits of stamp"
abbrev pub record_bits : ℕ → ℕ → ℕ → List ℕ
record_bits kind action less = three_bits 40 kind action less

module _ (kind action less : ℕ) where
  pub length_record_bits : length (record_bits kind action less) ≡ 48
  length_record_bits = length_three 40 kind action less

  pub length-record_form : length (record_form kind action less) ≡ 6
  unfolding record_form
  length-record_form = length_form_three 40 kind action less

  pub Bits-record : Bits (at (record_bits kind action less))
  Bits-record = Bits-three 40 kind action less

  -- the three fields put one behind the other
  pub filled : (a b d : List ℕ) → a ≡ paste (replicate 48 0) 0 (bits 2 kind) 2 → b ≡ paste a 2 (bits 6 action) 6
      → d ≡ paste b 8 (bits 40 less) 40 → d ≡ record_bits kind action less
  filled a b d ea eb ed =
      let pa : a ≡ bits 2 kind ++ replicate 46 0 = ea ∙ paste-behind [] (replicate 48 0) (bits 2 kind) 0 2 refl (length-bits 2 kind) in
      let pb : b ≡ (bits 2 kind ++ bits 6 action) ++ replicate 40 0 =
      eb ∙ ap (λ (l : List ℕ). paste l 2 (bits 6 action) 6) pa
      ∙ paste-behind (bits 2 kind) (replicate 46 0) (bits 6 action) 2 6 (length-bits 2 kind) (length-bits 6 action) in
      ed ∙ ap (λ (l : List ℕ). paste l 8 (bits 40 less) 40) pb
      ∙ paste-behind (bits 2 kind ++ bits 6 action) (replicate 40 0) (bits 40 less) 8 40 (simp (length-append, length-bits)) (length-bits 40 less)
      ∙ append-nil (record_bits kind action less)

  pub packed_record : packed (at (record_bits kind action less)) 6 ≡ record_form kind action less
  unfolding record_form form
  packed_record = ap (λ (n : ℕ). packed (at (record_bits kind action less)) (size n)) (sym length_record_bits)

-- ---- the refusals of the writer
-- What holds of a record that is written.
pub record Writable (kind action stamp before room : ℕ) : Type 0 where
  pub sound : broken kind action (not (eqb stamp before)) ≡ false
  pub action_fits : action ≤ last_action
  pub in_range : stamp_above stamp before ≡ false
  pub not-below : before ≤ stamp
  pub fits : 6 ≤ room

pub is_writable : (kind action stamp before room : ℕ) → write_refusal kind action stamp before room ≡ 0
    → Writable kind action stamp before room
unfolding write_refusal
is_writable kind action stamp before room e =
    let p8 = none_first 7 _ e in
    let p3 = none_first 2 _ p8.1 in
    let p4 = none_first 3 _ p3.1 in
    let p5 = none_first 4 _ p4.1 in
    record {
      sound = p8.0;
      action_fits = ltb-false _ _ p3.0;
      in_range = p4.0;
      not-below = ltb-false _ _ p5.0;
      fits = ltb-false _ _ (given-none 8 _ p5.1);
    }

module _ (kind action stamp before : ℕ) (buffer : List ℕ) where
  pub written-refused : (n : ℕ) → n ≡ write_refusal kind action stamp before (length buffer) → (n ≡ 0 → ⊥)
      → written kind action stamp before buffer ≡ buffer
  unfolding written
  written-refused n e h = unless_kept (write_refusal kind action stamp before (length buffer)) _ buffer (λ z. h (e ∙ z))

  pub written-form : write_refusal kind action stamp before (length buffer) ≡ 0
      → written kind action stamp before buffer ≡ record_form kind action (stamp - before) ++ drop 6 buffer
  unfolding written
  written-form e = unless_taken (write_refusal kind action stamp before (length buffer)) _ buffer e
