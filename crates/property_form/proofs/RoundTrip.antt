-- The two round trips of the packed property. What was written reads back as it was given, with the rest right behind it, whatever
-- bytes follow; and what the reader takes is exactly what the writer writes of it, so that each property has one packing.
use Prim.Native.Nat.{ℕ, suc, ◌+◌, ◌-◌, ◌*◌, ◌^◌, ◌≤◌, ◌<◌}
use mathlib.Core.Path.{◌≡◌, refl, sym, ap, ap₂, ◌∙◌}
use mathlib.Core.Bool.{Bool, false, not}
use mathlib.Core.List.{List, [], ◌++◌, append_assoc}
use native.Mathlib.Nat.{zero-add}
use native.Mathlib.Omega.{arith}
use borrow.Author.Tests.{le-ltb, eq-eqb}
use lib.Dec.{eqb}
use lib.ListN.{length, get_or, replicate, take, drop, length-append, get_or-eq_default}
use lib.Seq.{get_or-append-add, drop_at, length-take-le}
use Rattle.laws.specs.Bytes.{Bytes}
use Rattle.meaning.specs.Words.{Action}
use Rattle.meaning.specs.Numbers.{given, first_of, property_refusal}
use Rattle.property.specs.declared.Property.{Property}
use Rattle.laws.specs.Places.{first}
use Rattle.property.specs.Meant.{action_of, meant}
use Rattle.laws.specs.Bits.{bit as mask-bit}
use Rattle.laws.proofs.Places.{length-first, first-same}
use Rattle.property.proofs.Refusal.{taken_bounds, taken-number}
use Rattle.fields.specs.Fields.{digit, bit, field, bits, run, at, size, form}
use Rattle.fields.proofs.Laws.{number-zeros, zero_number, getD_run, length-bits}
use Rattle.fields.proofs.Packed.{bit-form, field_of_form, form-run}
use Rattle.property_form.specs.Form.{flag, sequence_bits, property_bits, property_form, form_bits, form_size}
use Rattle.property_form.specs.Read.{length_read, places, output_read, number_read, mask, property_read, too_short, pad_read, pad_broken, read_refusal, read, taken}
use Rattle.property_form.specs.Write.{write_refusal, written, left}
use Rattle.property_form.proofs.Laws.{action_of-bits, sequence_split, length-sequence-first, getD_places, places_getD, mask-digits}
use Rattle.property_form.proofs.FormBits.{flag-lt, eqb-flag, length-head, action_at, length_of_bits, length_of_form, Bits-property, allowed_of}
use Rattle.property_form.proofs.Answers.{whole, pad_zero, not-broken, not-refused, refusal_split, read_taken, taken-all, taken-le, refusal-read, property_of_read}
use Rattle.property_form.proofs.Answers.{write_fits, write_taken, written-taken, left-taken, refusal-written, size-written}
use Rattle.property_form.proofs.ReadBits.{bits-read}

-- ---- back: what is read is what is written

-- The bytes taken are the form of the property read.
pub form-read : (s : List ℕ) → Bytes s → read_refusal s ≡ 0 → property_form (meant (property_read s)) ≡ take (taken s) s
unfolding property_form
form-read s b e =
    ap form (bits-read s)
    ∙ form-run s (form_bits (length_read s)) (whole s (not-broken s e)) b pad
    ∙ ap (λ (k : ℕ). take k s) (sym (taken-all s e))
  where
    N : ℕ
    N = form_bits (length_read s)

    pad : (i : ℕ) → N ≤ i → i < 8 * size N → bit s i ≡ 0
    pad i le lt =
        let i-is : N + (i - N) ≡ i = omega arith in
        sym (ap (bit s) i-is) ∙ zero_number (bit s) N (8 * size N - N) (pad_zero s (not-broken s e)) (i - N) (omega arith)

-- Only one packing: bytes that are read as the same property are the same bytes.
pub one_packing : (s t : List ℕ) → Bytes s → Bytes t
    → read_refusal s ≡ 0 → read_refusal t ≡ 0 → meant (property_read s) ≡ meant (property_read t) → take (taken s) s ≡ take (taken t) t
one_packing s t bs bt es et e = sym (form-read s bs es) ∙ ap property_form e ∙ form-read t bt et

-- ---- out: what was written is read back

-- A property with 0 in the places of the sequence that are not used.
abbrev pub cleared : Property → Property
cleared p =
    record {
      n = p.n;
      output = places (λ i. get_or p.output i false) p.n false;
      number = places (λ i. get_or p.number i 0) p.n 0;
      allowed = p.allowed;
      lb = p.lb;
      ub = p.ub;
    }

-- It means the same.
pub meant_cleared : (p : Property) → meant (cleared p) ≡ meant p
meant_cleared p =
    ap (λ (l : List Action). record { sequence = l; allowed = mask-bit p.allowed; LB = p.lb; UB = p.ub })
    (first-same (action_at (cleared p)) (action_at p) p.n
    (λ i h.
    ap₂ action_of (getD_places (λ i. get_or p.output i false) p.n i false h) (getD_places (λ i. get_or p.number i 0) p.n i 0 h)))

-- A property of 32 places that has 0 in those not used is itself.
pub cleared_same : (p : Property) → length p.output ≡ 32 → length p.number ≡ 32 → p.n ≤ 32
    → ((i : ℕ) → p.n ≤ i → get_or p.output i false ≡ false) → ((i : ℕ) → p.n ≤ i → get_or p.number i 0 ≡ 0) → cleared p ≡ p
cleared_same p lo ln h zo zn =
    let output : places (λ i. get_or p.output i false) p.n false ≡ p.output = places_getD p.output p.n false lo h zo in
    let number : places (λ i. get_or p.number i 0) p.n 0 ≡ p.number = places_getD p.number p.n 0 ln h zn in
    λ i. record { n = p.n; output = output i; number = number i; allowed = p.allowed; lb = p.lb; ub = p.ub }

-- The parts of its bits: before the actions, the actions, and behind them.
abbrev head : Property → List ℕ
head p = bits 6 p.n ++ bits 26 p.lb ++ bits 26 p.ub

abbrev actions : Property → List ℕ
actions p = sequence_bits (first (action_at p) p.n)

abbrev tail : Property → List ℕ
tail p = run (digit p.allowed) 0 64

parts : (p : Property) → property_bits (meant p) ≡ head p ++ actions p ++ tail p
unfolding property_bits
parts p =
    ap₂ (λ (x : ℕ) (y : List ℕ). bits 6 x ++ bits 26 p.lb ++ bits 26 p.ub ++ actions p ++ y)
    (length-first (action_at p) p.n) (allowed_of p.allowed)

length_until : (p : Property) (i : ℕ) → length (head p ++ sequence_bits (first (action_at p) i)) ≡ 58 + 7 * i
length_until p i =
    length-append (head p) (sequence_bits (first (action_at p) i))
    ∙ ap₂ (λ (x y : ℕ). x + y) (length-head p.n p.lb p.ub) (length-sequence-first (action_at p) i)

-- the bits of a property, at action i
at-action : (p : Property) (i : ℕ) → i < p.n
    → property_bits (meant p)
    ≡ (head p ++ sequence_bits (first (action_at p) i))
    ++ bits 1 (flag (get_or p.output i false))
    ++ (bits 6 (get_or p.number i 0) ++ (sequence_bits (first (λ j. action_at p (i + suc j)) (p.n - suc i)) ++ tail p))
at-action p i h =
    parts p
    ∙ ap (λ (x : List ℕ). head p ++ x ++ tail p)
    (sequence_split (action_at p) p.n i h
    ∙ ap (λ (x : List ℕ). sequence_bits (first (action_at p) i) ++ (x ++ sequence_bits (first (λ j. action_at p (i + suc j)) (p.n - suc i))))
    (action_of-bits (get_or p.output i false) (get_or p.number i 0)))
    ∙ simp append_assoc

-- A form whose property none of 1, 2 and 3 refuses, with any bytes behind it.
module _ (p : Property) (e : property_refusal (meant p) ≡ 0) (m : p.allowed < 2 ^ 64) (rest : List ℕ) where
  length_back : length_read (property_form (meant p) ++ rest) ≡ p.n
  unfolding property_form
  length_back =
      field_of_form (property_bits (meant p)) [] 0 6 p.n (bits 26 p.lb ++ (bits 26 p.ub ++ (actions p ++ tail p))) rest
      (parts p ∙ simp append_assoc) refl (Bits-property (meant p)) (omega (arith, taken_bounds p e))

  lb_back : field (property_form (meant p) ++ rest) 6 26 ≡ p.lb
  unfolding property_form
  lb_back =
      field_of_form (property_bits (meant p)) (bits 6 p.n) 6 26 p.lb (bits 26 p.ub ++ (actions p ++ tail p)) rest
      (parts p ∙ simp append_assoc) (length-bits 6 p.n) (Bits-property (meant p)) (omega (arith, taken_bounds p e))

  ub_back : field (property_form (meant p) ++ rest) 32 26 ≡ p.ub
  unfolding property_form
  ub_back =
      field_of_form (property_bits (meant p)) (bits 6 p.n ++ bits 26 p.lb) 32 26 p.ub (actions p ++ tail p) rest
      (parts p ∙ simp append_assoc)
      (length-append (bits 6 p.n) (bits 26 p.lb) ∙ ap₂ (λ (x y : ℕ). x + y) (length-bits 6 p.n) (length-bits 26 p.lb))
      (Bits-property (meant p)) (omega (arith, taken_bounds p e))

  output_back : (i : ℕ) → i < p.n → output_read (property_form (meant p) ++ rest) i ≡ get_or p.output i false
  unfolding property_form
  output_back i h =
      ap (λ (x : ℕ). eqb x 1)
      (field_of_form (property_bits (meant p)) (head p ++ sequence_bits (first (action_at p) i)) (58 + 7 * i) 1
      (flag (get_or p.output i false))
      (bits 6 (get_or p.number i 0) ++ (sequence_bits (first (λ j. action_at p (i + suc j)) (p.n - suc i)) ++ tail p)) rest
      (at-action p i h) (length_until p i) (Bits-property (meant p)) (flag-lt (get_or p.output i false)))
      ∙ eqb-flag (get_or p.output i false)

  number_back : (i : ℕ) → i < p.n → number_read (property_form (meant p) ++ rest) i ≡ get_or p.number i 0
  unfolding property_form
  number_back i h =
      field_of_form (property_bits (meant p))
      (head p ++ sequence_bits (first (action_at p) i) ++ bits 1 (flag (get_or p.output i false))) (59 + 7 * i) 6
      (get_or p.number i 0) (sequence_bits (first (λ j. action_at p (i + suc j)) (p.n - suc i)) ++ tail p) rest
      (at-action p i h ∙ simp append_assoc)
      (length-append (head p ++ sequence_bits (first (action_at p) i)) (bits 1 (flag (get_or p.output i false)))
      ∙ omega (arith, length_until p i, length-bits 1 (flag (get_or p.output i false))))
      (Bits-property (meant p)) (omega (arith, taken-number p e i h))

  allowed_back : mask (bit (property_form (meant p) ++ rest)) (58 + 7 * p.n) 64 ≡ p.allowed
  unfolding property_form
  allowed_back =
      mask-digits (bit (form (property_bits (meant p)) ++ rest)) (58 + 7 * p.n) 64 p.allowed m
      (λ j h.
      bit-form (property_bits (meant p)) rest (Bits-property (meant p)) (58 + 7 * p.n + j) (omega (arith, length_of_bits p, h))
      ∙ ap₂ (λ (x : List ℕ) (y : ℕ). at x (y + j)) (parts p) (sym (length_until p p.n))
      ∙ get_or-append-add (head p ++ actions p) (tail p) j 0
      ∙ getD_run (digit p.allowed) 0 64 j h
      ∙ ap (digit p.allowed) (zero-add j))

  property_back : property_read (property_form (meant p) ++ rest) ≡ cleared p
  unfolding property_read
  property_back =
      let s : List ℕ = property_form (meant p) ++ rest in
      let output : places (output_read s) (length_read s) false ≡ places (λ i. get_or p.output i false) p.n false =
      ap (λ (k : ℕ). places (output_read s) k false) length_back
      ∙ ap (λ (l : List Bool). l ++ replicate (32 - p.n) false)
      (first-same (output_read s) (λ i. get_or p.output i false) p.n output_back) in
      let number : places (number_read s) (length_read s) 0 ≡ places (λ i. get_or p.number i 0) p.n 0 =
      ap (λ (k : ℕ). places (number_read s) k 0) length_back
      ∙ ap (λ (l : List ℕ). l ++ replicate (32 - p.n) 0)
      (first-same (number_read s) (λ i. get_or p.number i 0) p.n number_back) in
      let allowed : mask (bit s) (58 + 7 * length_read s) 64 ≡ p.allowed =
      ap (λ (k : ℕ). mask (bit s) (58 + 7 * k) 64) length_back ∙ allowed_back in
      λ i. record { n = length_back i; output = output i; number = number i; allowed = allowed i; lb = lb_back i; ub = ub_back i }

  long_enough : too_short (property_form (meant p) ++ rest) ≡ false
  long_enough =
      le-ltb (length (property_form (meant p) ++ rest)) (form_size (length_read (property_form (meant p) ++ rest)))
      (omega (arith, length-append (property_form (meant p)) rest, length_of_form p, length_back))

  pad_back : pad_broken (property_form (meant p) ++ rest) ≡ false
  unfolding property_form
  pad_back =
      let s : List ℕ = form (property_bits (meant p)) ++ rest in
      ap not
      (eq-eqb (pad_read s) 0
      (number-zeros (bit s) (form_bits (length_read s)) (8 * form_size (length_read s) - form_bits (length_read s))
      (λ k h.
      bit-form (property_bits (meant p)) rest (Bits-property (meant p)) (form_bits (length_read s) + k)
      (omega (arith, length_of_bits p, length_back, h))
      ∙ get_or-eq_default (property_bits (meant p)) 0 (omega (arith, length_of_bits p, length_back, h)))))

  refusal_back : read_refusal (property_form (meant p) ++ rest) ≡ 0
  refusal_back =
      refusal_split (property_form (meant p) ++ rest)
      ∙ ap₂ (λ (x : Bool) (y : Bool). first_of (first_of (given 7 x) (given 8 y)) (property_refusal (meant (property_read (property_form (meant p) ++ rest))))) long_enough pad_back
      ∙ ap (λ q. property_refusal (meant q)) property_back
      ∙ ap property_refusal (meant_cleared p)
      ∙ e

  -- What was written reads back, whatever bytes follow.
  pub form_back : read (property_form (meant p) ++ rest) ≡ record { refusal = 0; property = cleared p }
  form_back = sym (read_taken (property_form (meant p) ++ rest) (cleared p) refusal_back (sym property_back))

  -- The rest is right behind it.
  pub rest_back : drop (taken (property_form (meant p) ++ rest)) (property_form (meant p) ++ rest) ≡ rest
  rest_back =
      drop_at (property_form (meant p)) rest (taken (property_form (meant p) ++ rest))
      (length_of_form p ∙ sym (taken-all (property_form (meant p) ++ rest) refusal_back ∙ ap form_size length_back))

-- Properties with the same form are the same, but for the places that are not used.
pub one-property : (p p' : Property) → property_refusal (meant p) ≡ 0 → property_refusal (meant p') ≡ 0 → p.allowed < 2 ^ 64
    → p'.allowed < 2 ^ 64 → property_form (meant p) ≡ property_form (meant p') → cleared p ≡ cleared p'
one-property p p' e e' m m' same =
    ap (λ r. r.property)
    (sym (form_back p e m []) ∙ ap (λ (l : List ℕ). read (l ++ [])) same ∙ form_back p' e' m' [])

-- ---- the round trips of reader and writer

-- What the writer wrote is read back: the property given, with 0 in the places that are not used.
pub write_then_read : (p : Property) (buf : List ℕ) → p.allowed < 2 ^ 64 → (written (meant p) buf).refusal ≡ 0
    → read (left (meant p) buf) ≡ record { refusal = 0; property = cleared p }
write_then_read p buf m e =
    let w : write_refusal (meant p) buf ≡ 0 = sym (refusal-written (meant p) buf) ∙ e in
    ap read (sym (left-taken (meant p) buf w))
    ∙ form_back p (write_taken (meant p) buf w) m (drop (length (property_form (meant p))) buf)

-- The rest behind it is what stood behind it in the buffer.
pub write_then_rest : (p : Property) (buf : List ℕ) → p.allowed < 2 ^ 64 → (written (meant p) buf).refusal ≡ 0
    → drop (taken (left (meant p) buf)) (left (meant p) buf) ≡ drop (written (meant p) buf).size buf
write_then_rest p buf m e =
    let w : write_refusal (meant p) buf ≡ 0 = sym (refusal-written (meant p) buf) ∙ e in
    ap (λ (s : List ℕ). drop (taken s) s) (sym (left-taken (meant p) buf w))
    ∙ rest_back p (write_taken (meant p) buf w) m (drop (length (property_form (meant p))) buf)
    ∙ ap (λ (k : ℕ). drop k buf) (sym (size-written (meant p) buf w))

-- What the reader took, the writer writes again: the same bytes, as many.
pub read_then_write : (s buf : List ℕ) → Bytes s → (read s).refusal ≡ 0 → taken s ≤ length buf
    → (written (meant (read s).property) buf ≡ record { refusal = 0; size = taken s })
    × (left (meant (read s).property) buf ≡ take (taken s) s ++ drop (taken s) buf)
read_then_write s buf b e h =
    let r : read_refusal s ≡ 0 = sym (refusal-read s) ∙ e in
    let q : meant (read s).property ≡ meant (property_read s) = ap meant (property_of_read s r) in
    let f : property_form (meant (property_read s)) ≡ take (taken s) s = form-read s b r in
    let k : length (property_form (meant (property_read s))) ≡ taken s =
    ap length f ∙ length-take-le (taken s) s (taken-le s) in
    let fits : write_refusal (meant (property_read s)) buf ≡ 0 =
    write_fits (meant (property_read s)) buf (not-refused s r) (omega arith) in (
      ap (λ x. written x buf) q ∙ sym (written-taken (meant (property_read s)) buf (taken s) fits (sym k)),
      ap (λ x. left x buf) q
          ∙ sym (left-taken (meant (property_read s)) buf fits)
          ∙ ap₂ (λ (x : List ℕ) (y : ℕ). x ++ drop y buf) f k,
    )
