-- The answers of reader and writer, by the refusal.
use Prim.Native.Nat.{ℕ, ◌≤◌, ◌<◌}
use Rattle.std.specs.Prelude.{Ok, Err}
use mathlib.Core.Path.{◌≡◌, refl, sym, ap, ap₂, ◌∙◌}
use mathlib.Core.Bool.{Bool, true, false}
use mathlib.Core.List.{List, ◌++◌}
use native.Mathlib.Omega.{arith}
use borrow.Author.Tests.{ltb-false, eqb-true, eqb-false, lt-ltb, le-ltb, not-false}
use lib.Dec.{ltb, eqb}
use lib.ListN.{length, drop}
use Rattle.meaning.specs.Words
use Rattle.meaning.specs.Numbers.{given, first_of, property_refusal}
use Rattle.meaning.proofs.Refusals.{first_of-none, first_of-given, first_of-first, given-none, none_first, unless_taken, unless_kept}
use Rattle.property.specs.declared.Property.{Property}
use Rattle.property.specs.Meant.{meant}
use Rattle.property.specs.Zeros.{zeros}
use Rattle.outcomes.specs.declared.Refusal.{Refusal}
use Rattle.outcomes.specs.Numbers.{refusal_number}
use Rattle.outcomes.proofs.Same.{refusal_not_0}
use Rattle.property_form.specs.Form.{property_form, form_size}
use Rattle.property_form.specs.Read.{length_read, property_read, too_short, pad_read, pad_broken, read_refusal, PropertyRead, read_numbers, read, taken}
use Rattle.property_form.specs.Write.{Written, write_refusal, written_numbers, written, left}

-- ---- the reader

-- Refusals 7 and 8.
abbrev pub broken_of : List ℕ → ℕ
broken_of s = first_of (given 7 (too_short s)) (given 8 (pad_broken s))

pub refusal_split : (s : List ℕ) → read_refusal s ≡ first_of (broken_of s) (property_refusal (meant (property_read s)))
unfolding read_refusal
refusal_split s =
    first_of-first (given 7 (too_short s)) (given 8 (pad_broken s)) (property_refusal (meant (property_read s)))

-- A form that is not broken has the refusal of its property.
pub of-property : (s : List ℕ) → 0 ≡ broken_of s → read_refusal s ≡ property_refusal (meant (property_read s))
of-property s e = refusal_split s ∙ ap (λ (x : ℕ). first_of x (property_refusal (meant (property_read s)))) (sym e)

-- The bytes of a form that is not broken are all there, and its pad bits are zero.
module _ (s : List ℕ) (e : broken_of s ≡ 0) where
  pub whole : form_size (length_read s) ≤ length s
  whole = ltb-false (length s) (form_size (length_read s)) (none_first 6 (too_short s) e).0

  pub pad_zero : pad_read s ≡ 0
  pad_zero =
      eqb-true (pad_read s) 0
      (not-false (eqb (pad_read s) 0) (given-none 7 (pad_broken s) (none_first 6 (too_short s) e).1))

pub not-broken : (s : List ℕ) → read_refusal s ≡ 0 → broken_of s ≡ 0
not-broken s e = (first_of-none (broken_of s) (sym (refusal_split s) ∙ e)).0

pub not-refused : (s : List ℕ) → read_refusal s ≡ 0 → property_refusal (meant (property_read s)) ≡ 0
not-refused s e = (first_of-none (broken_of s) (sym (refusal_split s) ∙ e)).1

pub read-refused : (s : List ℕ) (r : ℕ) (z : Property) → r ≡ read_refusal s → (r ≡ 0 → ⊥) → z ≡ zeros
    → ◌≡◌ {A = PropertyRead} (record { refusal = r; property = z }) (read s)
unfolding read
read-refused s r z e h ez =
    ap₂ (λ (x : ℕ) (y : Property). record { refusal = x; property = y }) e
    (ez ∙ sym (unless_kept (read_refusal s) (property_read s) zeros (λ q. h (e ∙ q))))

pub read_taken : (s : List ℕ) (q : Property) → read_refusal s ≡ 0 → q ≡ property_read s
    → ◌≡◌ {A = PropertyRead} (record { refusal = 0; property = q }) (read s)
unfolding read
read_taken s q e eq =
    ap₂ (λ (x : ℕ) (y : Property). record { refusal = x; property = y }) (sym e)
    (eq ∙ sym (unless_taken (read_refusal s) (property_read s) zeros e))

pub refusal-read : (s : List ℕ) → (read s).refusal ≡ read_refusal s
unfolding read
refusal-read s = refl

pub property_of_read : (s : List ℕ) → read_refusal s ≡ 0 → (read s).property ≡ property_read s
unfolding read
property_of_read s e = unless_taken (read_refusal s) (property_read s) zeros e

-- What was read without a refusal is a property that is taken.
pub read_good : (s : List ℕ) (r : PropertyRead) → r ≡ read s → r.refusal ≡ 0 → property_refusal (meant r.property) ≡ 0
read_good s r e z =
    let none : read_refusal s ≡ 0 = sym (refusal-read s) ∙ sym (ap (λ (x : PropertyRead). x.refusal) e) ∙ z in
    ap (λ (q : Property). property_refusal (meant q)) (ap (λ (x : PropertyRead). x.property) e ∙ property_of_read s none) ∙ not-refused s none

-- The reader's results.
pub read_err : (s : List ℕ) (r : Refusal) → refusal_number r ≡ read_refusal s → read_numbers (Err r) ≡ read s
read_err s r e = read-refused s (refusal_number r) zeros e (refusal_not_0 r) refl

pub read_broken : (s : List ℕ) (r : Refusal) → refusal_number r ≡ broken_of s → read_numbers (Err r) ≡ read s
read_broken s r e =
    read_err s r
    (e ∙ sym (refusal_split s ∙ first_of-given (broken_of s) (property_refusal (meant (property_read s))) (λ z. refusal_not_0 r (e ∙ z))))

pub read_ok : (s : List ℕ) (p : Property) → read_numbers (Ok p) ≡ read s → (read_refusal s ≡ 0) × (p ≡ property_read s)
read_ok s p e =
    let none : read_refusal s ≡ 0 = sym (ap (λ (x : PropertyRead). x.refusal) e ∙ refusal-read s) in
    (none, ap (λ (x : PropertyRead). x.property) e ∙ property_of_read s none)

pub taken_none : (s : List ℕ) → (read_refusal s ≡ 0 → ⊥) → 0 ≡ taken s
unfolding taken
taken_none s h = sym (unless_kept (read_refusal s) (form_size (length_read s)) 0 h)

pub taken-all : (s : List ℕ) → read_refusal s ≡ 0 → taken s ≡ form_size (length_read s)
unfolding taken
taken-all s e = unless_taken (read_refusal s) (form_size (length_read s)) 0 e

pub taken-le : (s : List ℕ) → taken s ≤ length s
taken-le s = go (eqb (read_refusal s) 0) (eqb-true (read_refusal s) 0) (eqb-false (read_refusal s) 0)
  where
    go : (b : Bool) → (b ≡ true → read_refusal s ≡ 0) → (b ≡ false → read_refusal s ≡ 0 → ⊥) → taken s ≤ length s
    go true t f = omega (arith, taken-all s (t refl), whole s (not-broken s (t refl)))
    go false t f = omega (arith, taken_none s (f refl))

-- ---- the writer

module _ (q : Words.Property) (b : List ℕ) where
  pub written-refused : (r : ℕ) → r ≡ write_refusal q b → (r ≡ 0 → ⊥) → ◌≡◌ {A = Written} (record { refusal = r; size = 0 }) (written q b)
  unfolding written
  written-refused r e h =
      ap₂ (λ (x y : ℕ). record { refusal = x; size = y }) e
      (sym (unless_kept (write_refusal q b) (length (property_form q)) 0 (λ z. h (e ∙ z))))

  pub left-refused : (write_refusal q b ≡ 0 → ⊥) → b ≡ left q b
  unfolding left
  left-refused h = sym (unless_kept (write_refusal q b) (property_form q ++ drop (length (property_form q)) b) b h)

  pub written-taken : (k : ℕ) → write_refusal q b ≡ 0 → k ≡ length (property_form q)
      → ◌≡◌ {A = Written} (record { refusal = 0; size = k }) (written q b)
  unfolding written
  written-taken k e ek =
      ap₂ (λ (x y : ℕ). record { refusal = x; size = y }) (sym e)
      (ek ∙ sym (unless_taken (write_refusal q b) (length (property_form q)) 0 e))

  pub left-taken : write_refusal q b ≡ 0 → property_form q ++ drop (length (property_form q)) b ≡ left q b
  unfolding left
  left-taken e = sym (unless_taken (write_refusal q b) (property_form q ++ drop (length (property_form q)) b) b e)

  -- the order of the writer's refusals
  pub write_first : (property_refusal q ≡ 0 → ⊥) → write_refusal q b ≡ property_refusal q
  unfolding write_refusal
  write_first h = first_of-given (property_refusal q) (given 9 (ltb (length b) (length (property_form q)))) h

  pub write_short : property_refusal q ≡ 0 → length b < length (property_form q) → write_refusal q b ≡ 9
  unfolding write_refusal
  write_short e h = rw (e, lt-ltb (length b) (length (property_form q)) h)

  pub write_fits : property_refusal q ≡ 0 → length (property_form q) ≤ length b → write_refusal q b ≡ 0
  unfolding write_refusal
  write_fits e h = rw (e, le-ltb (length b) (length (property_form q)) h)

  -- a refusal by the property, and one by the buffer: nothing is written
  pub write_err : (r : Refusal) → refusal_number r ≡ write_refusal q b → (written_numbers (Err r) ≡ written q b) × (b ≡ left q b)
  write_err r e = (written-refused (refusal_number r) e (refusal_not_0 r), left-refused (λ z. refusal_not_0 r (e ∙ z)))

  -- what a taken answer says
  pub refusal-written : (written q b).refusal ≡ write_refusal q b
  unfolding written
  refusal-written = refl

  pub size-written : write_refusal q b ≡ 0 → (written q b).size ≡ length (property_form q)
  unfolding written
  size-written e = unless_taken (write_refusal q b) (length (property_form q)) 0 e

  pub write_taken : write_refusal q b ≡ 0 → property_refusal q ≡ 0
  unfolding write_refusal
  write_taken e = (first_of-none (property_refusal q) e).0
