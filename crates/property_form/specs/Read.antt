-- What the reader of a packed property answers.
use Rattle.std.specs.Prelude.{ℕ, zero, suc, ◌+◌, ◌-◌, ◌*◌, ◌^◌, Bool, false, not, List, ◌++◌, length, replicate, ltb, eqb, Result, Ok, Err}
use Rattle.meaning.specs.Limits.{most_actions}
use Rattle.meaning.specs.Numbers.{given, first_of, property_refusal}
use Rattle.meaning.specs.Calls.{unless_refused}
use Rattle.property.specs.declared.Property.{Property}
use Rattle.laws.specs.Places.{first}
use Rattle.property.specs.Meant.{meant}
pub use Rattle.property.specs.Zeros.{zeros}
use Rattle.fields.specs.Fields.{bit, field}
use Rattle.outcomes.specs.declared.Refusal.{Refusal}
use Rattle.outcomes.specs.Numbers.{refusal_number}
use Rattle.property_form.specs.Form.{form_bits, form_size}

-- The length field: "6 bits length n".
abbrev pub length_read : List ℕ → ℕ
length_read s = field s 0 6

-- "Unused places of the sequence .. are 0 from a reader": the first n of f 0, f 1, .., and d in the other places of 32.
abbrev pub places : {A : Type 0} → (ℕ → A) → ℕ → A → List A
places f n d = first f n ++ replicate (most_actions - n) d

-- "for each action 1 bit (0 input, 1 output) and 6 bits number": bit and number of action i.
abbrev pub output_read : List ℕ → ℕ → Bool
output_read s i = eqb (field s (58 + 7 * i) 1) 1

abbrev pub number_read : List ℕ → ℕ → ℕ
number_read s i = field s (59 + 7 * i) 6

-- "64 bits allowed, the first for output 0": the mask of k outputs whose bits are f i, f (i + 1), ..
unfoldable pub mask : (ℕ → ℕ) → ℕ → ℕ → ℕ
mask f i zero = 0
mask f i (suc k) = mask f i k + f (i + k) * 2 ^ k

unfoldable pub property_read : List ℕ → Property
property_read s =
    record {
      n = length_read s;
      output = places (output_read s) (length_read s) false;
      number = places (number_read s) (length_read s) 0;
      allowed = mask (bit s) (58 + 7 * length_read s) 64;
      lb = field s 6 26;
      ub = field s 32 26;
    }

-- "7: fewer packed bytes than the form needs". No byte at all is a length field of 0, and 16 bytes needed.
abbrev pub too_short : List ℕ → Bool
too_short s = ltb (length s) (form_size (length_read s))

-- The bits behind the allowed outputs, "to a full byte".
abbrev pub pad_read : List ℕ → ℕ
pad_read s = field s (form_bits (length_read s)) (8 * form_size (length_read s) - form_bits (length_read s))

-- "8: packed form broken", "Broken is: pad bits not zero"
abbrev pub pad_broken : List ℕ → Bool
pad_broken s = not (eqb (pad_read s) 0)

-- "Order where several hold: 10, 7, 8, 1, 2, 3"
unfoldable pub read_refusal : List ℕ → ℕ
read_refusal s =
    first_of (given 7 (too_short s)) (first_of (given 8 (pad_broken s)) (property_refusal (meant (property_read s))))

-- What the reader answers in numbers: the refusal, and the property where it is 0.
pub record PropertyRead : Type 0 where
  pub refusal : ℕ
  pub property : Property

abbrev pub read_numbers : Result Property Refusal → PropertyRead
read_numbers (Ok p) = record { refusal = 0; property = p }
read_numbers (Err refusal) = record { refusal = refusal_number refusal; property = zeros }

-- "A refusal carries 0 in all other numbers"
abbrev pub answer : ℕ → Property → PropertyRead
answer refusal p = record { refusal = refusal; property = unless_refused refusal p zeros }

-- "A reader takes one form from the front .."
unfoldable pub read : List ℕ → PropertyRead
read s = answer (read_refusal s) (property_read s)

-- The bytes taken; none by a refusal: "a reader's rest is then the whole slice".
unfoldable pub taken : List ℕ → ℕ
taken s = unless_refused (read_refusal s) (form_size (length_read s)) 0
