-- Document 01's own packing: property B of its case 15, LB 10, UB 30, sequence ?0, allowed {!1}.
use Prim.Native.Nat.{ℕ}
use mathlib.Core.Path.{◌≡◌, refl}
use mathlib.Core.Bool.{false}
use mathlib.Core.List.{List, ◌∷◌}
use lib.ListN.{replicate}
use Rattle.property.specs.declared.Property.{Property}
use Rattle.laws.specs.Places.{first}
use Rattle.property.specs.Meant.{meant}
use Rattle.fields.specs.Fields.{digit, bit, number, bits, run, packed, form}
use Rattle.property_form.specs.Form.{action_bits, sequence_bits, allowed_bits, property_bits, property_form, form_size}
use Rattle.property_form.specs.Read.{mask, property_read, read_refusal, read}

abbrev B : Property
B = record { n = 1; output = replicate 32 false; number = replicate 32 0; allowed = 2; lb = 10; ub = 30 }

abbrev packed-B : List ℕ
packed-B = 0x04 ∷ 0x00 ∷ 0x00 ∷ 0x0A ∷ 0x00 ∷ 0x00 ∷ 0x07 ∷ 0x80 ∷ 0x20 ∷ replicate 8 0

pub B-packed : property_form (meant B) ≡ packed-B
unfolding property_form form packed number property_bits bits digit action_bits sequence_bits allowed_bits run first
B-packed = refl

pub sizes : (form_size 1 ≡ 17) × (form_size 32 ≡ 44)
sizes = (refl, refl)

pub B-read : read packed-B ≡ record { refusal = 0; property = B }
unfolding read read_refusal property_read mask bit digit number first
B-read = refl
