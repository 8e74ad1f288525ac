-- Each promise determines the whole answer and every byte that was lent: two results allowed by it are equal.
use Prim.Native.Nat.{ℕ}
use mathlib.Core.Path.{◌≡◌, sym, ◌∙◌}
use mathlib.Core.List.{List, ◌++◌}
use lib.ListN.{drop}
use lib.Seq.{paste}
use denote.Ref.{Bor}
use Rattle.fields.specs.Fields.{digit, field, bits, at, packed}
use Rattle.fields.specs.Rest.{Rest}

pub field_at_determined : (s : List ℕ) (start width r r' : ℕ) → r ≡ field s start width → r' ≡ field s start width → r ≡ r'
field_at_determined s start width r r' e e' = e ∙ sym e'

pub digit_of_determined : (v k r r' : ℕ) → r ≡ digit v k → r' ≡ digit v k → r ≡ r'
digit_of_determined v k r r' e e' = e ∙ sym e'

pub put_field_determined : (list : List ℕ) (start width v : ℕ) (l l' : List ℕ) → l ≡ paste list start (bits width v) width → l' ≡ paste list start (bits width v) width → l ≡ l'
put_field_determined list start width v l l' e e' = e ∙ sym e'

pub pack_determined : (list buf : List ℕ) (n : ℕ) (b b' : List ℕ) → b ≡ packed (at list) n ++ drop n buf → b' ≡ packed (at list) n ++ drop n buf → b ≡ b'
pack_determined list buf n b b' e e' = e ∙ sym e'

-- Two rests are the same bytes in the same place.
pub rest_determined : {n : ℕ} {s r t : Bor (List ℕ)} → Rest n s r → Rest n s t → (r.ref_ptr ≡ t.ref_ptr) × (r.now ≡ t.now)
rest_determined p q = (p.place ∙ sym q.place, p.bytes ∙ sym q.bytes)
