-- Each promise determines the whole answer: two results allowed by it are equal.
use Rattle.std.proofs.Common.{◌≡◌, ℕ, ◌≤◌, List, [], ◌∷◌, sym, ◌∙◌}
use Rattle.property_form.specs.Form.{form_size}
use Rattle.property_form.specs.Read.{length_read}
use Rattle.session_record.specs.declared.Session.{Session}
use Rattle.printed.specs.declared.Printed.{Printed}
use Rattle.printed.specs.Printed.{printed_of, begun_of}

pub record_determined : (s : Session) (count : ℕ) (bytes : List ℕ) (r r' : Printed) → r ≡ printed_of s count bytes → r' ≡ printed_of s count bytes → r ≡ r'
record_determined s count bytes r r' e e' = e ∙ sym e'

pub size_determined : (first : ℕ) (r r' : ℕ) → ((rest : List ℕ) → r ≡ form_size (length_read (first ∷ rest))) × (1 ≤ r) × (r ≤ 71)
    → ((rest : List ℕ) → r' ≡ form_size (length_read (first ∷ rest))) × (1 ≤ r') × (r' ≤ 71) → r ≡ r'
size_determined first r r' h h' = h.0 [] ∙ sym (h'.0 [])

pub begin_determined : (bytes : List ℕ) (r r' : Printed) → r ≡ begun_of bytes → r' ≡ begun_of bytes → r ≡ r'
begin_determined bytes r r' e e' = e ∙ sym e'
