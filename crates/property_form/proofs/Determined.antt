-- Each promise determines the whole answer and every byte that was lent: two results allowed by it are equal.
use Rattle.std.specs.Prelude.{ℕ, ◌≡◌, List, Result, Ok, Err}
use Rattle.std.specs.Borrow.{Bor}
use Rattle.std.proofs.Common.{sym, ap, ◌∙◌}
use Rattle.meaning.specs.Words
use Rattle.outcomes.specs.declared.Refusal.{Refusal}
use Rattle.outcomes.proofs.Same.{same_refusal, refusal_not_0}
use Rattle.property.specs.declared.Property.{Property}
use Rattle.fields.specs.Rest.{Rest}
use Rattle.fields.proofs.Determined.{rest_determined}
use Rattle.property_form.specs.Read.{read_numbers, read}
use Rattle.property_form.specs.Write.{written_numbers, written, left}

-- Two results with the same numbers.
same_read : (r r' : Result Property Refusal) → read_numbers r ≡ read_numbers r' → r ≡ r'
same_read (Ok p) (Ok p') e = ap (λ x. Ok x.property) e
same_read (Ok p) (Err t) e = absurd (refusal_not_0 t (sym (ap (λ x. x.refusal) e)))
same_read (Err r) (Ok p') e = absurd (refusal_not_0 r (ap (λ x. x.refusal) e))
same_read (Err r) (Err t) e = ap Err (same_refusal r t (ap (λ x. x.refusal) e))

same_written : (r r' : Result ℕ Refusal) → written_numbers r ≡ written_numbers r' → r ≡ r'
same_written (Ok n) (Ok n') e = ap (λ x. Ok x.size) e
same_written (Ok n) (Err t) e = absurd (refusal_not_0 t (sym (ap (λ x. x.refusal) e)))
same_written (Err r) (Ok n') e = absurd (refusal_not_0 r (ap (λ x. x.refusal) e))
same_written (Err r) (Err t) e = ap Err (same_refusal r t (ap (λ x. x.refusal) e))

pub read_property_determined : (s : List ℕ) (r r' : Result Property Refusal) → read_numbers r ≡ read s → read_numbers r' ≡ read s → r ≡ r'
read_property_determined s r r' e e' = same_read r r' (e ∙ sym e')

-- Two rests are the same bytes in the same place.
pub property_rest_determined : {n : ℕ} {s r t : Bor (List ℕ)} → Rest n s r → Rest n s t → (r.ref_ptr ≡ t.ref_ptr) × (r.now ≡ t.now)
property_rest_determined = rest_determined

pub write_property_determined : (q : Words.Property) (buf : List ℕ) (r r' : Result ℕ Refusal) (b b' : List ℕ)
    → (written_numbers r ≡ written q buf) × (b ≡ left q buf) → (written_numbers r' ≡ written q buf) × (b' ≡ left q buf) → (r ≡ r') × (b ≡ b')
write_property_determined q buf r r' b b' h h' = (same_written r r' (h.0 ∙ sym h'.0), h.1 ∙ sym h'.1)
