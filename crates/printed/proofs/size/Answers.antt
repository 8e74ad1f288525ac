-- `printed::size` meets its contract: the length field stands in the first byte, and six bits are a number below 64.
use Rattle.std.proofs.Common.{◌≡◌, ℕ, ◌<◌, List, [], ◌∷◌, refl, ap, ◌∙◌, arith}
use Rattle.fields.specs.Fields.{bit, number, field}
use Rattle.fields.proofs.Laws.{bit-lt, number_lt}
use Rattle.property_form.specs.Form.{form_size}
use Rattle.property_form.specs.Read.{length_read}
use Rattle.printed.proofs.size.Goals as goal

small : (first : ℕ) → field (first ∷ []) 0 6 < 64
small first = number_lt (bit (first ∷ [])) (bit-lt (first ∷ [])) 0 6

in_first : (first : ℕ) (rest : List ℕ) → length_read (first ∷ []) ≡ length_read (first ∷ rest)
unfolding number bit
in_first first rest = refl

pub form_bytes-requires : goal.form_bytes-requires
form_bytes-requires c = omega (arith, c.field_at-n.ensures, small c.args.first)

pub returns : goal.returns
returns c =
    let first = c.args.first in (
      (λ rest. c.form_bytes.ensures ∙ ap form_size (c.field_at-n.ensures ∙ in_first first rest)),
      omega (arith, c.form_bytes.ensures, c.field_at-n.ensures, small first),
      omega (arith, c.form_bytes.ensures, c.field_at-n.ensures, small first),
    )
