-- The promise of `refused` determines its answer: two results allowed by it are equal.
use Rattle.std.specs.Prelude.{◌≡◌, Result}
use Rattle.std.proofs.Common.{sym, ◌∙◌}
use mathlib.Core.HLevel.{Unit-prop}
use Rattle.meaning.specs.Numbers.{property_refusal}
use Rattle.outcomes.specs.declared.Refusal.{Refusal}
use Rattle.outcomes.specs.Numbers.{refusal_in}
use Rattle.outcomes.proofs.Same.{same_check}
use Rattle.property.specs.declared.Property.{Property}
use Rattle.property.specs.Meant.{meant}

pub refused_determined : (p : Property) (r r' : Result Unit Refusal)
    → refusal_in r ≡ property_refusal (meant p) → refusal_in r' ≡ property_refusal (meant p) → r ≡ r'
refused_determined p r r' e e' = same_check Unit-prop r r' (e ∙ sym e')
