-- Each promise determines the whole answer: two results allowed by it are equal.
use Prim.Native.Nat.{ℕ, ◌<◌}
use mathlib.Core.Path.{◌≡◌, sym, ◌∙◌}
use mathlib.Core.Bool.{Bool, cond}
use mathlib.Core.HLevel.{Unit-prop}
use mathlib.Core.List.{List, [], ◌∷◌}
use Rattle.std.specs.Prelude.{Result}
use Rattle.outcomes.specs.declared.Refusal.{Refusal}
use Rattle.outcomes.specs.Numbers.{refusal_in}
use Rattle.outcomes.proofs.Same.{same_check}
use Rattle.name_list.specs.Read.{list_size, list_refusal}

pub size_determined : (first second r r' : ℕ) → (r ≡ list_size (first ∷ second ∷ [])) × (r < 65536) → (r' ≡ list_size (first ∷ second ∷ [])) × (r' < 65536) → r ≡ r'
size_determined first second r r' e e' = e.0 ∙ sym e'.0

pub refused_determined : (of_release : Bool) (head list : List ℕ) (r r' : Result Unit Refusal)
    → refusal_in r ≡ list_refusal (cond of_release 12 11) head list → refusal_in r' ≡ list_refusal (cond of_release 12 11) head list → r ≡ r'
refused_determined of_release head list r r' e e' = same_check Unit-prop r r' (e ∙ sym e')
