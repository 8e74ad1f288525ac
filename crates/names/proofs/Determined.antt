-- Each promise determines the whole answer: two results allowed by it are equal.
use Prim.Native.Nat.{ℕ}
use Rattle.std.specs.Prelude.{Result}
use mathlib.Core.Path.{◌≡◌, sym, ◌∙◌}
use mathlib.Core.Bool.{Bool}
use mathlib.Core.HLevel.{Unit-prop}
use mathlib.Core.List.{List}
use denote.Ref.{Bor}
use Rattle.outcomes.specs.declared.Refusal.{Refusal}
use Rattle.outcomes.specs.Numbers.{refusal_in}
use Rattle.outcomes.proofs.Same.{same_check}
use Rattle.names.specs.Lookup.{names_refusal, choice, Handed}

pub refused_determined : (site release : List ℕ) (action : ℕ) (r r' : Result Unit Refusal)
    → refusal_in r ≡ names_refusal site release action → refusal_in r' ≡ names_refusal site release action → r ≡ r'
refused_determined site release action r r' e e' = same_check Unit-prop r r' (e ∙ sym e')

-- The part: its place, and the bytes that stand there.
pub name_determined : (site release : Bor (List ℕ)) (output : Bool) (action : ℕ) (r r' : Bor (List ℕ))
    → Handed (choice site.now release.now output action) site release r → Handed (choice site.now release.now output action) site release r'
    → (r.ref_ptr ≡ r'.ref_ptr) × (r.now ≡ r'.now)
name_determined site release output action r r' h h' = (h.place ∙ sym h'.place, h.bytes ∙ sym h'.bytes)
