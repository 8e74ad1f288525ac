-- `show_why::main` is safe: records are read behind a property that was taken.
use Rattle.std.specs.Prelude.{◌≡◌, Result, Ok, List, ℕ}
use mathlib.Core.Path.{refl, subst}
use Rattle.outcomes.specs.declared.Refusal.{Refusal}
use Rattle.meaning.specs.Numbers.{property_refusal}
use Rattle.property.specs.Meant.{meant}
use Rattle.property.specs.declared.Property.{Property}
use Rattle.property_form.specs.Read.{read_numbers, read}
use Rattle.property_form.proofs.Answers.{read_good}
use Rattle.show_why.proofs.main.Goals as goal

taken : (s : List ℕ) (r : Result Property Refusal) (p : Property) → r ≡ Ok p → read_numbers r ≡ read s → property_refusal (meant p) ≡ 0
taken s r p e h = read_good s (read_numbers (Ok p)) (subst (λ (x : Result Property Refusal). read_numbers x ≡ read s) e h) refl

pub records-requires : goal.records-requires
records-requires c = taken _ _ _ c.in-Ok.is c.read_property.ensures
