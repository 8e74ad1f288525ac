-- Each promise of a public call determines its answer and all that it was lent: two results allowed by it are equal.
use Prim.Native.Nat.{ℕ}
use mathlib.Core.Path.{◌≡◌, sym, ◌∙◌}
use mathlib.Core.Bool.{Bool}
use Rattle.meaning.specs.Calls.{Call, mark_at}
use Rattle.property.specs.declared.Property.{Property}
use Rattle.cuts.specs.Steps.{line_of}
use Rattle.session_record.specs.declared.Session.{Session}
use Rattle.session_record.specs.declared.Stepped.{Stepped}
use Rattle.session_record.specs.Step.{fresh_of, stepped_of, stepping_in}
use Rattle.session_record.proofs.Same.{same_stepped}

pub fresh_determined : (p : Property) (r r' : Stepped) → stepping_in r ≡ fresh_of p → stepping_in r' ≡ fresh_of p → r ≡ r'
fresh_determined p r r' e e' = same_stepped r r' (e ∙ sym e')

pub line_determined : (s : Session) (output : Bool) (action stamp : ℕ) (r r' : Stepped)
    → stepping_in r ≡ stepped_of s (Call.line (line_of output action stamp)) → stepping_in r' ≡ stepped_of s (Call.line (line_of output action stamp)) → r ≡ r'
line_determined s output action stamp r r' e e' = same_stepped r r' (e ∙ sym e')

pub mark_determined : (s : Session) (lost stamp : ℕ) (r r' : Stepped)
    → stepping_in r ≡ stepped_of s (mark_at lost stamp) → stepping_in r' ≡ stepped_of s (mark_at lost stamp) → r ≡ r'
mark_determined s lost stamp r r' e e' = same_stepped r r' (e ∙ sym e')
