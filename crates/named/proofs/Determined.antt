-- Each promise determines the whole answer: two results allowed by it are equal.
use Prim.Native.Nat.{ℕ}
use mathlib.Core.Path.{◌≡◌, sym, ◌∙◌}
use mathlib.Core.List.{List}
use Rattle.session_record.specs.declared.Session.{Session}
use Rattle.named.specs.declared.Named.{Named}
use Rattle.named.specs.Named.{named_of}

pub record_determined : (site release : List ℕ) (s : Session) (count : ℕ) (bytes : List ℕ) (r r' : Named)
    → r ≡ named_of site release s count bytes → r' ≡ named_of site release s count bytes → r ≡ r'
record_determined site release s count bytes r r' e e' = e ∙ sym e'
