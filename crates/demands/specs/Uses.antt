-- Calls of any kind on one session, one after the other.
use Rattle.std.specs.Prelude.{ℕ, List, [], ◌∷◌}
use Rattle.meaning.specs.Calls.{Call}
use Rattle.session_record.specs.declared.Session.{Session}
use Rattle.session_record.specs.Step.{stepped_of}
use Rattle.walk.specs.Walk.{walk_of}

-- A line or a gap mark, or a walk over some bytes with a budget.
pub data Use : Type 0 where
  call : Call → Use
  walk : (bytes : List ℕ) (budget : ℕ) → Use

-- The session after it, and after several.
abbrev pub session_after : Session → Use → Session
session_after s (Use.call c) = (stepped_of s c).session
session_after s (Use.walk bytes budget) = (walk_of s bytes budget).session

unfoldable pub session_through : Session → List Use → Session
session_through s [] = s
session_through s (u ∷ uses) = session_through (session_after s u) uses
