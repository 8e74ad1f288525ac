-- Document 02, CR 7: "Say how many lines were lost."
use Rattle.std.specs.Prelude.{ℕ, ◌≤◌}
use mathlib.Core.List.{List, [], ◌∷◌, Forall₂}
use Rattle.meaning.specs.Words.{Line}
use Rattle.meaning.specs.Calls.{Call, mark_at}
use Rattle.trace_form.specs.Trace.{Entry, entry_call}

-- The last gap's number of lost lines after a record and after several; `before` where none of them is a gap.
abbrev pub lost_by : (before : ℕ) → Entry → ℕ
lost_by before (Entry.input k t) = before
lost_by before (Entry.output k t) = before
lost_by before (Entry.gap k t) = k

unfoldable pub last_gap : (before : ℕ) → List Entry → ℕ
last_gap before [] = before
last_gap before (e ∷ entries) = last_gap (lost_by before e) entries

-- "Verdicts do not depend on it": two calls that differ at most in the number of a gap mark, and both numbers can be said.
pub data SameCall : Call → Call → Type 0 where
  line : (l : Line) → SameCall (Call.line l) (Call.line l)
  mark : (lost other stamp : ℕ) → lost ≤ 63 → other ≤ 63 → SameCall (mark_at lost stamp) (mark_at other stamp)

-- Two histories that differ in these numbers alone, call by call; and as the records of a trace, by the calls that they stand for.
abbrev pub SameCalls : List Call → List Call → Type 0
SameCalls calls others = Forall₂ SameCall calls others

abbrev pub SameEntries : List Entry → List Entry → Type 0
SameEntries entries others = Forall₂ (λ (e f : Entry). SameCall (entry_call e) (entry_call f)) entries others
