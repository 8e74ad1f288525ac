-- Document 01, "Numbers that come back": the number of each refusal and of each verdict.
use Rattle.std.specs.Prelude.{ℕ, Result, Ok, Err}
use Rattle.meaning.specs.Node
use Rattle.outcomes.specs.declared.Refusal.{Refusal}
use Rattle.outcomes.specs.declared.Refusal.TheVariants.{Length, Bounds, Number, StampTooLate, StampTooEarly, TooManyOpen, TooShort, Broken, NoRoom, OutOfRange}
use Rattle.outcomes.specs.declared.Refusal.TheVariants.{SiteList, ReleaseList, TooManyLines}
use Rattle.outcomes.specs.declared.Verdict.{Verdict}
use Rattle.outcomes.specs.declared.Verdict.TheVariants.{Clear, Suspect, Certain, Blind}

-- "1: sequence length 0 or above 32", "2: bounds outside 1 ≤ LB ≤ UB ≤ 60,000,000", "3: an action number above 63", "4: a stamp above
-- 2^40 − 1", "5: a stamp below the latest", "6: more than 64 inputs would be open", "7: fewer packed bytes than the form needs", "8: packed
-- form broken", "9: the buffer to write in is shorter than the form", "10: a session record with values out of range"; document 02: 11 and
-- 12, a list of names that is broken, 13, more than 256 lines in a run to be explained.
abbrev pub refusal_number : Refusal → ℕ
refusal_number Length = 1
refusal_number Bounds = 2
refusal_number Number = 3
refusal_number StampTooLate = 4
refusal_number StampTooEarly = 5
refusal_number TooManyOpen = 6
refusal_number TooShort = 7
refusal_number Broken = 8
refusal_number NoRoom = 9
refusal_number OutOfRange = 10
refusal_number SiteList = 11
refusal_number ReleaseList = 12
refusal_number TooManyLines = 13

-- "0: taken": the number of a result's refusal.
abbrev pub refusal_in : {A : Type 0} → Result A Refusal → ℕ
refusal_in (Ok x) = 0
refusal_in (Err refusal) = refusal_number refusal

-- The verdict of the meaning.
abbrev pub verdict_meant : Verdict → Node.Verdict
verdict_meant Clear = Node.Verdict.clear
verdict_meant Suspect = Node.Verdict.suspect
verdict_meant Certain = Node.Verdict.certain
verdict_meant Blind = Node.Verdict.blind

-- "0 clear, .. 1 suspect, .. 2 certain, .. 3 blind"
abbrev pub number_told : Verdict → ℕ
number_told v = Node.verdict_number (verdict_meant v)
