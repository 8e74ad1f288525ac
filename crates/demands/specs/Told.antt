-- The verdicts that the records of a walk and the rows of a listing give, one after the other (document 02, CR 3).
use Rattle.std.specs.Prelude.{ℕ, ◌≤◌, ◌<◌, List, [], ◌∷◌, map}
use Rattle.meaning.specs.Node.{verdict_number}
use Rattle.trace_form.specs.Trace.{Entry, entry_call}
use Rattle.session_record.specs.declared.Session.{Session}
use Rattle.session_record.specs.Step.{stepped_of}
use Rattle.demands.specs.Texts.{Row}

-- A record, and the number of the verdict after it.
pub record RecordTold : Type 0 where
  pub entry : Entry
  pub verdict : ℕ

-- Up to the next gap no number is below n.
abbrev pub unless_gap : Entry → Type 0 → Type 0
unless_gap (Entry.input k t) A = A
unless_gap (Entry.output k t) A = A
unless_gap (Entry.gap k t) A = Unit {0}

unfoldable pub NotBelow : ℕ → List RecordTold → Type 0
NotBelow n [] = Unit {0}
NotBelow n (r ∷ rows) = unless_gap r.entry ((n ≤ r.verdict) × NotBelow n rows)

-- Within a run no verdict falls: where a number is not 3 (blind), none up to the next gap is below it. n stood before the first row.
unfoldable pub StayTold : ℕ → List RecordTold → Type 0
StayTold n [] = Unit {0}
StayTold n (r ∷ rows) = (n < 3 → NotBelow n (r ∷ rows)) × StayTold r.verdict rows

-- What the call of a record tells: the verdict answered to a line; behind a gap the session is blind.
abbrev pub told_by : Session → Entry → ℕ
told_by s (Entry.input k t) = (stepped_of s (entry_call (Entry.input k t))).answer.verdict
told_by s (Entry.output k t) = (stepped_of s (entry_call (Entry.output k t))).answer.verdict
told_by s (Entry.gap k t) = 3

-- The records that a walk takes, with what each would tell as a single call.
unfoldable pub walk_rows : Session → List Entry → List RecordTold
walk_rows s [] = []
walk_rows s (e ∷ entries) = record { entry = e; verdict = told_by s e } ∷ walk_rows (stepped_of s (entry_call e)).session entries

-- What the rows of a listing tell.
abbrev pub told_rows : List Row → List RecordTold
told_rows rows = map (λ (r : Row). record { entry = r.entry; verdict = verdict_number r.verdict }) rows
