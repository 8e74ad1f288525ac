-- What a record does to a session.
use Rattle.std.specs.Prelude.{ℕ, zero, suc, Result, Ok, Err}
use Rattle.outcomes.specs.declared.Refusal.{Refusal}
use Rattle.outcomes.specs.Numbers.{refusal_number}
use Rattle.meaning.specs.Calls.{Call, mark_at}
use Rattle.trace_form.specs.ReadAs.{ReadAs}
use Rattle.cuts.specs.Steps.{line_of}
use Rattle.session_record.specs.declared.Session.{Session}
use Rattle.session_record.specs.Step.{Answer, answer_in, stepped_of}
use Rattle.one_record.specs.declared.Did.{Did}
use Rattle.one_record.specs.declared.Did.TheVariants.{Line, Gap, Ended}

-- It is taken as a call, with this answer, ends the trace, or is refused.
pub data Doing : Type 0 where
  took : Call → Answer → Doing
  ended : Doing
  refused : ℕ → Doing

abbrev pub doing_in : Result Did Refusal → Doing
doing_in (Ok (Line line told)) = Doing.took (Call.line (line_of line.output line.action line.stamp)) (answer_in (Ok told))
doing_in (Ok (Gap lost stamp told)) = Doing.took (mark_at lost stamp) (answer_in (Ok told))
doing_in (Ok Ended) = Doing.ended
doing_in (Err refusal) = Doing.refused (refusal_number refusal)

-- A call is taken or refused, as it is answered.
unfoldable pub by_answer : Call → ℕ → Answer → Doing
by_answer c zero a = Doing.took c a
by_answer c (suc n) a = Doing.refused (suc n)

-- By what the record stands for: a call is a step.
abbrev pub doing_of : Session → ReadAs → Doing
doing_of s (ReadAs.call c) = by_answer c (stepped_of s c).answer.refusal (stepped_of s c).answer
doing_of s ReadAs.end = Doing.ended
doing_of s (ReadAs.refused n) = Doing.refused n

-- What is no call leaves the session as it was.
abbrev pub session_after : Session → ReadAs → Session
session_after s (ReadAs.call c) = (stepped_of s c).session
session_after s ReadAs.end = s
session_after s (ReadAs.refused n) = s
