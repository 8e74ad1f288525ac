-- One step of the session record is the meaning's step over cuts, read through the map.
use Rattle.std.specs.Prelude.{ℕ, List, [], ◌∷◌, Result, Ok, Err}
use Rattle.meaning.specs.Numbers.{given, first_of, property_refusal}
use Rattle.meaning.specs.Node.{Verdict, verdict_number}
use Rattle.meaning.specs.Calls.{Call, fresh_clock, unless_refused}
use Rattle.meaning.specs.Calls
use Rattle.property.specs.Meant.{meant}
use Rattle.property.specs.Zeros.{zeros}
use Rattle.property.specs.declared.Property.{Property}
use Rattle.cuts.specs.Steps.{front_none, fresh_by, verdict_by, refusal_by, taken_by, told_by, says}
use Rattle.session_record.specs.declared.Session.{Session}
use Rattle.outcomes.specs.declared.Refusal.{Refusal}
use Rattle.outcomes.specs.Numbers.{refusal_number, number_told}
use Rattle.session_record.specs.declared.Told.{Told}
use Rattle.session_record.specs.declared.Stepped.{Stepped}
use Rattle.session_record.specs.Record.{cuts_of, record_of, out_of_range}

-- "Refusal number, verdict and number open"
pub record Answer : Type 0 where
  pub refusal : ℕ
  pub verdict : ℕ
  pub open_count : ℕ

-- What a call gives back, in numbers, with the session.
pub record Stepping : Type 0 where
  pub answer : Answer
  pub session : Session

-- "When an answer is an enum, a definition gives this paper's number and values for each of its cases"; "a refusal carries 0 in all other
-- numbers".
abbrev pub answer_in : Result Told Refusal → Answer
answer_in (Ok told) = record { refusal = 0; verdict = number_told told.verdict; open_count = told.open_count }
answer_in (Err refusal) = record { refusal = refusal_number refusal; verdict = 0; open_count = 0 }

abbrev pub stepping_in : Stepped → Stepping
stepping_in r = record { answer = answer_in r.answer; session = r.session }

-- Document 01's numbers for an answer of the meaning.
abbrev pub answer_of : Calls.Answer → Answer
answer_of a = record { refusal = a.refusal; verdict = a.verdict; open_count = a.open_count }

-- "Order where several hold": 10, then those of the step.
unfoldable pub refusal_of : Session → Call → ℕ
refusal_of s c = first_of (given 10 (out_of_range s)) (refusal_by s.property (cuts_of s) c)

-- What a call gives back: taken, the step's answer and the record of the session after it; refused, the number alone, "and a
-- session given comes back as it was".
unfoldable pub stepped_of : Session → Call → Stepping
stepped_of s c =
    unless_refused (refusal_of s c)
    (record { answer = answer_of (told_by s.property (cuts_of s) c); session = record_of s.property (taken_by s.property (cuts_of s) c) })
    (record { answer = answer_of (Calls.refused (refusal_of s c)); session = s })

-- A session of zeros.
abbrev pub no_session : Session
no_session = record_of zeros (record { clock = fresh_clock; front = front_none zeros })

-- What a fresh call gives back: taken, "an empty run, verdict 0 and latest stamp 0", the property as it was given; refused, the
-- number of the property's refusal and a session of zeros.
unfoldable pub fresh_of : Property → Stepping
fresh_of p =
    unless_refused (property_refusal (meant p))
    (record { answer = answer_of (says p Verdict.clear 0); session = record_of p (fresh_by p) })
    (record { answer = answer_of (Calls.refused (property_refusal (meant p))); session = no_session })

-- The session after calls.
unfoldable pub stepped_through : Session → List Call → Session
stepped_through s [] = s
stepped_through s (c ∷ rest) = stepped_through (stepped_of s c).session rest

-- "the verdict standing" on a session, as its number
unfoldable pub standing : Session → ℕ
standing s = verdict_number (verdict_by s.property (cuts_of s))
