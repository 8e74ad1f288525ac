-- Document 01, "Walk".
use Rattle.std.specs.Prelude.{ℕ, zero, suc, ◌+◌, Bool, false, cond, ◌||◌, List, drop, ltb, eqb}
use Rattle.meaning.specs.Calls.{Call}
use Rattle.fields.specs.Fields.{field}
use Rattle.record_form.specs.Record.{record_answer, record_size, gap}
use Rattle.trace_form.specs.ReadAs.{ReadAs, read_as}
use Rattle.session_record.specs.declared.Session.{Session}
use Rattle.session_record.specs.Record.{latest_of, out_of_range}
use Rattle.session_record.specs.Step.{stepped_of}
use Rattle.outcomes.specs.Numbers.{refusal_number}
use Rattle.walk.specs.declared.Stop.{Stop}
use Rattle.walk.specs.declared.Stop.TheVariants.{Budget, End, Refused}
use Rattle.walk.specs.declared.Walked.{Walked}

-- How a walk stops: the budget is used up, at an end record, or at a refusal with its number.
pub data Stopping : Type 0 where
  at_budget : Stopping
  at_end : Stopping
  at_refusal : ℕ → Stopping

abbrev pub stop_in : Stop → Stopping
stop_in Budget = Stopping.at_budget
stop_in End = Stopping.at_end
stop_in (Refused refusal) = Stopping.at_refusal (refusal_number refusal)

-- Document 01 numbers no way to stop; these are ours: 0 the budget is used up, 1 an end record, 2 a refusal.
abbrev pub stop_number : Stopping → ℕ
stop_number Stopping.at_budget = 0
stop_number Stopping.at_end = 1
stop_number (Stopping.at_refusal n) = 2

-- "the refusal if any"
abbrev pub stop_refusal : Stopping → ℕ
stop_refusal Stopping.at_budget = 0
stop_refusal Stopping.at_end = 0
stop_refusal (Stopping.at_refusal n) = n

-- What one record does to a session: it ends the trace, is refused, or is taken as a call, with the session after it.
pub data One : Type 0 where
  ended : One
  refused : ℕ → One
  took : Call → Session → One

-- A call is taken or refused.
unfoldable pub one_call : Session → Call → ℕ → One
one_call s c zero = One.took c (stepped_of s c).session
one_call s c (suc n) = One.refused (suc n)

abbrev pub try_call : Session → Call → One
try_call s c = one_call s c (stepped_of s c).answer.refusal

-- By what the record stands for.
unfoldable pub one_read : Session → ReadAs → One
one_read s (ReadAs.call c) = try_call s c
one_read s ReadAs.end = One.ended
one_read s (ReadAs.refused n) = One.refused n

-- The record at the front of the bytes: "A walk adds each field to the session's latest stamp".
abbrev pub one_of : Session → List ℕ → One
one_of s bytes = one_read s (read_as (record_answer bytes (latest_of s)))

-- What a walk comes to: the number of records taken, how it stopped, the number of bytes read, the session.
pub record Walk : Type 0 where
  pub taken : ℕ
  pub stop : Stopping
  pub read : ℕ
  pub session : Session

abbrev pub stopped : Session → Stopping → ℕ → Walk
stopped s stop read = record { taken = 0; stop = stop; read = read; session = s }

-- One record more at the front of a walk.
abbrev pub one_more : Walk → Walk
one_more w = record { taken = suc w.taken; stop = w.stop; read = record_size + w.read; session = w.session }

-- What a record leads to; `more` is the walk over the bytes behind it. What is refused leaves the session as it was.
unfoldable pub walked_by : One → Session → (Session → Walk) → Walk
walked_by One.ended s more = stopped s Stopping.at_end record_size
walked_by (One.refused n) s more = stopped s (Stopping.at_refusal n) 0
walked_by (One.took c after) s more = one_more (more after)

-- "the walk stops when the given number of records has been taken, or at an end record, or at a refusal, whichever is first.
-- With budget 0 left nothing more is read."
unfoldable pub walk_on : ℕ → Session → List ℕ → Walk
walk_on zero s bytes = stopped s Stopping.at_budget 0
walk_on (suc budget) s bytes = walked_by (one_of s bytes) s (λ after. walk_on budget after (drop record_size bytes))

-- "a budget of 0 to 4,096 records (more counts as 4,096)"
abbrev pub budget_of : ℕ → ℕ
budget_of budget = cond (ltb 4_096 budget) 4_096 budget

-- Document 02, CR 7: "the last taken gap's" number of lost lines, which is its action field: of the first `taken` records, and `before`
-- where no gap is among them.
abbrev pub is_gap : List ℕ → Bool
is_gap bytes = eqb (field bytes 0 2) gap

abbrev pub lost_with : ℕ → List ℕ → ℕ
lost_with before bytes = cond (is_gap bytes) (field bytes 2 6) before

unfoldable pub last_lost : (before taken : ℕ) → List ℕ → ℕ
last_lost before zero bytes = before
last_lost before (suc taken) bytes = last_lost (lost_with before bytes) taken (drop record_size bytes)

-- One of the first `taken` records is a gap.
unfoldable pub some_gap : (taken : ℕ) → List ℕ → Bool
some_gap zero bytes = false
some_gap (suc taken) bytes = is_gap bytes || some_gap taken (drop record_size bytes)

-- "The answer has the number taken .., how it stopped, the refusal if any, and the rest", in numbers, with the session: the
-- rest is given by the number of bytes read. CR 7: "the walk's answer has the last taken gap's", of lost lines.
pub record Walking : Type 0 where
  pub taken : ℕ
  pub stop : ℕ
  pub refusal : ℕ
  pub read : ℕ
  pub lost : ℕ
  pub session : Session

abbrev pub in_numbers : Walked → Walking
in_numbers w =
    record {
      taken = w.taken;
      stop = stop_number (stop_in w.stop);
      refusal = stop_refusal (stop_in w.stop);
      read = w.read;
      lost = w.lost;
      session = w.session;
    }

-- What a walk over these bytes answers: "0 if none, kept after a refusal".
abbrev pub walk_answer : List ℕ → Walk → Walking
walk_answer bytes w =
    record {
      taken = w.taken;
      stop = stop_number w.stop;
      refusal = stop_refusal w.stop;
      read = w.read;
      lost = last_lost 0 w.taken bytes;
      session = w.session;
    }

-- A record that refusal 10 names is refused, whatever the budget.
unfoldable pub walk_of : Session → List ℕ → ℕ → Walking
walk_of s bytes budget = walk_answer bytes (cond (out_of_range s) (stopped s (Stopping.at_refusal 10) 0) (walk_on (budget_of budget) s bytes))

-- "the rest, which starts at the record that was not taken, or behind the end": behind the bytes that the walk read. More than
-- there are, which no walk of these bytes reads, leaves the whole slice.
abbrev pub rest_start : ℕ → ℕ → ℕ
rest_start size read = cond (ltb size read) 0 read
