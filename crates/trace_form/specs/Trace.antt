-- Traces: records one after the other, each "less the stamp before it (the first: less 0)", up to the end record.
use Rattle.std.specs.Prelude.{ℕ, ◌-◌, List, [], ◌∷◌, ◌++◌, ◌≡◌, drop}
use Rattle.meaning.specs.Words.{Action}
use Rattle.meaning.specs.Calls.{Call, mark_at}
use Rattle.record_form.specs.Record
use Rattle.record_form.specs.Record.{Reader, taken, record_size, record_answer, write_refusal, record_form}

-- What a trace has before its end record: a line, which is an input or an output with its stamp, or a gap mark with the number of lost lines.
pub data Entry : Type 0 where
  input : (action stamp : ℕ) → Entry
  output : (action stamp : ℕ) → Entry
  gap : (lost stamp : ℕ) → Entry

abbrev pub kind_of : Entry → ℕ
kind_of (Entry.input action stamp) = Record.input
kind_of (Entry.output action stamp) = Record.output
kind_of (Entry.gap lost stamp) = Record.gap

-- "The 6-bit action field of a gap record becomes that number"
abbrev pub action_of : Entry → ℕ
action_of (Entry.input action stamp) = action
action_of (Entry.output action stamp) = action
action_of (Entry.gap lost stamp) = lost

abbrev pub stamp_of : Entry → ℕ
stamp_of (Entry.input action stamp) = stamp
stamp_of (Entry.output action stamp) = stamp
stamp_of (Entry.gap lost stamp) = stamp

-- The call on a session that an entry stands for.
abbrev pub entry_call : Entry → Call
entry_call (Entry.input action stamp) = Call.line (record { action = Action.input action; stamp = stamp })
entry_call (Entry.output action stamp) = Call.line (record { action = Action.output action; stamp = stamp })
entry_call (Entry.gap lost stamp) = mark_at lost stamp

-- The trace that is written from a stamp before: each record's form, and then the end record's, whose "stamp is the one before".
unfoldable pub trace_form : ℕ → List Entry → List ℕ
trace_form before [] = record_form Record.end 0 0
trace_form before (e ∷ trace) = record_form (kind_of e) (action_of e) (stamp_of e - before) ++ trace_form (stamp_of e) trace

-- The writer refuses no record of the trace, given room for each.
abbrev pub CanBeWritten : ℕ → List Entry → Type 0
CanBeWritten before [] = write_refusal Record.end 0 before before record_size ≡ 0
CanBeWritten before (e ∷ trace) =
    (write_refusal (kind_of e) (action_of e) (stamp_of e) before record_size ≡ 0) × CanBeWritten (stamp_of e) trace

-- The bytes s are taken as the trace by a reader of records of this size: read record by record up to the end record, with no
-- byte behind it.
abbrev pub TakenBy : ℕ → Reader → List ℕ → ℕ → List Entry → Type 0
TakenBy size reader s before [] = (reader s before ≡ taken Record.end 0 before) × (drop size s ≡ [])
TakenBy size reader s before (e ∷ trace) =
    (reader s before ≡ taken (kind_of e) (action_of e) (stamp_of e)) × TakenBy size reader (drop size s) (stamp_of e) trace

abbrev pub TakenAs : List ℕ → ℕ → List Entry → Type 0
TakenAs s before trace = TakenBy record_size record_answer s before trace
