-- A trace, record by record.
use Rattle.std.specs.Prelude.{ℕ, zero, suc, ◌≡◌, ◌⊎◌, List, [], ◌∷◌, ◌++◌, map, length, take, drop, ltb}
use Rattle.meaning.specs.Words.{Property, Action}
use Rattle.meaning.specs.Numbers.{given, first_of}
use Rattle.meaning.specs.Calls.{Call, Watch, refusal, taken}
use Rattle.record_form.specs.Record.{Reader, record_answer, written}
use Rattle.record_form.specs.Record
use Rattle.trace_form.specs.ReadAs.{ReadAs, read_as}
use Rattle.trace_form.specs.Trace.{Entry, kind_of, action_of, stamp_of, entry_call}
use Rattle.session_record.specs.declared.Session.{Session}
use Rattle.session_record.specs.Record.{latest_of}
use Rattle.session_record.specs.Step.{stepped_of}

-- The record of a call: a line is an input or an output with its stamp, a gap mark has its number of lost lines and its stamp.
abbrev pub action_entry : Action → ℕ → Entry
action_entry (Action.input k) stamp = Entry.input k stamp
action_entry (Action.output k) stamp = Entry.output k stamp

abbrev pub entry_of : Call → Entry
entry_of (Call.line l) = action_entry l.action l.stamp
entry_of (Call.mark m) = Entry.gap m.lost m.stamp

-- The calls of a trace's records, in order.
abbrev pub calls_of : List Entry → List Call
calls_of entries = map entry_call entries

-- The bytes begin with these records, as a reader of records of this size reads them, given the stamp before the first.
abbrev pub BeginsBy : ℕ → Reader → List ℕ → ℕ → List Entry → Type 0
BeginsBy size reader s before [] = Unit {0}
BeginsBy size reader s before (e ∷ entries) =
    (reader s before ≡ Record.taken (kind_of e) (action_of e) (stamp_of e)) × BeginsBy size reader (drop size s) (stamp_of e) entries

-- "Record, 6 bytes"
abbrev pub BeginsWith : List ℕ → ℕ → List Entry → Type 0
BeginsWith s before entries = BeginsBy 6 record_answer s before entries

-- What stands behind so many records of this size.
abbrev pub behind_by : ℕ → List Entry → List ℕ → List ℕ
behind_by size [] s = s
behind_by size (e ∷ entries) s = behind_by size entries (drop size s)

abbrev pub behind : List Entry → List ℕ → List ℕ
behind entries s = behind_by 6 entries s

-- Each of these calls is taken, one after the other.
abbrev pub TakenOneByOne : Session → List Call → Type 0
TakenOneByOne s [] = Unit {0}
TakenOneByOne s (c ∷ calls) = ((stepped_of s c).answer.refusal ≡ 0) × TakenOneByOne (stepped_of s c).session calls

-- The record at the front is refused with this number: by the reader, or as a call on the session.
abbrev pub RefusedBy : Reader → Session → List ℕ → ℕ → Type 0
RefusedBy reader s bytes n =
    ((reader bytes (latest_of s)).refusal ≡ n)
    ⊎ ((e : Entry) × (reader bytes (latest_of s) ≡ Record.taken (kind_of e) (action_of e) (stamp_of e)) × ((stepped_of s (entry_call e)).answer.refusal ≡ n))

-- How a walk stops that has this session and these bytes left, by the number of the way to stop: "when the given number of
-- records has been taken", none of the budget is left; "at an end record", which is read; "at a refusal", with its number. "With
-- budget 0 left nothing more is read": at the last two some of it is left. `more` is the number of bytes read behind those of the
-- records taken.
abbrev pub StopsBy : ℕ → (left : ℕ) → Session → List ℕ → (number more : ℕ) → Type 0
StopsBy zero left s bytes number more = (left ≡ 0) × (number ≡ 0) × (more ≡ 0)
StopsBy (suc zero) left s bytes number more =
    (left ≡ 0 → ⊥) × (record_answer bytes (latest_of s) ≡ Record.taken Record.end 0 (latest_of s)) × (number ≡ 0) × (more ≡ 6)
StopsBy (suc (suc other)) left s bytes number more = (left ≡ 0 → ⊥) × RefusedBy record_answer s bytes number × (number ≡ 0 → ⊥) × (more ≡ 0)

-- "the first refusal met gives its number alone": of the record at the front, by what it stands for and by what the calls before
-- it have come to; "Bytes behind .. the end record are refusal 8"; `on` is the first refusal met in the bytes behind it.
abbrev pub met : Property → Watch → List ℕ → ReadAs → (Watch → ℕ) → ℕ
met p w bytes (ReadAs.refused n) on = n
met p w bytes ReadAs.end on = given 8 (ltb 6 (length bytes))
met p w bytes (ReadAs.call c) on = first_of (refusal p w c) (on (taken p w c))

-- The first refusal met in a trace of at most so many records, 0 for none; "a stretch that stops without an end record" is 7.
unfoldable pub first_met : ℕ → Property → Watch → List ℕ → ℕ
first_met zero p w bytes = 7
first_met (suc more) p w bytes =
    met p w bytes (read_as (record_answer bytes w.clock.latest)) (λ after. first_met more p after (drop 6 bytes))

-- Records written one behind the other with the promised writer, and then the end record.
unfoldable pub written_through : ℕ → List Entry → List ℕ → List ℕ
written_through before [] buffer = written Record.end 0 before before buffer
written_through before (e ∷ entries) buffer =
    take 6 (written (kind_of e) (action_of e) (stamp_of e) before buffer) ++ written_through (stamp_of e) entries (drop 6 buffer)
