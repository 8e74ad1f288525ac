-- Document 01, case 15: what the printing program adds to its listing for the property and for each record.
use Rattle.std.specs.Prelude.{ℕ, zero, suc, ◌+◌, ◌%◌, ◌^◌, true, false, cond, List, [], ◌==◌}
use Rattle.meaning.specs.Words.{Action, action_number}
use Rattle.meaning.specs.Calls.{Call}
use Rattle.property_form.specs.Read.{read}
use Rattle.record_form.specs.Record.{Reader, record_answer, input, output, gap}
use Rattle.trace_form.specs.ReadAs.{read_as}
use Rattle.session_record.specs.declared.Session.{Session}
use Rattle.session_record.specs.Record.{count_of, latest_of, out_of_range}
use Rattle.session_record.specs.Step.{fresh_of, standing}
use Rattle.walk.specs.Walk.{One, one_read}
use Rattle.printout.specs.Text.{line_text, end_text, stop_text}
use Rattle.printed.specs.declared.Printed.{Printed}

-- The number of records taken, one more than before. It is kept in 64 bits: 0 comes after 2 ^ 64 − 1.
unfoldable pub one_after : ℕ → ℕ
one_after count = (count + 1) % 2 ^ 64

-- "I, O or G": the kind of a line by its action.
abbrev pub kind_of : Action → ℕ
kind_of (Action.input k) = input
kind_of (Action.output k) = output

-- The line of a record that was taken as a call: "record number from 1; I, O or G; action; stamp; verdict after it; number
-- open", the last two on the session after it. Document 02, CR 7: "the printing program shows it in the action column", a gap's number.
unfoldable pub call_text : ℕ → Call → Session → List ℕ
call_text number (Call.line l) after =
    line_text number (kind_of l.action) (action_number l.action) l.stamp (standing after) (count_of after)
call_text number (Call.mark g) after = line_text number gap g.lost g.stamp (standing after) (count_of after)

-- The listing ends with this line; the session and the count are as they were.
abbrev pub last_line : Session → ℕ → List ℕ → Printed
last_line s count text = record { text = text; session = s; count = count; more = false }

-- By what a record does to the session: "The last line counts the records taken; after a refusal it is `stop`, the count and
-- the refusal number instead."
unfoldable pub by_one : Session → ℕ → One → Printed
by_one s count One.ended = last_line s count (end_text count)
by_one s count (One.refused n) = last_line s count (stop_text count n)
by_one s count (One.took c after) =
    record { text = call_text (one_after count) c after; session = after; count = one_after count; more = true }

-- What the record that a reader reads from the front of the bytes adds, after so many that were taken. As in a walk, refusal 10
-- comes first, and the stamp before is the session's latest.
unfoldable pub printed_by : Reader → Session → ℕ → List ℕ → Printed
printed_by reader s count bytes =
    cond (out_of_range s) (last_line s count (stop_text count 10)) (by_one s count (one_read s (read_as (reader bytes (latest_of s)))))

-- by document 01's record reader
abbrev pub printed_of : Session → ℕ → List ℕ → Printed
printed_of s count bytes = printed_by record_answer s count bytes

-- "A refused property prints the header and `stop 0` with its number"; one that is taken, the header alone.
abbrev pub opening_text : ℕ → List ℕ
opening_text zero = []
opening_text (suc n) = stop_text 0 (suc n)

-- What the property at the front of the bytes adds behind the header, and the fresh session of it.
unfoldable pub begun_of : List ℕ → Printed
begun_of bytes =
    record {
      text = opening_text (read bytes).refusal;
      session = (fresh_of (read bytes).property).session;
      count = 0;
      more = ((read bytes).refusal == 0);
    }
