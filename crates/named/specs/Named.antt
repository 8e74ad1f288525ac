-- Document 02, CR 2: "A second program .. prints the same listing with one more field behind the action number".
use Rattle.std.specs.Prelude.{ℕ, true, false, cond, List, []}
use Rattle.meaning.specs.Words.{Action, action_number}
use Rattle.meaning.specs.Calls.{Call}
use Rattle.record_form.specs.Record.{gap}
use Rattle.session_record.specs.declared.Session.{Session}
use Rattle.session_record.specs.Record.{count_of, out_of_range}
use Rattle.session_record.specs.Step.{standing}
use Rattle.walk.specs.Walk.{One, one_of}
use Rattle.printout.specs.Text.{end_text, stop_text}
use Rattle.printout.specs.Named.{named_line_text}
use Rattle.printed.specs.Printed.{one_after, kind_of, printed_of}
use Rattle.names.specs.Lookup.{name_of}
use Rattle.named.specs.declared.Named.{Named}

-- The name of each action by the two lists.
abbrev pub names_of : List ℕ → List ℕ → Action → List ℕ
names_of site release (Action.input k) = name_of site release false k
names_of site release (Action.output k) = name_of site release true k

-- The line of a record that was taken as a call; a gap shows its number of lost lines in place of an action, and has no name.
unfoldable pub named_call_text : (Action → List ℕ) → ℕ → Call → Session → List ℕ
named_call_text names number (Call.line l) after =
    named_line_text number (kind_of l.action) (action_number l.action) (names l.action) l.stamp (standing after) (count_of after)
named_call_text names number (Call.mark g) after = named_line_text number gap g.lost [] g.stamp (standing after) (count_of after)

-- By what a record does to the session: the last line has no name and is as it was.
unfoldable pub named_by_one : (Action → List ℕ) → ℕ → One → List ℕ
named_by_one names count One.ended = end_text count
named_by_one names count (One.refused n) = stop_text count n
named_by_one names count (One.took c after) = named_call_text names (one_after count) c after

-- What the record at the front of the bytes adds: all but its text is as in the listing without names.
unfoldable pub named_of : List ℕ → List ℕ → Session → ℕ → List ℕ → Named
named_of site release s count bytes =
    record {
      text = cond (out_of_range s) (stop_text count 10) (named_by_one (names_of site release) count (one_of s bytes));
      session = (printed_of s count bytes).session;
      count = (printed_of s count bytes).count;
      more = (printed_of s count bytes).more;
    }
