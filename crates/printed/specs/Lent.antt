-- A record on lent rows: what it adds to the listing.
use Rattle.std.specs.Prelude.{◌≡◌, ℕ, true, false, List}
use Rattle.meaning.specs.Words.{action_number}
use Rattle.meaning.specs.Calls.{Call}
use Rattle.record_form.specs.Record.{gap}
use Rattle.trace_form.specs.ReadAs.{ReadAs}
use Rattle.session_record.specs.declared.Session.{Session}
use Rattle.session_record.specs.Step.{Answer}
use Rattle.session_record.specs.Lent.{Memory, record_in, Ready}
use Rattle.one_record.specs.Doing.{Doing}
use Rattle.walk.specs.Walk.{one_read}
use Rattle.printout.specs.Text.{line_text, end_text, stop_text}
use Rattle.printed.specs.declared.Printed.{Printed}
use Rattle.printed.specs.declared.lent.Added.{Added}
use Rattle.printed.specs.Printed.{one_after, kind_of, by_one}

-- The listing goes on behind this line, with one record more.
abbrev pub next_added : ℕ → List ℕ → Added
next_added count text = record { text = text; count = one_after count; more = true }

-- The listing ends with this line.
abbrev pub last_added : ℕ → List ℕ → Added
last_added count text = record { text = text; count = count; more = false }

-- The line of a call that was taken, by its answer. After a gap no run is open.
abbrev pub answer_text : ℕ → Call → Answer → List ℕ
answer_text number (Call.line l) a = line_text number (kind_of l.action) (action_number l.action) l.stamp a.verdict a.open_count
answer_text number (Call.mark g) a = line_text number gap g.lost g.stamp 3 0

-- What a record adds, by what it did.
abbrev pub added_of : Doing → ℕ → Added
added_of (Doing.took c a) count = next_added count (answer_text (one_after count) c a)
added_of Doing.ended count = last_added count (end_text count)
added_of (Doing.refused n) count = last_added count (stop_text count n)

-- What was added, with the session after it.
abbrev pub in_session : Added → Session → Printed
in_session r after = record { text = r.text; session = after; count = r.count; more = r.more }

-- A record that stands for x adds this and leads to memory from which the next record can start.
pub record Adds (m : Memory) (count : ℕ) (x : ReadAs) (r : Added) (after : Memory) : Type 0 where
  pub listed : by_one (record_in m) count (one_read (record_in m) x) ≡ in_session r (record_in after)
  pub ready : Ready after
