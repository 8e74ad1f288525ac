-- What the private functions promise: no public promise names it.
use Rattle.std.specs.Prelude.{ℕ, ◌≡◌, true, false, List, []}
use Rattle.meaning.specs.Calls.{Call}
use Rattle.record_form.specs.Record.{input, output, gap, record_answer}
use Rattle.trace_form.specs.ReadAs.{ReadAs, read_as}
use Rattle.record_form.specs.declared.Record.{Record}
use Rattle.record_form.specs.declared.Record.TheVariants.{Input, Output, Gap, End}
use Rattle.session_record.specs.declared.Session.{Session}
use Rattle.names.specs.Lookup.{name_of}
use Rattle.printed.specs.Printed.{call_text}

-- What a line shows of a record: its kind, its action, of a gap its number of lost lines, and the name.
unfoldable pub kind_as : Record → ℕ
kind_as (Input action stamp) = input
kind_as (Output action stamp) = output
kind_as (Gap lost stamp) = gap
kind_as (End stamp) = gap

unfoldable pub action_as : Record → ℕ
action_as (Input action stamp) = action
action_as (Output action stamp) = action
action_as (Gap lost stamp) = lost
action_as (End stamp) = 0

unfoldable pub name_as : List ℕ → List ℕ → Record → List ℕ
name_as site release (Input action stamp) = name_of site release false action
name_as site release (Output action stamp) = name_of site release true action
name_as site release (Gap lost stamp) = []
name_as site release (End stamp) = []

-- The text is the line of the call that the record at the front of the bytes is.
pub record IsLine (bytes : List ℕ) (before number : ℕ) (line : List ℕ) : Type 0 where
  pub call : Call
  pub after : Session
  pub reads : read_as (record_answer bytes before) ≡ ReadAs.call call
  pub text : line ≡ call_text number call after
