-- Which records stand behind the property: document 01's, or the tap card's (document 02, CR 4).
use Rattle.std.specs.Prelude.{ℕ, ◌≤◌, ◌≡◌, List, length}
use Rattle.record_form.specs.Record.{Reader, record_size, record_answer}
use Rattle.tap_form.specs.Tap.{tap_size, tap_answer}
use Rattle.session_record.specs.Lent.{Memory, record_in, Ready}
use Rattle.printed.specs.declared.lent.Added.{Added}
use Rattle.printed.specs.Lent.{in_session}
use Rattle.printed.specs.Printed.{printed_by}
use Rattle.listing_shell.specs.declared.Form.{Form}
use Rattle.listing_shell.specs.declared.Form.TheVariants.{Record, Tap}

-- The number of bytes of a record, and what reads one.
abbrev pub size_of : Form → ℕ
size_of Record = record_size
size_of Tap = tap_size

abbrev pub reader_of : Form → Reader
reader_of Record = record_answer
reader_of Tap = tap_answer

-- What the next record adds, after so many that were taken: what the record that the form's reader reads from the bytes that came, no more
-- than a record has, adds to the listing; and the next one can start.
pub record Lists (form : Form) (m : Memory) (count : ℕ) (r : Added) (after : Memory) : Type 0 where
  pub bytes : List ℕ
  pub few : length bytes ≤ size_of form
  pub adds : printed_by (reader_of form) (record_in m) count bytes ≡ in_session r (record_in after)
  pub ready : Ready after
