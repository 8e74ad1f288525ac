-- What a record stands for on a session, by its kind: "0 input, 1 output, 2 gap, 3 end".
use Rattle.std.specs.Prelude.{ℕ}
use Rattle.meaning.specs.Calls.{Call}
use Rattle.record_form.specs.Record.{RecordAnswer, RecordRead, case_of}
use Rattle.trace_form.specs.Trace.{Entry, entry_call}

-- A call, the end of the trace, or the number of a refusal.
pub data ReadAs : Type 0 where
  call : Call → ReadAs
  end : ReadAs
  refused : ℕ → ReadAs

-- By the case of the enum.
abbrev pub case_as : RecordRead → ReadAs
case_as (RecordRead.input_read action stamp) = ReadAs.call (entry_call (Entry.input action stamp))
case_as (RecordRead.output_read action stamp) = ReadAs.call (entry_call (Entry.output action stamp))
case_as (RecordRead.gap_read lost stamp) = ReadAs.call (entry_call (Entry.gap lost stamp))
case_as (RecordRead.end_read stamp) = ReadAs.end
case_as (RecordRead.refused_read number) = ReadAs.refused number

-- By the reader's answer in document 01's numbers.
unfoldable pub read_as : RecordAnswer → ReadAs
read_as answer = case_as (case_of answer)
