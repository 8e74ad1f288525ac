-- Document 01, "Packed forms": the record, its reader and its writer.
use Rattle.std.specs.Prelude.{ℕ, zero, suc, ◌+◌, ◌-◌, Bool, not, ◌&&◌, ◌||◌, List, ◌++◌, ◌≡◌, length, drop, ltb, eqb, Result, Ok, Err}
pub use Rattle.laws.specs.Bytes.{Bytes}
use Rattle.meaning.specs.Limits.{last_action, last_stamp}
use Rattle.meaning.specs.Numbers.{given, first_of}
use Rattle.meaning.specs.Calls.{unless_refused}
use Rattle.fields.specs.Fields.{field, bits, form}
use Rattle.outcomes.specs.declared.Refusal.{Refusal}
use Rattle.outcomes.specs.Numbers.{refusal_number}
use Rattle.record_form.specs.declared.Record.{Record}
use Rattle.record_form.specs.declared.Record.TheVariants.{Input, Output, Gap, End}

-- "Record, 6 bytes"
abbrev pub record_size : ℕ
record_size = 6

-- "four records (0 input, 1 output, 2 gap, 3 end)"
abbrev pub input : ℕ
input = 0

abbrev pub output : ℕ
output = 1

abbrev pub gap : ℕ
gap = 2

abbrev pub end : ℕ
end = 3

-- "Numbers that come back": the refusal, 0 for none, and the record's values; a gap's action is its number of lost lines.
pub record RecordAnswer : Type 0 where
  pub refusal : ℕ
  pub kind : ℕ
  pub action : ℕ
  pub stamp : ℕ

-- "0: taken"
abbrev pub taken : ℕ → ℕ → ℕ → RecordAnswer
taken kind action stamp = record { refusal = 0; kind = kind; action = action; stamp = stamp }

-- "A refusal carries 0 in all other numbers"
abbrev pub refused : ℕ → RecordAnswer
refused number = record { refusal = number; kind = 0; action = 0; stamp = 0 }

-- The answer with this refusal, or where there is none (0) the one given.
unfoldable pub answered : ℕ → RecordAnswer → RecordAnswer
answered number answer = unless_refused number answer (refused number)

-- What was read: one of four records, or the number of a refusal.
pub data RecordRead : Type 0 where
  input_read : ℕ → ℕ → RecordRead
  output_read : ℕ → ℕ → RecordRead
  gap_read : ℕ → ℕ → RecordRead
  end_read : ℕ → RecordRead
  refused_read : ℕ → RecordRead

-- "When an answer is an enum, a definition gives this paper's number and values for each of its cases."
abbrev pub read_case : Result Record Refusal → RecordRead
read_case (Ok (Input action stamp)) = RecordRead.input_read action stamp
read_case (Ok (Output action stamp)) = RecordRead.output_read action stamp
read_case (Ok (Gap lost stamp)) = RecordRead.gap_read lost stamp
read_case (Ok (End stamp)) = RecordRead.end_read stamp
read_case (Err refusal) = RecordRead.refused_read (refusal_number refusal)

abbrev pub numbers : RecordRead → RecordAnswer
numbers (RecordRead.input_read action stamp) = taken input action stamp
numbers (RecordRead.output_read action stamp) = taken output action stamp
numbers (RecordRead.gap_read lost stamp) = taken gap lost stamp
numbers (RecordRead.end_read stamp) = taken end 0 stamp
numbers (RecordRead.refused_read number) = refused number

-- The case of the enum for a refusal, a kind, an action and a stamp: "two bits of kind decide among four records"
unfoldable pub case_by : ℕ → ℕ → ℕ → ℕ → RecordRead
case_by zero zero action stamp = RecordRead.input_read action stamp
case_by zero (suc zero) action stamp = RecordRead.output_read action stamp
case_by zero (suc (suc zero)) action stamp = RecordRead.gap_read action stamp
case_by zero (suc (suc (suc more))) action stamp = RecordRead.end_read stamp
case_by (suc number) kind action stamp = RecordRead.refused_read (suc number)

-- The case of the enum for an answer.
abbrev pub case_of : RecordAnswer → RecordRead
case_of answer = case_by answer.refusal answer.kind answer.action answer.stamp

-- "Broken is: .. an end with action or stamp field not 0 .., a kind to be written above 3." Document 02, CR 7: "The 6-bit action field of
-- a gap record becomes that number", of the lines that were lost, and the "refusal of a gap whose action is not 0 falls away".
unfoldable pub broken : ℕ → ℕ → Bool → Bool
broken kind action stamp-field-not-0 = eqb kind end && (not (eqb action 0) || stamp-field-not-0) || ltb end kind

-- "4: a stamp above 2^40 − 1"; "a stamp before past the limit is itself refusal 4"
unfoldable pub stamp_above : ℕ → ℕ → Bool
stamp_above stamp before = ltb last_stamp stamp || ltb last_stamp before

-- "Order where several hold": 8 and 4 of a record whose fields are these, the third "less the stamp before it".
unfoldable pub fields_refusal : ℕ → ℕ → ℕ → ℕ → ℕ
fields_refusal kind action less before =
    first_of (given 8 (broken kind action (not (eqb less 0)))) (given 4 (stamp_above (before + less) before))

-- 7, 8 and 4 of bytes to be read: "two bits of kind ..; 6 bits action; 40 bits of stamp"
unfoldable pub read_refusal : List ℕ → ℕ → ℕ
read_refusal s before =
    first_of (given 7 (ltb (length s) record_size))
    (fields_refusal (field s 0 2) (field s 2 6) (field s 8 40) before)

-- What reads one record from the front of bytes, "given the stamp before".
abbrev pub Reader : Type 0
Reader = List ℕ → ℕ → RecordAnswer

-- What the record reader, "given the stamp before", answers to the bytes s.
unfoldable pub record_answer : Reader
record_answer s before =
    answered (read_refusal s before) (taken (field s 0 2) (field s 2 6) (before + field s 8 40))

-- What a call that reads a record promises: the reader's answer, and that answer in document 01's numbers.
pub record ReadBy (reader : Reader) (s : List ℕ) (before : ℕ) (r : RecordRead) : Type 0 where
  pub answer : r ≡ case_of (reader s before)
  pub in_numbers : numbers r ≡ reader s before

-- What `read_record` promises.
abbrev pub IsRead : List ℕ → ℕ → RecordRead → Type 0
IsRead s before r = ReadBy record_answer s before r

-- The number of bytes that the reader takes: "A reader takes one form from the front"; refused, none.
unfoldable pub bytes_read : List ℕ → ℕ → ℕ
bytes_read s before = unless_refused (read_refusal s before) record_size 0

-- 8, 3, 4, 5 and 9 of a record to be written into a buffer of so many bytes; the stamp field is not 0 where the stamp is
-- other than the one before ("so its stamp is the one before").
unfoldable pub write_refusal : ℕ → ℕ → ℕ → ℕ → ℕ → ℕ
write_refusal kind action stamp before size =
    first_of (given 8 (broken kind action (not (eqb stamp before))))
    (first_of (given 3 (ltb last_action action))
    (first_of (given 4 (stamp_above stamp before))
    (first_of (given 5 (ltb stamp before)) (given 9 (ltb size record_size)))))

-- "Record, 6 bytes: two bits of kind ..; 6 bits action; 40 bits of stamp, less the stamp before it"
unfoldable pub record_form : ℕ → ℕ → ℕ → List ℕ
record_form kind action less = form (bits 2 kind ++ bits 6 action ++ bits 40 less)

-- What the writer, "given the stamp before", leaves in the buffer: "Bytes behind what a writer wrote stay"; refused, "nothing
-- changed".
unfoldable pub written : ℕ → ℕ → ℕ → ℕ → List ℕ → List ℕ
written kind action stamp before buffer =
    unless_refused (write_refusal kind action stamp before (length buffer))
    (record_form kind action (stamp - before) ++ drop record_size buffer)
    buffer

-- What `write_record` promises: the number that comes back, and every byte of the buffer.
pub record IsWritten (kind action stamp before : ℕ) (buffer after : List ℕ) (r : ℕ) : Type 0 where
  pub number : r ≡ write_refusal kind action stamp before (length buffer)
  pub bytes : after ≡ written kind action stamp before buffer
