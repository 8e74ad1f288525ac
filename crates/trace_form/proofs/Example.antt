-- The trace of document 01's case 15, and a gap behind it that lost five lines (document 02, CR 7), by the definitions alone.
use Prim.Native.Nat.{ℕ}
use mathlib.Core.Path.{◌≡◌, refl, subst}
use mathlib.Core.List.{List, [], ◌∷◌}
use Rattle.fields.specs.Fields.{digit, number, bits, packed, form}
use Rattle.record_form.specs.Record.{write_refusal, broken, stamp_above, record_form}
use Rattle.trace_form.specs.Trace.{Entry, trace_form, CanBeWritten, TakenAs}
use Rattle.trace_form.proofs.Trace.{trace_reads_back}

abbrev case_15 : List Entry
case_15 = Entry.input 0 100 ∷ Entry.output 2 120 ∷ Entry.output 2 161 ∷ []

-- "`00 00 00 00 00 64`, `42 00 00 00 00 14`, `42 00 00 00 00 29`, `C0 00 00 00 00 00`"
abbrev case_15_bytes : List ℕ
case_15_bytes =
    0x00 ∷ 0x00 ∷ 0x00 ∷ 0x00 ∷ 0x00 ∷ 0x64
    ∷ 0x42 ∷ 0x00 ∷ 0x00 ∷ 0x00 ∷ 0x00 ∷ 0x14
    ∷ 0x42 ∷ 0x00 ∷ 0x00 ∷ 0x00 ∷ 0x00 ∷ 0x29
    ∷ 0xC0 ∷ 0x00 ∷ 0x00 ∷ 0x00 ∷ 0x00 ∷ 0x00 ∷ []

pub case_15_written : trace_form 0 case_15 ≡ case_15_bytes
unfolding trace_form record_form form packed number bits digit
case_15_written = refl

can_be_written : CanBeWritten 0 case_15
unfolding write_refusal broken stamp_above
can_be_written = (refl, (refl, (refl, refl)))

pub case_15_taken : TakenAs case_15_bytes 0 case_15
case_15_taken =
    subst (λ (s : List ℕ). TakenAs s 0 case_15) case_15_written (trace_reads_back 0 case_15 can_be_written)

abbrev five_lost : List Entry
five_lost = Entry.gap 5 200 ∷ []

abbrev five_lost_bytes : List ℕ
five_lost_bytes = 0x85 ∷ 0x00 ∷ 0x00 ∷ 0x00 ∷ 0x00 ∷ 0x27 ∷ 0xC0 ∷ 0x00 ∷ 0x00 ∷ 0x00 ∷ 0x00 ∷ 0x00 ∷ []

pub five_lost_written : trace_form 161 five_lost ≡ five_lost_bytes
unfolding trace_form record_form form packed number bits digit
five_lost_written = refl

five_can_be_written : CanBeWritten 161 five_lost
unfolding write_refusal broken stamp_above
five_can_be_written = (refl, refl)

pub five_lost_taken : TakenAs five_lost_bytes 161 five_lost
five_lost_taken =
    subst (λ (s : List ℕ). TakenAs s 161 five_lost) five_lost_written (trace_reads_back 161 five_lost five_can_be_written)
