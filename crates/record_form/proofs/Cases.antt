-- A result of the reader, as a case and as document 01's numbers: each tells it whole.
use Prim.Native.Nat.{ℕ, zero, suc}
use mathlib.Core.Path.{◌≡◌, refl, sym, ◌∙◌, ap}
use Rattle.std.specs.Prelude.{Result, Ok, Err}
use Rattle.outcomes.specs.declared.Refusal.{Refusal}
use Rattle.outcomes.specs.Numbers.{refusal_number}
use Rattle.outcomes.proofs.Same.{same_refusal, refusal_not_0}
use Rattle.record_form.specs.declared.Record.{Record}
use Rattle.record_form.specs.declared.Record.TheVariants.{Input, Output, Gap, End}
use Rattle.record_form.specs.Record.{RecordRead, read_case, numbers, case_of, case_by}

refused_case : (n : ℕ) → (n ≡ 0 → ⊥) → case_by n 0 0 0 ≡ RecordRead.refused_read n
unfolding case_by
refused_case zero h = absurd (h refl)
refused_case (suc n) h = refl

-- The case of a result's numbers is its own.
pub case-back : (r : Result Record Refusal) → case_of (numbers (read_case r)) ≡ read_case r
unfolding case_by
case-back (Ok (Input action stamp)) = refl
case-back (Ok (Output action stamp)) = refl
case-back (Ok (Gap lost stamp)) = refl
case-back (Ok (End stamp)) = refl
case-back (Err refusal) = refused_case (refusal_number refusal) (refusal_not_0 refusal)

-- "0: taken"
taken_number : (x : Record) → (numbers (read_case (Ok x))).refusal ≡ 0
taken_number (Input action stamp) = refl
taken_number (Output action stamp) = refl
taken_number (Gap lost stamp) = refl
taken_number (End stamp) = refl

-- ---- one case is of one result
record_at : RecordRead → Record
record_at (RecordRead.input_read action stamp) = Input action stamp
record_at (RecordRead.output_read action stamp) = Output action stamp
record_at (RecordRead.gap_read lost stamp) = Gap lost stamp
record_at (RecordRead.end_read stamp) = End stamp
record_at (RecordRead.refused_read number) = End number

back : (x : Record) → record_at (read_case (Ok x)) ≡ x
unfolding record_at
back (Input action stamp) = refl
back (Output action stamp) = refl
back (Gap lost stamp) = refl
back (End stamp) = refl

number_in : RecordRead → ℕ
number_in r = (numbers r).refusal

pub same_read : (r t : Result Record Refusal) → read_case r ≡ read_case t → r ≡ t
unfolding number_in
same_read (Ok x) (Ok y) e = ap Ok (sym (back x) ∙ ap record_at e ∙ back y)
same_read (Ok x) (Err b) e = absurd (refusal_not_0 b (sym (ap number_in e) ∙ taken_number x))
same_read (Err a) (Ok y) e = absurd (refusal_not_0 a (ap number_in e ∙ taken_number y))
same_read (Err a) (Err b) e = ap Err (same_refusal a b (ap number_in e))
