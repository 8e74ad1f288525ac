-- Document 01, "Stretch judge".
use Rattle.std.specs.Prelude.{ℕ, zero, suc, ◌+◌, ◌*◌, Bool, cond, List, length, ltb, Result, Ok, Err}
use Rattle.property.specs.declared.Property.{Property}
use Rattle.property_form.specs.Read.{read, taken}
use Rattle.cuts.specs.Steps.{fresh_by}
use Rattle.session_record.specs.Record.{record_of}
use Rattle.session_record.specs.Step.{standing}
use Rattle.outcomes.specs.declared.Refusal.{Refusal}
use Rattle.outcomes.specs.Numbers.{refusal_number, number_told}
use Rattle.walk.specs.Walk.{Stopping, Walk, walk_on}
use Rattle.stretch.specs.declared.Judged.{Judged}

-- What the judge answers, in numbers.
pub record Judging : Type 0 where
  pub refusal : ℕ
  pub verdict : ℕ
  pub count : ℕ

abbrev pub judged_in : Result Judged Refusal → Judging
judged_in (Ok judged) = record { refusal = 0; verdict = number_told judged.verdict; count = judged.count }
judged_in (Err refusal) = record { refusal = refusal_number refusal; verdict = 0; count = 0 }

-- "the first refusal met gives its number alone, with verdict and count 0"
abbrev pub refused : ℕ → Judging
refused n = record { refusal = n; verdict = 0; count = 0 }

-- A trace that was read up to its end record; `behind`: there are bytes behind it, which "are refusal 8, looked for when that
-- part has been read without refusal".
abbrev pub ended : Bool → Walk → Judging
ended behind w = cond behind (refused 8) (record { refusal = 0; verdict = standing w.session; count = w.taken })

-- By how the walk over the trace stopped; "a stretch that stops without an end record" is refusal 7.
unfoldable pub by_stop : Stopping → Bool → Walk → Judging
by_stop Stopping.at_budget behind w = refused 7
by_stop Stopping.at_end behind w = ended behind w
by_stop (Stopping.at_refusal n) behind w = refused n

-- A fresh session walks over the whole trace: each record takes some of its bytes, so their number is budget enough.
abbrev pub walked : Property → List ℕ → Walk
walked p trace = walk_on (length trace) (record_of p (fresh_by p)) trace

abbrev pub trace_judged : Property → List ℕ → Judging
trace_judged p trace = by_stop (walked p trace).stop (ltb (walked p trace).read (length trace)) (walked p trace)

-- "The property is judged first, then the trace record by record"; bytes behind the property are refusal 8.
unfoldable pub by_property : ℕ → Bool → Judging → Judging
by_property zero behind judged = cond behind (refused 8) judged
by_property (suc n) behind judged = refused (suc n)

unfoldable pub judge_of : List ℕ → List ℕ → Judging
judge_of property trace =
    by_property (read property).refusal (ltb (taken property) (length property)) (trace_judged (read property).property trace)

-- "getting back one number: refusal × 65,536 + verdict × 16,384 if the count is at most 16,383; a longer trace is refusal 9 here,
-- looked for only when nothing else is wrong; the count is added last."
abbrev pub in_one : ℕ → ℕ → ℕ → ℕ
in_one refusal verdict count = refusal * 65_536 + verdict * 16_384 + count

unfoldable pub one_number : Judging → ℕ
one_number j = cond (ltb 16_383 j.count) (in_one 9 0 0) (in_one j.refusal j.verdict j.count)
