-- The lines of a run that are not yet in an order, judged from the state that the order has reached.
use Rattle.std.specs.Prelude.{ℕ, zero, suc, ◌≡◌, Bool, cond, [], eqb, leb, Result, Ok, Err}
use Rattle.meaning.specs.Words.{Line}
use Rattle.meaning.specs.Node.{verdict_number}
use Rattle.meaning.specs.Calls.{Call, fresh_clock, unless_refused}
use Rattle.meaning.specs.Calls
use Rattle.meaning.specs.Matcher.{Lengths}
use Rattle.meaning.specs.Step.{Cuts}
use Rattle.property.specs.declared.Property.{Property}
use Rattle.matcher.specs.declared.Cut.{Cut}
use Rattle.matcher.specs.Sets.{set_of, set_verdict}
use Rattle.cuts.specs.Steps.{next_by, answer_by}
use Rattle.session_record.specs.Lent.{Memory, held_in, Ready}
use Rattle.judged_rest.specs.declared.Reason.{Reason}
use Rattle.judged_rest.specs.declared.Reached.{Reached}
use Rattle.judged_rest.specs.Lent.{Lines, is_output, line_in}
use Rattle.outcomes.specs.declared.Refusal.{Refusal}
use Rattle.outcomes.specs.Numbers.{refusal_number, number_told}

-- "Refusal number, verdict, and the line after which it was first told": a reason in numbers.
pub record Reasoning : Type 0 where
  pub refusal : ℕ
  pub verdict : ℕ
  pub line : ℕ

abbrev pub reason_in : Result Reason Refusal → Reasoning
reason_in (Ok reason) = record { refusal = 0; verdict = number_told reason.verdict; line = reason.line }
reason_in (Err refusal) = record { refusal = refusal_number refusal; verdict = 0; line = 0 }

-- The line at place k, an output or not, is not yet in the order.
abbrev pub waits : Reached → ℕ → Bool → Bool
waits from k output = cond output (leb from.output k) (leb from.input k)

abbrev pub refused_by : ℕ → Reasoning
refused_by n = record { refusal = n; verdict = 0; line = 0 }

-- The verdict v after the line at place k: another than before was first told there.
abbrev pub told_then : Reasoning → ℕ → ℕ → Reasoning
told_then before v k = cond (eqb before.verdict v) before (record { refusal = 0; verdict = v; line = suc k })

abbrev pub told_by : ℕ → Reasoning → ℕ → ℕ → Reasoning
told_by zero before v k = told_then before v k
told_by (suc n) before v k = refused_by (suc n)

-- How far a judgement has come.
pub record Judged : Type 0 where
  pub cuts : Cuts Lengths
  pub told : Reasoning

abbrev pub judged_line : Property → Line → ℕ → Judged → Judged
judged_line p l k j =
    let a : Calls.Answer = answer_by p j.cuts (Call.line l) in
    record { cuts = next_by p j.cuts (Call.line l); told = told_by a.refusal j.told a.verdict k }

-- One line more: behind a refusal nothing is judged, nor is what does not wait.
unfoldable pub turned : Property → Reached → Bool → Line → ℕ → Judged → Judged
turned p from output l k j = unless_refused j.told.refusal (cond (waits from k output) (judged_line p l k j) j) j

-- On lent memory: what it holds, of the same property, and a next line can start.
pub record Turned (from : Reached) (output : Bool) (l : Line) (k : ℕ) (m : Memory) (before : Reasoning) (after : Memory) (told : Reasoning) : Type 0 where
  pub goes : turned m.property from output l k (record { cuts = held_in m; told = before }) ≡ record { cuts = held_in after; told = told }
  pub own : after.property ≡ m.property
  pub ready : Ready after

abbrev pub begun : Property → Cut → Judged
begun p c =
    record {
      cuts = record { clock = fresh_clock; front = record { before = set_of c; held = [] } };
      told = record { refusal = 0; verdict = verdict_number (set_verdict p (set_of c)); line = 0 };
    }

-- The first k lines, as far as they wait.
unfoldable pub judged : Property → Lines → Reached → ℕ → Judged
judged p ls from zero = begun p from.cut
judged p ls from (suc k) = turned p from (is_output ls k) (line_in ls k) k (judged p ls from k)
