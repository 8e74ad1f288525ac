-- What is called: that a record's call, the arguments of the calls and the values that they hand back are what the demands take them for.
use Prim.Native.Nat.{ℕ, ◌/◌, ◌%◌, ◌^◌}
use mathlib.Core.Path.{◌≡◌, refl}
use mathlib.Core.Bool.{Bool, true, false}
use mathlib.Core.List.{List}
use lib.ListN.{get_or, length}
use lib.Dec.{eqb}
use Rattle.std.specs.Prelude.{Ok, Err}
use Rattle.laws.specs.Bits.{mask_to}
use Rattle.laws.specs.Places.{first}
use Rattle.laws.proofs.Places.{first-same}
use Rattle.meaning.specs.Calls.{Call, mark_at}
use Rattle.outcomes.specs.declared.Refusal.{Refusal}
use Rattle.outcomes.specs.declared.Refusal.TheVariants.{Length, Bounds, Number, StampTooLate, StampTooEarly, TooManyOpen, TooShort, Broken, NoRoom, OutOfRange}
use Rattle.outcomes.specs.declared.Refusal.TheVariants.{SiteList, ReleaseList, TooManyLines}
use Rattle.outcomes.specs.declared.Verdict.TheVariants.{Clear, Suspect, Certain, Blind}
use Rattle.outcomes.specs.Numbers.{refusal_number, refusal_in, number_told}
use Rattle.property.specs.Meant.{action_of, meant}
use Rattle.property.specs.declared.Property.{Property}
use Rattle.property_form.specs.Read.{read_numbers}
use Rattle.property_form.specs.Write.{written_numbers}
use Rattle.record_form.specs.Record
use Rattle.record_form.specs.declared.Record.TheVariants.{Input, Output, Gap, End as EndRead}
use Rattle.trace_form.specs.Trace.{Entry, kind_of, entry_call}
use Rattle.matcher.specs.Sets.{cut_of}
use Rattle.cuts.specs.Steps.{line_of}
use Rattle.session_record.specs.declared.Told.{Told}
use Rattle.session_record.specs.declared.Stepped.{Stepped}
use Rattle.session_record.specs.Step.{answer_in, stepping_in, no_session}
use Rattle.kept.specs.Event.{call_of}
use Rattle.kept.specs.declared.Event.TheVariants as Kept
use Rattle.walk.specs.Walk.{stop_in, stop_number, stop_refusal, in_numbers}
use Rattle.walk.specs.declared.Walked.{Walked}
use Rattle.walk.specs.declared.Stop.TheVariants.{Budget, End, Refused}
use Rattle.stretch.specs.declared.Judged.{Judged}
use Rattle.stretch.specs.Judge.{judged_in}
use Rattle.stretch.specs.Version.{interface_version}
use Rattle.names.specs.Lookup.{wanted}
use Rattle.judged_rest.specs.declared.Reason.{Reason}
use Rattle.judged_rest.specs.Judged.{reason_in}
use Rattle.judged_rest.specs.Lent.{lent, run_of}
use Rattle.demands.specs.Called.{action_if, zero_property, zero_session}
use Rattle.demands.specs.Traces.{entry_of}

-- "0 input, 1 output, 2 gap, 3 end":
pub kinds : (k t : ℕ) → (kind_of (Entry.input k t) ≡ 0) × (kind_of (Entry.output k t) ≡ 1) × (kind_of (Entry.gap k t) ≡ 2) × (Record.end ≡ 3)
kinds k t = (refl, refl, refl, refl)

-- a record's call, of which walk and judge speak, is the call whose record it is;
pub own_call : (e : Entry) → entry_of (entry_call e) ≡ e
own_call (Entry.input k t) = refl
own_call (Entry.output k t) = refl
own_call (Entry.gap k t) = refl

-- the arguments of `line` are those of a line, and those of `mark` the number of lost lines and the stamp;
pub line_called : (k t : ℕ) → (entry_of (Call.line (line_of false k t)) ≡ Entry.input k t) × (entry_of (Call.line (line_of true k t)) ≡ Entry.output k t)
line_called k t = (refl, refl)

pub mark_called : (lost t : ℕ) → entry_of (mark_at lost t) ≡ Entry.gap lost t
mark_called lost t = refl

-- `kept::step`, whose promise is `stepped_of .. (call_of event)`, is the step by value on the session lent;
pub event_called : (output : Bool) (k t : ℕ)
    → (call_of (Kept.Line output k t) ≡ Call.line (line_of output k t)) × (call_of (Kept.Mark k t) ≡ mark_at k t)
event_called output k t = (refl, refl)

-- a property record has its sequence in the first n places of two lists, and bit k of the number `allowed` for output k;
pub property_called : (p : Property)
    → ((meant p).sequence ≡ first (λ i. action_if (get_or p.output i false) (get_or p.number i 0)) p.n)
    × ((k : ℕ) → (meant p).allowed k ≡ eqb (p.allowed / 2 ^ k % 2) 1)
    × ((meant p).LB ≡ p.lb) × ((meant p).UB ≡ p.ub)
property_called p = (first-same _ _ p.n (λ i h. by (get_or p.output i false) (get_or p.number i 0)), (λ k. refl), refl, refl)
  where
    by : (o : Bool) (k : ℕ) → action_of o k ≡ action_if o k
    by true k = refl
    by false k = refl

-- the lines handed to `why::explain` have their directions, actions and stamps in three lists;
pub lines_called : (outputs : List Bool) (actions stamps : List ℕ)
    → run_of (lent outputs actions stamps)
    ≡ first (λ i. record { action = action_if (get_or outputs i false) (get_or actions i 0); stamp = get_or stamps i 0 }) (length stamps)
lines_called outputs actions stamps = first-same _ _ (length stamps) (λ i h. by (get_or outputs i false) (get_or actions i 0) (get_or stamps i 0))
  where
    by : (o : Bool) (k t : ℕ) → line_of o k t ≡ record { action = action_if o k; stamp = t }
    by true k t = refl
    by false k t = refl

-- `names::name` is asked for a direction and a number;
pub name_called : (output : Bool) (k : ℕ) → wanted output k ≡ action_if output k
name_called true k = refl
name_called false k = refl

-- each refusal has its number in the table, and each verdict its own: "0 clear, .. 1 suspect, .. 2 certain, .. 3 blind";
pub refusals_called :
    (refusal_number Length ≡ 1) × (refusal_number Bounds ≡ 2) × (refusal_number Number ≡ 3) × (refusal_number StampTooLate ≡ 4)
    × (refusal_number StampTooEarly ≡ 5) × (refusal_number TooManyOpen ≡ 6) × (refusal_number TooShort ≡ 7) × (refusal_number Broken ≡ 8)
    × (refusal_number NoRoom ≡ 9) × (refusal_number OutOfRange ≡ 10) × (refusal_number SiteList ≡ 11) × (refusal_number ReleaseList ≡ 12)
    × (refusal_number TooManyLines ≡ 13)
refusals_called = (refl, refl, refl, refl, refl, refl, refl, refl, refl, refl, refl, refl, refl)

pub verdicts_called : (number_told Clear ≡ 0) × (number_told Suspect ≡ 1) × (number_told Certain ≡ 2) × (number_told Blind ≡ 3)
verdicts_called = (refl, refl, refl, refl)

-- what is taken has refusal 0, and "a refusal carries 0 in all other numbers": of the calls that can only be refused, `property::refused`,
-- `names::refused`, `name_list::refused` and `write_record`;
pub refused_called : {A : Type 0} (x : A) (r : Refusal) → (refusal_in (Ok x) ≡ 0) × (refusal_in {A = A} (Err r) ≡ refusal_number r)
refused_called x r = (refl, refl)

-- of `fresh`, `line` and `mark`, and of `kept::step`;
pub answer_called : (told : Told) (r : Refusal)
    → (answer_in (Ok told) ≡ record { refusal = 0; verdict = number_told told.verdict; open_count = told.open_count })
    × (answer_in (Err r) ≡ record { refusal = refusal_number r; verdict = 0; open_count = 0 })
answer_called told r = (refl, refl)

pub stepped_called : (s : Stepped) → stepping_in s ≡ record { answer = answer_in s.answer; session = s.session }
stepped_called s = refl

-- of `read_property` and `write_property`;
pub read_called : (p : Property) (size : ℕ) (r : Refusal)
    → (read_numbers (Ok p) ≡ record { refusal = 0; property = p }) × (read_numbers (Err r) ≡ record { refusal = refusal_number r; property = zero_property })
    × (written_numbers (Ok size) ≡ record { refusal = 0; size = size }) × (written_numbers (Err r) ≡ record { refusal = refusal_number r; size = 0 })
read_called p size r = (refl, refl, refl, refl)

-- of the record readers: the cases of their answers have the document's numbers;
pub record_called : (a t : ℕ) (r : Refusal)
    → (Record.numbers (Record.read_case (Ok (Input a t))) ≡ record { refusal = 0; kind = 0; action = a; stamp = t })
    × (Record.numbers (Record.read_case (Ok (Output a t))) ≡ record { refusal = 0; kind = 1; action = a; stamp = t })
    × (Record.numbers (Record.read_case (Ok (Gap a t))) ≡ record { refusal = 0; kind = 2; action = a; stamp = t })
    × (Record.numbers (Record.read_case (Ok (EndRead t))) ≡ record { refusal = 0; kind = 3; action = 0; stamp = t })
    × (Record.numbers (Record.read_case (Err r)) ≡ record { refusal = refusal_number r; kind = 0; action = 0; stamp = 0 })
record_called a t r = (refl, refl, refl, refl, refl)

-- and so have the ways in which a walk stops;
pub stop_called : (r : Refusal)
    → (stop_number (stop_in Budget) ≡ 0) × (stop_number (stop_in End) ≡ 1) × (stop_number (stop_in (Refused r)) ≡ 2)
    × (stop_refusal (stop_in Budget) ≡ 0) × (stop_refusal (stop_in End) ≡ 0) × (stop_refusal (stop_in (Refused r)) ≡ refusal_number r)
stop_called r = (refl, refl, refl, refl, refl, refl)

pub walk_called : (w : Walked)
    → in_numbers w
    ≡ record {
      taken = w.taken;
      stop = stop_number (stop_in w.stop);
      refusal = stop_refusal (stop_in w.stop);
      read = w.read;
      lost = w.lost;
      session = w.session;
    }
walk_called w = refl

-- of the judge, and of `why::explain`;
pub judged_called : (judged : Judged) (r : Refusal)
    → (judged_in (Ok judged) ≡ record { refusal = 0; verdict = number_told judged.verdict; count = judged.count })
    × (judged_in (Err r) ≡ record { refusal = refusal_number r; verdict = 0; count = 0 })
judged_called judged r = (refl, refl)

pub reason_called : (reason : Reason) (r : Refusal)
    → (reason_in (Ok reason) ≡ record { refusal = 0; verdict = number_told reason.verdict; line = reason.line })
    × (reason_in (Err r) ≡ record { refusal = refusal_number r; verdict = 0; line = 0 })
reason_called reason r = (refl, refl)

-- what a refused fresh call hands back is a session of zeros;
pub zeros_called : no_session ≡ zero_session
unfolding first cut_of mask_to
zeros_called = refl

-- and the archive's version is that of include/anthegyra.h.
pub version_called : interface_version ≡ 4
version_called = refl
