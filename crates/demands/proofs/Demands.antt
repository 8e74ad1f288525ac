-- The demands of document 00 as theorems: open this file first. Its words are defined in crates/meaning/specs and crates/demands/specs;
-- `running p calls` is the session after any calls on a fresh one, `seen p calls` what those calls have come to by the rules.
use Prim.Native.Nat.{ℕ, suc, ◌+◌, ◌*◌, ◌/◌, ◌%◌, ◌≤◌, ◌<◌, min}
use mathlib.Core.Path.{◌≡◌, sym, ◌∙◌, ap, ap₂}
use mathlib.Core.Bool.{Bool, true, false, cond}
use mathlib.Core.List.{List, [], ◌∷◌, ◌++◌}
use native.Mathlib.Omega.{arith}
use lib.ListN.{length}
use lib.Dec.{ltb}
use borrow.Author.Tests.{lt-ltb}
use Rattle.meaning.specs.Words.{Line, Run, StampsFrom, Property as PropertyMeant}
use Rattle.meaning.specs.Node.{Breaks, Verdict, VerdictFor, IsVerdict, verdict_number}
use Rattle.meaning.specs.Numbers.{given, first_of, property_refusal}
use Rattle.meaning.specs.Calls.{Mark, Call, fresh, watched, AllTaken, kept, Standing, open_of, Answer, IsAnswer, refusal}
use Rattle.meaning.specs.Step.{lengths, grown, cuts_verdict, cuts_open, cuts_answer}
use Rattle.meaning.specs.History.{Event, fed, all_lines, Premises, highest, Quiet, NoMark, BreaksAfter}
use Rattle.meaning.proofs.Sets.{Reading}
use Rattle.meaning.proofs.Lengths.{lengths_reading}
use Rattle.meaning.proofs.Calls.{grown_agrees, standing_agrees, open_agrees, answer_agrees, answer_unique, standing_unique, few-cuts}
use Rattle.meaning.proofs.Histories.{kept_same, kept-taken}
use Rattle.stays_told.specs.Stays.{NeverFalls, NeverFallsAfter, ClosedNotAbove, StandingStays, AnswersStay}
use Rattle.stays_told.proofs.NeverFalls.{never_falls, never_falls_after}
use Rattle.stays_told.proofs.Calls.{closed-not-above, standing_stays, answers_stay, has-verdict}
use Rattle.property.specs.Meant.{meant}
use Rattle.property.specs.declared.Property as Data
use Rattle.property_form.specs.Read.{property_read, read_refusal as property-read_refusal, taken as property-taken}
use Rattle.property_form.specs.Read
use Rattle.record_form.specs.Record.{Reader, Bytes, record_answer}
use Rattle.trace_form.specs.Trace.{trace_form}
use Rattle.trace_form.proofs.Reader.{Reads, record_reads}
use Rattle.tap_form.specs.Tap.{tap_answer}
use Rattle.tap_form.proofs.Reader.{tap_reads}
use Rattle.cuts.specs.Steps.{fresh_by, refusal_by}
use Rattle.session_record.specs.declared.Session.{Session}
use Rattle.session_record.specs.Record.{record_of, cuts_of, out_of_range}
use Rattle.session_record.specs.Step.{refusal_of, fresh_of, stepped_of}
use Rattle.session_record.proofs.Steps.{step_refused, answer-refusal, fresh-refused, fresh-taken}
use Rattle.session_record.proofs.Running.{running_answer}
use Rattle.walk.specs.Walk.{walk_of, rest_start}
use Rattle.stretch.specs.Judge.{judge_of, one_number}
use Rattle.stretch.proofs.Judging.{one-long}
use Rattle.printed.specs.Listing.{records_by, listing_by}
pub use Rattle.printed.proofs.Whole.{listing_taken, listing_refused}
use Rattle.demands.specs.Refuses.{Refuses}
use Rattle.demands.specs.Uses.{Use, session_through}
use Rattle.demands.specs.Called.{zero_session}
use Rattle.demands.specs.Traces.{first_met}
use Rattle.demands.specs.Texts.{header, stop_line}
use Rattle.demands.proofs.Running.{running, seen, running_number, running_range}
use Rattle.demands.proofs.Exact.{blind-kept, exact-kept, line-told, says-blind}
use Rattle.demands.proofs.Walks.{WalkedOver, walk-over, walk_named, walk_rest}
use Rattle.demands.proofs.Judging.{JudgeTaken, judge_taken, judge_first, judge_alone, taken_apart}
use Rattle.demands.proofs.Uses.{uses_are_calls}
use Rattle.demands.proofs.Texts.{demand_header, demand_last}
use Rattle.demands.proofs.Called.{zeros_called}
use Rattle.demands.proofs.Listing.{ShownBy, read_good, listing_shown}
pub use Rattle.demands.proofs.Listing.{listing_count}
use Rattle.demands.proofs.Forms.{fresh-number}
-- "Packed properties and traces read back as written, and only one packing of each is taken."
pub use Rattle.property_form.proofs.RoundTrip.{write_then_read as property_reads_back, write_then_rest as property_rest_back, read_then_write as property_writes_back, one_packing as property_one_packing}
pub use Rattle.record_form.proofs.RoundTrip.{write_then_read as record_reads_back, read_then_write as record_writes_back, record_one_packing}
pub use Rattle.trace_form.proofs.Trace.{trace_reads_back, trace_writes_back, trace_one_packing}
pub use Rattle.demands.proofs.Written.{written_trace}
pub use Rattle.demands.proofs.Forms.{begins_one_packing}
-- What a reader takes, by the fields of the bytes, and how many bytes that is; its rest.
pub use Rattle.demands.proofs.Packed.{demand_1_read_property, demand_read_property, demand_1_write_property, demand_1_read_record, demand_read_record}
pub use Rattle.demands.proofs.Packed.{demand_1_write_record, demand_1_read_tap, demand_read_tap, rest_called}
-- The tap card's records of true stamps are read back as the lines that they are of, and two traces that are read as the same lines are the
-- same bytes (document 02, CR 4).
pub use Rattle.tap_form.proofs.Card.{card_reads_back, card_writes_back, card_one_packing}
pub use Rattle.demands.proofs.Same.{demand_tap}
-- What is printed, in the documents' words (`Texts`), with decimal numbers; what a property and a record add to a listing, with names or without.
pub use Rattle.demands.proofs.Digits.{decimal-reads}
pub use Rattle.demands.proofs.Texts.{demand_header, demand_last, demand_line, demand_named_line, demand_reached, demand_placed, demand_alone}
pub use Rattle.demands.proofs.Printed.{text-kept, line-whole, demand_size, demand_begun, demand_printed, demand_named_record}
-- Names (document 02, CR 2): the lists bit by bit; `names::refused` and `name`, the listing with names.
pub use Rattle.demands.proofs.Lists.{list_taken, list_back, list_one_packing, one_list, one_entry, two-packed, two-read, size-read, demand_1_lists}
pub use Rattle.demands.proofs.Names.{demand_1_names, demand_name, name_handed, demand_named}
-- Why a run has its verdict (document 02, CR 6), in `Why`: `why::explain`, and the moments that are shown.
pub use Rattle.demands.proofs.Placed.{not_twice}
pub use Rattle.demands.proofs.Why.{demand_1_why, as_a_session, demand_why, moment_reads, moment_below_reads}
-- How many lines were lost (document 02, CR 7), in `Lost`: a gap's number read and written, `mark` and its refusals, that nothing depends on the
-- number, and two walks joined.
pub use Rattle.demands.proofs.Lost.{gap-read, gap-number, gap-written, demand_1_mark, same-watched, same-told, same_step, same_through, same_answers, same-walk, same_judge, demand_joined}
-- A walk that has used its budget up has not looked further.
pub use Rattle.demands.proofs.Walks.{budget_spent}
-- What is called and handed back: no refusal has the number 0, and a number is that of one refusal, or of one verdict, so that numbers tell a
-- result whole; and what the session record holds after any calls.
pub use Rattle.demands.proofs.Called.{kinds, own_call, line_called, mark_called, event_called, property_called, lines_called, name_called, refusals_called, verdicts_called, refused_called}
pub use Rattle.outcomes.proofs.Same.{refusal_not_0, same_refusal, same_verdict}
pub use Rattle.demands.proofs.Called.{answer_called, stepped_called, read_called, record_called, stop_called, walk_called, judged_called, reason_called, zeros_called, version_called}
pub use Rattle.demands.proofs.Held.{running_holds, demand_10}
-- A record may start at any place of its ring (document 02, CR 9): two that say the same have the same answers, to calls and to walks.
pub use Rattle.demands.proofs.Ring.{demand_ring, ring_walk}
-- A verdict once told stays told (document 02, CR 3): of the calls that run (`Told`), behind `running_3`.
pub use Rattle.demands.proofs.Told.{told_stays, closed_stays, closed_history, line-stands, session_stays, walk_stays, listing_stays, refused_stays}
-- Lost lines that demand 3's premises cover: behind their mark, and before the second of two marks.
pub use Rattle.meaning.proofs.Lost.{mark-before-lost, second_mark_behind_lost}

-- ==== Demand 2, over the meaning. "After each line taken while the watcher isn't blind, the verdict on the run is exact."
module _ (p : PropertyMeant) (good : property_refusal p ≡ 0) where
  -- For any list of calls on a fresh session, refused ones too:
  pub record Demand-2 (calls : List Call) : Type 0 where
    -- the verdict that the step over cuts reads off stands, by the definition over every explanation of the open run,
    pub exact : Standing p (watched p fresh calls) (cuts_verdict p (lengths p) (grown p calls))
    -- and no other one does;
    pub only : (v : Verdict) → Standing p (watched p fresh calls) v → v ≡ cuts_verdict p (lengths p) (grown p calls)
    -- the number held is the number that Room counts over the history, in never more than sixty-five cuts;
    pub open_count : cuts_open p (lengths p) (grown p calls) ≡ open_of p (watched p fresh calls)
    pub few : suc (cuts_open p (lengths p) (grown p calls)) ≤ 65
    -- the next call, whatever it is, gets the answer of the table and of these definitions, and no other answer is one.
    pub answer : (c : Call) → IsAnswer p (watched p fresh calls) c (cuts_answer p (lengths p) (grown p calls) c)
    pub one_answer : (c : Call) (a : Answer) → IsAnswer p (watched p fresh calls) c a → a ≡ cuts_answer p (lengths p) (grown p calls) c

  abbrev R : Reading p (Breaks p)
  R = lengths_reading p good

  pub demand_2 : (calls : List Call) → Demand-2 calls
  demand_2 calls =
      let a = grown_agrees R calls in
      record {
        exact = standing_agrees R a;
        only = λ v h. standing_unique R a v (cuts_verdict p (lengths p) (grown p calls)) h (standing_agrees R a);
        open_count = open_agrees R a;
        few = few-cuts R a;
        answer = answer_agrees R a;
        one_answer = λ c x h. answer_unique R a c x (cuts_answer p (lengths p) (grown p calls) c) h (answer_agrees R a c);
      }

  -- "What is refused alters neither the session ..": the calls that are taken, alone, come to the same.
  pub refused_alter_nothing : (calls : List Call)
      → AllTaken p fresh (kept p fresh calls) × (watched p fresh (kept p fresh calls) ≡ watched p fresh calls)
  refused_alter_nothing calls = (kept-taken p fresh calls, kept_same p fresh calls)

  -- ==== Demand 3, over the meaning. Any calls, of which those taken are what the watcher was fed of a full history: earlier events,
  -- a gap mark, events up to a first line that comes more than 2·UB after everything taken or marked, and later ones up to the next
  -- mark. Lost lines stand where they were lost, and "the caller may mark a gap" for a refused line.
  module _ (calls : List Call) (earlier : List Event) (g : Mark) (between : List Event) (quiet : Quiet p (highest 0 (fed earlier ++ Call.mark g ∷ [])) (fed between)) where
    -- "Then after the mark, until a line comes more than twice the upper bound after everything taken or marked, the watcher says blind."
    pub demand_3_blind : kept p fresh calls ≡ fed (earlier ++ Event.mark g ∷ between) → (watched p fresh calls).clock.is_blind ≡ true
    demand_3_blind e = blind-kept p good calls earlier g between quiet e

    -- "From that line to the next mark, whatever was lost, its verdict after each line taken is the exact one over the full history
    -- up to the line just taken, lost lines counted, for breaches whose sequence begins, at the node, with that first line or with
    -- one logged after it."
    pub demand_3 : (first : Line) (later : List Event) → kept p fresh calls ≡ fed ((earlier ++ Event.mark g ∷ between) ++ Event.line first ∷ later)
        → Premises ((earlier ++ Event.mark g ∷ between) ++ Event.line first ∷ later)
        → highest 0 (fed (earlier ++ Event.mark g ∷ between)) + 2 * p.UB < first.stamp
        → NoMark (fed later)
        → VerdictFor (BreaksAfter p (all_lines (earlier ++ Event.mark g ∷ between))) p
        (all_lines ((earlier ++ Event.mark g ∷ between) ++ Event.line first ∷ later))
        (cuts_verdict p (lengths p) (grown p calls))
    demand_3 first later e premises far no_mark =
        exact-kept p good calls earlier g between quiet first later e premises far no_mark (cuts_verdict p (lengths p) (grown p calls)) (demand_2 calls).exact

  -- ==== Behind demand 3 (document 02, CR 3): "A verdict once told stays told." A lower bound of at least 1 is needed for it (`stays_told`,
  -- `lower_bound_needed`). Every run has a verdict, and one only (`verdict_unique`);
  pub stays_told : ((run : Run) → StampsFrom 0 run → (v : Verdict) × IsVerdict p run v)
      -- its number on a longer run, or history, is not below the one on the shorter;
      × NeverFalls p × NeverFallsAfter p
      -- closed by a gap mark it is not above the one that the same run followed by the lost lines would have had;
      × ClosedNotAbove p
      -- and within a run none that stands, or is answered, is below an earlier one.
      × StandingStays p × AnswersStay p
  stays_told = (has-verdict p good, never_falls p R.bounds.least R.bounds.order, never_falls_after p R.bounds.least R.bounds.order, closed-not-above p good, standing_stays p good, answers_stay p good)

-- ==== Demand 1. "For all bytes, numbers and call orders each call ends with its answer or a numbered refusal, given exactly when the
-- rules say so. What is refused alters neither the session nor any buffer; lines taken earlier in the same call stay taken."
-- That each call ends is proved of every function. `Refuses number order Alone`: the number is the first of the table's order that
-- holds, and where it is not 0 the whole answer, and all that was lent, is as `Alone` says.

-- `line` and `mark`, on any record, also one that no calls made: 10 (`demand_10`), then those of the step; zeros, and the session as it was.
pub demand_1 : (s : Session) (c : Call)
    → Refuses (stepped_of s c).answer.refusal (first_of (given 10 (out_of_range s)) (refusal_by s.property (cuts_of s) c))
    (λ n. stepped_of s c ≡ record { answer = record { refusal = n; verdict = 0; open_count = 0 }; session = s })
unfolding refusal_of
demand_1 s c = record { first = answer-refusal s c; alone = λ n e. step_refused s c (suc n) (sym (answer-refusal s c) ∙ e) (λ z. omega arith) }

-- `fresh`, and `property::refused`, whose number this is: 1, 2, 3; zeros, and a session of zeros. Taken, verdict 0 and no input held.
pub demand_1_fresh : (p : Data.Property)
    → Refuses (fresh_of p).answer.refusal (property_refusal (meant p))
    (λ n. fresh_of p ≡ record { answer = record { refusal = n; verdict = 0; open_count = 0 }; session = zero_session })
demand_1_fresh p =
    record {
      first = fresh-number p;
      alone = λ n e.
          fresh-refused p (suc n) (sym (fresh-number p) ∙ e) (λ z. omega arith)
          ∙ ap (λ (s : Session). record { answer = record { refusal = suc n; verdict = 0; open_count = 0 }; session = s }) zeros_called;
    }

pub fresh-begins : (p : Data.Property) → property_refusal (meant p) ≡ 0
    → fresh_of p ≡ record { answer = record { refusal = 0; verdict = 0; open_count = 0 }; session = record_of p (fresh_by p) }
fresh-begins p = fresh-taken p

-- The packed forms, in `Packed`: `read_property` with `property_rest`, `write_property`, `read_record` with `record_rest`, `write_record`, and
-- the tap card's `read_tap` with `tap_rest`.

-- ==== The calls that run, from a fresh session, for all call orders and all numbers
module _ (p : Data.Property) (good : property_refusal (meant p) ≡ 0) where
  -- the refusal is that of the table over the history,
  pub running_1 : (calls : List Call) (c : Call) → (stepped_of (running p good calls) c).answer.refusal ≡ refusal (meant p) (seen p good calls) c
  running_1 = running_number p good

  -- the answer is the one of the rules, verdict and number open included, and no other is (demand 2),
  pub running_2 : (calls : List Call) (c : Call)
      → (a : Answer) × IsAnswer (meant p) (seen p good calls) c a
      × ((stepped_of (running p good calls) c).answer ≡ record { refusal = a.refusal; verdict = a.verdict; open_count = a.open_count })
  running_2 calls c = (cuts_answer (meant p) (lengths (meant p)) (grown (meant p) calls) c, (demand_2 (meant p) good calls).answer c, running_answer p good calls c)

  -- and demand 3 holds of the number that the last line's call answers, where that line was taken: blind until the boundary,
  module _ (calls : List Call) (l : Line) (taken : refusal (meant p) (seen p good calls) (Call.line l) ≡ 0) (earlier : List Event) (g : Mark) (between : List Event)
      (quiet : Quiet (meant p) (highest 0 (fed earlier ++ Call.mark g ∷ [])) (fed between)) where
    pub running_3_blind : kept (meant p) fresh (calls ++ Call.line l ∷ []) ≡ fed (earlier ++ Event.mark g ∷ between)
        → (stepped_of (running p good calls) (Call.line l)).answer.verdict ≡ 3
    running_3_blind e =
        let t = line-told p good calls l taken in
        t.2 ∙ says-blind p good (seen p good (calls ++ Call.line l ∷ [])) t.0 (blind-kept (meant p) good (calls ++ Call.line l ∷ []) earlier g between quiet e) t.1

    -- and exact over the full history from it to the next mark.
    pub running_3 : (first : Line) (later : List Event)
        → kept (meant p) fresh (calls ++ Call.line l ∷ []) ≡ fed ((earlier ++ Event.mark g ∷ between) ++ Event.line first ∷ later)
        → Premises ((earlier ++ Event.mark g ∷ between) ++ Event.line first ∷ later)
        → highest 0 (fed (earlier ++ Event.mark g ∷ between)) + 2 * (meant p).UB < first.stamp
        → NoMark (fed later)
        → (v : Verdict)
        × VerdictFor (BreaksAfter (meant p) (all_lines (earlier ++ Event.mark g ∷ between))) (meant p)
        (all_lines ((earlier ++ Event.mark g ∷ between) ++ Event.line first ∷ later)) v
        × ((stepped_of (running p good calls) (Call.line l)).answer.verdict ≡ verdict_number v)
    running_3 first later e premises far no_mark =
        let t = line-told p good calls l taken in
        (t.0, exact-kept (meant p) good (calls ++ Call.line l ∷ []) earlier g between quiet first later e premises far no_mark t.0 t.1, t.2)

  -- Told verdicts stay told (`Told`): within a run no answer is below an earlier one (`told_stays`), a gap mark's is not above the run's
  -- with the lost lines (`closed_stays`) or the full history's (`closed_history`), and the verdict standing on the session, which a line
  -- answers (`line-stands`), does not fall with more calls (`session_stays`, `refused_stays`), a walk or a listing (`walk_stays`, `listing_stays`).

  -- Lines, marks and walks in any mixture: the session is that of single calls in a row, so that all of this speaks of it,
  pub any_uses : (calls : List Call) (uses : List Use) → (more : List Call) × (session_through (running p good calls) uses ≡ running p good (calls ++ more))
  any_uses calls uses = uses_are_calls p good calls uses

  -- and a walk takes the trace's own records, in order, as many as it says it took, each as a single call. It is refused as the first
  -- record not taken is, and "lines taken earlier in the same call stay taken"; it has the last taken gap's number of lost lines.
  pub running_walk : (calls : List Call) (bytes : List ℕ) (budget : ℕ)
      → WalkedOver (running p good calls) bytes (min budget 4_096) (walk_of (running p good calls) bytes budget)
  running_walk calls bytes budget = walk-over (running p good calls) bytes budget (running_range p good calls)

-- ==== The walk on any record, also one that no calls made: 10 first, whatever the budget, else as above; `walk_rest` begins behind it, and is the
-- whole slice for a number that no walk of these bytes reads.
pub record Demand-1-walk (s : Session) (bytes : List ℕ) (budget : ℕ) : Type 0 where
  pub named : out_of_range s ≡ true → walk_of s bytes budget ≡ record { taken = 0; stop = 2; refusal = 10; read = 0; lost = 0; session = s }
  pub walked : out_of_range s ≡ false → WalkedOver s bytes (min budget 4_096) (walk_of s bytes budget)
  pub rest : rest_start (length bytes) (walk_of s bytes budget).read ≡ (walk_of s bytes budget).read
  pub no_rest : (read : ℕ) → length bytes < read → rest_start (length bytes) read ≡ 0

pub demand_1_walk : (s : Session) (bytes : List ℕ) (budget : ℕ) → Demand-1-walk s bytes budget
demand_1_walk s bytes budget =
    record {
      named = walk_named s bytes budget;
      walked = walk-over s bytes budget;
      rest = walk_rest s bytes budget;
      no_rest = λ read h. ap (λ (t : Bool). cond t 0 read) (lt-ltb (length bytes) read h);
    }

-- ==== The judge: the first refusal met, in the order of document 01, and it stands alone. What is taken is one property's whole
-- packing and one trace's, the count is the number of its records, each of them is taken from a fresh session, and the verdict's
-- number is that of the one verdict that stands after them (`JudgeTaken`).
pub demand_1_judge : (property trace : List ℕ)
    → Refuses (judge_of property trace).refusal
    (first_of (property-read_refusal property)
    (first_of (given 8 (ltb (property-taken property) (length property))) (first_met (length trace) (meant (property_read property)) fresh trace)))
    (λ n. judge_of property trace ≡ record { refusal = n; verdict = 0; count = 0 })
demand_1_judge property trace = record { first = judge_first property trace; alone = judge_alone property trace }

pub demand_judge : (property trace : List ℕ) → Bytes property → Bytes trace → (judge_of property trace).refusal ≡ 0
    → JudgeTaken property trace (judge_of property trace)
demand_judge property trace = judge_taken property trace

-- The C call's one number is taken apart into the judge's three: "a longer trace is refusal 9 here".
pub record Demand-C (property trace : List ℕ) (number : ℕ) : Type 0 where
  pub refusal : (judge_of property trace).count ≤ 16_383 → number / 65_536 ≡ (judge_of property trace).refusal
  pub verdict : (judge_of property trace).count ≤ 16_383 → number / 16_384 % 4 ≡ (judge_of property trace).verdict
  pub count : (judge_of property trace).count ≤ 16_383 → number % 16_384 ≡ (judge_of property trace).count
  pub longer : 16_383 < (judge_of property trace).count → number ≡ 9 * 65_536

pub demand_C : (property trace : List ℕ) → Demand-C property trace (one_number (judge_of property trace))
demand_C property trace =
    let a = taken_apart property trace in
    record { refusal = λ h. (a h).0; verdict = λ h. (a h).1; count = λ h. (a h).2; longer = λ h. sym (one-long (judge_of property trace) h) }

-- "only one packing of each is taken": two traces that the judge takes with the same records are the same bytes.
pub judge_one_packing : {property trace other : List ℕ} → (a : JudgeTaken property trace (judge_of property trace))
    → (b : JudgeTaken property other (judge_of property other)) → a.entries ≡ b.entries → trace ≡ other
judge_one_packing a b e = a.trace_packed ∙ ap (trace_form 0) e ∙ sym b.trace_packed

-- ==== The listing, in the document's words (`Texts`): the header; a refused property, `stop 0` and its number; one that is taken, a row for each
-- record taken, which shows it and the verdict and number open that the rules give after it, and the last line (`ShownBy`), of records of
-- a size and their reader.
pub record Demand-listing (size : ℕ) (reader : Reader) (property records : List ℕ) : Type 0 where
  pub refused : (n : ℕ) → (Read.read property).refusal ≡ suc n → listing_by size reader property records ≡ header ++ stop_line 0 (suc n)
  pub taken : (e : (Read.read property).refusal ≡ 0)
      → (text : List ℕ) × (listing_by size reader property records ≡ header ++ text)
      × ShownBy (Read.read property).property (read_good property e) size reader [] 0 records text

listing_listed : {size : ℕ} {reader : Reader} → Reads size reader → (property records : List ℕ) → Demand-listing size reader property records
listing_listed {size} {reader} reads property records =
    record {
      refused = λ n e. listing_refused size reader property records n e ∙ ap₂ ◌++◌ demand_header.0 (demand_last 0 (suc n)).1;
      taken = λ e. (
        records_by size reader (fresh_of (Read.read property).property).session 0 records,
        listing_taken size reader property records e
            ∙ ap (λ (h : List ℕ). h ++ records_by size reader (fresh_of (Read.read property).property).session 0 records) demand_header.0,
        listing_shown size reader reads property records e,
      );
    }

pub demand_listing : (property records : List ℕ) → Demand-listing 6 record_answer property records
demand_listing = listing_listed record_reads

-- The tap card's records behind the property (document 02, CR 4): the same of what its reader reads. Of lines and marks that the card can
-- say, its records have the listing of document 01's (`demand_tap`, in `Same`).
pub demand_tap_listing : (property records : List ℕ) → Demand-listing 5 tap_answer property records
demand_tap_listing = listing_listed tap_reads
