-- A walk takes the trace's own records, in order, each as a single call; and how it stops.
use Prim.Native.Nat.{ℕ, zero, suc, ◌+◌, ◌-◌, ◌*◌, ◌≤◌, min}
use mathlib.Core.Path.{◌≡◌, refl, sym, ◌∙◌, ap, ap₂, subst}
use mathlib.Core.Logic.{inl, inr}
use mathlib.Core.Bool.{Bool, true, false, cond}
use mathlib.Core.List.{List, [], ◌∷◌}
use native.Mathlib.Omega.{arith}
use lib.ListN.{length, drop}
use lib.Dec.{eqb, ltb}
use borrow.Author.Tests.{ltb-true, ltb-false}
use Rattle.meaning.specs.Calls.{Call}
use Rattle.meaning.specs.Matcher.{Lengths}
use Rattle.meaning.specs.Step.{Cuts}
use Rattle.meaning.specs.History.{stamp_of as call-stamp}
use Rattle.meaning.proofs.Clocks.{by_time_each}
use Rattle.property.specs.Meant.{meant}
use Rattle.property.specs.declared.Property.{Property}
use Rattle.record_form.specs.Record.{Reader, ReadBy, RecordAnswer, RecordRead, record_size, record_answer, case_of}
use Rattle.record_form.specs.Record
use Rattle.trace_form.specs.ReadAs.{ReadAs, read_as, case_as}
use Rattle.trace_form.specs.Trace.{Entry, kind_of, action_of, stamp_of, entry_call}
use Rattle.trace_form.proofs.ReadAs.{read-case, refused-given, fields_read}
use Rattle.trace_form.proofs.Reader.{Reads, record_reads}
use Rattle.cuts.specs.Steps.{taken_by}
use Rattle.session_record.specs.declared.Session.{Session}
use Rattle.session_record.specs.Step.{Stepping}
use Rattle.session_record.specs.Record.{latest_of, cuts_of, out_of_range}
use Rattle.session_record.specs.Step.{stepped_of, stepped_through}
use Rattle.session_record.proofs.Steps.{step_taken, answer-refusal}
use Rattle.walk.specs.Walk.{Stopping, Walk, Walking, stop_number, stop_refusal, one_call, one_read, stopped, one_more, walked_by, walk_on, lost_with, last_lost, walk_answer, budget_of, walk_of, rest_start}
use Rattle.walk.proofs.Going.{walk_refused, walk-taken}
use Rattle.walk.proofs.Steps.{rest_behind}
use Rattle.demands.specs.Traces.{calls_of, BeginsWith, behind, TakenOneByOne, StopsBy}
use Rattle.demands.specs.Lost.{lost_by, last_gap}

-- What the record at the front is, as a reader reads it: an entry of a trace, the end, or refused.
pub data Front (reader : Reader) (s : List ℕ) (before : ℕ) : ReadAs → Type 0 where
  entry : (e : Entry) → reader s before ≡ Record.taken (kind_of e) (action_of e) (stamp_of e) → Front reader s before (ReadAs.call (entry_call e))
  ended : reader s before ≡ Record.taken Record.end 0 before → Front reader s before ReadAs.end
  refused : (n : ℕ) → (reader s before).refusal ≡ n → (n ≡ 0 → ⊥) → Front reader s before (ReadAs.refused n)

pub front : {size : ℕ} {reader : Reader} → Reads size reader → (s : List ℕ) (before : ℕ) → Front reader s before (read_as (reader s before))
front {size} {reader} reads s before = subst (Front reader s before) (sym (read-case h)) (go (case_of (reader s before)) h)
  where
    h : ReadBy reader s before (case_of (reader s before))
    h = record { answer = refl; in_numbers = reads.by_case s before }

    go : (r : RecordRead) → ReadBy reader s before r → Front reader s before (case_as r)
    go (RecordRead.input_read a t) k = entry (Entry.input a t) (sym k.in_numbers)
    go (RecordRead.output_read a t) k = entry (Entry.output a t) (sym k.in_numbers)
    go (RecordRead.gap_read n t) k = entry (Entry.gap n t) (sym k.in_numbers)
    go (RecordRead.end_read t) k =
        let e = sym k.in_numbers in
        ended (e ∙ ap (Record.taken Record.end 0) (reads.end-stamp s before 0 t e))
    go (RecordRead.refused_read n) k =
        let r = refused-given (reader s before) n (read-case k) in
        refused n r.1 r.0

-- a taken call leaves its stamp as the latest
taken-latest : (p : Property) (c : Cuts Lengths) (k : Call) → (taken_by p c k).clock.latest ≡ call-stamp k
taken-latest p c (Call.line l) =
    by_time_each (meant p) c.clock l.stamp _ _ _ (λ (x : Cuts Lengths). x.clock.latest ≡ l.stamp) (λ e f. refl) (λ e f. refl) (λ e. refl)
taken-latest p c (Call.mark g) = refl

pub entry-stamp : (e : Entry) → call-stamp (entry_call e) ≡ stamp_of e
entry-stamp (Entry.input a t) = refl
entry-stamp (Entry.output a t) = refl
entry-stamp (Entry.gap n t) = refl

pub entry-latest : (s : Session) (e : Entry) → (stepped_of s (entry_call e)).answer.refusal ≡ 0 → latest_of (stepped_of s (entry_call e)).session ≡ stamp_of e
entry-latest s e z =
    ap (λ (r : Stepping). latest_of r.session) (step_taken s (entry_call e) (sym (answer-refusal s (entry_call e)) ∙ z))
    ∙ taken-latest s.property (cuts_of s) (entry_call e)
    ∙ entry-stamp e

-- ---- what a walk comes to

-- Over any budget, for the walk's numbers.
pub record WalkedOver (s : Session) (bytes : List ℕ) (budget : ℕ) (w : Walking) : Type 0 where
  -- the bytes begin with these records, as many as it says it took, at most the budget;
  pub entries : List Entry
  pub begins : BeginsWith bytes (latest_of s) entries
  pub counted : w.taken ≡ length entries
  pub within : w.taken ≤ budget
  -- each is taken as a single call, and the session is that of exactly these calls;
  pub each : TakenOneByOne s (calls_of entries)
  pub session : w.session ≡ stepped_through s (calls_of entries)
  -- the number of lost lines is the last taken gap's, 0 if none was taken, however it stopped (document 02, CR 7);
  pub lost : w.lost ≡ last_gap 0 entries
  -- how it stopped, and the bytes read.
  pub more : ℕ
  pub stops : StopsBy w.stop (budget - w.taken) w.session (behind entries bytes) w.refusal more
  pub read : w.read ≡ 6 * w.taken + more

-- "With budget 0 left nothing more is read": then it stopped by its budget.
pub budget_spent : (stop : ℕ) (s : Session) (bytes : List ℕ) (number more : ℕ) → StopsBy stop 0 s bytes number more → (stop ≡ 0) × (number ≡ 0) × (more ≡ 0)
budget_spent zero s bytes number more h = (refl, h.1, h.2)
budget_spent (suc zero) s bytes number more h = absurd (h.0 refl)
budget_spent (suc (suc other)) s bytes number more h = absurd (h.0 refl)

-- the last gap's number, by the bytes and by their records
pub begun-lost : (bytes : List ℕ) (before : ℕ) (entries : List Entry) → BeginsWith bytes before entries → (lost : ℕ) → last_lost lost (length entries) bytes ≡ last_gap lost entries
unfolding last_lost last_gap
begun-lost bytes before [] h lost = refl
begun-lost bytes before (e ∷ entries) h lost =
    ap (λ (n : ℕ). last_lost n (length entries) (drop record_size bytes)) (one-lost e h.0)
    ∙ begun-lost (drop record_size bytes) (stamp_of e) entries h.1 (lost_by lost e)
  where
    by : (x : Entry) → cond (eqb (kind_of x) 2) (action_of x) lost ≡ lost_by lost x
    by (Entry.input k t) = refl
    by (Entry.output k t) = refl
    by (Entry.gap k t) = refl

    one-lost : (x : Entry) → record_answer bytes before ≡ Record.taken (kind_of x) (action_of x) (stamp_of x) → lost_with lost bytes ≡ lost_by lost x
    one-lost x r =
        let f = fields_read bytes before (ap (λ (a : RecordAnswer). a.refusal) r) in
        ap₂ (λ (k n : ℕ). cond (eqb k 2) n lost) (sym f.0 ∙ ap (λ (a : RecordAnswer). a.kind) r) (sym f.1 ∙ ap (λ (a : RecordAnswer). a.action) r) ∙ by x

pub walked-over : (budget : ℕ) (s : Session) (bytes : List ℕ) → WalkedOver s bytes budget (walk_answer bytes (walk_on budget s bytes))
unfolding walk_on stepped_through
walked-over zero s bytes =
    record {
      entries = [];
      begins = tt;
      counted = refl;
      within = omega arith;
      each = tt;
      session = refl;
      lost = begun-lost bytes (latest_of s) [] tt 0;
      more = 0;
      stops = (refl, refl, refl);
      read = refl;
    }
walked-over (suc budget) s bytes = by_front (read_as (record_answer bytes (latest_of s))) (front record_reads bytes (latest_of s)) (λ after. walked-over budget after (drop record_size bytes))
  where
    on : Session → Walk
    on after = walk_on budget after (drop record_size bytes)

    some_left : suc budget - 0 ≡ 0 → ⊥
    some_left e = omega (arith, e)

    -- nothing is taken
    stop_here : (stop : Stopping) (more : ℕ) → StopsBy (stop_number stop) (suc budget - 0) s bytes (stop_refusal stop) more
        → WalkedOver s bytes (suc budget) (walk_answer bytes (stopped s stop more))
    stop_here stop more h =
        record {
          entries = [];
          begins = tt;
          counted = refl;
          within = omega arith;
          each = tt;
          session = refl;
          lost = begun-lost bytes (latest_of s) [] tt 0;
          more = more;
          stops = h;
          read = let e : more ≡ record_size * 0 + more = omega arith in e;
        }

    -- one record more
    one-taken : (e : Entry) → record_answer bytes (latest_of s) ≡ Record.taken (kind_of e) (action_of e) (stamp_of e) → (stepped_of s (entry_call e)).answer.refusal ≡ 0
        → (w : Walk) → WalkedOver (stepped_of s (entry_call e)).session (drop record_size bytes) budget (walk_answer (drop record_size bytes) w)
        → WalkedOver s bytes (suc budget) (walk_answer bytes (one_more w))
    one-taken e read z w h =
        let begins : BeginsWith bytes (latest_of s) (e ∷ h.entries) = (read, subst (λ (t : ℕ). BeginsWith (drop record_size bytes) t h.entries) (entry-latest s e z) h.begins) in
        record {
          entries = e ∷ h.entries;
          begins = begins;
          counted = ap suc h.counted;
          within = omega (arith, h.within);
          each = (z, h.each);
          session = h.session;
          lost = ap (λ (n : ℕ). last_lost 0 (suc n) bytes) h.counted ∙ begun-lost bytes (latest_of s) (e ∷ h.entries) begins 0;
          more = h.more;
          stops =
              subst (λ (left : ℕ). StopsBy (stop_number w.stop) left w.session (behind h.entries (drop record_size bytes)) (stop_refusal w.stop) h.more)
              (let q : budget - w.taken ≡ suc budget - suc w.taken = omega arith in q) h.stops;
          read = let q : w.read ≡ record_size * w.taken + h.more = h.read in
              let r : record_size + w.read ≡ record_size * suc w.taken + h.more = omega arith in
              r;
        }

    tried : (e : Entry) → record_answer bytes (latest_of s) ≡ Record.taken (kind_of e) (action_of e) (stamp_of e) → (n : ℕ) → (stepped_of s (entry_call e)).answer.refusal ≡ n
        → ((after : Session) → WalkedOver after (drop record_size bytes) budget (walk_answer (drop record_size bytes) (on after)))
        → WalkedOver s bytes (suc budget) (walk_answer bytes (walked_by (one_call s (entry_call e) n) s on))
    tried e read zero z k = unfold one_call walked_by in (one-taken e read z (on (stepped_of s (entry_call e)).session) (k (stepped_of s (entry_call e)).session))
    tried e read (suc n) z k = unfold one_call walked_by in (stop_here (Stopping.at_refusal (suc n)) 0 (some_left, inr (e, read, z), (λ y. omega arith), refl))

    by_front : (x : ReadAs) → Front record_answer bytes (latest_of s) x → ((after : Session) → WalkedOver after (drop record_size bytes) budget (walk_answer (drop record_size bytes) (on after)))
        → WalkedOver s bytes (suc budget) (walk_answer bytes (walked_by (one_read s x) s on))
    by_front x (entry e read) k = unfold one_read in (tried e read _ refl k)
    by_front x (ended read) k = unfold one_read walked_by in (stop_here Stopping.at_end record_size (some_left, read, refl, refl))
    by_front x (refused n number some) k =
        unfold one_read walked_by in (stop_here (Stopping.at_refusal n) 0 (some_left, inl number, some, refl))

-- Of the promised walk: refusal 10, whatever the budget, or that.
-- "a budget of 0 to 4,096 records (more counts as 4,096)"
most : (budget : ℕ) → budget_of budget ≡ min budget 4_096
most budget = go (ltb 4_096 budget) refl
  where
    go : (t : Bool) → ltb 4_096 budget ≡ t → cond t 4_096 budget ≡ min budget 4_096
    go true e = omega (arith, ltb-true 4_096 budget e)
    go false e = omega (arith, ltb-false 4_096 budget e)

pub walk-over : (s : Session) (bytes : List ℕ) (budget : ℕ) → out_of_range s ≡ false → WalkedOver s bytes (min budget 4_096) (walk_of s bytes budget)
walk-over s bytes budget e =
    subst (λ (n : ℕ). WalkedOver s bytes n (walk_of s bytes budget)) (most budget)
    (subst (WalkedOver s bytes (budget_of budget)) (sym (walk-taken s bytes budget e)) (walked-over (budget_of budget) s bytes))

pub walk_named : (s : Session) (bytes : List ℕ) (budget : ℕ) → out_of_range s ≡ true
    → walk_of s bytes budget ≡ record { taken = 0; stop = 2; refusal = 10; read = 0; lost = 0; session = s }
walk_named = walk_refused

pub walk_rest : (s : Session) (bytes : List ℕ) (budget : ℕ) → rest_start (length bytes) (walk_of s bytes budget).read ≡ (walk_of s bytes budget).read
walk_rest = rest_behind
