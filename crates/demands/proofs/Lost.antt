-- Document 02, CR 7: "Say how many lines were lost", down to the numbers; and that no answer, verdict or session depends on it.
use Prim.Native.Nat.{ℕ, zero, suc, ◌+◌, ◌≤◌}
use mathlib.Core.Path.{◌≡◌, refl, sym, ◌∙◌, ap, ap₂, subst}
use mathlib.Core.Bool.{Bool, false, cond, not}
use mathlib.Core.List.Forall₂
use mathlib.Core.List.{List}
use native.Mathlib.Omega.{arith}
use lib.ListN.{length, drop, length-drop}
use lib.Dec.{ltb, eqb}
use borrow.Author.Tests.{le-ltb}
use Rattle.meaning.specs.Words.{Property}
use Rattle.meaning.specs.Numbers.{given, first_of}
use Rattle.meaning.specs.Calls.{Call, Watch, mark_at, stamp_refusal, refusal, taken as watch_taken, unless_refused, next, watched}
use Rattle.meaning.specs.Calls.{Answer, AnswerBy, IsAnswer}
use Rattle.meaning.specs.History.{stamp_of as call-stamp}
use Rattle.fields.specs.Fields.{field}
use Rattle.record_form.specs.Record.{RecordAnswer, record_size, record_answer, broken, stamp_above, fields_refusal, read_refusal, write_refusal}
use Rattle.record_form.specs.Record
use Rattle.trace_form.specs.ReadAs.{read_as}
use Rattle.trace_form.specs.Trace.{Entry, kind_of, action_of, stamp_of, entry_call}
use Rattle.record_form.proofs.Rules.{broken-none}
use Rattle.record_form.proofs.Reading.{taken-answer, refusal_of as number_of_lem}
use Rattle.trace_form.proofs.ReadAs.{entry_read}
use Rattle.trace_form.proofs.Reader.{reads_whole, record_reads}
use Rattle.session_record.specs.declared.Session.{Session}
use Rattle.session_record.specs.Step.{Stepping}
use Rattle.session_record.specs.Record.{latest_of, record_of, out_of_range}
use Rattle.session_record.specs.Step.{refusal_of, stepped_of, stepped_through}
use Rattle.session_record.proofs.Steps.{answer-refusal}
use Rattle.walk.specs.Walk.{Stopping, Walk, Walking, One, stop_number, stop_refusal, one_call, one_read, one_of, stopped, one_more, walked_by, walk_on, budget_of, some_gap, walk_of}
use Rattle.walk.proofs.Lost.{last_by_gap}
use Rattle.walk.proofs.Chunks.{GoesOnBy, chunks}
use Rattle.stretch.specs.Judge.{walked, by_stop, trace_judged, by_property, judge_of}
use Rattle.property.specs.declared.Property as Data
use Rattle.property_form.specs.Read.{read, taken}
use Rattle.cuts.specs.Steps.{fresh_by}
use Rattle.demands.specs.Traces.{BeginsWith, behind}
use Rattle.demands.specs.Lost.{last_gap, SameCall, SameCalls, SameEntries}
use Rattle.demands.proofs.Walks.{WalkedOver, entry-stamp, entry-latest, begun-lost}

-- ==== Reader and writer. "0 to 62 as it is, 63 for more or unknown": a gap is never refused for its number,
pub gap-read : (s : List ℕ) (before : ℕ) → field s 0 2 ≡ 2
    → (record_answer s before).refusal ≡ first_of (given 7 (ltb (length s) 6)) (given 4 (stamp_above (before + field s 8 40) before))
unfolding read_refusal fields_refusal
gap-read s before e = number_of_lem s before ∙ simp (broken-none (field s 0 2) (field s 2 6) (not (eqb (field s 8 40) 0)) (omega (arith, e)))

-- and taken, it is answered with the 6 bits of its action;
pub gap-number : (s : List ℕ) (before : ℕ) → field s 0 2 ≡ 2 → (record_answer s before).refusal ≡ 0
    → record_answer s before ≡ Record.taken 2 (field s 2 6) (before + field s 8 40)
gap-number s before e z =
    taken-answer s before (sym (number_of_lem s before) ∙ z) ∙ ap (λ (k : ℕ). Record.taken k (field s 2 6) (before + field s 8 40)) e

-- "a gap to be written with a number above 63 is refusal 3", and 8 is none of its refusals.
pub gap-written : (lost stamp before : ℕ) (buffer : List ℕ)
    → write_refusal 2 lost stamp before (length buffer)
    ≡ first_of (given 3 (ltb 63 lost)) (first_of (given 4 (stamp_above stamp before)) (first_of (given 5 (ltb stamp before)) (given 9 (ltb (length buffer) 6))))
unfolding write_refusal broken
gap-written lost stamp before buffer = refl

-- ==== The call that marks a gap, on any record: "above 63: refusal 3, in its place 10, 3, 4, 5".
pub demand_1_mark : (s : Session) (lost stamp : ℕ)
    → (stepped_of s (mark_at lost stamp)).answer.refusal
    ≡ first_of (given 10 (out_of_range s)) (first_of (given 3 (ltb 63 lost)) (first_of (given 4 (ltb 1_099_511_627_775 stamp)) (given 5 (ltb stamp (latest_of s)))))
unfolding refusal_of
demand_1_mark s lost stamp = answer-refusal s (mark_at lost stamp)

-- ==== "Verdicts, blindness and sessions do not depend on it". By the rules, what two such histories come to is the same,
same-refusal : (p : Property) (w : Watch) (lost other stamp : ℕ) → lost ≤ 63 → other ≤ 63
    → refusal p w (mark_at lost stamp) ≡ refusal p w (mark_at other stamp)
same-refusal p w lost other stamp h k =
    ap (λ (b : Bool). first_of (given 3 b) (stamp_refusal w.clock stamp)) (le-ltb 63 lost h ∙ sym (le-ltb 63 other k))

same_next : (p : Property) {c d : Call} → SameCall c d → (w : Watch) → next p w c ≡ next p w d
same_next p (SameCall.line l) w = refl
same_next p (SameCall.mark lost other stamp h k) w =
    ap (λ (n : ℕ). unless_refused n (watch_taken p w (mark_at lost stamp)) w) (same-refusal p w lost other stamp h k)

pub same-watched : (p : Property) {calls others : List Call} → SameCalls calls others → (w : Watch) → watched p w calls ≡ watched p w others
unfolding watched
same-watched p Forall₂.nil w = refl
same-watched p (Forall₂.cons {a = c} {b = d} {l₁ = calls} {l₂ = others} h rest) w = same-watched p rest (next p w c) ∙ ap (λ (x : Watch). watched p x others) (same_next p h w)

-- and what answers the one call answers the other.
pub same-told : (p : Property) {c d : Call} → SameCall c d → (w : Watch) (a : Answer) → IsAnswer p w c a → IsAnswer p w d a
same-told p (SameCall.line l) w a h = h
same-told p (SameCall.mark lost other stamp k l) w a h =
    go (refusal p w (mark_at other stamp))
    (subst (λ (n : ℕ). AnswerBy n p w (mark_at lost stamp) a) (same-refusal p w lost other stamp k l) h)
  where
    go : (n : ℕ) → AnswerBy n p w (mark_at lost stamp) a → AnswerBy n p w (mark_at other stamp) a
    go zero q = q
    go (suc n) q = q

-- Of the calls that run: on any record, also one that no calls made, answer and session are the same,
pub same_step : {c d : Call} → SameCall c d → (s : Session) → stepped_of s c ≡ stepped_of s d
unfolding stepped_of refusal_of
same_step (SameCall.line l) s = refl
same_step (SameCall.mark lost other stamp h k) s = simp (le-ltb 63 lost h, le-ltb 63 other k)

-- and so they are behind two such histories.
pub same_through : {calls others : List Call} → SameCalls calls others → (s : Session) → stepped_through s calls ≡ stepped_through s others
unfolding stepped_through
same_through Forall₂.nil s = refl
same_through (Forall₂.cons {a = c} {b = d} {l₁ = calls} {l₂ = others} h rest) s =
    same_through rest (stepped_of s c).session ∙ ap (λ (r : Stepping). stepped_through r.session others) (same_step h s)

pub same_answers : {calls others : List Call} {c d : Call} → SameCalls calls others → SameCall c d → (s : Session)
    → stepped_of (stepped_through s calls) c ≡ stepped_of (stepped_through s others) d
same_answers {calls} {others} {c} {d} h k s = same_step k (stepped_through s calls) ∙ ap (λ (x : Session). stepped_of x d) (same_through h s)

-- ==== Traces that differ in these numbers alone: the bytes begin with such records, and what stands behind them is the same.
same-stamp : {c d : Call} → SameCall c d → call-stamp c ≡ call-stamp d
same-stamp (SameCall.line l) = refl
same-stamp (SameCall.mark lost other stamp h k) = refl

entry-same : (e f : Entry) → SameCall (entry_call e) (entry_call f) → stamp_of e ≡ stamp_of f
entry-same e f h = sym (entry-stamp e) ∙ same-stamp h ∙ entry-stamp f

same-walk_on : (budget : ℕ) {entries others : List Entry} → SameEntries entries others → (s : Session) (bytes other : List ℕ)
    → BeginsWith bytes (latest_of s) entries → BeginsWith other (latest_of s) others → behind entries bytes ≡ behind others other
    → walk_on budget s bytes ≡ walk_on budget s other
unfolding walk_on
same-walk_on budget Forall₂.nil s bytes other h g e = ap (walk_on budget s) e
same-walk_on zero (Forall₂.cons one rest) s bytes other h g e = refl
same-walk_on (suc budget) (Forall₂.cons {a = e} {b = f} {l₁ = entries} {l₂ = others} one rest) s bytes other h g q =
    ap (λ (o : One). walked_by o s on) (is e bytes h.0)
    ∙ go (stepped_of s (entry_call e)).answer.refusal refl (λ after b o. same-walk_on budget rest after (drop record_size bytes) (drop record_size other) b o q)
    ∙ ap (λ (n : ℕ). walked_by (one_call s (entry_call f) n) s on') (ap (λ (r : Stepping). r.answer.refusal) same)
    ∙ sym (ap (λ (o : One). walked_by o s on') (is f other g.0))
  where
    on : Session → Walk
    on after = walk_on budget after (drop record_size bytes)

    on' : Session → Walk
    on' after = walk_on budget after (drop record_size other)

    is : (x : Entry) (l : List ℕ) → record_answer l (latest_of s) ≡ Record.taken (kind_of x) (action_of x) (stamp_of x)
        → one_of s l ≡ one_call s (entry_call x) (stepped_of s (entry_call x)).answer.refusal
    is x l k = ap (one_read s) (ap read_as k ∙ entry_read x) ∙ (unfold one_read in refl)

    same : stepped_of s (entry_call e) ≡ stepped_of s (entry_call f)
    same = same_step one s

    go : (n : ℕ) → (stepped_of s (entry_call e)).answer.refusal ≡ n
        → ((after : Session) → BeginsWith (drop record_size bytes) (latest_of after) entries → BeginsWith (drop record_size other) (latest_of after) others → on after ≡ on' after)
        → walked_by (one_call s (entry_call e) n) s on ≡ walked_by (one_call s (entry_call f) n) s on'
    go zero z ih =
        unfold one_call walked_by in
        (ap one_more
        (ih (stepped_of s (entry_call e)).session
        (subst (λ (t : ℕ). BeginsWith (drop record_size bytes) t entries) (sym (entry-latest s e z)) h.1)
        (subst (λ (t : ℕ). BeginsWith (drop record_size other) t others) (sym (entry-latest s e z ∙ entry-same e f one)) g.1)
        ∙ ap (λ (r : Stepping). on' r.session) same))
    go (suc n) z ih = unfold one_call walked_by in refl

-- A walk takes as many of them, stops in the same way and at the same byte, and leaves the same session: all of its answer but the number
-- itself.
pub same-walk : {entries others : List Entry} → SameEntries entries others → (s : Session) (bytes other : List ℕ) (budget : ℕ)
    → BeginsWith bytes (latest_of s) entries → BeginsWith other (latest_of s) others → behind entries bytes ≡ behind others other
    → let w : Walking = walk_of s other budget in
    walk_of s bytes budget
    ≡ record {
      taken = w.taken;
      stop = w.stop;
      refusal = w.refusal;
      read = w.read;
      lost = (walk_of s bytes budget).lost;
      session = w.session;
    }
unfolding walk_of
same-walk same s bytes other budget h g e =
    ap (λ (u : Walk).
    record {
      taken = u.taken;
      stop = stop_number u.stop;
      refusal = stop_refusal u.stop;
      read = u.read;
      lost = (walk_of s bytes budget).lost;
      session = u.session;
    })
    (ap (cond (out_of_range s) (stopped s (Stopping.at_refusal 10) 0)) (same-walk_on (budget_of budget) same s bytes other h g e))

-- So it is with the judge: refusal, verdict and count are the same.
same_size : {entries others : List Entry} → SameEntries entries others → (bytes other : List ℕ) (before : ℕ) → BeginsWith bytes before entries → BeginsWith other before others
    → behind entries bytes ≡ behind others other → length bytes ≡ length other
same_size Forall₂.nil bytes other before h g e = ap length e
same_size (Forall₂.cons {a = e} {b = f} {l₁ = entries} {l₂ = others} one rest) bytes other before h g q =
    let b = reads_whole record_reads bytes before (ap (λ (a : RecordAnswer). a.refusal) h.0) in
    let o = reads_whole record_reads other before (ap (λ (a : RecordAnswer). a.refusal) g.0) in
    let r = same_size rest (drop record_size bytes) (drop record_size other) (stamp_of e) h.1 (subst (λ (t : ℕ). BeginsWith (drop record_size other) t others) (sym (entry-same e f one)) g.1) q in
    omega (arith, b, o, r, length-drop record_size bytes, length-drop record_size other)

pub same_judge : (property : List ℕ) {entries others : List Entry} → SameEntries entries others → (trace other : List ℕ) → BeginsWith trace 0 entries → BeginsWith other 0 others
    → behind entries trace ≡ behind others other → judge_of property trace ≡ judge_of property other
unfolding judge_of
same_judge property same trace other h g e = ap (by_property (read property).refusal (ltb (taken property) (length property))) (judged (read property).property)
  where
    size : length trace ≡ length other
    size = same_size same trace other 0 h g e

    judged : (p : Data.Property) → trace_judged p trace ≡ trace_judged p other
    judged p =
        let w : walked p trace ≡ walked p other =
        same-walk_on (length trace) same (record_of p (fresh_by p)) trace other h g e ∙ ap (λ (n : ℕ). walk_on n (record_of p (fresh_by p)) other) size in
        ap₂ (λ (x : Walk) (n : ℕ). by_stop x.stop (ltb x.read n) x) w size

-- ==== Two walks, the second over the first's rest, and the one walk of both budgets: all numbers are the sum or the second's. The number of
-- lost lines is the second's if it took a gap, else the first's; so it is that of the second's records, going on from the first's number.
pub record Demand-joined (v w one : Walking) (rest : List ℕ) : Type 0 where
  pub joined : one
      ≡ record {
        taken = v.taken + w.taken;
        stop = w.stop;
        refusal = w.refusal;
        read = v.read + w.read;
        lost = cond (some_gap w.taken rest) w.lost v.lost;
        session = w.session;
      }
  pub goes_on : {budget : ℕ} (o : WalkedOver v.session rest budget w) → one.lost ≡ last_gap v.lost o.entries

pub demand_joined : (b₁ b₂ : ℕ) (s : Session) (bytes : List ℕ) → b₁ + b₂ ≤ 4_096 → out_of_range s ≡ false → GoesOnBy (walk_of s bytes b₁).stop b₂
    → let v : Walking = walk_of s bytes b₁ in
    Demand-joined v (walk_of v.session (drop v.read bytes) b₂) (walk_of s bytes (b₁ + b₂)) (drop v.read bytes)
demand_joined b₁ b₂ s bytes few fits g =
    let v : Walking = walk_of s bytes b₁ in
    let w : Walking = walk_of v.session (drop v.read bytes) b₂ in
    let e = chunks b₁ b₂ s bytes few fits g in
    record { joined = e; goes_on = λ o. ap (λ (x : Walking). x.lost) e ∙ going v w (drop v.read bytes) o }
  where
    going : (v w : Walking) (rest : List ℕ) {budget : ℕ} (o : WalkedOver v.session rest budget w)
        → cond (some_gap w.taken rest) w.lost v.lost ≡ last_gap v.lost o.entries
    going v w rest o =
        let read = begun-lost rest (latest_of v.session) o.entries o.begins in
        ap₂ (λ (n lost : ℕ). cond (some_gap n rest) lost v.lost) o.counted (o.lost ∙ sym (read 0))
        ∙ sym (last_by_gap v.lost (length o.entries) rest)
        ∙ read v.lost
