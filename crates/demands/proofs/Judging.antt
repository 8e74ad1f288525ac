-- The judge, from its bytes to its numbers.
use Prim.Native.Nat.{ℕ, zero, suc, ◌-◌, ◌/◌, ◌%◌, ◌≤◌}
use mathlib.Core.Path.{◌≡◌, refl, sym, ◌∙◌, ap, subst}
use mathlib.Core.Bool.{Bool, true, false, cond}
use mathlib.Core.List.{List, []}
use native.Mathlib.Omega.{arith}
use lib.ListN.{length}
use lib.Seq.{take_all}
use lib.Dec.{ltb}
use borrow.Author.Tests.{ltb-false}
use Rattle.meaning.specs.Node.{Verdict, verdict_number}
use Rattle.meaning.specs.Numbers.{given, first_of, property_refusal}
use Rattle.meaning.specs.Calls.{fresh, watched, AllTaken, Standing}
use Rattle.meaning.proofs.Refusals.{none_first, first_of-none}
use Rattle.property.specs.Meant.{meant}
use Rattle.property.specs.declared.Property.{Property}
use Rattle.property_form.specs.Form.{property_form}
use Rattle.property_form.specs.Read.{read, read_refusal, property_read}
use Rattle.property_form.specs.Read
use Rattle.property_form.proofs.Answers.{refusal-read, not-refused, property_of_read}
use Rattle.property_form.proofs.RoundTrip.{form-read}
use Rattle.record_form.specs.Record.{Bytes}
use Rattle.trace_form.specs.Trace.{Entry, trace_form, TakenAs}
use Rattle.trace_form.proofs.Trace.{trace_writes_back}
use Rattle.session_record.specs.declared.Session.{Session}
use Rattle.session_record.specs.Record.{latest_of, record_of}
use Rattle.session_record.specs.Step.{standing, stepped_through}
use Rattle.session_record.proofs.Running.{fresh_record}
use Rattle.cuts.specs.Steps.{fresh_by}
use Rattle.walk.specs.Walk.{Stopping, Walk, stop_number, stop_refusal, walk_on, walk_answer}
use Rattle.stretch.specs.Judge.{Judging, refused, by_stop, walked, trace_judged, by_property, judge_of, one_number}
use Rattle.stretch.proofs.Bounds.{judge_small}
use Rattle.stretch.proofs.Judging.{one_short}
use Rattle.demands.specs.Traces.{calls_of, behind, StopsBy, first_met}
use Rattle.demands.proofs.Running.{running, all-taken}
use Rattle.demands.proofs.Exact.{standing-told}
use Rattle.demands.proofs.Walks.{WalkedOver, walked-over}
use Rattle.demands.proofs.Judged.{TakenWhole, whole_trace, judged-first}

module _ (p : Property) (good : property_refusal (meant p) ≡ 0) (trace : List ℕ) where
  -- the judge walks over the trace on a fresh session
  on_fresh : walked p trace ≡ walk_on (length trace) (running p good []) trace
  unfolding stepped_through
  on_fresh = ap (λ (s : Session). walk_on (length trace) s trace) (sym (fresh_record p good))

  trace_first : (trace_judged p trace).refusal ≡ first_met (length trace) (meant p) fresh trace
  unfolding watched
  trace_first = ap (λ (w : Walk). (by_stop w.stop (ltb w.read (length trace)) w).refusal) on_fresh ∙ judged-first p good (length trace) [] trace

  -- what the judge takes of a trace
  record TraceTaken : Type 0 where
    whole : TakenWhole (running p good []) trace (walked p trace)
    is : trace_judged p trace ≡ record { refusal = 0; verdict = standing (walked p trace).session; count = (walked p trace).taken }

  trace_taken : (trace_judged p trace).refusal ≡ 0 → TraceTaken
  trace_taken e = go (walked p trace).stop refl (ltb (walked p trace).read (length trace)) refl e
    where
      w : Walk
      w = walked p trace

      refused-some : (n : ℕ) → WalkedOver (record_of p (fresh_by p)) trace (length trace) (walk_answer trace w) → w.stop ≡ Stopping.at_refusal n → n ≡ 0 → ⊥
      refused-some n h q =
          (subst (λ (x : Stopping). StopsBy (stop_number x) (length trace - w.taken) w.session (behind h.entries trace) (stop_refusal x) h.more) q h.stops).2

      go : (stop : Stopping) → w.stop ≡ stop → (behind : Bool) → ltb w.read (length trace) ≡ behind → (trace_judged p trace).refusal ≡ 0 → TraceTaken
      go Stopping.at_budget q b r z =
          let y : ◌≡◌ {A = ℕ} 7 0 = sym (ap (λ (x : Stopping). (by_stop x (ltb w.read (length trace)) w).refusal) q ∙ (unfold by_stop in refl)) ∙ z in
          let o : ⊥ = omega arith in absurd o
      go (Stopping.at_refusal n) q b r z =
          let y : n ≡ 0 = sym (ap (λ (x : Stopping). (by_stop x (ltb w.read (length trace)) w).refusal) q ∙ (unfold by_stop in refl)) ∙ z in
          absurd (refused-some n (walked-over (length trace) (record_of p (fresh_by p)) trace) q y)
      go Stopping.at_end q true r z =
          let y : ◌≡◌ {A = ℕ} 8 0 = sym ((λ i. (by_stop (q i) (r i) w).refusal) ∙ (unfold by_stop in refl)) ∙ z in
          let o : ⊥ = omega arith in absurd o
      go Stopping.at_end q false r z =
          record {
            whole = whole_trace (length trace) (running p good []) trace w (sym on_fresh) q (ltb-false w.read (length trace) r);
            is = (λ i. by_stop (q i) (r i) w) ∙ (unfold by_stop in refl);
          }

-- ---- the property first

module _ (property trace : List ℕ) where
  abbrev p : Property
  p = property_read property

  abbrev behind_it : Bool
  behind_it = ltb (Read.taken property) (length property)

  taken_good : read_refusal property ≡ 0 → property_refusal (meant p) ≡ 0
  taken_good e = not-refused property e

  -- judged: the property's refusal, bytes behind it, the trace
  judged_is : (n : ℕ) → read_refusal property ≡ n → judge_of property trace ≡ by_property n behind_it (trace_judged (read property).property trace)
  unfolding judge_of
  judged_is n e = ap (λ (m : ℕ). by_property m behind_it (trace_judged (read property).property trace)) (refusal-read property ∙ e)

  by_taken : (b : Bool) → behind_it ≡ b → by_property 0 behind_it (trace_judged (read property).property trace) ≡ cond b (refused 8) (trace_judged (read property).property trace)
  unfolding by_property
  by_taken b e = ap (λ (t : Bool). cond t (refused 8) (trace_judged (read property).property trace)) e

  judged_trace : read_refusal property ≡ 0 → behind_it ≡ false → judge_of property trace ≡ trace_judged p trace
  judged_trace e b =
      judged_is 0 e
      ∙ by_taken false b
      ∙ ap (λ (q : Property). trace_judged q trace) (property_of_read property e)

  -- it is the first refusal met
  pub judge_first : (judge_of property trace).refusal
      ≡ first_of (read_refusal property) (first_of (given 8 behind_it) (first_met (length trace) (meant p) fresh trace))
  judge_first = go (read_refusal property) refl behind_it refl
    where
      go : (n : ℕ) → read_refusal property ≡ n → (b : Bool) → behind_it ≡ b
          → (judge_of property trace).refusal ≡ first_of n (first_of (given 8 b) (first_met (length trace) (meant p) fresh trace))
      go (suc n) e b q = ap (λ (j : Judging). j.refusal) (judged_is (suc n) e) ∙ (unfold by_property in refl)
      go zero e true q =
          ap (λ (j : Judging). j.refusal) (judged_is 0 e ∙ by_taken true q)
      go zero e false q = ap (λ (j : Judging). j.refusal) (judged_trace e q) ∙ trace_first p (taken_good e) trace

  -- What it takes: one property's whole packing and one trace's, of records that are taken from a fresh session; and the verdict.
  pub record JudgeTaken (j : Judging) : Type 0 where
    pub good : property_refusal (meant p) ≡ 0
    pub property-packed : property ≡ property_form (meant p)
    pub entries : List Entry
    pub trace_packed : trace ≡ trace_form 0 entries
    pub counted : j.count ≡ length entries
    pub each_taken : AllTaken (meant p) fresh (calls_of entries)
    pub verdict : Verdict
    pub stands : Standing (meant p) (watched (meant p) fresh (calls_of entries)) verdict
    pub only : (v : Verdict) → Standing (meant p) (watched (meant p) fresh (calls_of entries)) v → v ≡ verdict
    pub told : j.verdict ≡ verdict_number verdict

  pub judge_taken : Bytes property → Bytes trace → (judge_of property trace).refusal ≡ 0 → JudgeTaken (judge_of property trace)
  unfolding stepped_through watched
  judge_taken bp bt z =
      let parts = first_of-none (read_refusal property) (sym judge_first ∙ z) in
      let rest = none_first 7 behind_it parts.1 in
      let good : property_refusal (meant p) ≡ 0 = taken_good parts.0 in
      let same = judged_trace parts.0 rest.0 in
      let t = trace_taken p good trace (sym (ap (λ (j : Judging). j.refusal) same) ∙ z) in
      let w = t.whole in
      let v = standing-told p good (calls_of w.entries) in
      record {
        good = good;
        property-packed =
            sym (form-read property bp parts.0 ∙ take_all (Read.taken property) property (ltb-false (Read.taken property) (length property) rest.0));
        entries = w.entries;
        trace_packed = (trace_writes_back trace 0 w.entries bt (subst (λ (s : Session). TakenAs trace (latest_of s) w.entries) (fresh_record p good) w.is)).0;
        counted = ap (λ (j : Judging). j.count) (same ∙ t.is) ∙ w.counted;
        each_taken = all-taken p good [] (calls_of w.entries) w.each;
        verdict = v.0;
        stands = v.1;
        only = v.3;
        told = ap (λ (j : Judging). j.verdict) (same ∙ t.is) ∙ ap standing w.session ∙ v.2;
      }

-- "gives its number alone, with verdict and count 0"
stops_alone : (n : ℕ) (stop : Stopping) (b : Bool) (w : Walk) → (by_stop stop b w).refusal ≡ suc n → by_stop stop b w ≡ refused (suc n)
unfolding by_stop
stops_alone n Stopping.at_budget b w e = ap refused e
stops_alone n (Stopping.at_refusal m) b w e = ap refused e
stops_alone n Stopping.at_end true w e = ap refused e
stops_alone n Stopping.at_end false w e = let o : ⊥ = omega arith in absurd o

by_alone : (n m : ℕ) (b : Bool) (p : Property) (trace : List ℕ) → (by_property m b (trace_judged p trace)).refusal ≡ suc n → by_property m b (trace_judged p trace) ≡ refused (suc n)
unfolding by_property
by_alone n (suc m) b p trace e = ap refused e
by_alone n zero true p trace e = ap refused e
by_alone n zero false p trace e = stops_alone n (walked p trace).stop (ltb (walked p trace).read (length trace)) (walked p trace) e

pub judge_alone : (property trace : List ℕ) (n : ℕ) → (judge_of property trace).refusal ≡ suc n → judge_of property trace ≡ refused (suc n)
unfolding judge_of
judge_alone property trace n e = by_alone n (read property).refusal (ltb (Read.taken property) (length property)) (read property).property trace e

-- the C call's one number, taken apart
pub taken_apart : (property trace : List ℕ) → (judge_of property trace).count ≤ 16_383
    → (one_number (judge_of property trace) / 65_536 ≡ (judge_of property trace).refusal)
    × (one_number (judge_of property trace) / 16_384 % 4 ≡ (judge_of property trace).verdict)
    × (one_number (judge_of property trace) % 16_384 ≡ (judge_of property trace).count)
taken_apart property trace h =
    let j = judge_of property trace in
    let v = (judge_small property trace).verdict_small in
    (omega (arith, sym (one_short j h), v), omega (arith, sym (one_short j h), v), omega (arith, sym (one_short j h), v))
