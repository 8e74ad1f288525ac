-- How the judge's parts come together.
use Prim.Native.Nat.{ℕ, zero, suc, ◌+◌, ◌*◌, ◌≤◌, ◌<◌}
use mathlib.Core.Path.{◌≡◌, refl, sym, ◌∙◌, ap, subst}
use mathlib.Core.Bool.{Bool, cond}
use mathlib.Core.List.{List}
use native.Mathlib.Omega.{arith}
use lib.ListN.{length}
use lib.Dec.{ltb}
use borrow.Author.Tests.{lt-ltb, le-ltb}
use Rattle.meaning.specs.Node.{verdict_number}
use Rattle.meaning.specs.Matcher.{Lengths}
use Rattle.meaning.specs.Numbers.{property_refusal}
use Rattle.meaning.specs.Step.{Cuts}
use Rattle.outcomes.specs.declared.Verdict.{Verdict}
use Rattle.outcomes.specs.Numbers.{verdict_meant, number_told}
use Rattle.property.specs.Meant.{meant}
use Rattle.property.specs.declared.Property.{Property}
use Rattle.property.proofs.Refusal.{taken_bounds}
use Rattle.property_form.specs.Form.{form_size}
use Rattle.property_form.specs.Read.{PropertyRead, property_read, read, read_refusal, taken}
use Rattle.property_form.proofs.Answers.{refusal-read, property_of_read, read_good, taken-all}
use Rattle.rows.specs.declared.Span.{Span}
use Rattle.rows.specs.Rows.{Within, Room}
use Rattle.cuts.specs.Steps.{fresh_by, verdict_by}
use Rattle.session_record.specs.declared.Session.{Session}
use Rattle.session_record.specs.declared.Stepped.{Stepped}
use Rattle.session_record.specs.Record.{rows_of, record_of}
use Rattle.session_record.specs.Lent.{Memory, memory, held_in, record_in, Ready}
use Rattle.session_record.specs.Step.{fresh_of, stepping_in, standing}
use Rattle.session_record.proofs.Ready.{ready-stands, fresh_means, fresh-ready}
use Rattle.walk.specs.Walk.{Stopping, Walk, walk_on}
use Rattle.stretch.specs.Judge.{Judging, refused, ended, by_stop, trace_judged, by_property, judge_of, in_one, one_number}

-- The judgement, by what the walk over the trace came to, on rows that mean a fresh session.
module _ (p : Property) (trace : List ℕ) (s : Session) (e : s ≡ record_of p (fresh_by p)) (w : Walk) (h : walk_on (length trace) s trace ≡ w) where
  judged_by : trace_judged p trace ≡ by_stop w.stop (ltb w.read (length trace)) w
  judged_by =
      ap (λ (x : Walk). by_stop x.stop (ltb x.read (length trace)) x)
      (ap (λ (x : Session). walk_on (length trace) x trace) (sym e) ∙ h)

  -- each way to stop
  stopped_by : (stop : Stopping) → w.stop ≡ stop → trace_judged p trace ≡ by_stop stop (ltb w.read (length trace)) w
  stopped_by stop q = judged_by ∙ ap (λ (x : Stopping). by_stop x (ltb w.read (length trace)) w) q

  pub judged_budget : w.stop ≡ Stopping.at_budget → trace_judged p trace ≡ refused 7
  unfolding by_stop
  judged_budget q = stopped_by Stopping.at_budget q

  pub judged-refused : (n : ℕ) → w.stop ≡ Stopping.at_refusal n → trace_judged p trace ≡ refused n
  unfolding by_stop
  judged-refused n q = stopped_by (Stopping.at_refusal n) q

  pub judged-behind : w.stop ≡ Stopping.at_end → w.read < length trace → trace_judged p trace ≡ refused 8
  unfolding by_stop
  judged-behind q lt = stopped_by Stopping.at_end q ∙ ap (λ (t : Bool). ended t w) (lt-ltb w.read (length trace) lt)

  pub judged-ended : w.stop ≡ Stopping.at_end → length trace ≤ w.read → ◌≡◌ {A = Judging} (trace_judged p trace) (record { refusal = 0; verdict = standing w.session; count = w.taken })
  unfolding by_stop
  judged-ended q le = stopped_by Stopping.at_end q ∙ ap (λ (t : Bool). ended t w) (le-ltb w.read (length trace) le)

-- the property first
pub property-refused : (property trace : List ℕ) (r : PropertyRead) → r ≡ read property → (r.refusal ≡ 0 → ⊥) → judge_of property trace ≡ refused r.refusal
unfolding judge_of
property-refused property trace r e h =
    ap (λ (n : ℕ). by_property n (ltb (taken property) (length property)) (trace_judged (read property).property trace)) (sym (ap (λ (x : PropertyRead). x.refusal) e))
    ∙ by_number r.refusal h
  where
    by_number : (n : ℕ) → (n ≡ 0 → ⊥) → by_property n (ltb (taken property) (length property)) (trace_judged (read property).property trace) ≡ refused n
    by_number zero k = absurd (k refl)
    by_number (suc n) k = unfold by_property in refl

module _ (property trace : List ℕ) (r : PropertyRead) (e : r ≡ read property) (z : r.refusal ≡ 0) where
  by_taken : judge_of property trace ≡ cond (ltb (taken property) (length property)) (refused 8) (trace_judged (read property).property trace)
  unfolding judge_of
  by_taken =
      ap (λ (n : ℕ). by_property n (ltb (taken property) (length property)) (trace_judged (read property).property trace)) (sym (ap (λ (x : PropertyRead). x.refusal) e) ∙ z)
      ∙ shown
    where
      shown : by_property 0 (ltb (taken property) (length property)) (trace_judged (read property).property trace)
          ≡ cond (ltb (taken property) (length property)) (refused 8) (trace_judged (read property).property trace)
      shown = unfold by_property in refl

  -- what was read is a property that no refusal names
  pub taken_good : property_refusal (meant r.property) ≡ 0
  taken_good = read_good property r e z

  pub taken-few : r.property.n < 64
  taken-few = omega (arith, (taken_bounds r.property taken_good).most)

  -- its bytes are as many as its length says
  taken-size : taken property ≡ form_size r.property.n
  unfolding property_read
  taken-size =
      let none : read_refusal property ≡ 0 = sym (refusal-read property) ∙ sym (ap (λ (x : PropertyRead). x.refusal) e) ∙ z in
      taken-all property none ∙ ap (λ (q : Property). form_size q.n) (sym (ap (λ (x : PropertyRead). x.property) e ∙ property_of_read property none))

  -- bytes behind the property, or none
  pub bytes-behind : (size : ℕ) → size ≡ form_size r.property.n → size < length property → judge_of property trace ≡ refused 8
  bytes-behind size d h =
      by_taken
      ∙ ap (λ (t : Bool). cond t (refused 8) (trace_judged (read property).property trace))
      (ap (λ (m : ℕ). ltb m (length property)) (taken-size ∙ sym d) ∙ lt-ltb size (length property) h)

  pub nothing_behind : (size : ℕ) → size ≡ form_size r.property.n → length property ≤ size → judge_of property trace ≡ trace_judged r.property trace
  nothing_behind size d h =
      by_taken
      ∙ ap (λ (t : Bool). cond t (refused 8) (trace_judged (read property).property trace))
      (ap (λ (m : ℕ). ltb m (length property)) (taken-size ∙ sym d) ∙ le-ltb size (length property) h)
      ∙ ap (λ (x : PropertyRead). trace_judged x.property trace) (sym e)

-- What is lent of a fresh session.
module _ (p : Property) (good : property_refusal (meant p) ≡ 0) (r : Stepped) (e : stepping_in r ≡ fresh_of p) (q : Property) (own : q ≡ p)
    (rows : List (List ℕ)) (same : rows ≡ rows_of r.session) where
  pub fresh_begins : record_in (memory q rows r.session.shared.status) ≡ record_of p (fresh_by p)
  fresh_begins =
      ap (λ (x : Property). record_in (memory x rows r.session.shared.status)) own
      ∙ fresh_means p good (stepping_in r) e rows same

  pub fresh_lends : ((span : Span) → Within span → Room rows span) → Ready (memory q rows r.session.shared.status)
  fresh_lends rooms =
      subst (λ (x : Property). Ready (memory x rows r.session.shared.status)) (sym own) (fresh-ready p good (stepping_in r) e rows same rooms)

-- The verdict that stands on what is lent is that of the record that is made of it.
pub standing_lent : (m : Memory) → Ready m → (v : Verdict) → verdict_meant v ≡ verdict_by m.property (held_in m) → number_told v ≡ standing (record_in m)
unfolding standing
standing_lent m ready v e = ap verdict_number e ∙ ap (λ (c : Cuts Lengths). verdict_number (verdict_by m.property c)) (sym (ready-stands m ready))

-- the one number
pub one-long : (j : Judging) → 16_383 < j.count → 9 * 65_536 ≡ one_number j
unfolding one_number
one-long j h = sym (ap (λ (t : Bool). cond t (in_one 9 0 0) (in_one j.refusal j.verdict j.count)) (lt-ltb 16_383 j.count h))

pub one_short : (j : Judging) → j.count ≤ 16_383 → j.refusal * 65_536 + j.verdict * 16_384 + j.count ≡ one_number j
unfolding one_number
one_short j h = sym (ap (λ (t : Bool). cond t (in_one 9 0 0) (in_one j.refusal j.verdict j.count)) (le-ltb 16_383 j.count h))
