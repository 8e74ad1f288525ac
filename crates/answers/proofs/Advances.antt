-- Calls on memory that is ready: each leads to what the code leaves.
use Prim.Native.Nat.{ℕ, ◌+◌, ◌-◌, ◌≤◌, ◌<◌}
use mathlib.Core.Path.{◌≡◌, refl, sym, ◌∙◌, ap, subst}
use mathlib.Core.Bool.{Bool, true, false, cond}
use mathlib.Core.List.{List, []}
use Rattle.std.specs.Prelude.{Ok, Err}
use native.Mathlib.Nat.{add-zero}
use lib.ListN.{length}
use lib.Dec.{ltb}
use Rattle.meaning.specs.Limits.{last_action, most_open}
use Rattle.meaning.specs.Numbers.{given, first_of, property_refusal}
use Rattle.meaning.specs.Words.{Line}
use Rattle.meaning.specs.Node.{Verdict, verdict_number}
use Rattle.meaning.specs.Calls.{Call, mark_at, ticked, marked, stamp_refusal, beyond}
use Rattle.meaning.specs.Calls
use Rattle.meaning.specs.Matcher.{Lengths, at_start}
use Rattle.meaning.specs.Step.{Front, Cuts}
use Rattle.property.specs.Meant.{meant}
use Rattle.property.specs.declared.Property.{Property}
use Rattle.matcher.specs.Sets.{cut_of}
use Rattle.matcher.proofs.Words.{set_back, short_fits, start_short}
use Rattle.rows.specs.Rows.{none, Room}
use Rattle.rows.proofs.Rows.{room-none}
use Rattle.clock.specs.declared.Clock.{Clock}
use Rattle.clock.specs.Time.{clock_of, stored_clock}
use Rattle.held.specs.Held.{Closes}
use Rattle.cuts.specs.Steps.{line_of, front_after, front_fresh, front_none, verdict_by, refusal_by, told_by, says}
use Rattle.cuts.specs.Fronts.{with_cut, front_of, Holds}
use Rattle.cuts.proofs.Lines.{open_at-output, open_at-input, holds-one}
use Rattle.outcomes.specs.Numbers.{refusal_number, verdict_meant}
use Rattle.outcomes.specs.declared.Refusal.{Refusal}
use Rattle.outcomes.specs.declared.Verdict.{Verdict as Told-verdict}
use Rattle.outcomes.specs.declared.Verdict.TheVariants.{Blind}
use Rattle.outcomes.proofs.Same.{refusal_not_0}
use Rattle.session_record.specs.declared.Told.{Told}
use Rattle.session_record.specs.Step.{answer_in, answer_of}
use Rattle.session_record.specs.Lent.{Memory, memory, held_in, Ready, Advanced}
use Rattle.answers.specs.declared.Reply.{Reply}
use Rattle.answers.specs.Taken.{LineTaken}
use Rattle.session_record.proofs.Fit.{Fit}
use Rattle.session_record.proofs.Ready.{blind-ready, open_ready, call-refused, call-taken, taken-fits}
use Rattle.answers.proofs.Lines.{Comes, line_skipped, line_first, line-next, line_crowded}

-- Rows with the one cut of a run that has no line hold that run.
pub begun-holds : (p : Property) → property_refusal (meant p) ≡ 0 → (rows after : List (List ℕ)) → Room rows none → 3 < length rows
    → after ≡ with_cut rows none 0 0 (cut_of at_start) → Holds p (front_fresh p) after none 0
begun-holds p good rows after room there e =
    subst (λ (x : List (List ℕ)). Holds p (front_fresh p) x none 0) (sym e)
    (subst (λ (x : Lengths). Holds p (record { before = x; held = [] }) (with_cut rows none 0 0 (cut_of at_start)) none 0)
    (set_back p good at_start (start_short (meant p)))
    (holds-one p rows none 0 (cut_of at_start) good room there refl (short_fits p good at_start (start_short (meant p)))))

-- The call leads to these rows and what is given back beside them.
abbrev pub Leads : Memory → Call → List (List ℕ) → Reply → Type 0
Leads m k rows r = Advanced m k (answer_in (Ok r.told)) (memory m.property rows r.status)

module _ (m : Memory) (ready : Ready m) where
  abbrev p : Property
  p = m.property

  abbrev c : Cuts Lengths
  c = held_in m

  abbrev own : Front Lengths
  own = front_of m.rows m.status.span 0

  front_if : (b : Bool) → m.status.clock.blind ≡ b → c.front ≡ cond b (front_none p) own
  front_if b e = ap (λ (x : Bool). cond x (front_none p) own) e

  -- A call refused.
  pub refused_leads : (k : Call) (refusal : Refusal) → refusal_by p c k ≡ refusal_number refusal → Advanced m k (answer_in (Err refusal)) m
  refused_leads k refusal e = call-refused m ready k (refusal_number refusal) e (refusal_not_0 refusal)

  -- A call after which no run is open: the rows are as they were.
  blind_leads : (k : Call) (clock : Calls.Clock) → clock.is_blind ≡ true → Comes p c k (record { clock = clock; front = front_none p })
      → (t : Told) → answer_in (Ok t) ≡ answer_of (told_by p c k) → (r : Reply) → r ≡ record { told = t; status = record { span = none; clock = stored_clock clock } }
      → Leads m k m.rows r
  blind_leads k clock b w t told r q =
      subst (Leads m k m.rows) (sym q) (call-taken m ready k (answer_in (Ok t)) after refl w.none (w.taken ∙ held) told is_ready)
    where
      after : Memory
      after = memory p m.rows (record { span = none; clock = stored_clock clock })

      held : record { clock = clock; front = front_none p } ≡ held_in (memory p m.rows (record { span = none; clock = stored_clock clock }))
      held = ap (λ (x : Bool). record { clock = clock; front = cond x (front_none p) (front_of m.rows none 0) }) (sym b)

      is_ready : Ready (memory p m.rows (record { span = none; clock = stored_clock clock }))
      is_ready =
          blind-ready _ ready.ranged.formed (room-none m.rows m.status.span ready.room) ready.there refl b
          (subst (Fit p) w.taken (taken-fits m ready k w.none)).limit

  module _ (output : Bool) (action stamp n : ℕ) (number : n ≡ first_of (given 3 (ltb last_action action)) (stamp_refusal c.clock stamp)) (zero : n ≡ 0) where
    abbrev l : Line
    l = line_of output action stamp

    abbrev k : Call
    k = Call.line l

    comes_told : (after : Cuts Lengths) → Comes p c k after → answer_of (says p (verdict_by p after) (length after.front.held)) ≡ answer_of (told_by p c k)
    comes_told after w = ap (λ (x : Cuts Lengths). answer_of (says p (verdict_by p x) (length x.front.held))) (sym w.taken)

    -- a line skipped
    pub skipped_leads : c.clock.is_blind ≡ true → beyond (meant p) c.clock stamp ≡ false → (clock : Clock) → clock ≡ stored_clock (ticked c.clock l true) → (r : Reply)
        → r ≡ record { told = record { verdict = Blind; open_count = 0 }; status = record { span = none; clock = clock } } → Leads m k m.rows r
    skipped_leads e far clock t r q =
        let w = line_skipped p c output action stamp n number zero e far in
        blind_leads k (ticked c.clock l true) refl w _ (comes_told _ w) r
        (q ∙ ap (λ (x : Clock). record { told = record { verdict = Blind; open_count = 0 }; status = record { span = none; clock = x } }) t)

    -- a line of a run, taken
    run_leads : (f : Front Lengths) → Comes p c k (record { clock = ticked c.clock l false; front = f }) → (clock : Clock) → clock ≡ stored_clock (ticked c.clock l false)
        → (rows : List (List ℕ)) (r : Reply) → LineTaken p f clock rows r → Leads m k rows r
    run_leads f w clock t rows r y =
        call-taken m ready k (answer_in (Ok r.told)) (memory p rows r.status) refl w.none (w.taken ∙ held) (y.answered ∙ comes_told _ w)
        (open_ready (memory p rows r.status) y.holds.usable (ap (λ (x : Clock). x.blind) stamped) (subst (Fit p) (w.taken ∙ held) (taken-fits m ready k w.none)))
      where
        stamped : r.status.clock ≡ stored_clock (ticked c.clock l false)
        stamped = y.clocked ∙ t

        held : record { clock = ticked c.clock l false; front = f } ≡ held_in (memory p rows r.status)
        held = λ i. record { clock = clock_of (sym stamped i); front = cond (sym stamped i).blind (front_none p) (sym y.holds.front i) }

    -- the first of a run
    pub begun_leads : c.clock.is_blind ≡ true → beyond (meant p) c.clock stamp ≡ true → (clock : Clock) → clock ≡ stored_clock (ticked c.clock l false)
        → (rows : List (List ℕ)) (r : Reply) → LineTaken p (front_after p (front_fresh p) l) clock rows r → Leads m k rows r
    begun_leads e far clock t rows r y =
        run_leads (front_after p (front_fresh p) l) (line_first p c output action stamp n number zero e far) clock t rows r y

    -- one more line of the run, or no room for it
    module _ (e : c.clock.is_blind ≡ false) (d : ℕ) (closes : Closes p.ub m.rows m.status.span stamp d) where
      open_is : m.status.span.count - d + cond output 0 1 ≡ length (front_after p c.front l).held
      open_is = by_direction output refl ∙ ap (λ (f : Front Lengths). length (front_after p f l).held) (sym (front_if false e))
        where
          by_direction : (b : Bool) → output ≡ b → m.status.span.count - d + cond output 0 1 ≡ length (front_after p own l).held
          by_direction true q =
              ap (λ (b : Bool). m.status.span.count - d + cond b 0 1) q ∙ add-zero (m.status.span.count - d)
              ∙ open_at-output p m.rows m.status.span 0 action stamp d closes output q
          by_direction false q =
              ap (λ (b : Bool). m.status.span.count - d + cond b 0 1) q ∙ open_at-input p m.rows m.status.span 0 action stamp d closes output q

      pub crowded_is : most_open < m.status.span.count - d + cond output 0 1 → refusal_by p c k ≡ 6
      crowded_is h = line_crowded p c output action stamp n number zero e (subst (λ (x : ℕ). most_open < x) open_is h)

      pub next_leads : m.status.span.count - d + cond output 0 1 ≤ most_open → (clock : Clock) → clock ≡ stored_clock (ticked c.clock l false)
          → (rows : List (List ℕ)) (r : Reply) → LineTaken p (front_after p own l) clock rows r → Leads m k rows r
      next_leads h clock t rows r y =
          run_leads (front_after p c.front l) (line-next p c output action stamp n number zero e (subst (λ (x : ℕ). x ≤ most_open) open_is h)) clock t rows r
          (subst (λ (x : Front Lengths). LineTaken p (front_after p x l) clock rows r) (sym (front_if false e)) y)

  -- "It closes the run, its answer gives the closed run's verdict (3 if already blind), and the session is blind."
  module _ (lost stamp n : ℕ) (number : n ≡ first_of (given 3 (ltb last_action lost)) (stamp_refusal c.clock stamp)) (zero : n ≡ 0)
      (clock : Clock) (t : clock ≡ stored_clock (marked c.clock (record { lost = lost; stamp = stamp }))) where
    abbrev g : Call
    g = mark_at lost stamp

    pub mark_leads : (v : Told-verdict) → verdict_meant v ≡ verdict_by p c → (r : Reply)
        → r ≡ record { told = record { verdict = v; open_count = 0 }; status = record { span = none; clock = clock } } → Leads m g m.rows r
    mark_leads v e r q =
        blind_leads g (marked c.clock (record { lost = lost; stamp = stamp })) refl (record { none = sym number ∙ zero; taken = refl }) _
        (ap (λ (x : Verdict). record { refusal = 0; verdict = verdict_number x; open_count = 0 }) e) r
        (q ∙ ap (λ (x : Clock). record { told = record { verdict = v; open_count = 0 }; status = record { span = none; clock = x } }) t)
