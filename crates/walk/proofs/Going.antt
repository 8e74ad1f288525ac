-- A walk on its way: what has been taken and read so far, and what is left of the walk.
use Prim.Native.Nat.{ℕ, suc, ◌+◌, ◌-◌, ◌*◌, ◌≤◌, ◌<◌}
use mathlib.Core.Path.{◌≡◌, refl, sym, ◌∙◌, ap, ap₂, subst}
use mathlib.Core.Bool.{Bool, true, false, cond}
use mathlib.Core.List.{List}
use native.Mathlib.Omega.{arith}
use lib.ListN.{length, drop, length-drop}
use lib.Seq.{drop-drop}
use Rattle.record_form.specs.Record.{record_size}
use Rattle.meaning.specs.Calls.{Call}
use Rattle.session_record.specs.declared.Session.{Session}
use Rattle.session_record.specs.Step.{Answer}
use Rattle.session_record.specs.Record.{out_of_range}
use Rattle.session_record.specs.Lent.{Memory, record_in, Ready}
use Rattle.one_record.specs.Doing.{Doing}
use Rattle.walk.specs.Walk.{Stopping, Walk, one_of, stopped, one_more, walked_by, walk_on, lost_with, last_lost, walk_answer, budget_of, walk_of}
use Rattle.walk.specs.Lent.{HasGone}
use Rattle.walk.proofs.Dids.{did_by, next_lost, Turned}
use Rattle.walk.proofs.Lost.{last-next}

-- so many records and bytes before a walk
abbrev pub ahead : ℕ → ℕ → Walk → Walk
ahead taken read w = record { taken = taken + w.taken; stop = w.stop; read = read + w.read; session = w.session }

pub record Going (budget taken at : ℕ) (start now : Memory) (lost : ℕ) (bytes : List ℕ) : Type 0 where
  pub within : taken ≤ budget
  pub inside : at ≤ length bytes
  pub ready : Ready now
  pub same : walk_on budget (record_in start) bytes ≡ ahead taken at (walk_on (budget - taken) (record_in now) (drop at bytes))
  pub spaced : at ≡ record_size * taken
  pub number : lost ≡ last_lost 0 taken bytes

pub going_start : (budget : ℕ) (m : Memory) (bytes : List ℕ) → Ready m → Going budget 0 0 m m 0 bytes
unfolding last_lost
going_start budget m bytes h =
    record {
      within = omega arith;
      inside = omega arith;
      ready = h;
      same =
          let e : budget ≡ budget - 0 = omega arith in
          ap (λ (b : ℕ). walk_on b (record_in m) bytes) e ∙ none_ahead (walk_on (budget - 0) (record_in m) bytes);
      spaced = refl;
      number = refl;
    }
  where
    none_ahead : (w : Walk) → w ≡ ahead 0 0 w
    none_ahead w =
        let t : w.taken ≡ 0 + w.taken = omega arith in
        let r : w.read ≡ 0 + w.read = omega arith in
        λ i. record { taken = t i; stop = w.stop; read = r i; session = w.session }

module _ {budget taken at : ℕ} {start now : Memory} {lost : ℕ} {bytes : List ℕ} (g : Going budget taken at start now lost bytes) where
  -- the session before the next record, and the walk over the bytes behind it
  abbrev s : Session
  s = record_in now

  abbrev more : Session → Walk
  more x = walk_on (budget - (taken + 1)) x (drop record_size (drop at bytes))

  -- with budget left the walk is what the next record leads to
  next_record : {did : Doing} {after : Memory} → taken < budget → Turned now (drop at bytes) did after
      → walk_on budget (record_in start) bytes ≡ ahead taken at (did_by did s (record_in after) more)
  next_record {did} {after} left h =
      g.same
      ∙ ap (λ (b : ℕ). ahead taken at (walk_on b s (drop at bytes))) one_left
      ∙ ap (ahead taken at) (shown (budget - (taken + 1)) ∙ h.leads more)
    where
      one_left : budget - taken ≡ suc (budget - (taken + 1))
      one_left = omega arith

      shown : (b : ℕ) → walk_on (suc b) s (drop at bytes) ≡ walked_by (one_of s (drop at bytes)) s (λ x. walk_on b x (drop record_size (drop at bytes)))
      shown b = unfold walk_on in refl

  pub going_took : (c : Call) (a : Answer) (after : Memory) → taken < budget → Turned now (drop at bytes) (Doing.took c a) after
      → Going budget (taken + 1) (at + record_size) start after (next_lost c lost) bytes
  going_took c a after left h =
      record {
        within = omega arith;
        inside = omega (arith, h.leaves.0, length-drop at bytes, g.inside);
        ready = h.ready;
        same =
            next_record left h
            ∙ ap (ahead taken at) shown
            ∙ one_ahead (more (record_in after))
            ∙ ap (λ (l : List ℕ). ahead (taken + 1) (at + record_size) (walk_on (budget - (taken + 1)) (record_in after) l)) (drop-drop record_size at bytes);
        spaced = omega (arith, g.spaced);
        number =
            h.leaves.1 lost
            ∙ ap₂ (λ (n k : ℕ). lost_with n (drop k bytes)) g.number g.spaced
            ∙ last-next 0 taken bytes;
      }
    where
      shown : did_by (Doing.took c a) s (record_in after) more ≡ one_more (more (record_in after))
      shown = unfold did_by in refl

      one_ahead : (w : Walk) → ahead taken at (one_more w) ≡ ahead (taken + 1) (at + record_size) w
      one_ahead w =
          let t : taken + suc w.taken ≡ taken + 1 + w.taken = omega arith in
          let r : at + (record_size + w.read) ≡ at + record_size + w.read = omega arith in
          λ i. record { taken = t i; stop = w.stop; read = r i; session = w.session }

  stopped_ahead : (stop : Stopping) (read : ℕ) (after : Session) → after ≡ s
      → ahead taken at (stopped s stop read) ≡ record { taken = taken; stop = stop; read = at + read; session = after }
  stopped_ahead stop read after e =
      let t : taken + 0 ≡ taken = omega arith in
      λ i. record { taken = t i; stop = stop; read = at + read; session = sym e i }

  -- with no byte read more
  stopped_here : (stop : Stopping) (after : Session) → after ≡ s → ahead taken at (stopped s stop 0) ≡ record { taken = taken; stop = stop; read = at; session = after }
  stopped_here stop after e =
      let r : at + 0 ≡ at = omega arith in
      stopped_ahead stop 0 after e ∙ (λ i. record { taken = taken; stop = stop; read = r i; session = after })

  pub going_ended : (after : Memory) → taken < budget → Turned now (drop at bytes) Doing.ended after
      → HasGone budget start bytes taken Stopping.at_end (at + record_size) lost after
  going_ended after left h =
      record {
        walked = next_record left h ∙ ap (ahead taken at) shown ∙ stopped_ahead Stopping.at_end record_size (record_in after) h.leaves.0;
        within = omega (arith, h.leaves.1, length-drop at bytes, g.inside);
        number = g.number;
        ready = h.ready;
      }
    where
      shown : did_by Doing.ended s (record_in after) more ≡ stopped s Stopping.at_end record_size
      shown = unfold did_by in refl

  pub going_refused : (n : ℕ) (after : Memory) → taken < budget → Turned now (drop at bytes) (Doing.refused n) after
      → HasGone budget start bytes taken (Stopping.at_refusal n) at lost after
  going_refused n after left h =
      record {
        walked = next_record left h ∙ ap (ahead taken at) shown ∙ stopped_here (Stopping.at_refusal n) (record_in after) h.leaves;
        within = g.inside;
        number = g.number;
        ready = h.ready;
      }
    where
      shown : did_by (Doing.refused n) s (record_in after) more ≡ stopped s (Stopping.at_refusal n) 0
      shown = unfold did_by in refl

  pub going_done : budget ≤ taken → HasGone budget start bytes budget Stopping.at_budget at lost now
  going_done h =
      let e : budget - taken ≡ 0 = omega arith in
      let all : taken ≡ budget = omega arith in
      subst (λ (n : ℕ). HasGone budget start bytes n Stopping.at_budget at lost now) all
      (record {
        walked =
            g.same ∙ ap (λ (b : ℕ). ahead taken at (walk_on b s (drop at bytes))) e ∙ ap (ahead taken at) shown ∙ stopped_here Stopping.at_budget s refl;
        within = g.inside;
        number = g.number;
        ready = g.ready;
      })
    where
      shown : walk_on 0 s (drop at bytes) ≡ stopped s Stopping.at_budget 0
      shown = unfold walk_on in refl

-- ---- the public walk

-- refusal 10 first, whatever the budget
pub walk_refused : (s : Session) (bytes : List ℕ) (budget : ℕ) → out_of_range s ≡ true
    → walk_of s bytes budget ≡ record { taken = 0; stop = 2; refusal = 10; read = 0; lost = 0; session = s }
unfolding walk_of last_lost
walk_refused s bytes budget e = ap (λ (t : Bool). walk_answer bytes (cond t (stopped s (Stopping.at_refusal 10) 0) (walk_on (budget_of budget) s bytes))) e

pub walk-taken : (s : Session) (bytes : List ℕ) (budget : ℕ) → out_of_range s ≡ false → walk_of s bytes budget ≡ walk_answer bytes (walk_on (budget_of budget) s bytes)
unfolding walk_of
walk-taken s bytes budget e = ap (λ (t : Bool). walk_answer bytes (cond t (stopped s (Stopping.at_refusal 10) 0) (walk_on (budget_of budget) s bytes))) e
