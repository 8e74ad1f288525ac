-- Memory that a call can start from: what its rows hold, and what a call refused or taken leaves.
use Prim.Native.Nat.{ℕ, suc, ◌≤◌, ◌<◌}
use mathlib.Core.Path.{◌≡◌, sym, ◌∙◌, ap, subst}
use mathlib.Core.Bool.{Bool, true, false, true≢false, cond}
use mathlib.Core.List.{List}
use native.Mathlib.Omega.{arith}
use lib.ListN.{length}
use Rattle.laws.proofs.Places.{length-first, getD_first}
use Rattle.meaning.specs.Limits.{last_stamp}
use Rattle.meaning.specs.Matcher.{Lengths, none_of}
use Rattle.meaning.specs.Numbers.{property_refusal}
use Rattle.meaning.specs.Node.{Verdict}
use Rattle.meaning.specs.Calls.{Call}
use Rattle.meaning.specs.Calls
use Rattle.meaning.specs.Step.{Held, Front, Cuts}
use Rattle.meaning.proofs.InOrder.{InOrder, nothing, stamp_at, order-next, order-within}
use Rattle.property.specs.Meant.{meant}
use Rattle.property.specs.declared.Property.{Property}
use Rattle.rows.specs.declared.Span.{Span}
use Rattle.rows.specs.Rows.{word, Within, Room}
use Rattle.cuts.specs.Steps.{front_none, fresh_by, refusal_by, taken_by, told_by, says}
use Rattle.cuts.specs.Fronts.{held_at, front_of, Usable}
use Rattle.session_record.specs.declared.Session.{Session}
use Rattle.session_record.specs.Step.{Answer}
use Rattle.session_record.specs.Step.{Stepping}
use Rattle.session_record.specs.Record.{rows_of, span_of, cuts_of, record_of, out_of_range}
use Rattle.session_record.specs.Step.{answer_of, refusal_of, stepped_of, fresh_of}
use Rattle.session_record.specs.Lent.{Memory, memory, memory_of, held_in, record_in, tidied, Ready, Advanced}
use Rattle.session_record.proofs.Range.{ranged, ranged-within}
use Rattle.session_record.proofs.Fit.{Fit, fresh_fit, ranged_fit, taken_fit, cuts_back, in_range}
use Rattle.session_record.proofs.Steps.{step_refused, step_taken, answer-refusal, refusal-fits, fresh-taken}

-- ---- which memory is ready

-- The rows of a record that refusal 10 does not name.
pub fits-ready : (s : Session) → out_of_range s ≡ false → Room (rows_of s) (span_of s) → Ready (memory_of s)
fits-ready s e room = record { room = room; there = omega arith; ranged = ranged s e }

pub lent-ready : (s : Session) → out_of_range s ≡ false → (rows : List (List ℕ)) → rows ≡ rows_of s → ((span : Span) → Within span → Room rows span)
    → Ready (memory s.property rows s.shared.status)
lent-ready s e rows same rooms =
    subst (λ (x : List (List ℕ)). Ready (memory s.property x s.shared.status)) (sym same)
    (fits-ready s e (subst (λ (x : List (List ℕ)). Room x (span_of s)) same (rooms (span_of s) (ranged s e).within)))

-- While blind,
pub blind-ready : (m : Memory) → property_refusal (meant m.property) ≡ 0 → Room m.rows m.status.span → 3 < length m.rows → m.status.span.count ≡ 0
    → m.status.clock.blind ≡ true → m.status.clock.latest ≤ last_stamp → Ready m
blind-ready m good room there none b limit =
    record {
      room = room;
      there = there;
      ranged =
          record {
            formed = good;
            within = room.within;
            rising = λ i h. let z : ⊥ = omega arith in absurd z;
            last = λ i h. let z : ⊥ = omega arith in absurd z;
            none_blind = λ h. none;
            limit = limit;
            fits = λ h i l. absurd (true≢false (sym b ∙ h));
          };
    }

-- and while a run is open, from what the rows hold.
pub open_ready : (m : Memory) → Usable m.property m.rows m.status.span 0 → m.status.clock.blind ≡ false → Fit m.property (held_in m) → Ready m
open_ready m u b f =
    record {
      room = u.room;
      there = u.there;
      ranged =
          record {
            formed = u.formed;
            within = u.room.within;
            rising = λ i h. omega (arith, stamp i (omega arith), stamp (suc i) h, order-next (nothing none_of) order i (subst (λ (n : ℕ). suc i < n) (sym long) h));
            last = λ i h. omega (arith, stamp i (omega arith), order-within (nothing none_of) order i (subst (λ (n : ℕ). i < n) (sym long) (omega arith)));
            none_blind = λ h. absurd (true≢false (sym h ∙ b));
            limit = f.limit;
            fits = λ h. u.fits;
          };
    }
  where
    own : (held_in m).front ≡ front_of m.rows m.status.span 0
    own = ap (λ (x : Bool). cond x (front_none m.property) (front_of m.rows m.status.span 0)) b

    order : InOrder 0 (front_of m.rows m.status.span 0).held m.status.clock.latest
    order = subst (λ (x : Front Lengths). InOrder 0 x.held m.status.clock.latest) own f.order

    long : length (front_of m.rows m.status.span 0).held ≡ m.status.span.count
    long = length-first (held_at m.rows m.status.span 0) m.status.span.count

    stamp : (i : ℕ) → i < m.status.span.count
        → stamp_at (nothing none_of) (front_of m.rows m.status.span 0).held i ≡ word m.rows m.status.span 0 i
    stamp i h = ap (λ (x : Held Lengths). x.line.stamp) (getD_first (held_at m.rows m.status.span 0) m.status.span.count i (nothing none_of) h)

module _ (m : Memory) (ready : Ready m) where
  abbrev p : Property
  p = m.property

  good : property_refusal (meant p) ≡ 0
  good = ready.ranged.formed

  pub ready_fit : Fit m.property (held_in m)
  ready_fit = ranged_fit m ready.ranged

  -- The record that is made of it stands for what it means, and refusal 10 does not name it.
  pub ready-stands : cuts_of (record_in m) ≡ held_in m
  ready-stands = cuts_back p good ready_fit

  pub ready-fits : out_of_range (record_in m) ≡ false
  ready-fits = in_range p good ready_fit

  -- What the rows hold while a run is open.
  pub open_usable : m.status.clock.blind ≡ false → Usable m.property m.rows m.status.span 0
  open_usable e =
      record {
        formed = good;
        room = ready.room;
        there = ready.there;
        stamps = λ i h. omega (arith, ranged-within m ready.ranged i h, ready.ranged.limit);
        fits = ready.ranged.fits e;
      }

  -- ---- what a call leaves

  number : (k : Call) → refusal_of (record_in m) k ≡ refusal_by p (held_in m) k
  number k = refusal-fits (record_in m) k ready-fits ∙ ap (λ (c : Cuts Lengths). refusal_by p c k) ready-stands

  -- refused: the number alone, and all as it was
  pub call-refused : (k : Call) (n : ℕ) → refusal_by m.property (held_in m) k ≡ n → (n ≡ 0 → ⊥) → Advanced m k (answer_of (Calls.refused n)) m
  call-refused k n e h = record { stepped = step_refused (record_in m) k n (number k ∙ e) h; ready = ready }

  -- taken: what the memory then holds is the session over cuts after the call
  pub call-taken : (k : Call) (a : Answer) (after : Memory) → after.property ≡ m.property
      → refusal_by m.property (held_in m) k ≡ 0
      → taken_by m.property (held_in m) k ≡ held_in after
      → a ≡ answer_of (told_by m.property (held_in m) k)
      → Ready after → Advanced m k a after
  call-taken k a after own e t told is_ready =
      record {
        stepped =
            step_taken (record_in m) k (number k ∙ e)
            ∙ ap (λ (c : Cuts Lengths). record { answer = answer_of (told_by p c k); session = record_of p (taken_by p c k) }) ready-stands
            ∙ (λ i. record { answer = sym told i; session = record_of (sym own i) (t i) });
        ready = is_ready;
      }

  pub taken-fits : (k : Call) → refusal_by m.property (held_in m) k ≡ 0 → Fit m.property (taken_by m.property (held_in m) k)
  taken-fits k e = taken_fit p good ready_fit k e

-- ---- a call on a record by value, and on its rows

-- The same refusal, and taken the same session. What is refused comes back as it was.
module _ (s : Session) (fits : out_of_range s ≡ false) (k : Call) where
  fit : Fit s.property (cuts_of s)
  fit = ranged_fit (memory_of s) (ranged s fits)

  stands : cuts_of (tidied s) ≡ cuts_of s
  stands = cuts_back s.property (ranged s fits).formed fit

  pub tidied-refusal : refusal_of (tidied s) k ≡ refusal_of s k
  tidied-refusal =
      refusal-fits (tidied s) k (in_range s.property (ranged s fits).formed fit)
      ∙ ap (λ (c : Cuts Lengths). refusal_by s.property c k) stands
      ∙ sym (refusal-fits s k fits)

  pub tidied-taken : refusal_of s k ≡ 0 → stepped_of (tidied s) k ≡ stepped_of s k
  tidied-taken e =
      step_taken (tidied s) k (tidied-refusal ∙ e)
      ∙ ap (λ (c : Cuts Lengths). record { answer = answer_of (told_by s.property c k); session = record_of s.property (taken_by s.property c k) }) stands
      ∙ sym (step_taken s k e)

  module _ (a : Answer) (after : Memory) (led : Advanced (memory_of s) k a after) where
    told : a.refusal ≡ refusal_of s k
    told = ap (λ (r : Stepping). r.answer.refusal) (sym led.stepped) ∙ answer-refusal (tidied s) k ∙ tidied-refusal

    pub by_value_taken : a.refusal ≡ 0 → record { answer = a; session = record_in after } ≡ stepped_of s k
    by_value_taken e = sym led.stepped ∙ tidied-taken (sym told ∙ e)

    pub by_value_refused : (a.refusal ≡ 0 → ⊥) → record { answer = answer_of (Calls.refused a.refusal); session = s } ≡ stepped_of s k
    by_value_refused h = sym (step_refused s k a.refusal (sym told) h)

-- ---- the rows of a fresh session

module _ (p : Property) (good : property_refusal (meant p) ≡ 0) (r : Stepping) (e : r ≡ fresh_of p) (rows : List (List ℕ)) (same : rows ≡ rows_of r.session) where
  abbrev pub fresh-memory : Memory
  fresh-memory = memory p rows r.session.shared.status

  taken : ◌≡◌ {A = Stepping} r (record { answer = answer_of (says p Verdict.clear 0); session = record_of p (fresh_by p) })
  taken = e ∙ fresh-taken p good

  pub fresh_means : record_in fresh-memory ≡ record_of p (fresh_by p)
  fresh_means =
      ap (λ (x : List (List ℕ)). record_in (memory p x r.session.shared.status)) same
      ∙ ap (λ (x : Stepping). record_in (memory p (rows_of x.session) x.session.shared.status)) taken
      ∙ ap (record_of p) (cuts_back p good (fresh_fit p))

  pub fresh-ready : ((span : Span) → Within span → Room rows span) → Ready fresh-memory
  fresh-ready rooms =
      subst (λ (q : Property). Ready (memory q rows r.session.shared.status)) (ap (λ (x : Stepping). x.session.property) taken)
      (lent-ready r.session (ap (λ (x : Stepping). out_of_range x.session) taken ∙ in_range p good (fresh_fit p)) rows same rooms)
