-- What a record did, and what that leads to.
use Prim.Native.Nat.{ℕ, zero, suc, ◌-◌, ◌≤◌}
use mathlib.Core.Path.{◌≡◌, refl, sym, ◌∙◌, ap, ap₂, subst}
use mathlib.Core.Bool.{cond}
use mathlib.Core.List.{List}
use native.Mathlib.Omega.{arith}
use lib.ListN.{length, take, drop, length-drop}
use lib.Dec.{eqb}
use lib.Seq.{take_all}
use Rattle.meaning.specs.Calls.{Call}
use Rattle.record_form.specs.Record.{RecordAnswer, RecordRead, record_size, record_answer, gap, numbers, IsRead}
use Rattle.trace_form.specs.ReadAs.{ReadAs, case_as}
use Rattle.trace_form.proofs.ReadAs.{read_known, read_whole, fields_read}
use Rattle.session_record.specs.declared.Session.{Session}
use Rattle.session_record.specs.Step.{Stepping, stepped_of}
use Rattle.session_record.specs.Record.{latest_of}
use Rattle.session_record.specs.Lent.{Memory, record_in, Ready}
use Rattle.session_record.proofs.Steps.{step_refused, answer-refusal}
use Rattle.one_record.specs.Doing.{Doing, by_answer, doing_of, session_after}
use Rattle.one_record.specs.Takes.{Takes}
use Rattle.walk.specs.Walk.{Stopping, Walk, One, one_call, one_read, one_of, stopped, one_more, walked_by, lost_with}

-- What a record that did this leads to, with the session after it; `more` is the walk over the bytes behind it.
unfoldable pub did_by : Doing → Session → Session → (Session → Walk) → Walk
did_by (Doing.took c a) s after more = one_more (more after)
did_by Doing.ended s after more = stopped s Stopping.at_end record_size
did_by (Doing.refused n) s after more = stopped s (Stopping.at_refusal n) 0

-- The last taken gap's number of lost lines behind a call, and before it.
abbrev pub next_lost : Call → ℕ → ℕ
next_lost (Call.line l) lost = lost
next_lost (Call.mark g) lost = g.lost

-- The session stays unless the record was taken, and a record that was read is there. What is taken goes on with its own number of lost lines.
abbrev pub Leaves : Doing → Session → Session → List ℕ → Type 0
Leaves (Doing.took c a) s after bytes = (record_size ≤ length bytes) × ((lost : ℕ) → next_lost c lost ≡ lost_with lost bytes)
Leaves Doing.ended s after bytes = (after ≡ s) × (record_size ≤ length bytes)
Leaves (Doing.refused n) s after bytes = after ≡ s

pub record Turned (m : Memory) (bytes : List ℕ) (did : Doing) (after : Memory) : Type 0 where
  pub leads : (more : Session → Walk) → walked_by (one_of (record_in m) bytes) (record_in m) more ≡ did_by did (record_in m) (record_in after) more
  pub leaves : Leaves did (record_in m) (record_in after) bytes
  pub ready : Ready after

-- what a refused call leaves: the session as it was
pub refused_stays : (s : Session) (c : Call) (n : ℕ) → (stepped_of s c).answer.refusal ≡ suc n → (stepped_of s c).session ≡ s
refused_stays s c n e = ap (λ (r : Stepping). r.session) (step_refused s c (suc n) (sym (answer-refusal s c) ∙ e) (λ z. omega arith))

-- ---- what the record at the front stands for

module _ (m : Memory) (bytes : List ℕ) (r : RecordRead) (h : IsRead bytes (latest_of (record_in m)) r) where
  abbrev s : Session
  s = record_in m

  -- the arm of a `match` knows the case
  pub one_known : (x : RecordRead) → r ≡ x → one_of s bytes ≡ one_read s (case_as x)
  one_known x e = ap (one_read s) (read_known h e)

  pub whole_record : (x : RecordRead) → r ≡ x → (numbers x).refusal ≡ 0 → record_size ≤ length bytes
  whole_record x e z = read_whole h (ap (λ (y : RecordRead). (numbers y).refusal) e ∙ z)

  -- a record that is a call, which is taken or refused
  call-turned : (c : Call) (x : RecordRead) → r ≡ x → case_as x ≡ ReadAs.call c → (numbers x).refusal ≡ 0
      → ((lost : ℕ) → next_lost c lost ≡ cond (eqb (numbers x).kind gap) (numbers x).action lost)
      → (after : Memory) → record_in after ≡ (stepped_of s c).session → Ready after
      → Turned m bytes (by_answer c (stepped_of s c).answer.refusal (stepped_of s c).answer) after
  call-turned c x e k z last after same ready = go (stepped_of s c).answer.refusal refl
    where
      tried : one_read s (ReadAs.call c) ≡ one_call s c (stepped_of s c).answer.refusal
      tried = unfold one_read in refl

      -- the record is the one at the front of the bytes
      front : record_answer bytes (latest_of s) ≡ numbers x
      front = sym h.in_numbers ∙ ap numbers e

      numbered : (lost : ℕ) → next_lost c lost ≡ lost_with lost bytes
      numbered lost =
          let f = fields_read bytes (latest_of s) (ap (λ (y : RecordAnswer). y.refusal) front ∙ z) in
          last lost
          ∙ ap (λ (y : RecordAnswer). cond (eqb y.kind gap) y.action lost) (sym front)
          ∙ ap₂ (λ (k n : ℕ). cond (eqb k gap) n lost) f.0 f.1

      one : (n : ℕ) → (stepped_of s c).answer.refusal ≡ n → one_of s bytes ≡ one_call s c n
      one n q = one_known x e ∙ ap (one_read s) k ∙ tried ∙ ap (one_call s c) q

      go : (n : ℕ) → (stepped_of s c).answer.refusal ≡ n → Turned m bytes (by_answer c n (stepped_of s c).answer) after
      go zero q =
          unfold by_answer in
          record {
            leads = λ more. ap (λ (o : One). walked_by o s more) (one zero q) ∙ unfold one_call walked_by did_by in (ap (λ (y : Session). one_more (more y)) (sym same));
            leaves = (whole_record x e z, numbered);
            ready = ready;
          }
      go (suc n) q =
          unfold by_answer in
          record {
            leads = λ more. ap (λ (o : One). walked_by o s more) (one (suc n) q) ∙ unfold one_call walked_by did_by in refl;
            leaves = same ∙ refused_stays s c n q;
            ready = ready;
          }

  -- what the record did
  read-turned : (did : Doing) (after : Memory) → Takes m (case_as r) did after → Turned m bytes did after
  read-turned did after led = subst (λ (d : Doing). Turned m bytes d after) (sym led.did) (go r refl led.session)
    where
      go : (x : RecordRead) → r ≡ x → record_in after ≡ session_after s (case_as x) → Turned m bytes (doing_of s (case_as x)) after
      go (RecordRead.input_read action stamp) e same = call-turned _ (RecordRead.input_read action stamp) e refl refl (λ lost. refl) after same led.ready
      go (RecordRead.output_read action stamp) e same = call-turned _ (RecordRead.output_read action stamp) e refl refl (λ lost. refl) after same led.ready
      go (RecordRead.gap_read number stamp) e same = call-turned _ (RecordRead.gap_read number stamp) e refl refl (λ lost. refl) after same led.ready
      go (RecordRead.end_read stamp) e same =
          record {
            leads = λ more. ap (λ (o : One). walked_by o s more) (one_known (RecordRead.end_read stamp) e) ∙ unfold one_read walked_by did_by in refl;
            leaves = (same, whole_record (RecordRead.end_read stamp) e refl);
            ready = led.ready;
          }
      go (RecordRead.refused_read number) e same =
          record {
            leads = λ more. ap (λ (o : One). walked_by o s more) (one_known (RecordRead.refused_read number) e) ∙ unfold one_read walked_by did_by in refl;
            leaves = same;
            ready = led.ready;
          }

-- The same, of the part of the trace that the code lends.
pub record-turned : {m after : Memory} (bytes : List ℕ) (at : ℕ) {read : RecordRead} {did : Doing}
    → IsRead (take (length bytes - at) (drop at bytes)) (latest_of (record_in m)) read → Takes m (case_as read) did after → Turned m (drop at bytes) did after
record-turned {m} {after} bytes at {did = did} h led =
    subst (λ (l : List ℕ). Turned m l did after) (take_all (length bytes - at) (drop at bytes) (omega (arith, length-drop at bytes)))
    (read-turned m _ _ h did after led)
