-- Traces: what was written reads back as it was given, and whatever is taken as a trace is exactly what is written for it,
-- so that only one packing of each trace is taken.
use Prim.Native.Nat.{ℕ, ◌-◌}
use mathlib.Core.Path.{◌≡◌, refl, sym, ◌∙◌, ap, ap₂, subst}
use mathlib.Core.List.{List, [], ◌∷◌, ◌++◌, append-nil}
use native.Mathlib.Omega.{arith}
use native.Mathlib.Nat.{sub_self}
use lib.ListN.{drop, take-append-drop}
use lib.Dec.{lit≤}
use lib.Seq.{drop_at}
pub use Rattle.laws.proofs.Bytes.{Bytes-drop}
use Rattle.record_form.specs.Record
use Rattle.record_form.specs.Record.{Reader, RecordAnswer, taken, record_answer, Bytes, record_form}
use Rattle.trace_form.specs.Trace.{Entry, kind_of, action_of, stamp_of, trace_form, CanBeWritten, TakenBy, TakenAs}
use Rattle.record_form.proofs.Writing.{length-record_form, is_writable}
use Rattle.record_form.proofs.RoundTrip.{form_is_read, read_is_writable, read_is_form, write_none, in_room}

-- Whatever is taken as a trace is exactly what is written for it.
pub trace_writes_back : (s : List ℕ) (before : ℕ) (trace : List Entry) → Bytes s → TakenAs s before trace
    → (s ≡ trace_form before trace) × CanBeWritten before trace
unfolding trace_form
trace_writes_back s before [] b h =
    let w = read_is_writable s before Record.end 0 before h.0 in
    let f = read_is_form s before Record.end 0 before h.0 b in (
      sym (take-append-drop 6 s)
          ∙ ap₂ (λ (x y : List ℕ). x ++ y) (f ∙ ap (record_form Record.end 0) (sub_self before)) h.1
          ∙ append-nil (record_form Record.end 0 0),
      write_none (in_room w (lit≤ tt)),
    )
trace_writes_back s before (e ∷ trace) b h =
    let w = read_is_writable s before (kind_of e) (action_of e) (stamp_of e) h.0 in
    let f = read_is_form s before (kind_of e) (action_of e) (stamp_of e) h.0 b in
    let r = trace_writes_back (drop 6 s) (stamp_of e) trace (Bytes-drop 6 s b) h.1 in
    (sym (take-append-drop 6 s) ∙ ap₂ (λ (x y : List ℕ). x ++ y) f r.0, (write_none (in_room w (lit≤ tt)), r.1))

-- What was written reads back as it was given.
pub trace_reads_back : (before : ℕ) (trace : List Entry) → CanBeWritten before trace → TakenAs (trace_form before trace) before trace
unfolding trace_form
trace_reads_back before [] w = (
  subst (λ (l : List ℕ). record_answer l before ≡ taken Record.end 0 before)
      (append-nil (record_form Record.end 0 (before - before)) ∙ ap (record_form Record.end 0) (sub_self before))
      (form_is_read Record.end 0 before before 6 (is_writable _ _ _ _ _ w) []),
  subst (λ (l : List ℕ). drop 6 l ≡ []) (append-nil (record_form Record.end 0 0))
      (drop_at (record_form Record.end 0 0) [] 6 (length-record_form Record.end 0 0)),
)
trace_reads_back before (e ∷ trace) w = (
  form_is_read (kind_of e) (action_of e) (stamp_of e) before 6 (is_writable _ _ _ _ _ w.0) (trace_form (stamp_of e) trace),
  subst (λ (l : List ℕ). TakenAs l (stamp_of e) trace)
      (sym (drop_at (record_form (kind_of e) (action_of e) (stamp_of e - before)) (trace_form (stamp_of e) trace) 6 (length-record_form _ _ _)))
      (trace_reads_back (stamp_of e) trace w.1),
)

-- So only one packing of each trace is taken.
pub trace_one_packing : (s t : List ℕ) (before : ℕ) (trace : List Entry) → Bytes s → Bytes t
    → TakenAs s before trace → TakenAs t before trace → s ≡ t
trace_one_packing s t before trace bs bt hs ht =
    (trace_writes_back s before trace bs hs).0 ∙ sym (trace_writes_back t before trace bt ht).0

-- And bytes are taken as one trace at most, by whatever reader.
same-entry : (e f : Entry) → taken (kind_of e) (action_of e) (stamp_of e) ≡ taken (kind_of f) (action_of f) (stamp_of f) → e ≡ f
same-entry (Entry.input a t) (Entry.input b u) h = ap₂ Entry.input (ap (λ (x : RecordAnswer). x.action) h) (ap (λ (x : RecordAnswer). x.stamp) h)
same-entry (Entry.input a t) (Entry.output b u) h = let z : ⊥ = omega (arith, ap (λ (x : RecordAnswer). x.kind) h) in absurd z
same-entry (Entry.input a t) (Entry.gap n u) h = let z : ⊥ = omega (arith, ap (λ (x : RecordAnswer). x.kind) h) in absurd z
same-entry (Entry.output a t) (Entry.input b u) h = let z : ⊥ = omega (arith, ap (λ (x : RecordAnswer). x.kind) h) in absurd z
same-entry (Entry.output a t) (Entry.output b u) h = ap₂ Entry.output (ap (λ (x : RecordAnswer). x.action) h) (ap (λ (x : RecordAnswer). x.stamp) h)
same-entry (Entry.output a t) (Entry.gap n u) h = let z : ⊥ = omega (arith, ap (λ (x : RecordAnswer). x.kind) h) in absurd z
same-entry (Entry.gap m t) (Entry.input b u) h = let z : ⊥ = omega (arith, ap (λ (x : RecordAnswer). x.kind) h) in absurd z
same-entry (Entry.gap m t) (Entry.output b u) h = let z : ⊥ = omega (arith, ap (λ (x : RecordAnswer). x.kind) h) in absurd z
same-entry (Entry.gap m t) (Entry.gap n u) h = ap₂ Entry.gap (ap (λ (x : RecordAnswer). x.action) h) (ap (λ (x : RecordAnswer). x.stamp) h)

not_end : (e : Entry) → (action stamp : ℕ) → taken (kind_of e) (action_of e) (stamp_of e) ≡ taken Record.end action stamp → ⊥
not_end (Entry.input a t) action stamp h = omega (arith, ap (λ (x : RecordAnswer). x.kind) h)
not_end (Entry.output a t) action stamp h = omega (arith, ap (λ (x : RecordAnswer). x.kind) h)
not_end (Entry.gap m t) action stamp h = omega (arith, ap (λ (x : RecordAnswer). x.kind) h)

pub taken_as_one : (size : ℕ) (reader : Reader) (s : List ℕ) (before : ℕ) (trace other : List Entry) → TakenBy size reader s before trace → TakenBy size reader s before other
    → trace ≡ other
taken_as_one size reader s before [] [] h k = refl
taken_as_one size reader s before [] (f ∷ other) h k = absurd (not_end f 0 before (sym k.0 ∙ h.0))
taken_as_one size reader s before (e ∷ trace) [] h k = absurd (not_end e 0 before (sym h.0 ∙ k.0))
taken_as_one size reader s before (e ∷ trace) (f ∷ other) h k =
    let same : e ≡ f = same-entry e f (sym h.0 ∙ k.0) in
    ap₂ (λ (x : Entry) (l : List Entry). x ∷ l) same
    (taken_as_one size reader (drop size s) (stamp_of e) trace other h.1
    (subst (λ (x : Entry). TakenBy size reader (drop size s) (stamp_of x) other) (sym same) k.1))
