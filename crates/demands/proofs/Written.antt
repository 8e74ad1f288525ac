-- Writing record by record with the promised writer leaves exactly a trace's packing.
use Prim.Native.Nat.{ℕ, suc, ◌+◌, ◌-◌, ◌*◌, ◌≤◌}
use mathlib.Core.Path.{◌≡◌, sym, ◌∙◌, ap, ap₂}
use mathlib.Core.List.{List, [], ◌∷◌, ◌++◌, append_assoc}
use native.Mathlib.Omega.{arith}
use native.Mathlib.Nat.{sub_self}
use lib.ListN.{length, take, drop, length-drop}
use lib.Seq.{take_at, drop-drop}
use Rattle.meaning.proofs.Refusals.{unless_taken}
use Rattle.record_form.specs.Record.{record_size, write_refusal, record_form, written}
use Rattle.record_form.specs.Record
use Rattle.trace_form.specs.Trace.{Entry, kind_of, action_of, stamp_of, trace_form, CanBeWritten}
use Rattle.record_form.proofs.Writing.{length-record_form, is_writable}
use Rattle.record_form.proofs.RoundTrip.{write_none, in_room}
use Rattle.demands.specs.Traces.{written_through}

-- one record into a buffer with room for it
one_written : (kind action stamp before : ℕ) (buffer : List ℕ) → write_refusal kind action stamp before record_size ≡ 0 → record_size ≤ length buffer
    → written kind action stamp before buffer ≡ record_form kind action (stamp - before) ++ drop record_size buffer
unfolding written
one_written kind action stamp before buffer e room =
    unless_taken (write_refusal kind action stamp before (length buffer)) (record_form kind action (stamp - before) ++ drop record_size buffer) buffer
    (write_none (in_room (is_writable kind action stamp before record_size e) room))

pub written_trace : (before : ℕ) (entries : List Entry) (buffer : List ℕ) → CanBeWritten before entries → record_size * suc (length entries) ≤ length buffer
    → written_through before entries buffer ≡ trace_form before entries ++ drop (record_size * suc (length entries)) buffer
unfolding written_through trace_form
written_trace before [] buffer can room =
    one_written Record.end 0 before before buffer can (omega arith)
    ∙ ap (λ (n : ℕ). record_form Record.end 0 n ++ drop record_size buffer) (sub_self before)
written_trace before (e ∷ entries) buffer can room =
    ap₂ ◌++◌
    (ap (take record_size) (one_written (kind_of e) (action_of e) (stamp_of e) before buffer can.0 (omega arith))
    ∙ take_at (record_form (kind_of e) (action_of e) (stamp_of e - before)) (drop record_size buffer) record_size
    (length-record_form (kind_of e) (action_of e) (stamp_of e - before)))
    (written_trace (stamp_of e) entries (drop record_size buffer) can.1 (omega (arith, length-drop record_size buffer))
    ∙ ap (λ (l : List ℕ). trace_form (stamp_of e) entries ++ l)
    (drop-drop (record_size * suc (length entries)) record_size buffer
    ∙ ap (λ (n : ℕ). drop n buffer) (let q : record_size + record_size * suc (length entries) ≡ record_size * suc (suc (length entries)) = omega arith in q)))
    ∙ sym (append_assoc (record_form (kind_of e) (action_of e) (stamp_of e - before)) (trace_form (stamp_of e) entries) _)
