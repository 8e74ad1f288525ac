-- The record's two round trips: what was written reads back as it was given, and whatever the reader takes is exactly what
-- the writer writes for it.
use Prim.Native.Nat.{ℕ, ◌+◌, ◌-◌, ◌^◌, ◌<◌, ◌≤◌}
use mathlib.Core.Bool.{Bool, true, false}
use mathlib.Core.Path.{◌≡◌, refl, sym, ◌∙◌, ap, ap₂}
use mathlib.Core.List.{List, ◌++◌}
use native.Mathlib.Omega.{arith}
use lib.ListN.{length, take, drop, length-append}
use lib.Seq.{drop_at}
use denote.Ref.{Bor}
use lib.Dec.{eqb, lit≤}
use borrow.Author.Tests.{le-ltb, eq-eqb, ne_eqb, eqb-true, eqb-false, not-false}
use Rattle.fields.specs.Fields.{field}
use Rattle.fields.specs.Rest.{Rest}
use Rattle.record_form.specs.Record.{RecordAnswer, RecordRead, taken, fields_refusal, read_refusal, record_answer, numbers, IsRead, bytes_read, write_refusal, Bytes, record_form, written, IsWritten}
use Rattle.record_form.proofs.Rules.{within}
use Rattle.record_form.proofs.Reading.{Readable, unbroken, is_taken, taken-answer, refusal_of, size-taken}
use Rattle.fields.proofs.Laws.{field_lt}
use Rattle.record_form.proofs.Parts.{form-kind, form-action, form_third, three_form}
use Rattle.record_form.proofs.Writing.{length-record_form, Writable, is_writable, written-form}

-- ---- the two ways to say that the stamp field is not 0
other_stamp : (stamp before : ℕ) → before ≤ stamp → eqb (stamp - before) 0 ≡ eqb stamp before
other_stamp stamp before h = go (eqb stamp before) refl
  where
    go : (b : Bool) → eqb stamp before ≡ b → eqb (stamp - before) 0 ≡ b
    go true e = let q : stamp ≡ before = eqb-true stamp before e in eq-eqb (stamp - before) 0 (omega arith)
    go false e = ne_eqb (stamp - before) 0 (λ q. eqb-false stamp before e (omega arith))

-- ---- no refusal, from what it rules out
read_none : {s : List ℕ} {before : ℕ} → Readable s before → read_refusal s before ≡ 0
unfolding read_refusal fields_refusal
read_none t = simp (le-ltb _ _ t.size, t.sound, t.in_range)

pub write_none : {kind action stamp before room : ℕ} → Writable kind action stamp before room → write_refusal kind action stamp before room ≡ 0
unfolding write_refusal
write_none w = simp (w.sound, le-ltb _ _ w.action_fits, w.in_range, le-ltb _ _ w.not-below, le-ltb _ _ w.fits)

module _ (kind action stamp before room : ℕ) (w : Writable kind action stamp before room) (rest : List ℕ) where
  bounds : (kind < 4) × (action < 64) × (stamp - before < 2 ^ 40) × (before + (stamp - before) ≡ stamp)
  bounds =
      let k = (unbroken _ _ _ w.sound).0 in
      let r = within _ _ w.in_range in
      let a = w.action_fits in
      let b = w.not-below in
      (omega arith, omega arith, omega arith, omega arith)

  abbrev form_and_rest : List ℕ
  form_and_rest = record_form kind action (stamp - before) ++ rest

  kind_back : field form_and_rest 0 2 ≡ kind
  unfolding record_form
  kind_back = form-kind 40 kind action (stamp - before) rest bounds.0

  action_back : field form_and_rest 2 6 ≡ action
  unfolding record_form
  action_back = form-action 40 kind action (stamp - before) rest bounds.1

  less_back : field form_and_rest 8 40 ≡ stamp - before
  unfolding record_form
  less_back = form_third 40 kind action (stamp - before) rest bounds.2

  form-taken : Readable form_and_rest before
  form-taken =
      record {
        size = omega (arith, length-append (record_form kind action (stamp - before)) rest, length-record_form kind action (stamp - before));
        sound = rw (kind_back, action_back, less_back, other_stamp stamp before w.not-below) w.sound;
        in_range = rw (less_back, bounds.3) w.in_range;
      }

  pub form_unrefused : read_refusal form_and_rest before ≡ 0
  form_unrefused = read_none form-taken

  pub form_is_read : record_answer form_and_rest before ≡ taken kind action stamp
  form_is_read =
      taken-answer form_and_rest before form_unrefused ∙ rw (kind_back, action_back, less_back, bounds.3)

pub in_room : {kind action stamp before room other : ℕ} → Writable kind action stamp before room → 6 ≤ other → Writable kind action stamp before other
in_room w h =
    record { sound = w.sound; action_fits = w.action_fits; in_range = w.in_range; not-below = w.not-below; fits = h }

-- "Fields are whole bits": six bytes are the form of their three fields.
fields_form : (s : List ℕ) → Bytes s → 6 ≤ length s → record_form (field s 0 2) (field s 2 6) (field s 8 40) ≡ take 6 s
unfolding record_form
fields_form s b h = three_form 40 s b h (lit≤ tt)

module _ (s : List ℕ) (before kind action stamp : ℕ) (e : record_answer s before ≡ taken kind action stamp) where
  unrefused : read_refusal s before ≡ 0
  unrefused = sym (refusal_of s before) ∙ ap (λ (a : RecordAnswer). a.refusal) e

  values : taken (field s 0 2) (field s 2 6) (before + field s 8 40) ≡ taken kind action stamp
  values = sym (taken-answer s before unrefused) ∙ e

  is_kind : field s 0 2 ≡ kind
  is_kind = ap (λ (a : RecordAnswer). a.kind) values

  is_action : field s 2 6 ≡ action
  is_action = ap (λ (a : RecordAnswer). a.action) values

  is_less : field s 8 40 ≡ stamp - before
  is_less = omega (arith, ap (λ (a : RecordAnswer). a.stamp) values)

  pub size-read : 6 ≤ length s
  size-read = (is_taken s before unrefused).size

  -- What the reader takes the writer writes: it refuses nothing of it.
  pub read_is_writable : Writable kind action stamp before (length s)
  read_is_writable =
      let t = is_taken s before unrefused in
      let sum : before + field s 8 40 ≡ stamp = ap (λ (a : RecordAnswer). a.stamp) values in
      let below : before ≤ stamp = omega arith in
      record {
        sound = rw (← other_stamp stamp before below, ← is_kind, ← is_action, ← is_less) t.sound;
        action_fits = omega (arith, field_lt s 2 6, is_action);
        in_range = rw (← sum) t.in_range;
        not-below = below;
        fits = t.size;
      }

  -- "an end with action or stamp field not 0 (so its stamp is the one before)"
  pub end-stamp : kind ≡ 3 → (action ≡ 0) × (stamp ≡ before)
  end-stamp h =
      let u = unbroken _ _ _ read_is_writable.sound in
      (u.1 h, eqb-true stamp before (not-false _ (u.2 h)))

  pub read_is_form : Bytes s → take 6 s ≡ record_form kind action (stamp - before)
  read_is_form b = sym (fields_form s b size-read) ∙ rw (is_kind, is_action, is_less)

-- ---- The two round trips, over the rules.

-- What was written reads back as it was given, with the rest right behind it, whatever the buffer held.
pub written_reads_back : (kind action stamp before : ℕ) (buffer : List ℕ)
    → write_refusal kind action stamp before (length buffer) ≡ 0
    → (record_answer (written kind action stamp before buffer) before ≡ taken kind action stamp)
    × (bytes_read (written kind action stamp before buffer) before ≡ 6)
    × (drop 6 (written kind action stamp before buffer) ≡ drop 6 buffer)
written_reads_back kind action stamp before buffer e =
    let w = is_writable kind action stamp before (length buffer) e in
    let form = record_form kind action (stamp - before) in
    rw (written-form kind action stamp before buffer e) (
      form_is_read kind action stamp before (length buffer) w (drop 6 buffer),
      size-taken (form ++ drop 6 buffer) before (form_unrefused kind action stamp before (length buffer) w (drop 6 buffer)),
      drop_at form (drop 6 buffer) 6 (length-record_form kind action (stamp - before)),
    )

-- Whatever the reader takes is exactly what the writer writes for it, into any buffer that is long enough.
pub read_writes_back : (s : List ℕ) (before kind action stamp : ℕ) (buffer : List ℕ) → Bytes s → 6 ≤ length buffer
    → record_answer s before ≡ taken kind action stamp
    → (write_refusal kind action stamp before (length buffer) ≡ 0)
    × (written kind action stamp before buffer ≡ take 6 s ++ drop 6 buffer)
read_writes_back s before kind action stamp buffer b h e =
    let n = write_none (in_room (read_is_writable s before kind action stamp e) h) in
    (n, written-form kind action stamp before buffer n ∙ ap (λ (l : List ℕ). l ++ drop 6 buffer) (sym (read_is_form s before kind action stamp e b)))

-- ---- The same in the words of the calls' promises.
pub write_then_read : {kind action stamp before : ℕ} {buffer : List ℕ} {x : RecordRead} {s r : Bor (List ℕ)}
    → IsWritten kind action stamp before buffer s.now 0 → IsRead s.now before x → Rest (bytes_read s.now before) s r
    → (numbers x ≡ taken kind action stamp) × (r.ref_ptr ≡ (s.ref_ptr.0, s.ref_ptr.1 + 6)) × (r.now ≡ drop 6 buffer)
write_then_read {kind} {action} {stamp} {before} {buffer} {x} {s} {r} w h p =
    let t = written_reads_back kind action stamp before buffer (sym w.number) in
    let n : bytes_read s.now before ≡ 6 = ap (λ (l : List ℕ). bytes_read l before) w.bytes ∙ t.1 in (
      h.in_numbers ∙ ap (λ (l : List ℕ). record_answer l before) w.bytes ∙ t.0,
      p.place ∙ ap (λ (k : ℕ). (s.ref_ptr.0, s.ref_ptr.1 + k)) n,
      p.bytes ∙ ap₂ (λ (k : ℕ) (l : List ℕ). drop k l) n w.bytes ∙ t.2,
    )

pub read_then_write : {s : List ℕ} {before kind action stamp number : ℕ} {buffer after : List ℕ} {x : RecordRead} → Bytes s
    → IsRead s before x → numbers x ≡ taken kind action stamp → 6 ≤ length buffer
    → IsWritten kind action stamp before buffer after number → (number ≡ 0) × (after ≡ take 6 s ++ drop 6 buffer)
read_then_write b h e l w =
    let t = read_writes_back _ _ _ _ _ _ b l (sym h.in_numbers ∙ e) in
    (w.number ∙ t.0, w.bytes ∙ t.1)

-- So only one packing of each record is taken.
pub record_one_packing : (s t : List ℕ) (before kind action stamp : ℕ) → Bytes s → Bytes t
    → record_answer s before ≡ taken kind action stamp → record_answer t before ≡ taken kind action stamp → take 6 s ≡ take 6 t
record_one_packing s t before kind action stamp bs bt es et =
    read_is_form s before kind action stamp es bs ∙ sym (read_is_form t before kind action stamp et bt)
