-- What a record stands for: the reader's case tells it, and so do the entries of a trace; what is refused has a number.
use Prim.Native.Nat.{ℕ, zero, suc, ◌+◌, ◌≤◌, ◌<◌}
use mathlib.Core.Path.{◌≡◌, refl, sym, ◌∙◌, ap}
use mathlib.Core.Bool.{Bool, true, false}
use mathlib.Core.List.{List}
use native.Mathlib.Omega.{arith}
use lib.ListN.{length}
use lib.Dec.{ltb}
use borrow.Author.Tests.{ltb-true, ltb-false, eqb-true, not-false}
use Rattle.fields.specs.Fields.{field}
use Rattle.fields.proofs.Laws.{field_lt}
use Rattle.record_form.specs.Record
use Rattle.record_form.specs.Record.{Reader, ReadBy, IsRead, RecordAnswer, RecordRead, case_by, case_of, numbers, read_refusal, record_answer, record_size, refused, taken}
use Rattle.trace_form.specs.Trace.{Entry, entry_call, kind_of, action_of, stamp_of}
use Rattle.trace_form.specs.ReadAs.{ReadAs, case_as, read_as}
use Rattle.record_form.proofs.Reading.{fields_same_numbers, is_taken, long, refusal_of, short, taken-answer, unbroken}

-- What a reader answered is what the record stands for; with the answer's case put in, each by `refl`.
pub read-case : {reader : Reader} {s : List ℕ} {before : ℕ} {r : RecordRead} → ReadBy reader s before r → read_as (reader s before) ≡ case_as r
unfolding read_as
read-case h = ap case_as (sym h.answer)

-- the same where an arm of a `match` knows the case
pub read_known : {reader : Reader} {s : List ℕ} {before : ℕ} {r x : RecordRead} → ReadBy reader s before r → r ≡ x → read_as (reader s before) ≡ case_as x
read_known h e = read-case h ∙ ap case_as e

-- A record that is taken has all its bytes.
pub read_whole : {s : List ℕ} {before : ℕ} {r : RecordRead} → IsRead s before r → (numbers r).refusal ≡ 0 → record_size ≤ length s
read_whole {s} {before} h e =
    (is_taken s before (sym (refusal_of s before) ∙ sym (ap (λ (a : RecordAnswer). a.refusal) h.in_numbers) ∙ e)).size

-- and its kind and action are what stands in its fields.
pub fields_read : (s : List ℕ) (before : ℕ) → (record_answer s before).refusal ≡ 0
    → ((record_answer s before).kind ≡ field s 0 2) × ((record_answer s before).action ≡ field s 2 6)
fields_read s before e =
    let same = taken-answer s before (sym (refusal_of s before) ∙ e) in
    (ap (λ (a : RecordAnswer). a.kind) same, ap (λ (a : RecordAnswer). a.action) same)

-- ---- traces

-- A record that is taken as an entry stands for the entry's call, and an end record for the end.
pub entry_read : (e : Entry) → read_as (taken (kind_of e) (action_of e) (stamp_of e)) ≡ ReadAs.call (entry_call e)
unfolding read_as case_by
entry_read (Entry.input action stamp) = refl
entry_read (Entry.output action stamp) = refl
entry_read (Entry.gap lost stamp) = refl

pub end_read : (action stamp : ℕ) → read_as (taken Record.end action stamp) ≡ ReadAs.end
unfolding read_as case_by
end_read action stamp = refl

-- ---- refusals

-- What stands for a refusal has its number, which is not 0.
pub refused-read : (a : RecordAnswer) (n : ℕ) → a.refusal ≡ suc n → read_as a ≡ ReadAs.refused (suc n)
unfolding read_as case_by
refused-read a n e = rw e

-- Too few bytes are refusal 7.
pub short_read : (s : List ℕ) (before : ℕ) → length s < 6 → read_as (record_answer s before) ≡ ReadAs.refused 7
short_read s before h = ap read_as (short s before h) ∙ refused-read (refused 7) 6 refl

pub refused-given : (a : RecordAnswer) (n : ℕ) → read_as a ≡ ReadAs.refused n → (n ≡ 0 → ⊥) × (a.refusal ≡ n)
unfolding read_as case_by
refused-given a n e = go a.refusal a.kind e
  where
    go : (m k : ℕ) → case_as (case_by m k a.action a.stamp) ≡ ReadAs.refused n → (n ≡ 0 → ⊥) × (m ≡ n)
    go zero zero q = let z : ◌≡◌ {A = ℕ} 0 1 = cc q in absurd (omega arith)
    go zero (suc zero) q = let z : ◌≡◌ {A = ℕ} 0 1 = cc q in absurd (omega arith)
    go zero (suc (suc zero)) q = let z : ◌≡◌ {A = ℕ} 0 1 = cc q in absurd (omega arith)
    go zero (suc (suc (suc k))) q = let z : ◌≡◌ {A = ℕ} 0 1 = cc q in absurd (omega arith)
    go (suc m) k q = let z : suc m ≡ n = cc q in ((λ y. omega arith), z)

-- ---- the reader's answer to any bytes

pub always_read : (s : List ℕ) (before : ℕ) → IsRead s before (case_of (record_answer s before))
unfolding case_by
always_read s before = record { answer = refl; in_numbers = go (ltb (length s) record_size) (ltb-true (length s) record_size) (ltb-false (length s) record_size) }
  where
    go : (b : Bool) → (b ≡ true → length s < record_size) → (b ≡ false → record_size ≤ length s)
        → numbers (case_of (record_answer s before)) ≡ record_answer s before
    go true t f = rw (short s before (t refl)) refl
    go false t f = rw (long s before (f refl)) (fields_same_numbers (field s 0 2) (field s 2 6) (field s 8 40) before (omega (arith, field_lt s 0 2)))

-- an end record's stamp is the one before
pub end-stamp : (s : List ℕ) (before action stamp : ℕ) → record_answer s before ≡ taken Record.end action stamp → stamp ≡ before
end-stamp s before action stamp e =
    let none : read_refusal s before ≡ 0 = sym (refusal_of s before) ∙ ap (λ (a : RecordAnswer). a.refusal) e in
    let r = is_taken s before none in
    let same = sym (taken-answer s before none) ∙ e in
    let kind : field s 0 2 ≡ 3 = ap (λ (a : RecordAnswer). a.kind) same in
    let less : field s 8 40 ≡ 0 = eqb-true (field s 8 40) 0 (not-false _ ((unbroken (field s 0 2) (field s 2 6) _ r.sound).2 kind)) in
    sym (ap (λ (a : RecordAnswer). a.stamp) same) ∙ let z : before + field s 8 40 ≡ before = omega arith in z
