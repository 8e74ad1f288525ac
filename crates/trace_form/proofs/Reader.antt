-- What walks and listings use of a reader of records; the record reader has it.
use Prim.Native.Nat.{ℕ, ◌+◌, ◌*◌, ◌≤◌, ◌<◌}
use mathlib.Core.Path.{◌≡◌, sym, ◌∙◌, ap}
use mathlib.Core.Bool.{Bool, true, false, not}
use mathlib.Core.List.{List}
use native.Mathlib.Omega.{arith}
use lib.Dec.{T, leb, leb→le, nleb→lt, lit≤, ltb}
use lib.ListN.{length, take, drop, length-take, take-append-drop}
use lib.Seq.{take_all}
use borrow.Author.Tests.{le-ltb}
use Rattle.meaning.specs.Numbers.{given, first_of}
use Rattle.fields.specs.Fields.{field}
use Rattle.fields.proofs.Packed.{field-append}
use Rattle.record_form.specs.Record
use Rattle.record_form.specs.Record.{Reader, RecordAnswer, record_size, record_answer, read_refusal, fields_refusal, case_of, numbers, answered, taken, refused}
use Rattle.record_form.proofs.Reading.{short}
use Rattle.trace_form.proofs.ReadAs.{always_read, end-stamp}

pub record Reads (size : ℕ) (reader : Reader) : Type 0 where
  pub some : 1 ≤ size
  -- no more bytes of a record are looked at than it has, and fewer are refusal 7;
  pub front : (bytes : List ℕ) (before : ℕ) → reader (take size bytes) before ≡ reader bytes before
  pub short : (bytes : List ℕ) (before : ℕ) → length bytes < size → reader bytes before ≡ refused 7
  -- each answer is that of a case of the enum;
  pub by_case : (bytes : List ℕ) (before : ℕ) → numbers (case_of (reader bytes before)) ≡ reader bytes before
  -- an end record's stamp is the one before.
  pub end-stamp : (bytes : List ℕ) (before action stamp : ℕ) → reader bytes before ≡ taken Record.end action stamp → stamp ≡ before

-- by whether all bytes of a record are there
pub by_size : {A : Type 0} (size : ℕ) (bytes : List ℕ) → (size ≤ length bytes → A) → (length bytes < size → A) → A
by_size {A} size bytes y n = go (leb size (length bytes)) (leb→le size (length bytes)) (nleb→lt size (length bytes))
  where
    go : (t : Bool) → (T t → size ≤ length bytes) → (T (not t) → length bytes < size) → A
    go true l g = y (l tt)
    go false l g = n (g tt)

-- A record that is taken has all its bytes.
pub reads_whole : {size : ℕ} {reader : Reader} → Reads size reader → (bytes : List ℕ) (before : ℕ) → (reader bytes before).refusal ≡ 0 → size ≤ length bytes
reads_whole {size} {reader} r bytes before e =
    by_size size bytes (λ h. h) (λ h. let z : ⊥ = omega (arith, ap (λ (a : RecordAnswer). a.refusal) (r.short bytes before h), e) in absurd z)

-- What is told of three fields, and of whether all bytes of a record are there, is told of the front.
pub front_same : {A : Type 0} (size width : ℕ) → 8 + width ≤ 8 * size → (f : Bool → ℕ → ℕ → ℕ → A) (bytes : List ℕ)
    → f (ltb (length (take size bytes)) size) (field (take size bytes) 0 2) (field (take size bytes) 2 6) (field (take size bytes) 8 width)
    ≡ f (ltb (length bytes) size) (field bytes 0 2) (field bytes 2 6) (field bytes 8 width)
front_same size width le f bytes =
    by_size size bytes whole
    (λ h. ap (λ (l : List ℕ). f (ltb (length l) size) (field l 0 2) (field l 2 6) (field l 8 width)) (take_all size bytes (omega (arith, h))))
  where
    same : size ≤ length bytes → (i k : ℕ) → i + k ≤ 8 * size → field (take size bytes) i k ≡ field bytes i k
    same h i k l =
        sym (field-append (take size bytes) (drop size bytes) i k (omega (arith, length-take size bytes)))
        ∙ ap (λ (x : List ℕ). field x i k) (take-append-drop size bytes)

    whole : size ≤ length bytes
        → f (ltb (length (take size bytes)) size) (field (take size bytes) 0 2) (field (take size bytes) 2 6) (field (take size bytes) 8 width)
        ≡ f (ltb (length bytes) size) (field bytes 0 2) (field bytes 2 6) (field bytes 8 width)
    whole h =
        let long : ltb (length (take size bytes)) size ≡ ltb (length bytes) size =
        le-ltb (length (take size bytes)) size (omega (arith, length-take size bytes, h)) ∙ sym (le-ltb (length bytes) size h) in
        let kind = same h 0 2 (omega (arith, le)) in
        let action = same h 2 6 (omega (arith, le)) in
        let third = same h 8 width le in
        (λ i. f (long i) (kind i) (action i) (third i))

front-answer : (bytes : List ℕ) (before : ℕ) → record_answer (take record_size bytes) before ≡ record_answer bytes before
unfolding record_answer read_refusal
front-answer bytes before =
    front_same record_size 40 (lit≤ tt)
    (λ few kind action less. answered (first_of (given 7 few) (fields_refusal kind action less before)) (taken kind action (before + less))) bytes

pub record_reads : Reads record_size record_answer
record_reads =
    record {
      some = lit≤ tt;
      front = front-answer;
      short = short;
      by_case = λ bytes before. (always_read bytes before).in_numbers;
      end-stamp = end-stamp;
    }
