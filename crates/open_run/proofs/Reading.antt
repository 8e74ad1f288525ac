-- What was read so far, and one record more behind it.
use Prim.Native.Nat.{ℕ, zero, suc, ◌≤◌}
use mathlib.Core.Path.{◌≡◌, refl, sym, ap, subst, ◌∙◌}
use mathlib.Core.List.{List, [], ◌∷◌, ◌++◌}
use native.Mathlib.Omega.{arith}
use lib.ListN.{length, drop, drop_of_length-le}
use lib.Seq.{take-append-le, drop-append-le}
use Rattle.meaning.specs.Calls.{Call}
use Rattle.record_form.specs.Record.{record_size, record_answer}
use Rattle.trace_form.specs.ReadAs.{ReadAs, read_as}
use Rattle.trace_form.proofs.ReadAs.{short_read}
use Rattle.trace_form.proofs.Reader.{by_size, record_reads}
use Rattle.session_record.specs.declared.Session.{Session}
use Rattle.session_record.specs.Record.{latest_of}
use Rattle.session_record.specs.Step.{Answer, stepped_of, stepped_through}
use Rattle.one_record.specs.Doing.{Doing, by_answer, doing_of}
use Rattle.open_run.specs.Kept.{ReadAsCalls}

-- ---- what a record did tells what it stands for

-- What was taken is the call, which the session takes;
pub record TakenCall (s : Session) (x : ReadAs) (c : Call) : Type 0 where
  pub is : x ≡ ReadAs.call c
  pub taken : (stepped_of s c).answer.refusal ≡ 0

pub took-call : (s : Session) (x : ReadAs) (c : Call) (a : Answer) → Doing.took c a ≡ doing_of s x → TakenCall s x c
unfolding by_answer
took-call s (ReadAs.call d) c a e = go (stepped_of s d).answer.refusal refl e
  where
    go : (n : ℕ) → (stepped_of s d).answer.refusal ≡ n → Doing.took c a ≡ by_answer d n (stepped_of s d).answer → TakenCall s (ReadAs.call d) c
    go zero t e = subst (λ (b : Call). TakenCall s (ReadAs.call d) b) (cc e) (record { is = refl; taken = t })
    go (suc n) t e = let z : ◌≡◌ {A = ℕ} 0 1 = cc e in absurd (omega arith)
took-call s ReadAs.end c a e = let z : ◌≡◌ {A = ℕ} 0 1 = cc e in absurd (omega arith)
took-call s (ReadAs.refused n) c a e = let z : ◌≡◌ {A = ℕ} 0 1 = cc e in absurd (omega arith)

-- what ended is the end;
pub ended-end : (s : Session) (x : ReadAs) → Doing.ended ≡ doing_of s x → x ≡ ReadAs.end
unfolding by_answer
ended-end s (ReadAs.call c) e = go (stepped_of s c).answer.refusal e
  where
    go : (n : ℕ) → Doing.ended ≡ by_answer c n (stepped_of s c).answer → ReadAs.call c ≡ ReadAs.end
    go zero e = let z : ◌≡◌ {A = ℕ} 0 1 = cc e in absurd (omega arith)
    go (suc n) e = let z : ◌≡◌ {A = ℕ} 0 1 = cc e in absurd (omega arith)
ended-end s ReadAs.end e = refl
ended-end s (ReadAs.refused n) e = let z : ◌≡◌ {A = ℕ} 0 1 = cc e in absurd (omega arith)

-- what was refused is no call that the session takes.
pub refused-call : (s : Session) (c : Call) (n : ℕ) → Doing.refused n ≡ doing_of s (ReadAs.call c) → (stepped_of s c).answer.refusal ≡ 0 → ⊥
unfolding by_answer
refused-call s c n e none =
    let f : Doing.refused n ≡ Doing.took c (stepped_of s c).answer = e ∙ ap (λ (i : ℕ). by_answer c i (stepped_of s c).answer) none in
    let z : ◌≡◌ {A = ℕ} 0 1 = cc f in
    omega arith

-- ---- the bytes

-- A record that is a call has all its bytes,
pub call-whole : (bytes : List ℕ) (before : ℕ) {c : Call} → read_as (record_answer bytes before) ≡ ReadAs.call c → record_size ≤ length bytes
call-whole bytes before e =
    by_size record_size bytes (λ h. h) (λ h. let z : ◌≡◌ {A = ℕ} 0 1 = cc (short_read bytes before h, e) in absurd (omega arith))

-- and reads the same whatever stands behind it.
front_stays : (bytes behind : List ℕ) (before : ℕ) → record_size ≤ length bytes → record_answer (bytes ++ behind) before ≡ record_answer bytes before
front_stays bytes behind before whole =
    sym (record_reads.front (bytes ++ behind) before)
    ∙ ap (λ (b : List ℕ). record_answer b before) (take-append-le record_size bytes behind whole)
    ∙ record_reads.front bytes before

-- One record more behind those that were read.
pub read_more : (s : Session) (bytes : List ℕ) (calls : List Call) (next : List ℕ) (c : Call) → length next ≤ record_size → ReadAsCalls s bytes calls
    → read_as (record_answer next (latest_of (stepped_through s calls))) ≡ ReadAs.call c → (stepped_of (stepped_through s calls) c).answer.refusal ≡ 0
    → ReadAsCalls s (bytes ++ next) (calls ++ c ∷ [])
unfolding stepped_through
read_more s bytes [] next c few none is taken =
    subst (λ (b : List ℕ). ReadAsCalls s (b ++ next) (c ∷ [])) (sym none) (is, taken, drop_of_length-le next few)
read_more s bytes (d ∷ calls) next c few h is taken =
    let whole = call-whole bytes (latest_of s) h.0 in (
      ap read_as (front_stays bytes next (latest_of s) whole) ∙ h.0,
      h.1,
      subst (λ (b : List ℕ). ReadAsCalls (stepped_of s d).session b (calls ++ c ∷ [])) (sym (drop-append-le record_size bytes next whole))
          (read_more (stepped_of s d).session (drop record_size bytes) calls next c few h.2 is taken),
    )
