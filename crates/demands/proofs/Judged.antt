-- What the judge takes is exactly one trace's packing, each record taken from a fresh session; what it refuses, it refuses with the
-- first refusal met.
use Prim.Native.Nat.{ℕ, zero, suc, ◌+◌, ◌-◌, ◌*◌, ◌≤◌, ◌<◌}
use mathlib.Core.Path.{◌≡◌, refl, sym, ◌∙◌, ap, subst}
use mathlib.Core.Bool.{Bool, true, false, cond}
use mathlib.Core.List.{List, [], ◌∷◌, ◌++◌}
use native.Mathlib.Omega.{arith}
use lib.ListN.{length, drop, length-drop}
use lib.Dec.{ltb}
use borrow.Author.Tests.{ltb-false, lt-ltb, le-ltb, ltb-true}
use Rattle.meaning.specs.Numbers.{given, first_of, property_refusal}
use Rattle.meaning.specs.Calls.{Call, Watch, taken}
use Rattle.property.specs.Meant.{meant}
use Rattle.property.specs.declared.Property.{Property}
use Rattle.record_form.specs.Record.{record_size, record_answer}
use Rattle.record_form.specs.Record
use Rattle.trace_form.specs.ReadAs.{ReadAs, read_as}
use Rattle.trace_form.specs.Trace.{Entry, kind_of, action_of, stamp_of, entry_call, TakenAs}
use Rattle.trace_form.proofs.Reader.{record_reads}
use Rattle.trace_form.proofs.ReadAs.{always_read, read_whole}
use Rattle.session_record.specs.declared.Session.{Session}
use Rattle.session_record.specs.Record.{latest_of}
use Rattle.session_record.specs.Step.{stepped_of, stepped_through}
use Rattle.walk.specs.Walk.{Stopping, Walk, stop_number, stop_refusal, one_call, one_read, stopped, one_more, walked_by, walk_on, walk_answer}
use Rattle.stretch.specs.Judge.{by_stop}
use Rattle.demands.specs.Traces.{calls_of, BeginsWith, behind, TakenOneByOne, StopsBy, met, first_met}
use Rattle.demands.proofs.Running.{running, seen, running_latest, running_number, running_next, seen-taken}
use Rattle.demands.proofs.Walks.{Front, entry, ended as at_end, refused as not-read, front, entry-latest, WalkedOver, walked-over}

-- ---- the trace that is taken

length-behind : (entries : List Entry) (bytes : List ℕ) → length (behind entries bytes) ≡ length bytes - record_size * length entries
length-behind [] bytes = omega arith
length-behind (e ∷ entries) bytes = length-behind entries (drop record_size bytes) ∙ (let q : length (drop record_size bytes) ≡ length bytes - record_size = length-drop record_size bytes in omega arith)

empty_is : {A : Type 0} (l : List A) → length l ≤ 0 → l ≡ []
empty_is [] h = refl
empty_is (x ∷ l) h = let z : ⊥ = omega arith in absurd z

-- records taken one by one, then the end record with nothing behind it
taken_as : (s : Session) (bytes : List ℕ) (entries : List Entry) → BeginsWith bytes (latest_of s) entries → TakenOneByOne s (calls_of entries)
    → record_answer (behind entries bytes) (latest_of (stepped_through s (calls_of entries)))
    ≡ Record.taken Record.end 0 (latest_of (stepped_through s (calls_of entries)))
    → drop record_size (behind entries bytes) ≡ [] → TakenAs bytes (latest_of s) entries
unfolding stepped_through
taken_as s bytes [] b t e d = (e, d)
taken_as s bytes (x ∷ entries) b t e d =
    let q = entry-latest s x t.0 in (
      b.0,
      subst (λ (n : ℕ). TakenAs (drop record_size bytes) n entries) q
          (taken_as (stepped_of s (entry_call x)).session (drop record_size bytes) entries (subst (λ (n : ℕ). BeginsWith (drop record_size bytes) n entries) (sym q) b.1) t.1 e d),
    )

pub record TakenWhole (s : Session) (bytes : List ℕ) (w : Walk) : Type 0 where
  pub entries : List Entry
  pub is : TakenAs bytes (latest_of s) entries
  pub counted : w.taken ≡ length entries
  pub each : TakenOneByOne s (calls_of entries)
  pub session : w.session ≡ stepped_through s (calls_of entries)

-- a walk that stopped at an end record with nothing behind it
pub whole_trace : (n : ℕ) (s : Session) (bytes : List ℕ) (w : Walk) → walk_on n s bytes ≡ w → w.stop ≡ Stopping.at_end → length bytes ≤ w.read → TakenWhole s bytes w
whole_trace n s bytes w e stop all = go (subst (λ (x : Walk). WalkedOver s bytes n (walk_answer bytes x)) e (walked-over n s bytes))
  where
    go : WalkedOver s bytes n (walk_answer bytes w) → TakenWhole s bytes w
    go h =
        let st = subst (λ (x : Stopping). StopsBy (stop_number x) (n - w.taken) w.session (behind h.entries bytes) (stop_refusal x) h.more) stop h.stops in
        let end = subst (λ (x : Session). record_answer (behind h.entries bytes) (latest_of x) ≡ Record.taken Record.end 0 (latest_of x)) h.session st.1 in
        let read : w.read ≡ record_size * w.taken + h.more = h.read in
        let more : h.more ≡ 6 = st.3 in
        let count : w.taken ≡ length h.entries = h.counted in
        record {
          entries = h.entries;
          is = taken_as s bytes h.entries h.begins h.each end
              (empty_is (drop record_size (behind h.entries bytes)) (omega (arith, length-drop record_size (behind h.entries bytes), length-behind h.entries bytes)));
          counted = count;
          each = h.each;
          session = h.session;
        }

-- ---- the first refusal met

module _ (p : Property) (good : property_refusal (meant p) ≡ 0) where
  -- what a walk over these bytes comes to for the judge
  abbrev judged : List ℕ → Walk → ℕ
  judged bytes w = (by_stop w.stop (ltb w.read (length bytes)) w).refusal

  -- one record more, and the bytes behind it
  judged_more : (bytes : List ℕ) (w : Walk) → record_size ≤ length bytes → judged bytes (one_more w) ≡ judged (drop record_size bytes) w
  judged_more bytes w h = go w.stop (ltb (record_size + w.read) (length bytes)) (ltb w.read (length (drop record_size bytes))) same
    where
      same : ltb (record_size + w.read) (length bytes) ≡ ltb w.read (length (drop record_size bytes))
      same = by (ltb w.read (length (drop record_size bytes))) (ltb-true _ _) (ltb-false _ _)
        where
          by : (b : Bool) → (b ≡ true → w.read < length (drop record_size bytes)) → (b ≡ false → length (drop record_size bytes) ≤ w.read)
              → ltb (record_size + w.read) (length bytes) ≡ b
          by true t f = lt-ltb (record_size + w.read) (length bytes) (omega (arith, t refl, length-drop record_size bytes))
          by false t f = le-ltb (record_size + w.read) (length bytes) (omega (arith, f refl, length-drop record_size bytes))

      go : (stop : Stopping) (a b : Bool) → a ≡ b → (by_stop stop a (one_more w)).refusal ≡ (by_stop stop b w).refusal
      go Stopping.at_budget a b e = unfold by_stop in refl
      go (Stopping.at_refusal n) a b e = unfold by_stop in refl
      go Stopping.at_end true true e = unfold by_stop in refl
      go Stopping.at_end true false e = unfold by_stop in (ap (λ (t : Bool). cond t 8 0) e)
      go Stopping.at_end false true e = unfold by_stop in (ap (λ (t : Bool). cond t 8 0) e)
      go Stopping.at_end false false e = unfold by_stop in refl

  pub judged-first : (n : ℕ) (calls : List Call) (bytes : List ℕ) → judged bytes (walk_on n (running p good calls) bytes) ≡ first_met n (meant p) (seen p good calls) bytes
  unfolding walk_on first_met
  judged-first zero calls bytes = unfold by_stop in refl
  judged-first (suc n) calls bytes =
      by_front (read_as (record_answer bytes (latest_of s))) (front record_reads bytes (latest_of s)) (λ more l. judged-first n more l)
      ∙ ap (λ (t : ℕ). met (meant p) w bytes (read_as (record_answer bytes t)) (λ after. first_met n (meant p) after (drop record_size bytes))) (running_latest p good calls)
    where
      s : Session
      s = running p good calls

      w : Watch
      w = seen p good calls

      f : Session → Walk
      f after = walk_on n after (drop record_size bytes)

      IH : Type 0
      IH = (more : List Call) (l : List ℕ) → judged l (walk_on n (running p good more) l) ≡ first_met n (meant p) (seen p good more) l

      tried : (e : Entry) → record_size ≤ length bytes → (m : ℕ) → (stepped_of s (entry_call e)).answer.refusal ≡ m → IH
          → judged bytes (walked_by (one_call s (entry_call e) m) s f)
          ≡ first_of m (first_met n (meant p) (taken (meant p) w (entry_call e)) (drop record_size bytes))
      tried e long zero z ih =
          unfold one_call walked_by in
          (judged_more bytes (f (stepped_of s (entry_call e)).session) long
          ∙ ap (λ (x : Session). judged (drop record_size bytes) (walk_on n x (drop record_size bytes))) (sym (running_next p good calls (entry_call e)))
          ∙ ih (calls ++ entry_call e ∷ []) (drop record_size bytes)
          ∙ ap (λ (x : Watch). first_met n (meant p) x (drop record_size bytes)) (seen-taken p good calls (entry_call e) (sym (running_number p good calls (entry_call e)) ∙ z)))
      tried e long (suc m) z ih = unfold one_call walked_by by_stop in refl

      whole : (e : Entry) → record_answer bytes (latest_of s) ≡ Record.taken (kind_of e) (action_of e) (stamp_of e) → record_size ≤ length bytes
      whole e q = read_whole (always_read bytes (latest_of s)) (ap (λ a. a.refusal) ((always_read bytes (latest_of s)).in_numbers ∙ q))

      at_the_end : (b : Bool) → (by_stop Stopping.at_end b (stopped s Stopping.at_end record_size)).refusal ≡ given 8 b
      at_the_end true = unfold by_stop in refl
      at_the_end false = unfold by_stop in refl

      by_front : (x : ReadAs) → Front record_answer bytes (latest_of s) x → IH
          → judged bytes (walked_by (one_read s x) s f) ≡ met (meant p) w bytes x (λ after. first_met n (meant p) after (drop record_size bytes))
      by_front x (entry e q) ih =
          unfold one_read in
          (tried e (whole e q) _ refl ih
          ∙ ap (λ (m : ℕ). first_of m (first_met n (meant p) (taken (meant p) w (entry_call e)) (drop record_size bytes))) (running_number p good calls (entry_call e)))
      by_front x (at_end q) ih = unfold one_read walked_by in (at_the_end (ltb record_size (length bytes)))
      by_front x (not-read m number some) ih = unfold one_read walked_by by_stop in refl
