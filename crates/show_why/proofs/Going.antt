-- The loop over the records: what is kept is the run that is open, from a fresh session on.
use Rattle.std.specs.Prelude.{Ok}
use Prim.Native.Nat.{ℕ, ◌+◌, ◌≤◌}
use mathlib.Core.Path.{◌≡◌, refl, sym, ap, subst, ◌∙◌}
use mathlib.Core.Bool.{false}
use mathlib.Core.List.{List, [], ◌∷◌, ◌++◌, append-nil}
use native.Mathlib.Omega.{arith}
use lib.ListN.{length, length-append}
use Rattle.meaning.specs.Numbers.{property_refusal}
use Rattle.meaning.specs.Calls.{Call, watched}
use Rattle.property.specs.Meant.{meant}
use Rattle.property.specs.declared.Property.{Property}
use Rattle.record_form.specs.Record.{record_size, record_answer, RecordRead, IsRead}
use Rattle.trace_form.specs.ReadAs.{ReadAs, case_as, read_as}
use Rattle.trace_form.proofs.ReadAs.{read-case}
use Rattle.rows.specs.declared.Span.{Span}
use Rattle.rows.specs.Rows.{Within, Room}
use Rattle.cuts.specs.Steps.{fresh_by}
use Rattle.session_record.specs.declared.Session.{Session}
use Rattle.session_record.specs.declared.Stepped.{Stepped}
use Rattle.session_record.specs.Record.{latest_of, blind_of, record_of, rows_of}
use Rattle.session_record.specs.Step.{Answer, stepping_in, fresh_of, stepped_of, stepped_through}
use Rattle.session_record.specs.Lent.{Memory, memory, record_in, Ready}
use Rattle.session_record.proofs.Ready.{fresh-ready, fresh_means}
use Rattle.session_record.proofs.Running.{fresh_record, running_record}
use Rattle.one_record.specs.declared.Did.{Did}
use Rattle.one_record.specs.declared.Did.TheVariants.{Line, Gap, Ended}
use Rattle.one_record.specs.Doing.{Doing, doing_in}
use Rattle.open_run.specs.declared.Kept.{Kept}
use Rattle.open_run.specs.Kept.{Keeps, seen, Stands, calls_as, ReadAsCalls, Goes, Next, TakenSoFar, Open}
use Rattle.open_run.proofs.Standing.{agrees, blind-same}
use Rattle.open_run.proofs.Reading.{TakenCall, took-call, ended-end, call-whole, read_more}

-- The record reader has read a record from the bytes that came.
pub read_next : {m : Memory} {k : Kept} {x : RecordRead} {did : Doing} {after : Memory} {k' : Kept} (bytes : List ℕ) → length bytes ≤ record_size
    → IsRead bytes (latest_of (record_in m)) x → Goes m k (case_as x) did after k' → Next m k did after k'
read_next {m} {k} {did = did} {after = after} {k' = k'} bytes few h g =
    record { bytes = bytes; few = few; goes = subst (λ (r : ReadAs). Goes m k r did after k') (sym (read-case h)) g }

-- ---- the rows of a fresh session, lent

module _ (p : Property) (good : property_refusal (meant p) ≡ 0) (fresh : Stepped) (e : stepping_in fresh ≡ fresh_of p) (q : Property) (own : q ≡ p)
    (rows : List (List ℕ)) (same : rows ≡ rows_of fresh.session) where
  abbrev lent-fresh : Memory
  lent-fresh = memory q rows fresh.session.shared.status

  pub fresh-lends : ((span : Span) → Within span → Room rows span) → Ready lent-fresh
  fresh-lends rooms =
      subst (λ (t : Property). Ready (memory t rows fresh.session.shared.status)) (sym own) (fresh-ready p good (stepping_in fresh) e rows same rooms)

  pub fresh-is : record_in lent-fresh ≡ record_of q (fresh_by q)
  fresh-is =
      subst (λ (t : Property). record_in (memory t rows fresh.session.shared.status) ≡ record_of t (fresh_by t)) (sym own)
      (fresh_means p good (stepping_in fresh) e rows same)

-- ---- the records, one after the other

-- What the records so far have made of a fresh session: each turn took one, and the run has no more lines than that.
pub record Going (m : Memory) (k : Kept) (turns : ℕ) : Type 0 where
  pub calls : List Call
  pub so_far : TakenSoFar m turns calls
  pub keeps : Keeps (seen m.property calls).run k
  pub ready : Ready m
  pub few : k.count ≤ turns

-- None has been read on a fresh session.
pub going_fresh : (m : Memory) (k : Kept) → Ready m → record_in m ≡ record_of m.property (fresh_by m.property) → Keeps [] k → Going m k 0
unfolding stepped_through watched
going_fresh m k ready e h =
    record {
      calls = [];
      so_far = record { read = []; whole = refl; as_calls = refl; session = e ∙ sym (fresh_record m.property ready.ranged.formed) };
      keeps = h;
      ready = ready;
      few = omega (arith, h.counted);
    }

module _ (m : Memory) (k : Kept) (turns : ℕ) (g : Going m k turns) where
  abbrev had : TakenSoFar m turns g.calls
  had = g.so_far

  good : property_refusal (meant m.property) ≡ 0
  good = g.ready.ranged.formed

  -- what the bytes that came stand for, as a record at the session's latest stamp
  abbrev came : List ℕ → ReadAs
  came bytes = read_as (record_answer bytes (latest_of (record_in m)))

  -- what stands behind that
  stands-next : {did : Doing} {after : Memory} {k' : Kept} (n : Next m k did after k') (x : ReadAs) → came n.bytes ≡ x
      → Stands m.property (g.calls ++ calls_as x) (record_in after) k'
  stands-next {after = after} {k' = k'} n x is =
      subst (λ (y : ReadAs). Stands m.property (g.calls ++ calls_as y) (record_in after) k') is
      (n.goes.stands g.calls (record { session = had.session; keeps = g.keeps }))

  -- the property is the same
  same-property : (after : Memory) (calls : List Call) → record_in after ≡ stepped_through (fresh_of m.property).session calls → m.property ≡ after.property
  same-property after calls e = sym (ap (λ (s : Session). s.property) (e ∙ running_record m.property good calls))

  -- A call that was taken is one record more.
  call_on : {c : Call} {a : Answer} {after : Memory} {k' : Kept} → Next m k (Doing.took c a) after k' → Going after k' (turns + 1)
  call_on {c} {a} {after} {k'} n =
      let t : TakenCall (record_in m) (came n.bytes) c = took-call (record_in m) (came n.bytes) c a n.goes.did_is in
      let long : record_size ≤ length n.bytes = call-whole n.bytes (latest_of (record_in m)) t.is in
      let stands = stands-next n (ReadAs.call c) t.is in
      let same : m.property ≡ after.property = same-property after (g.calls ++ c ∷ []) stands.session in
      record {
        calls = g.calls ++ c ∷ [];
        so_far =
            record {
              read = had.read ++ n.bytes;
              whole = omega (arith, length-append had.read n.bytes, had.whole, n.few, long);
              as_calls =
                  subst (λ (p : Property). ReadAsCalls (fresh_of p).session (had.read ++ n.bytes) (g.calls ++ c ∷ [])) same
                  (read_more (fresh_of m.property).session had.read g.calls n.bytes c n.few had.as_calls
                  (subst (λ (s : Session). read_as (record_answer n.bytes (latest_of s)) ≡ ReadAs.call c) had.session t.is)
                  (subst (λ (s : Session). (stepped_of s c).answer.refusal ≡ 0) had.session t.taken));
              session = subst (λ (p : Property). record_in after ≡ stepped_through (fresh_of p).session (g.calls ++ c ∷ [])) same stands.session;
            };
        keeps = subst (λ (p : Property). Keeps (seen p (g.calls ++ c ∷ [])).run k') same stands.keeps;
        ready = n.goes.ready;
        few = omega (arith, n.goes.few, g.few);
      }

  -- So is a record that did not end the trace.
  pub going_on : (did : Did) {after : Memory} {k' : Kept} → (did ≡ Ended → ⊥) → Next m k (doing_in (Ok did)) after k' → Going after k' (turns + 1)
  going_on (Line line told) more n = call_on n
  going_on (Gap lost stamp told) more n = call_on n
  going_on Ended more n = absurd (more refl)

  -- At an end record what is kept, where a run is open, is that run.
  pub going_open : {did : Did} {after : Memory} {k' : Kept} → did ≡ Ended → Next m k (doing_in (Ok did)) after k' → after.status.clock.blind ≡ false
      → Open after turns k'
  going_open {did} {after} {k'} e h opened =
      let n : Next m k Doing.ended after k' = subst (λ (d : Did). Next m k (doing_in (Ok d)) after k') e h in
      let is : came n.bytes ≡ ReadAs.end = ended-end (record_in m) (came n.bytes) n.goes.did_is in
      let stands : Stands m.property g.calls (record_in after) k' = rw append-nil at (stands-next n ReadAs.end is) in
      let same : m.property ≡ after.property = same-property after g.calls stands.session in
      record {
        run = (seen m.property g.calls).run;
        has =
            record {
              calls = g.calls;
              so_far =
                  record {
                    read = had.read;
                    whole = had.whole;
                    as_calls = subst (λ (p : Property). ReadAsCalls (fresh_of p).session had.read g.calls) same had.as_calls;
                    session = subst (λ (p : Property). record_in after ≡ stepped_through (fresh_of p).session g.calls) same stands.session;
                  };
              behind = n.bytes;
              at_end = subst (λ (s : Session). read_as (record_answer n.bytes (latest_of s)) ≡ ReadAs.end) (had.session ∙ sym stands.session) is;
              is_open =
                  subst (λ (p : Property). (seen p g.calls).clock.is_blind ≡ false) same
                  (sym (blind-same m.property good (agrees m.property good g.calls)) ∙ ap blind_of (sym stands.session) ∙ opened);
              is_run = ap (λ (p : Property). (seen p g.calls).run) (sym same);
            };
        keeps = stands.keeps;
      }
