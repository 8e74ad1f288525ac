-- Calls on lent memory: what it means, and what is promised of it.
use Rattle.std.specs.Prelude.{ℕ, suc, ◌+◌, ◌≤◌, ◌<◌, ◌≡◌, true, false, List, ◌∷◌, length, replicate}
use Rattle.meaning.specs.Limits.{last_stamp}
use Rattle.meaning.specs.Numbers.{property_refusal}
use Rattle.meaning.specs.Calls.{Call, fresh_clock}
use Rattle.meaning.specs.Matcher.{Lengths}
use Rattle.meaning.specs.Step.{Cuts}
use Rattle.property.specs.Meant.{meant}
use Rattle.property.specs.declared.Property.{Property}
use Rattle.matcher.specs.declared.Cut.{Cut}
use Rattle.matcher.specs.Sets.{Fits}
use Rattle.laws.specs.Places.{first, padded}
use Rattle.rows.specs.declared.Span.{Span}
use Rattle.rows.specs.Rows.{spanning, none, word, Within, Room}
use Rattle.clock.specs.declared.Clock.{Clock}
use Rattle.clock.specs.Time.{stored_clock}
use Rattle.held.specs.declared.Status.{Status}
use Rattle.cuts.specs.Fronts.{cut_at}
use Rattle.session_record.specs.declared.Session.{Session}
use Rattle.session_record.specs.declared.Pair.{Pair}
use Rattle.session_record.specs.Record.{rows_of, cuts_in, record_of}
use Rattle.session_record.specs.Step.{Answer, stepped_of}

-- What is lent: the rows, with what stands beside them, of a session with a property.
pub record Memory : Type 0 where
  pub property : Property
  pub rows : List (List ℕ)
  pub status : Status

abbrev pub memory : Property → List (List ℕ) → Status → Memory
memory p rows status = record { property = p; rows = rows; status = status }

abbrev pub memory_of : Session → Memory
memory_of s = memory s.property (rows_of s) s.shared.status

-- It means the session over cuts that it holds, and this is the record that is made of it.
abbrev pub held_in : Memory → Cuts Lengths
held_in m = cuts_in m.property m.rows m.status

abbrev pub record_in : Memory → Session
record_in m = record_of m.property (held_in m)

-- The record with 0 in each place not in use.
abbrev pub tidied : Session → Session
tidied s = record_in (memory_of s)

-- What refusal 10 does not name, part by part.
pub record Ranged (m : Memory) : Type 0 where
  pub formed : property_refusal (meant m.property) ≡ 0
  pub within : Within m.status.span
  pub rising : (i : ℕ) → suc i < m.status.span.count → word m.rows m.status.span 0 i ≤ word m.rows m.status.span 0 (suc i)
  pub last : (i : ℕ) → suc i ≡ m.status.span.count → word m.rows m.status.span 0 i ≤ m.status.clock.latest
  pub none_blind : m.status.clock.blind ≡ true → m.status.span.count ≡ 0
  pub limit : m.status.clock.latest ≤ last_stamp
  pub fits : m.status.clock.blind ≡ false → (i : ℕ) → i ≤ m.status.span.count → Fits m.property (cut_at m.rows m.status.span 0 i)

-- A call can start from it.
pub record Ready (m : Memory) : Type 0 where
  pub room : Room m.rows m.status.span
  pub there : 3 < length m.rows
  pub ranged : Ranged m

-- A call leads from what the memory means to an answer and what it means then, and a next call can start from that.
pub record Advanced (m : Memory) (c : Call) (a : Answer) (after : Memory) : Type 0 where
  pub stepped : stepped_of (record_in m) c ≡ record { answer = a; session = record_in after }
  pub ready : Ready after

-- The record of arrays and what stands beside them, as they are.
abbrev pub of_arrays : Property → List ℕ → List ℕ → List ℕ → List ℕ → Status → Session
of_arrays p held acts masks armed status =
    record {
      property = p;
      shared = record { held = held; acts = acts; status = status };
      row = record { masks = masks; armed = armed };
    }

-- The record of rows, of which so many cuts are in use.
abbrev pub packed : List (List ℕ) → Span → ℕ → ℕ → List ℕ
packed rows s k n = padded 65 0 (first (word rows s k) n)

abbrev pub packed_pair : List (List ℕ) → Span → ℕ → ℕ → Pair
packed_pair rows s k n = record { first = packed rows s k n; second = packed rows s (k + 1) n }

abbrev pub packed_of : Property → List (List ℕ) → Span → ℕ → Clock → Session
packed_of p rows s cuts clock =
    of_arrays p (packed rows s 0 s.count) (packed rows s 1 s.count) (packed rows s 2 cuts) (packed rows s 3 cuts)
    (record { span = spanning s.count; clock = clock })

-- A record with no open input, its one cut as given.
abbrev pub blank : Property → Cut → Session
blank p c =
    of_arrays p (replicate 65 0) (replicate 65 0) (c.mask ∷ replicate 64 0) (c.armed ∷ replicate 64 0)
    (record { span = none; clock = stored_clock fresh_clock })
