-- Document 02, CR 6: "for the run open at the end record". The run that is kept is the one that the calls so far have left open.
use Rattle.std.specs.Prelude.{ℕ, ◌+◌, ◌*◌, ◌≤◌, ◌≡◌, false, List, [], ◌∷◌, ◌++◌, length, drop, get_or}
use Rattle.laws.specs.Places.{first}
use Rattle.meaning.specs.Words.{Line, Run}
use Rattle.meaning.specs.Calls.{Call, Watch, fresh, watched}
use Rattle.property.specs.Meant.{meant}
use Rattle.property.specs.declared.Property.{Property}
use Rattle.record_form.specs.Record.{record_size, record_answer}
use Rattle.trace_form.specs.ReadAs.{ReadAs, read_as}
use Rattle.cuts.specs.Steps.{line_of}
use Rattle.session_record.specs.declared.Session.{Session}
use Rattle.session_record.specs.Record.{latest_of}
use Rattle.session_record.specs.Step.{fresh_of, stepped_of, stepped_through}
use Rattle.session_record.specs.Lent.{Memory, record_in, Ready}
use Rattle.one_record.specs.Doing.{Doing, doing_of}
use Rattle.reasons.specs.Reasons.{most_lines}
use Rattle.open_run.specs.declared.Kept.{Kept}

abbrev pub line_at : Kept → ℕ → Line
line_at k i = line_of (get_or k.outputs i false) (get_or k.actions i 0) (get_or k.stamps i 0)

-- A run is kept: all its lines are counted, and where there are no more than 256 they stand in their places, in order.
pub record Keeps (run : Run) (k : Kept) : Type 0 where
  pub outputs_long : length k.outputs ≡ most_lines
  pub actions_long : length k.actions ≡ most_lines
  pub stamps_long : length k.stamps ≡ most_lines
  pub counted : length run ≡ k.count
  pub kept : k.count ≤ most_lines → first (line_at k) k.count ≡ run

-- What calls on a fresh session have come to by the rules.
abbrev pub seen : Property → List Call → Watch
seen p calls = watched (meant p) fresh calls

-- The session is what these calls have made of a fresh one, and the run that they have left open is kept.
pub record Stands (p : Property) (calls : List Call) (s : Session) (k : Kept) : Type 0 where
  pub session : s ≡ stepped_through (fresh_of p).session calls
  pub keeps : Keeps (seen p calls).run k

-- The calls of a record: it is one, or none.
abbrev pub calls_as : ReadAs → List Call
calls_as (ReadAs.call c) = c ∷ []
calls_as ReadAs.end = []
calls_as (ReadAs.refused n) = []

-- A record that stands for x did this and leads here: what stood behind the calls before it stands behind its own too, and the next
-- record can start.
pub record Goes (m : Memory) (k : Kept) (x : ReadAs) (did : Doing) (after : Memory) (k' : Kept) : Type 0 where
  pub did_is : did ≡ doing_of (record_in m) x
  pub stands : (calls : List Call) → Stands m.property calls (record_in m) k → Stands m.property (calls ++ calls_as x) (record_in after) k'
  pub ready : Ready after
  pub few : k'.count ≤ k.count + 1

-- The next record is read from the bytes that came, no more than a record has; the stamp before it is the session's latest.
pub record Next (m : Memory) (k : Kept) (did : Doing) (after : Memory) (k' : Kept) : Type 0 where
  pub bytes : List ℕ
  pub few : length bytes ≤ record_size
  pub goes : Goes m k (read_as (record_answer bytes (latest_of (record_in m)))) did after k'

-- The bytes are records, one behind the other, each read "given the stamp before" and taken as the next of these calls.
abbrev pub ReadAsCalls : Session → List ℕ → List Call → Type 0
ReadAsCalls s bytes [] = bytes ≡ []
ReadAsCalls s bytes (c ∷ calls) =
    (read_as (record_answer bytes (latest_of s)) ≡ ReadAs.call c)
    × ((stepped_of s c).answer.refusal ≡ 0)
    × ReadAsCalls (stepped_of s c).session (drop record_size bytes) calls

-- So many records have been read and taken: as these calls on a fresh session, which have made the one at hand.
pub record TakenSoFar (m : Memory) (taken : ℕ) (calls : List Call) : Type 0 where
  pub read : List ℕ
  pub whole : length read ≡ record_size * taken
  pub as_calls : ReadAsCalls (fresh_of m.property).session read calls
  pub session : record_in m ≡ stepped_through (fresh_of m.property).session calls

-- "the run open at the end record": one was read behind so many that were taken, and the session at hand has this run open.
pub record OpenAtEnd (m : Memory) (taken : ℕ) (run : Run) : Type 0 where
  pub calls : List Call
  pub so_far : TakenSoFar m taken calls
  pub behind : List ℕ
  pub at_end : read_as (record_answer behind (latest_of (record_in m))) ≡ ReadAs.end
  pub is_open : (seen m.property calls).clock.is_blind ≡ false
  pub is_run : (seen m.property calls).run ≡ run

-- The lines are that run's.
pub record Open (m : Memory) (taken : ℕ) (k : Kept) : Type 0 where
  pub run : Run
  pub has : OpenAtEnd m taken run
  pub keeps : Keeps run k
