-- The session record: the one map from it to the session over cuts of the meaning, the way back, and refusal 10.
use Rattle.std.specs.Prelude.{ℕ, Bool, cond, not, ◌&&◌, ◌||◌, List, [], ◌∷◌, length, eqb, ltb}
use Rattle.meaning.specs.Limits.{last_stamp, most_open}
use Rattle.meaning.specs.Numbers.{property_refusal}
use Rattle.meaning.specs.Matcher.{Lengths, some_to}
use Rattle.meaning.specs.Step.{Cuts}
use Rattle.property.specs.Meant.{meant}
use Rattle.property.specs.declared.Property.{Property}
use Rattle.matcher.specs.Sets.{stray}
use Rattle.rows.specs.declared.Span.{Span}
use Rattle.rows.specs.Rows.{last_place, spanning}
use Rattle.clock.specs.Time.{clock_of, stored_clock}
use Rattle.held.specs.declared.Status.{Status}
use Rattle.held.specs.Held.{stamps_fall}
use Rattle.cuts.specs.Steps.{front_none}
use Rattle.cuts.specs.Fronts.{cut_at, front_of, stored_held, stored_acts, stored_row}
use Rattle.session_record.specs.declared.Session.{Session}

-- The rows of a record, and what stands beside them.
abbrev pub rows_of : Session → List (List ℕ)
rows_of s = s.shared.held ∷ s.shared.acts ∷ s.row.masks ∷ s.row.armed ∷ []

abbrev pub span_of : Session → Span
span_of s = s.shared.status.span

abbrev pub start_of : Session → ℕ
start_of s = (span_of s).start

abbrev pub count_of : Session → ℕ
count_of s = (span_of s).count

abbrev pub latest_of : Session → ℕ
latest_of s = s.shared.status.clock.latest

abbrev pub blind_of : Session → Bool
blind_of s = s.shared.status.clock.blind

-- The session over cuts that rows and what stands beside them hold. While blind no cut is in use, and nothing is ever said of places not in use.
abbrev pub cuts_in : Property → List (List ℕ) → Status → Cuts Lengths
cuts_in p rows status =
    record { clock = clock_of status.clock; front = cond status.clock.blind (front_none p) (front_of rows status.span 0) }

-- The session over cuts that a record stands for.
abbrev pub cuts_of : Session → Cuts Lengths
cuts_of s = cuts_in s.property (rows_of s) s.shared.status

-- The record of a session over cuts: it starts at the first place, and places not in use are 0.
abbrev pub record_of : Property → Cuts Lengths → Session
record_of p c =
    record {
      property = p;
      shared =
          record {
            held = stored_held c.front;
            acts = stored_acts c.front;
            status = record { span = spanning (length c.front.held); clock = stored_clock c.clock };
          };
      row = stored_row c.front;
    }

-- "a matched length above the sequence's": in what some cut stores
abbrev pub length_above : List (List ℕ) → Span → ℕ → Bool
length_above rows s n = some_to s.count (λ i. stray n (cut_at rows s 0 i))

-- "10: a session record with values out of range: a property that 1, 2 or 3 would refuse, over 64 held stamps, held stamps
-- out of order or past the latest, held stamps while blind, latest past the limit, a matched length above the sequence's"; document 02,
-- CR 9: "Refusal 10 also covers a start or count out of range."
unfoldable pub out_of_range : Session → Bool
out_of_range s =
    not (eqb (property_refusal (meant s.property)) 0)
    || ltb last_place (start_of s)
    || ltb most_open (count_of s)
    || stamps_fall (rows_of s) (span_of s) (latest_of s)
    || blind_of s && ltb 0 (count_of s)
    || ltb last_stamp (latest_of s)
    || not (blind_of s) && length_above (rows_of s) (span_of s) s.property.n
