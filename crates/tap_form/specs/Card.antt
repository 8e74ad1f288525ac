-- The card's traces: its records of true stamps, one after the other, up to its end record.
use Rattle.std.specs.Prelude.{◌≡◌, ℕ, ◌+◌, ◌^◌, ◌<◌, ◌≤◌, List, [], ◌∷◌, ◌++◌}
use Rattle.meaning.specs.Limits.{last_action, most_lost, last_stamp}
use Rattle.record_form.specs.Record
use Rattle.trace_form.specs.Trace.{Entry, kind_of, stamp_of, TakenBy}
use Rattle.tap_form.specs.Tap.{tap_size, counter_at, tap_answer, tap_form}

-- CR 7: "The tap card's gaps keep action 0 and count as 63": what the card has in the 6 bits of action, and which numbers it can say.
abbrev pub card_action : Entry → ℕ
card_action (Entry.input action stamp) = action
card_action (Entry.output action stamp) = action
card_action (Entry.gap lost stamp) = 0

abbrev pub CardNumber : Entry → Type 0
CardNumber (Entry.input action stamp) = action ≤ last_action
CardNumber (Entry.output action stamp) = action ≤ last_action
CardNumber (Entry.gap lost stamp) = lost ≡ most_lost

-- What the card sends for these lines and gap marks: of each stamp its counter alone; and then its end.
unfoldable pub card_form : List Entry → List ℕ
card_form [] = tap_form Record.end 0 0
card_form (e ∷ trace) = tap_form (kind_of e) (card_action e) (counter_at (stamp_of e)) ++ card_form trace

-- "true stamps of neighbours are less than 4,294,967,296 apart and the first is below that", with 0 before it; they never fall, and
-- stamps and numbers are those that the card can say.
abbrev pub CardCanSay : ℕ → List Entry → Type 0
CardCanSay before [] = Unit {0}
CardCanSay before (e ∷ trace) =
    (before ≤ stamp_of e) × (stamp_of e < before + 2 ^ 32) × (stamp_of e ≤ last_stamp) × CardNumber e × CardCanSay (stamp_of e) trace

-- The bytes s are read as the trace: record by record up to the end record, with no byte behind it.
abbrev pub TapTakenAs : List ℕ → ℕ → List Entry → Type 0
TapTakenAs s before trace = TakenBy tap_size tap_answer s before trace
