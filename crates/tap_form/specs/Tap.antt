-- Document 02, CR 4: "a small card whose counter returns to 0 after 4,294,967,295".
use Rattle.std.specs.Prelude.{ℕ, ◌+◌, ◌-◌, ◌%◌, ◌^◌, Bool, cond, not, ◌&&◌, ◌||◌, List, ◌++◌, length, ◌==◌, nat_lt}
use Rattle.meaning.specs.Limits.{most_lost}
use Rattle.meaning.specs.Numbers.{given, first_of}
use Rattle.meaning.specs.Calls.{unless_refused}
use Rattle.fields.specs.Fields.{field, bits, form}
use Rattle.record_form.specs.Record.{Reader, ReadBy, RecordRead, gap, end, taken, answered, broken, stamp_above}

-- "records of 5 bytes"
abbrev pub tap_size : ℕ
tap_size = 5

-- The counter at a stamp: what the stamp leaves modulo 4,294,967,296.
abbrev pub counter_at : ℕ → ℕ
counter_at stamp = stamp % 2 ^ 32

-- "the wrapped difference": the counter less the one at the stamp before, modulo 4,294,967,296.
unfoldable pub since : ℕ → ℕ → ℕ
since counter before = (counter + (2 ^ 32 - counter_at before)) % 2 ^ 32

-- "each next one the stamp before plus the wrapped difference"; an end's is the one before.
unfoldable pub tap_stamp : ℕ → ℕ → ℕ → ℕ
tap_stamp kind counter before = cond (kind == end) before (before + since counter before)

-- "Kinds are as in document 01; an end has all other bits zero"; CR 7: "The tap card's gaps keep action 0"
unfoldable pub tap_broken : ℕ → ℕ → Bool → Bool
tap_broken kind action counter-not-0 = kind == gap && not (action == 0) || broken kind action counter-not-0

-- CR 7: "and count as 63": the number of lost lines, which the card does not say.
abbrev pub tap_action : ℕ → ℕ → ℕ
tap_action kind action = cond (kind == gap) most_lost action

-- "Refusals: 7, 8 and 4 in their old places": 8 and 4 of these fields.
unfoldable pub tap_fields_refusal : ℕ → ℕ → ℕ → ℕ → ℕ
tap_fields_refusal kind action counter before =
    first_of (given 8 (tap_broken kind action (not (counter == 0)))) (given 4 (stamp_above (tap_stamp kind counter before) before))

-- 7, 8 and 4 of bytes to be read: "2 bits kind, 6 bits action, 32 bits counter"
unfoldable pub tap_refusal : List ℕ → ℕ → ℕ
tap_refusal s before =
    first_of (given 7 (nat_lt (length s) tap_size)) (tap_fields_refusal (field s 0 2) (field s 2 6) (field s 8 32) before)

-- What the reader of the card's records, given the stamp before, answers to the bytes s.
unfoldable pub tap_answer : Reader
tap_answer s before =
    answered (tap_refusal s before)
    (taken (field s 0 2) (tap_action (field s 0 2) (field s 2 6)) (tap_stamp (field s 0 2) (field s 8 32) before))

-- What `read_tap` promises.
abbrev pub IsTapRead : List ℕ → ℕ → RecordRead → Type 0
IsTapRead s before r = ReadBy tap_answer s before r

-- The number of bytes that the reader takes; refused, none.
unfoldable pub tap_bytes_read : List ℕ → ℕ → ℕ
tap_bytes_read s before = unless_refused (tap_refusal s before) tap_size 0

-- "records of 5 bytes: 2 bits kind, 6 bits action, 32 bits counter, most significant first"
unfoldable pub tap_form : ℕ → ℕ → ℕ → List ℕ
tap_form kind action counter = form (bits 2 kind ++ bits 6 action ++ bits 32 counter)
