-- The listing, line by line, in the words of the rules.
use Rattle.std.specs.Prelude.{ℕ, ◌+◌, ◌*◌, ◌-◌, ◌%◌, ◌^◌, ◌≤◌, ◌<◌, ◌≡◌, ◌⊎◌, List, [], ◌∷◌, ◌++◌}
use Rattle.meaning.specs.Words.{Property}
use Rattle.meaning.specs.Node.{Verdict}
use Rattle.meaning.specs.Calls.{Call, fresh, watched, Standing, open_of}
use Rattle.record_form.specs.Record.{Reader}
use Rattle.record_form.specs.Record
use Rattle.trace_form.specs.Trace.{Entry, entry_call}
use Rattle.session_record.specs.declared.Session.{Session}
use Rattle.session_record.specs.Record.{latest_of}
use Rattle.demands.specs.Traces.{RefusedBy}
use Rattle.demands.specs.Texts.{Row, end_line, stop_line}

-- Decimal digits alone: 48 is "0", 57 is "9".
unfoldable pub AllDigits : List ℕ → Type 0
AllDigits [] = Unit {0}
AllDigits (d ∷ rest) = (48 ≤ d) × (d ≤ 57) × AllDigits rest

-- At least one, and no zero before others.
abbrev pub NoZeroFirst : List ℕ → Type 0
NoZeroFirst [] = ⊥
NoZeroFirst (d ∷ []) = Unit {0}
NoZeroFirst (d ∷ e ∷ rest) = 48 < d

-- The number that digits stand for, read behind what stands before them.
unfoldable pub read_digits : ℕ → List ℕ → ℕ
read_digits before [] = before
read_digits before (d ∷ rest) = read_digits (before * 10 + (d - 48)) rest

-- The text is this number in decimal.
pub record InDecimal (v : ℕ) (text : List ℕ) : Type 0 where
  pub all_digits : AllDigits text
  pub no_zero_first : NoZeroFirst text
  pub reads : read_digits 0 text ≡ v

-- The rows of these records, one for each, in order, after calls on a fresh session and `number` rows: "record number from 1; .. verdict after
-- it; number open". The number is kept in 64 bits.
abbrev pub Rows : Property → List Call → ℕ → List Entry → List Row → Type 0
Rows p before number [] rows = rows ≡ []
Rows p before number (e ∷ entries) rows =
    (v : Verdict) × (rest : List Row) × Standing p (watched p fresh (before ++ entry_call e ∷ [])) v
    × (rows ≡ record { number = (number + 1) % 2 ^ 64; entry = e; verdict = v; open_count = open_of p (watched p fresh (before ++ entry_call e ∷ [])) } ∷ rest)
    × Rows p (before ++ entry_call e ∷ []) ((number + 1) % 2 ^ 64) entries rest

-- The number of records after these.
abbrev pub counted : ℕ → List Entry → ℕ
counted number [] = number
counted number (e ∷ entries) = counted ((number + 1) % 2 ^ 64) entries

-- "The last line counts the records taken; after a refusal it is `stop`, the count and the refusal number instead."
abbrev pub LastLine : Reader → Session → List ℕ → ℕ → List ℕ → Type 0
LastLine reader s bytes count text =
    ((reader bytes (latest_of s) ≡ Record.taken Record.end 0 (latest_of s)) × (text ≡ end_line count))
    ⊎ ((n : ℕ) × RefusedBy reader s bytes n × (n ≡ 0 → ⊥) × (text ≡ stop_line count n))
