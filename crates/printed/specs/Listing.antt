-- Document 01, case 15: the whole listing that the printing program writes, for any reader of records of a size.
use Rattle.std.specs.Prelude.{ℕ, zero, suc, cond, List, [], ◌++◌, length, take, drop}
use Rattle.record_form.specs.Record.{Reader, record_size, record_answer}
use Rattle.session_record.specs.declared.Session.{Session}
use Rattle.printout.specs.Text.{header_text}
use Rattle.printed.specs.declared.Printed.{Printed}
use Rattle.printed.specs.Printed.{printed_by, begun_of}

-- What one part of the input adds, and behind it what the next parts add, unless this was the last line.
abbrev pub and_more : Printed → List ℕ → List ℕ
and_more r rest = r.text ++ cond r.more rest []

-- What at most so many records add, after `count` that were taken: as many bytes as a record has are read at a time.
unfoldable pub lines_by : (size : ℕ) → Reader → ℕ → Session → ℕ → List ℕ → List ℕ
lines_by size reader zero s count bytes = []
lines_by size reader (suc most) s count bytes =
    and_more (printed_by reader s count (take size bytes))
    (lines_by size reader most (printed_by reader s count (take size bytes)).session (printed_by reader s count (take size bytes)).count (drop size bytes))

-- What all records add: there are fewer than bytes, or none.
abbrev pub records_by : (size : ℕ) → Reader → Session → ℕ → List ℕ → List ℕ
records_by size reader s count bytes = lines_by size reader (suc (length bytes)) s count bytes

-- The listing of the bytes of a property and of those of the records behind it.
unfoldable pub listing_by : (size : ℕ) → Reader → List ℕ → List ℕ → List ℕ
listing_by size reader property records =
    header_text ++ and_more (begun_of property) (records_by size reader (begun_of property).session (begun_of property).count records)

-- The same of document 01's records.
abbrev pub listing_of : List ℕ → List ℕ → List ℕ
listing_of property records = listing_by record_size record_answer property records
