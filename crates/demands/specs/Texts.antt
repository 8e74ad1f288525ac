-- What is printed, in the documents' own words: document 01, case 15; document 02, CR 2, CR 6 and CR 7. Numbers are decimal (`decimal-reads`).
use Rattle.std.specs.Prelude.{ℕ, suc, List, [], ◌∷◌, ◌++◌, ℤ, pos, negsuc}
use Prim.Native.Char.{code}
use Prim.Native.String.{String, [] as []ˢ, ◌∷◌ as ◌∷ˢ◌}
use Rattle.meaning.specs.Words.{Action}
use Rattle.meaning.specs.Node.{Verdict}
use Rattle.trace_form.specs.Trace.{Entry}
use Rattle.line_text.specs.Text.{decimal}

-- The bytes of a text.
abbrev pub bytes : String → List ℕ
bytes []ˢ = []
bytes (c ∷ˢ rest) = code c ∷ bytes rest

-- ---- The listing

abbrev pub header : List ℕ
header = bytes "line kind action stamp verdict open\n"

-- "record number from 1; I, O or G; action; stamp; verdict after it; number open"
pub record Row : Type 0 where
  pub number : ℕ
  pub entry : Entry
  pub verdict : Verdict
  pub open_count : ℕ

abbrev pub kind_text : Entry → List ℕ
kind_text (Entry.input k t) = bytes "I"
kind_text (Entry.output k t) = bytes "O"
kind_text (Entry.gap n t) = bytes "G"

-- CR 7: "the printing program shows it in the action column", the number of lost lines
abbrev pub action_text : Entry → List ℕ
action_text (Entry.input k t) = decimal k
action_text (Entry.output k t) = decimal k
action_text (Entry.gap n t) = decimal n

abbrev pub stamp_text : Entry → List ℕ
stamp_text (Entry.input k t) = decimal t
stamp_text (Entry.output k t) = decimal t
stamp_text (Entry.gap n t) = decimal t

abbrev pub verdict_text : Verdict → List ℕ
verdict_text Verdict.clear = bytes "clear"
verdict_text Verdict.suspect = bytes "suspect"
verdict_text Verdict.certain = bytes "certain"
verdict_text Verdict.blind = bytes "blind"

-- `3 O 2 161 certain 0`
abbrev pub row_front : Row → List ℕ → List ℕ
row_front r behind = decimal r.number ++ bytes " " ++ kind_text r.entry ++ bytes " " ++ action_text r.entry ++ bytes " " ++ behind

abbrev pub row_back : Row → List ℕ
row_back r = stamp_text r.entry ++ bytes " " ++ verdict_text r.verdict ++ bytes " " ++ decimal r.open_count ++ bytes "\n"

abbrev pub row_text : Row → List ℕ
row_text r = row_front r (row_back r)

unfoldable pub all_rows : (Row → List ℕ) → List Row → List ℕ
all_rows text [] = []
all_rows text (r ∷ rows) = text r ++ all_rows text rows

-- "The last line counts the records taken; after a refusal it is `stop`, the count and the refusal number instead."
abbrev pub end_line : ℕ → List ℕ
end_line count = bytes "end " ++ decimal count ++ bytes "\n"

abbrev pub stop_line : (count refusal : ℕ) → List ℕ
stop_line count refusal = bytes "stop " ++ decimal count ++ bytes " " ++ decimal refusal ++ bytes "\n"

-- ---- CR 2: "the same listing with one more field behind the action number: the name, or `-` where there is none or for a gap (header
-- word `name`)"

abbrev pub named_header : List ℕ
named_header = bytes "line kind action name stamp verdict open\n"

abbrev pub or_none : List ℕ → List ℕ
or_none [] = bytes "-"
or_none (b ∷ name) = b ∷ name

abbrev pub name_text : (Action → List ℕ) → Entry → List ℕ
name_text names (Entry.input k t) = or_none (names (Action.input k))
name_text names (Entry.output k t) = or_none (names (Action.output k))
name_text names (Entry.gap n t) = bytes "-"

abbrev pub named_row_text : (Action → List ℕ) → Row → List ℕ
named_row_text names r = row_front r (name_text names r.entry ++ bytes " " ++ row_back r)

-- ---- CR 6: "Printed are `verdict line` (the verdict's word), then the orders .., each line as `number moment`; on a refusal `stop` and its
-- number alone"; "where none is open it prints `blind` alone"

abbrev pub reached_line : Verdict → ℕ → List ℕ
reached_line verdict line = verdict_text verdict ++ bytes " " ++ decimal line ++ bytes "\n"

abbrev pub moment_text : ℤ → List ℕ
moment_text (pos n) = decimal n
moment_text (negsuc n) = bytes "-" ++ decimal (suc n)

abbrev pub placed_line : ℕ → ℤ → List ℕ
placed_line number moment = decimal number ++ bytes " " ++ moment_text moment ++ bytes "\n"

abbrev pub blind_line : List ℕ
blind_line = bytes "blind\n"

abbrev pub stop_alone_line : ℕ → List ℕ
stop_alone_line refusal = bytes "stop " ++ decimal refusal ++ bytes "\n"
