-- Document 01's listing of case 15, byte for byte, by the definitions alone; and a gap's line and a `stop` line, which it has not; and
-- lines of document 02, CR 2.
use Prim.Native.Nat.{ℕ}
use mathlib.Core.Path.{◌≡◌, refl}
use mathlib.Core.List.{List, [], ◌∷◌, ◌++◌}
use Rattle.meaning.specs.Node.{Verdict, verdict_number}
use Rattle.line_text.specs.Text.{digits, decimal}
use Rattle.printout.specs.Text.{letter, clear, suspect, certain, blind, word, header_text, line_text, end_text, stop_text}
use Rattle.printout.specs.Named.{named_header_text, front_text, back_text, shown_name, named_line_text}

-- `line kind action stamp verdict open`, `1 I 0 100 clear 1`, `2 O 2 120 suspect 1`, `3 O 2 161 certain 0`, `end 3`
abbrev case_15_listing : List ℕ
case_15_listing =
    108 ∷ 105 ∷ 110 ∷ 101 ∷ 32 ∷ 107 ∷ 105 ∷ 110 ∷ 100 ∷ 32 ∷ 97 ∷ 99 ∷ 116 ∷ 105 ∷ 111 ∷ 110 ∷ 32 ∷ 115 ∷ 116 ∷ 97 ∷ 109 ∷ 112 ∷ 32 ∷ 118 ∷ 101 ∷ 114 ∷ 100 ∷ 105 ∷ 99 ∷ 116 ∷ 32 ∷ 111 ∷ 112 ∷ 101 ∷ 110 ∷ 10
    ∷ 49 ∷ 32 ∷ 73 ∷ 32 ∷ 48 ∷ 32 ∷ 49 ∷ 48 ∷ 48 ∷ 32 ∷ 99 ∷ 108 ∷ 101 ∷ 97 ∷ 114 ∷ 32 ∷ 49 ∷ 10
    ∷ 50 ∷ 32 ∷ 79 ∷ 32 ∷ 50 ∷ 32 ∷ 49 ∷ 50 ∷ 48 ∷ 32 ∷ 115 ∷ 117 ∷ 115 ∷ 112 ∷ 101 ∷ 99 ∷ 116 ∷ 32 ∷ 49 ∷ 10
    ∷ 51 ∷ 32 ∷ 79 ∷ 32 ∷ 50 ∷ 32 ∷ 49 ∷ 54 ∷ 49 ∷ 32 ∷ 99 ∷ 101 ∷ 114 ∷ 116 ∷ 97 ∷ 105 ∷ 110 ∷ 32 ∷ 48 ∷ 10
    ∷ 101 ∷ 110 ∷ 100 ∷ 32 ∷ 51 ∷ 10 ∷ []

pub case_15 : header_text ++ line_text 1 0 0 100 0 1 ++ line_text 2 1 2 120 1 1 ++ line_text 3 1 2 161 2 0 ++ end_text 3 ≡ case_15_listing
unfolding header_text line_text end_text decimal digits letter word
case_15 = refl

-- Document 02, CR 7, of a gap's number of lost lines: "the printing program shows it in the action column"; `blind` and 0 stay as they
-- were. After 3 lost lines: `4 G 3 200 blind 0`
pub gap-line : line_text 4 2 3 200 3 0 ≡ 52 ∷ 32 ∷ 71 ∷ 32 ∷ 51 ∷ 32 ∷ 50 ∷ 48 ∷ 48 ∷ 32 ∷ 98 ∷ 108 ∷ 105 ∷ 110 ∷ 100 ∷ 32 ∷ 48 ∷ 10 ∷ []
unfolding line_text decimal digits letter word
gap-line = refl

-- "after a refusal it is `stop`, the count and the refusal number instead": `stop 2 5`
pub stop_line : stop_text 2 5 ≡ 115 ∷ 116 ∷ 111 ∷ 112 ∷ 32 ∷ 50 ∷ 32 ∷ 53 ∷ 10 ∷ []
unfolding stop_text decimal digits
stop_line = refl

-- With names: `line kind action name stamp verdict open`, `1 I 0 switch 100 clear 1`, `4 G 3 - 200 blind 0`
pub named_lines : named_header_text ++ named_line_text 1 0 0 (115 ∷ 119 ∷ 105 ∷ 116 ∷ 99 ∷ 104 ∷ []) 100 0 1 ++ named_line_text 4 2 3 [] 200 3 0
    ≡ 108 ∷ 105 ∷ 110 ∷ 101 ∷ 32 ∷ 107 ∷ 105 ∷ 110 ∷ 100 ∷ 32 ∷ 97 ∷ 99 ∷ 116 ∷ 105 ∷ 111 ∷ 110 ∷ 32 ∷ 110 ∷ 97 ∷ 109 ∷ 101 ∷ 32 ∷ 115 ∷ 116 ∷ 97 ∷ 109 ∷ 112 ∷ 32
    ∷ 118 ∷ 101 ∷ 114 ∷ 100 ∷ 105 ∷ 99 ∷ 116 ∷ 32 ∷ 111 ∷ 112 ∷ 101 ∷ 110 ∷ 10
    ∷ 49 ∷ 32 ∷ 73 ∷ 32 ∷ 48 ∷ 32 ∷ 115 ∷ 119 ∷ 105 ∷ 116 ∷ 99 ∷ 104 ∷ 32 ∷ 49 ∷ 48 ∷ 48 ∷ 32 ∷ 99 ∷ 108 ∷ 101 ∷ 97 ∷ 114 ∷ 32 ∷ 49 ∷ 10
    ∷ 52 ∷ 32 ∷ 71 ∷ 32 ∷ 51 ∷ 32 ∷ 45 ∷ 32 ∷ 50 ∷ 48 ∷ 48 ∷ 32 ∷ 98 ∷ 108 ∷ 105 ∷ 110 ∷ 100 ∷ 32 ∷ 48 ∷ 10 ∷ []
unfolding named_header_text named_line_text front_text back_text shown_name decimal digits letter word
named_lines = refl

-- Each verdict by its own name.
abbrev name : Verdict → List ℕ
name Verdict.clear = clear
name Verdict.suspect = suspect
name Verdict.certain = certain
name Verdict.blind = blind

pub words : (v : Verdict) → word (verdict_number v) ≡ name v
unfolding word
words Verdict.clear = refl
words Verdict.suspect = refl
words Verdict.certain = refl
words Verdict.blind = refl
