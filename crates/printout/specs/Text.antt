-- Document 01, case 15: the text of the listing, as bytes. "Fields: record number from 1; I, O or G; action; stamp; verdict
-- after it; number open." One space stands between two fields, and a newline ends each line.
use Rattle.std.specs.Prelude.{ℕ, zero, suc, List, [], ◌∷◌, ◌++◌}
use Rattle.line_text.specs.Text.{space, newline, decimal}

-- The letter of a kind, 0 input, 1 output, 2 gap: "I, O or G", which are 73, 79 and 71. No listing has another kind; it would be G.
unfoldable pub letter : ℕ → ℕ
letter zero = 73
letter (suc zero) = 79
letter (suc (suc other)) = 71

-- `clear`
abbrev pub clear : List ℕ
clear = 99 ∷ 108 ∷ 101 ∷ 97 ∷ 114 ∷ []

-- `suspect`
abbrev pub suspect : List ℕ
suspect = 115 ∷ 117 ∷ 115 ∷ 112 ∷ 101 ∷ 99 ∷ 116 ∷ []

-- `certain`
abbrev pub certain : List ℕ
certain = 99 ∷ 101 ∷ 114 ∷ 116 ∷ 97 ∷ 105 ∷ 110 ∷ []

-- `blind`
abbrev pub blind : List ℕ
blind = 98 ∷ 108 ∷ 105 ∷ 110 ∷ 100 ∷ []

-- The word of a verdict number, 0 to 3. There is no other verdict; it would be `blind`.
unfoldable pub word : ℕ → List ℕ
word zero = clear
word (suc zero) = suspect
word (suc (suc zero)) = certain
word (suc (suc (suc other))) = blind

-- `line kind action stamp verdict open`
unfoldable pub header_text : List ℕ
header_text =
    (108 ∷ 105 ∷ 110 ∷ 101 ∷ space ∷ [])
    ++ (107 ∷ 105 ∷ 110 ∷ 100 ∷ space ∷ [])
    ++ (97 ∷ 99 ∷ 116 ∷ 105 ∷ 111 ∷ 110 ∷ space ∷ [])
    ++ (115 ∷ 116 ∷ 97 ∷ 109 ∷ 112 ∷ space ∷ [])
    ++ (118 ∷ 101 ∷ 114 ∷ 100 ∷ 105 ∷ 99 ∷ 116 ∷ space ∷ [])
    ++ (111 ∷ 112 ∷ 101 ∷ 110 ∷ newline ∷ [])

-- `1 I 0 100 clear 1`: record number, kind, action, stamp, verdict, number open.
unfoldable pub line_text : ℕ → ℕ → ℕ → ℕ → ℕ → ℕ → List ℕ
line_text number kind action stamp verdict open_count =
    decimal number
    ++ (space ∷ letter kind ∷ [])
    ++ (space ∷ decimal action)
    ++ (space ∷ decimal stamp)
    ++ (space ∷ word verdict)
    ++ (space ∷ decimal open_count)
    ++ (newline ∷ [])

-- `end 3`: "The last line counts the records taken"
unfoldable pub end_text : ℕ → List ℕ
end_text count = (101 ∷ 110 ∷ 100 ∷ []) ++ (space ∷ decimal count) ++ (newline ∷ [])

-- `stop 2 5`: "after a refusal it is `stop`, the count and the refusal number instead"
unfoldable pub stop_text : ℕ → ℕ → List ℕ
stop_text count refusal =
    (115 ∷ 116 ∷ 111 ∷ 112 ∷ []) ++ (space ∷ decimal count) ++ (space ∷ decimal refusal) ++ (newline ∷ [])
