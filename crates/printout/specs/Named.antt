-- Document 02, CR 2: "prints the same listing with one more field behind the action number: the name, or `-` where there is none or
-- for a gap (header word `name`)". A line of the listing is its front and its back, and the name stands between them.
use Rattle.std.specs.Prelude.{ℕ, List, [], ◌∷◌, ◌++◌}
use Rattle.line_text.specs.Text.{space, newline, decimal}
use Rattle.printout.specs.Text.{letter, word}

-- `line kind action name stamp verdict open`
unfoldable pub named_header_text : List ℕ
named_header_text =
    (108 ∷ 105 ∷ 110 ∷ 101 ∷ space ∷ [])
    ++ (107 ∷ 105 ∷ 110 ∷ 100 ∷ space ∷ [])
    ++ (97 ∷ 99 ∷ 116 ∷ 105 ∷ 111 ∷ 110 ∷ space ∷ [])
    ++ (110 ∷ 97 ∷ 109 ∷ 101 ∷ space ∷ [])
    ++ (115 ∷ 116 ∷ 97 ∷ 109 ∷ 112 ∷ space ∷ [])
    ++ (118 ∷ 101 ∷ 114 ∷ 100 ∷ 105 ∷ 99 ∷ 116 ∷ space ∷ [])
    ++ (111 ∷ 112 ∷ 101 ∷ 110 ∷ newline ∷ [])

-- `1 I 0`: record number, kind, action.
unfoldable pub front_text : ℕ → ℕ → ℕ → List ℕ
front_text number kind action = decimal number ++ (space ∷ letter kind ∷ []) ++ (space ∷ decimal action)

-- ` 100 clear 1`: stamp, verdict, number open.
unfoldable pub back_text : ℕ → ℕ → ℕ → List ℕ
back_text stamp verdict open_count =
    (space ∷ decimal stamp) ++ (space ∷ word verdict) ++ (space ∷ decimal open_count) ++ (newline ∷ [])

-- `-`, where there is no name.
unfoldable pub shown_name : List ℕ → List ℕ
shown_name [] = 45 ∷ []
shown_name (b ∷ name) = b ∷ name

-- `1 I 0 switch 100 clear 1`
unfoldable pub named_line_text : ℕ → ℕ → ℕ → List ℕ → ℕ → ℕ → ℕ → List ℕ
named_line_text number kind action name stamp verdict open_count =
    front_text number kind action ++ (space ∷ shown_name name) ++ back_text stamp verdict open_count
