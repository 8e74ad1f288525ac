-- Document 02, CR 6: the text of the reasons. "Printed are `verdict line` (the verdict's word), then the orders, the breaking one first,
-- each line as `number moment`; on a refusal `stop` and its number alone."
use Rattle.std.specs.Prelude.{ℕ, suc, List, [], ◌∷◌, ◌++◌, ℤ, pos, negsuc}
use Rattle.line_text.specs.Text.{space, newline, decimal}
use Rattle.printout.specs.Text.{blind, word}

-- A moment in decimal, behind a minus sign where it is negative.
unfoldable pub signed : ℤ → List ℕ
signed (pos n) = decimal n
signed (negsuc n) = 45 ∷ decimal (suc n)

-- `certain 3`: the verdict, and after which line it was first reached.
unfoldable pub reached_text : ℕ → ℕ → List ℕ
reached_text verdict line = word verdict ++ (space ∷ decimal line) ++ (newline ∷ [])

-- `2 90`: a line of an order by its number in the run, and its moment.
unfoldable pub placed_text : ℕ → ℤ → List ℕ
placed_text number moment = decimal number ++ (space ∷ signed moment) ++ (newline ∷ [])

-- `blind`: "where none is open it prints `blind` alone"
unfoldable pub blind_text : List ℕ
blind_text = blind ++ newline ∷ []

-- `stop 8`
unfoldable pub stop_alone_text : ℕ → List ℕ
stop_alone_text refusal = (115 ∷ 116 ∷ 111 ∷ 112 ∷ []) ++ (space ∷ decimal refusal) ++ (newline ∷ [])
