-- A line of the listing, with a name put into it.
use Rattle.std.specs.Prelude.{ℕ, List, ◌∷◌, ◌++◌, take, drop}
use Rattle.line_text.specs.Text.{space}
use Rattle.printout.specs.Named.{shown_name}

-- The line with a name behind its first so many bytes.
abbrev pub inserted : ℕ → List ℕ → List ℕ → List ℕ
inserted at name line = take at line ++ (space ∷ shown_name name) ++ drop at line
