-- Rows of 65 places, each a ring, by index. Nothing is said of places not in use.
use Rattle.std.specs.Prelude.{ℕ, ◌+◌, ◌-◌, ◌%◌, ◌≤◌, ◌<◌, ◌≡◌, List, [], length, get_or, set}
use Rattle.rows.specs.declared.Span.{Span}

-- "there are never more than sixty-five cuts to hold": the places are numbered from 0
abbrev pub last_place : ℕ
last_place = 64

-- So many open inputs, from the first place on; none of them.
abbrev pub spanning : ℕ → Span
spanning n = record { start = 0; count = n }

abbrev pub none : Span
none = spanning 0

-- Where index i stands in its row: behind the last place comes the first.
unfoldable pub place : Span → ℕ → ℕ
place s i = (s.start + i) % 65

-- One open input more, behind the others; and without the first d of them.
unfoldable pub longer : Span → Span
longer s = record { start = s.start; count = s.count + 1 }

unfoldable pub shorter : Span → ℕ → Span
shorter s d = record { start = place s d; count = s.count - d }

-- What stands at index i of row k, and the rows with v there.
unfoldable pub word : List (List ℕ) → Span → ℕ → ℕ → ℕ
word rows s k i = get_or (get_or rows k []) (place s i) 0

unfoldable pub with : List (List ℕ) → Span → ℕ → ℕ → ℕ → List (List ℕ)
with rows s k i v = set rows k (set (get_or rows k []) (place s i) v)

-- A span that the ring has places for.
pub record Within (s : Span) : Type 0 where
  pub begins : s.start ≤ last_place
  pub few : s.count ≤ last_place

-- Every row has its 65 places, and they are enough; the two rows of the open inputs are there.
pub record Room (rows : List (List ℕ)) (s : Span) : Type 0 where
  pub long : (k : ℕ) → k < length rows → length (get_or rows k []) ≡ 65
  pub shared : 1 < length rows
  pub within : Within s
