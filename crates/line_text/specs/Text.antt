-- A line of text, as bytes: numbers in decimal.
use Rattle.std.specs.Prelude.{ℕ, zero, suc, ◌+◌, ◌/◌, ◌%◌, cond, List, [], ◌∷◌, ◌++◌, ltb}

abbrev pub space : ℕ
space = 32

abbrev pub newline : ℕ
newline = 10

-- The byte of a digit: 48 is "0", 57 is "9".
abbrev pub digit : ℕ → ℕ
digit d = 48 + d

-- A number in at most so many digits, most significant first: below ten its digit alone, else the digits of its tenth and
-- then its last digit.
unfoldable pub digits : ℕ → ℕ → List ℕ
digits zero v = []
digits (suc most) v = cond (ltb v 10) (digit v ∷ []) (digits most (v / 10) ++ digit (v % 10) ∷ [])

-- A number in decimal: no leading zeros, 0 is "0". Twenty digits hold every number below 2 ^ 64 (and no other is printed).
unfoldable pub decimal : ℕ → List ℕ
decimal v = digits 20 v

-- The room of a line: the longest has 94 bytes.
abbrev pub room : ℕ
room = 96

-- The room of a line with a name: a name of 40 with the space before it is 41 more.
abbrev pub named_room : ℕ
named_room = 144
