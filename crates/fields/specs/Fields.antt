-- Document 01, "Packed forms": "Fields are whole bits, most significant first."
use Rattle.std.specs.Prelude.{ℕ, zero, suc, ◌+◌, ◌-◌, ◌*◌, ◌/◌, ◌%◌, ◌^◌, ◌<◌, List, [], ◌∷◌, ◌++◌, length, get_or}

-- Digit k of the number v, of weight 2 ^ k.
unfoldable pub digit : ℕ → ℕ → ℕ
digit v k = v / 2 ^ k % 2

-- Bit i of the bytes s, the most significant of each byte first.
unfoldable pub bit : List ℕ → ℕ → ℕ
bit s i = digit (get_or s (i / 8) 0) (7 - i % 8)

-- The number whose k binary digits are f i, f (i + 1), .., most significant first.
unfoldable pub number : (ℕ → ℕ) → ℕ → ℕ → ℕ
number f i zero = 0
number f i (suc k) = 2 * number f i k + f (i + k)

-- The field of k bits from bit i of the bytes s.
abbrev pub field : List ℕ → ℕ → ℕ → ℕ
field s i k = number (bit s) i k

-- The k bits of a field that holds v, most significant first.
unfoldable pub bits : ℕ → ℕ → List ℕ
bits zero v = []
bits (suc k) v = digit v k ∷ bits k v

-- The k bits f i, f (i + 1), ..
unfoldable pub run : (ℕ → ℕ) → ℕ → ℕ → List ℕ
run f i zero = []
run f i (suc k) = run f i k ++ (f (i + k) ∷ [])

-- Bit i of a list of bits; behind its end all bits are zero.
abbrev pub at : List ℕ → ℕ → ℕ
at l i = get_or l i 0

-- The n bytes whose bits are f 0, f 1, ..
unfoldable pub packed : (ℕ → ℕ) → ℕ → List ℕ
packed f zero = []
packed f (suc n) = packed f n ++ (number f (8 * n) 8 ∷ [])

-- The bytes that so many bits take, "zero bits to a full byte".
abbrev pub size : ℕ → ℕ
size n = (n + 7) / 8

-- The packed form of a list of bits, "zero bits to a full byte".
unfoldable pub form : List ℕ → List ℕ
form l = packed (at l) (size (length l))

-- Each of f's values is a bit.
abbrev pub Bits : (ℕ → ℕ) → Type 0
Bits f = (i : ℕ) → f i < 2
