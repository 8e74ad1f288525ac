-- How a text is kept: in a room of its own, with zeros behind it.
use Rattle.std.specs.Prelude.{ℕ, ◌-◌, ◌≤◌, ◌≡◌, List, ◌++◌, length, replicate, take}

-- The bytes of a room that holds a text.
abbrev pub kept : ℕ → List ℕ → List ℕ
kept room l = l ++ replicate (room - length l) 0

-- The first `len` bytes of the room are a text, and the others zeros.
pub record Keeps (room : ℕ) (bytes : List ℕ) (len : ℕ) : Type 0 where
  pub within : len ≤ room
  pub text : length (take len bytes) ≡ len
  pub zeros : kept room (take len bytes) ≡ bytes
