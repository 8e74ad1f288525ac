-- A front given by its places: open input i has the line L i, and cut i the set S i.
use Rattle.std.specs.Prelude.{ℕ, suc, ◌+◌}
use Rattle.laws.specs.Places.{first}
use Rattle.meaning.specs.Words.{Line}
use Rattle.meaning.specs.Step.{Held, Front}

abbrev pub held_by : {Set : Type 0} → (ℕ → Line) → (ℕ → Set) → ℕ → Held Set
held_by L S i = record { line = L i; after = S (suc i) }

-- The first n inputs, and the sets before and after them.
abbrev pub front_by : {Set : Type 0} → (ℕ → Line) → (ℕ → Set) → ℕ → Front Set
front_by L S n = record { before = S 0; held = first (held_by L S) n }

-- The same without the first d: n inputs, and the sets before and after them.
abbrev pub front_from : {Set : Type 0} → (ℕ → Line) → (ℕ → Set) → ℕ → ℕ → Front Set
front_from L S d n = record { before = S d; held = first (λ i. held_by L S (d + i)) n }
