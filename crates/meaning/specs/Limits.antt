-- The limits of document 01, each once.
use Rattle.std.specs.Prelude.{ℕ}

-- "a sequence of 1 to 32 actions"
abbrev pub most_actions : ℕ
most_actions = 32

-- "with k from 0 to 63"
abbrev pub last_action : ℕ
last_action = 63

-- Document 02, CR 7: "0 to 62 as it is, 63 for more or unknown"
abbrev pub most_lost : ℕ
most_lost = 63

-- "1 ≤ LB ≤ UB ≤ 60,000,000"
abbrev pub last_bound : ℕ
last_bound = 60_000_000

-- "a stamp, 0 to 1,099,511,627,775 (2^40 − 1)"
abbrev pub last_stamp : ℕ
last_stamp = 1_099_511_627_775

-- "At most 64 inputs may be open"
abbrev pub most_open : ℕ
most_open = 64
