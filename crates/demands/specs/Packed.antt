-- Document 01, "Packed forms": a packed property by its fields, and what is broken.
use Rattle.std.specs.Prelude.{ℕ, ◌+◌, ◌*◌, ◌/◌, ◌<◌, ◌≡◌, Bool, not, ◌&&◌, ◌||◌, List, eqb, ltb}
use Rattle.laws.specs.Places.{first}
use Rattle.meaning.specs.Words.{Property}
use Rattle.fields.specs.Fields.{bit, field}
use Rattle.demands.specs.Called.{action_if}

-- "6 bits length n; 26 bits LB; 26 bits UB; for each action 1 bit (0 input, 1 output) and 6 bits number; 64 bits allowed, the first for
-- output 0": the bytes s hold this property.
pub record PropertyFields (s : List ℕ) (q : Property) : Type 0 where
  pub lb : q.LB ≡ field s 6 26
  pub ub : q.UB ≡ field s 32 26
  pub sequence : q.sequence ≡ first (λ i. action_if (eqb (field s (58 + 7 * i) 1) 1) (field s (59 + 7 * i) 6)) (field s 0 6)
  pub allowed : (k : ℕ) → k < 64 → q.allowed k ≡ eqb (bit s (58 + 7 * field s 0 6 + k)) 1

-- "122 + 7n bits: 17 bytes for n = 1, 44 for n = 32", "zero bits to a full byte"
abbrev pub property_bytes : ℕ → ℕ
property_bytes n = (122 + 7 * n + 7) / 8

-- "Broken is: .. an end with action or stamp field not 0 .., a kind to be written above 3."
abbrev pub record_broken : ℕ → ℕ → Bool → Bool
record_broken kind action stamp-not-0 = eqb kind 3 && (not (eqb action 0) || stamp-not-0) || ltb 3 kind

-- "a stamp above 2^40 − 1"; "a stamp before past the limit is itself refusal 4"
abbrev pub past_limit : (stamp before : ℕ) → Bool
past_limit stamp before = ltb 1_099_511_627_775 stamp || ltb 1_099_511_627_775 before
