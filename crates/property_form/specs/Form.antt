-- Document 01, "Packed forms": the packed property.
use Rattle.std.specs.Prelude.{ℕ, ◌+◌, ◌*◌, Bool, true, false, List, [], ◌∷◌, ◌++◌, length}
use Rattle.meaning.specs.Words.{Action}
use Rattle.meaning.specs.Words
use Rattle.fields.specs.Fields.{bits, run, size, form}

-- A bit that says yes or no.
abbrev pub flag : Bool → ℕ
flag true = 1
flag false = 0

-- "for each action 1 bit (0 input, 1 output) and 6 bits number"
unfoldable pub action_bits : Action → List ℕ
action_bits (Action.input k) = bits 1 0 ++ bits 6 k
action_bits (Action.output k) = bits 1 1 ++ bits 6 k

unfoldable pub sequence_bits : List Action → List ℕ
sequence_bits [] = []
sequence_bits (a ∷ rest) = action_bits a ++ sequence_bits rest

-- "64 bits allowed, the first for output 0"
unfoldable pub allowed_bits : (ℕ → Bool) → List ℕ
allowed_bits allowed = run (λ k. flag (allowed k)) 0 64

-- "6 bits length n; 26 bits LB; 26 bits UB; for each action ..; 64 bits allowed, .."
unfoldable pub property_bits : Words.Property → List ℕ
property_bits q =
    bits 6 (length q.sequence)
    ++ bits 26 q.LB
    ++ bits 26 q.UB
    ++ sequence_bits q.sequence
    ++ allowed_bits q.allowed

-- "zero bits to a full byte"
unfoldable pub property_form : Words.Property → List ℕ
property_form q = form (property_bits q)

-- "122 + 7n bits"
abbrev pub form_bits : ℕ → ℕ
form_bits n = 122 + 7 * n

-- "17 bytes for n = 1, 44 for n = 32"
abbrev pub form_size : ℕ → ℕ
form_size n = size (form_bits n)
