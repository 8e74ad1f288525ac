-- The entry at the front of a list, apart.
use Rattle.std.specs.Prelude.{ℕ, ◌+◌, ◌≡◌, ◌≤◌, Bool, ◌||◌, List, length, drop, ltb}
use Rattle.std.specs.List.{list_any}
use Rattle.std.specs.Borrow.{Bor}
use Rattle.name_list.specs.declared.Front.{Front}
use Rattle.name_list.specs.Names.{first, entry_size, name_read, zero_bit_set, size_outside}

-- f is the entry at the front of the list s: its first byte, and as parts of s, each by its place and its bytes, its name and what stands behind it.
pub record IsFront (s : Bor (List ℕ)) (f : Front) : Type 0 where
  pub whole : entry_size s.now ≤ length s.now
  pub first_byte : f.first ≡ first s.now
  pub name_place : f.name.ref_ptr ≡ (s.ref_ptr.0, s.ref_ptr.1 + 2)
  pub name_bytes : f.name.now ≡ name_read s.now
  pub rest_place : f.rest.ref_ptr ≡ (s.ref_ptr.0, s.ref_ptr.1 + entry_size s.now)
  pub rest_bytes : f.rest.now ≡ drop (entry_size s.now) s.now

-- An entry that is not cut short breaks a rule.
abbrev pub breaks_rule : ℕ → ℕ → List ℕ → Bool
breaks_rule least first name = zero_bit_set first || (ltb first least || (size_outside (length name) || list_any (λ b. ltb b 33 || ltb 126 b) name))
