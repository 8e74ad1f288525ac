-- Document 01, "Packed forms": what a reader hands back.
use Rattle.std.specs.Prelude.{ℕ, ◌+◌, ◌≡◌, List, drop}
use Rattle.std.specs.Borrow.{Bor}

-- "hands back the unread rest of the caller's own bytes": r is s behind its first n bytes, the place and what stands there.
pub record Rest (n : ℕ) (s r : Bor (List ℕ)) : Type 0 where
  pub place : r.ref_ptr ≡ (s.ref_ptr.0, s.ref_ptr.1 + n)
  pub bytes : r.now ≡ drop n s.now
