-- Whole numbers through two natural ones: z is up z less down z, and every order of whole numbers is one of sums.
use Prim.Native.Nat.{ℕ, zero, suc, ◌+◌, ◌-◌, ◌≤◌}
use mathlib.Core.Path.{◌≡◌}
use mathlib.Core.Bool.{Bool, true, false, cond, not}
use native.Mathlib.Omega.{arith}
use lib.Dec.{T, ltb, leb→le, le→leb, ltb→lt, nltb→le}
use lib.IntN.{ℤ, pos, negsuc, sub_ℕ, ◌-ℤ◌}
use lib.Signed.{◌≤ℤ◌}

abbrev pub up : ℤ → ℕ
up (pos n) = n
up (negsuc n) = 0

abbrev pub down : ℤ → ℕ
down (pos n) = 0
down (negsuc n) = suc n

le_out' : (a b : ℤ) → a ≤ℤ b → up a + down b ≤ up b + down a
le_out' (pos a) (pos b) h = let k : a ≤ b = leb→le a b h.le in omega arith
le_out' (pos a) (negsuc b) h = absurd h.le
le_out' (negsuc a) (pos b) h = omega arith
le_out' (negsuc a) (negsuc b) h = let k : b ≤ a = leb→le b a h.le in omega arith

pub le_out : {a b : ℤ} → a ≤ℤ b → up a + down b ≤ up b + down a
le_out {a} {b} h = le_out' a b h

pub le_in : (a b : ℤ) → up a + down b ≤ up b + down a → a ≤ℤ b
le_in (pos a) (pos b) h = record { le = le→leb a b (omega arith) }
le_in (pos a) (negsuc b) h = let z : ⊥ = omega arith in absurd z
le_in (negsuc a) (pos b) h = record { le = tt }
le_in (negsuc a) (negsuc b) h = record { le = le→leb b a (omega arith) }

pub sub-sum : (a b : ℕ) → up (sub_ℕ a b) + b ≡ a + down (sub_ℕ a b)
sub-sum a b = go (ltb a b) (ltb→lt a b) (nltb→le a b)
  where
    go : (t : Bool) → (T t → suc a ≤ b) → (T (not t) → b ≤ a)
        → up (cond t (negsuc (b - suc a)) (pos (a - b))) + b ≡ a + down (cond t (negsuc (b - suc a)) (pos (a - b)))
    go true h k = let i : suc a ≤ b = h tt in omega arith
    go false h k = let i : b ≤ a = k tt in omega arith

pub minus_sum : (a b : ℕ) → up (pos a -ℤ pos b) + b ≡ a + down (pos a -ℤ pos b)
minus_sum a zero = omega arith
minus_sum a (suc b) = sub-sum a (suc b)
