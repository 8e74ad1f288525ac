-- What holds of every element of a list, by its places.
use Prim.Native.Nat.{ℕ, zero, suc, ◌<◌}
use mathlib.Core.List.{List}
use native.Mathlib.Omega.{arith}
use lib.ListN.{length, get_or}
use Rattle.laws.specs.Places.{first}
use Rattle.meaning.proofs.Lists.{All, done, also}

module _ {A : Type 0} where
  pub all-at : {P : A → Type 0} {l : List A} → All P l → (i : ℕ) (d : A) → i < length l → P (get_or l i d)
  all-at done i d h = let z : ⊥ = omega arith in absurd z
  all-at (also p r) zero d h = p
  all-at (also p r) (suc i) d h = all-at r i d (omega arith)

  pub all_first : {P : A → Type 0} (f : ℕ → A) (n : ℕ) → ((i : ℕ) → i < n → P (f i)) → All P (first f n)
  unfolding first
  all_first f zero h = done
  all_first f (suc n) h = also (h zero (omega arith)) (all_first (λ i. f (suc i)) n (λ i k. h (suc i) (omega arith)))
