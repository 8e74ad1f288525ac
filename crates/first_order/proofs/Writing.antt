-- An order's numbers and moments together.
use Prim.Native.Nat.{ℕ, zero, suc, ◌-◌, ◌≤◌, ◌<◌, max}
use mathlib.Core.Path.{◌≡◌, refl, ap, ap₂, ◌∙◌}
use mathlib.Core.Bool.{Bool}
use mathlib.Core.List.{List, []}
use native.Mathlib.Omega.{arith}
use lib.ListN.{get_or}
use lib.IntN.{ℤ, pos}
use Rattle.laws.specs.Filled.{Filled}
use Rattle.property.specs.declared.Property.{Property}
use Rattle.judged_rest.specs.Lent.{Lines, lent, count}
use Rattle.first_order.specs.Search.{pair}
use Rattle.first_order.specs.Search.{place, number_at, Found, Written}
use Rattle.order_moments.specs.Moments.{low_at, late, moment_of, moment_at}

-- only the places before j count
pub late-same : (p : Property) (ls ls' : Lines) (at at' : ℕ → ℕ) (j : ℕ) → ((i : ℕ) → i < j → low_at p ls (at i) ≡ low_at p ls' (at' i))
    → late p ls at j ≡ late p ls' at' j
unfolding late
late-same p ls ls' at at' zero h = refl
late-same p ls ls' at at' (suc j) h = ap₂ max (late-same p ls ls' at at' j (λ i l. h i (omega arith))) (h j (omega arith))

filled_as : {A : Type 0} (z : A) (e : ℕ) (g g' : ℕ → A) (l m : List A) → ((i : ℕ) → i < e → g i ≡ g' i) → Filled z 0 e g l m → Filled z 0 e g' l m
filled_as z e g g' l m h f = record { long = f.long; inside = λ i a b. f.inside i a b ∙ h i b; below = f.below; above = f.above }

module _ (p : Property) (output : List Bool) (action stamp : List ℕ) (breaking : Bool) (found : Found p (lent output action stamp) breaking)
    (before numbers : List ℕ) (f : Filled 0 0 (count (lent output action stamp)) (number_at p (lent output action stamp) breaking) before numbers) where
  ls : Lines
  ls = lent output action stamp

  -- each number is one of the run's
  pub numbers-within : (j : ℕ) → j < count (lent output action stamp) → (1 ≤ get_or numbers j 0) × (get_or numbers j 0 ≤ count (lent output action stamp))
  numbers-within j h =
      let e : get_or numbers j 0 ≡ suc (place p (lent output action stamp) breaking j) = f.inside j (omega arith) h in
      let b : place p (lent output action stamp) breaking j < count (lent output action stamp) = found.below j h in
      (omega arith, omega arith)

  pub both_written : (moments₀ moments : List ℤ)
      → Filled (pos 0) 0 (count (lent output action stamp)) (moment_at p (lent output [] stamp) (λ (j : ℕ). get_or numbers j 0 - 1)) moments₀ moments
      → Written p (lent output action stamp) breaking (pair before moments₀) (pair numbers moments)
  both_written moments₀ moments g =
      record {
        numbers = f;
        moments =
            filled_as (pos 0) (count (lent output action stamp)) (moment_at p (lent output [] stamp) (λ (j : ℕ). get_or numbers j 0 - 1))
            (moment_at p (lent output action stamp) (place p (lent output action stamp) breaking)) moments₀ moments
            (λ i h.
            ap (moment_of p)
            (late-same p (lent output [] stamp) (lent output action stamp) (λ (j : ℕ). get_or numbers j 0 - 1) (place p (lent output action stamp) breaking) (suc i)
            (λ k l. ap (low_at p (lent output action stamp)) (same k (omega arith)))))
            g;
      }
    where
      same : (k : ℕ) → k < count (lent output action stamp) → get_or numbers k 0 - 1 ≡ place p (lent output action stamp) breaking k
      same k h =
          let e : get_or numbers k 0 ≡ suc (place p (lent output action stamp) breaking k) = f.inside k (omega arith) h in omega arith
