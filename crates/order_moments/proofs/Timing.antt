-- The loop that writes an order's moments: a turn of it.
use Prim.Native.Nat.{ℕ, suc, ◌+◌, ◌≤◌, ◌<◌, max}
use mathlib.Core.Path.{◌≡◌, refl, ap, ap₂, ◌∙◌}
use mathlib.Core.List.{List}
use native.Mathlib.Omega.{arith}
use lib.ListN.{length, set}
use lib.IntN.{ℤ, pos, ◌-ℤ◌}
use Rattle.laws.specs.Filled.{Filled}
use Rattle.laws.proofs.Filled.{filled_none, filled_more}
use Rattle.property.specs.declared.Property.{Property}
use Rattle.judged_rest.specs.Lent.{Lines, count}
use Rattle.order_moments.specs.Moments.{last_moment, low_at, late, moment_of, moment_at}

-- The highest lower end so far, and the moments of the first j lines.
pub record Timing (p : Property) (ls : Lines) (at : ℕ → ℕ) (j : ℕ) (before moments : List ℤ) (m : ℕ) : Type 0 where
  pub late_is : m ≡ late p ls at j
  pub low : m ≤ last_moment
  pub filled : Filled (pos 0) 0 j (moment_at p ls at) before moments

module _ (p : Property) (ls : Lines) (at : ℕ → ℕ) where
  pub timing_start : (moments : List ℤ) → Timing p ls at 0 moments moments 0
  unfolding late
  timing_start moments = record { late_is = refl; low = omega arith; filled = filled_none (pos 0) 0 (moment_at p ls at) moments }

  module _ {j : ℕ} {before moments : List ℤ} {m : ℕ} (t : Timing p ls at j before moments m) (h : j < count ls) (lo : ℕ) (is-low : lo ≡ low_at p ls (at j)) (bounded : lo ≤ last_moment) where
    pub timing_next : (n : ℕ) → n ≡ max m lo → (v : ℤ) → v ≡ (pos n -ℤ pos p.ub) → count ls ≤ length before → Timing p ls at (j + 1) before (set moments j v) n
    unfolding late
    timing_next n e v q long =
        record {
          late_is = is_late ∙ ap (late p ls at) (let z : suc j ≡ j + 1 = omega arith in z);
          low = let l : m ≤ last_moment = t.low in omega arith;
          filled = filled_more (pos 0) 0 (moment_at p ls at) before j moments v (omega arith) (omega arith) t.filled (q ∙ ap (moment_of p) is_late);
        }
      where
        is_late : n ≡ late p ls at (suc j)
        is_late = e ∙ ap₂ max t.late_is is-low
