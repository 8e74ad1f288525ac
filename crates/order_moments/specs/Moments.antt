-- The moments of an order, counted from UB before 0: words for the contracts, which theorems tie to the definitions of `reasons`.
use Rattle.std.specs.Prelude.{ℕ, zero, suc, ◌+◌, ◌*◌, max, cond, ℤ, pos, ◌-ℤ◌}
use Rattle.meaning.specs.Limits.{last_stamp, last_bound}
use Rattle.property.specs.declared.Property.{Property}
use Rattle.judged_rest.specs.Lent.{Lines, is_output, stamp_at}

abbrev pub last_moment : ℕ
last_moment = last_stamp + 2 * last_bound

abbrev pub low_at : Property → Lines → ℕ → ℕ
low_at p ls k = cond (is_output ls k) (stamp_at ls k) (stamp_at ls k + p.lb + p.ub)

-- The highest lower end of the windows of the first j lines.
unfoldable pub late : Property → Lines → (ℕ → ℕ) → ℕ → ℕ
late p ls at zero = 0
late p ls at (suc j) = max (late p ls at j) (low_at p ls (at j))

abbrev pub moment_of : Property → ℕ → ℤ
moment_of p m = pos m -ℤ pos p.ub

abbrev pub moment_at : Property → Lines → (ℕ → ℕ) → ℕ → ℤ
moment_at p ls at j = moment_of p (late p ls at (suc j))
